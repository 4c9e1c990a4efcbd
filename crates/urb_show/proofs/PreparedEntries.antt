-- One more entry is prepared.
use Rattle.urb_show.proofs.Common.{Addition, GroupView, IsHouse, IsSound, List, Lists, [], add_at}
use Rattle.urb_show.proofs.Common.{ap, arith, deliveries, entry_of, fold-append, length}
use Rattle.urb_show.proofs.Common.{length-append, length-map, list_at, lists_in, lists_of, map}
use Rattle.urb_show.proofs.Common.{refl, slice_index_or, slice_set, subst, suc, sym, zero, ℕ, ◌++◌}
use Rattle.urb_show.proofs.Common.{◌+◌, ◌<◌, ◌∙◌, ◌∷◌, ◌≡◌, ◌≢◌}
use Rattle.std.proofs.lemmas.List.{get_or-map}
use Rattle.urb_show.specs.declared.entry.Entry.{Entry}
use Rattle.urb_show.specs.Lists.{Begins}
use Rattle.urb_show.proofs.ListBeginnings.{begins_self}
use Rattle.urb_show.proofs.AgreeingLists.{at_added, at_other, begins_next, length_added}

-- one more addition adds its entry to the lists at its place
pub lists_add : (base : Lists) (all : List Addition) (a : Addition)
    → lists_of base (all ++ a ∷ []) ≡ add_at (lists_of base all) a.place a.entry
lists_add base all a =
    fold-append (λ lists (x : Addition). add_at lists x.place x.entry) base all (a ∷ [])

-- the count for the list at a place is the list's length
pub counted : (lists : Lists) (counts : List ℕ) (p k : ℕ) → counts ≡ map length lists
    → p < length lists → k ≡ slice_index_or counts p k → k ≡ length (list_at lists p)
counted lists counts p k is low at =
    at ∙ (ap (λ (w : List ℕ). slice_index_or w p k) is ∙ get_or-map length lists p [] k low)

-- the prepared lists stay prefixes of the group's lists once the next entry of a node is prepared
pub begins_prepared : (base core : Lists) (all : List Addition) (a : Addition) (k : ℕ)
    → Begins (lists_of base all) core → k ≡ length (list_at (lists_of base all) a.place)
    → k < length (list_at core a.place) → a.entry ≡ slice_index_or (list_at core a.place) k a.entry
    → Begins (lists_of base (all ++ a ∷ [])) core
begins_prepared base core all a k b is low at =
    let low2 : length (list_at (lists_of base all) a.place) < length (list_at core a.place) =
    rw (← is) low in
    let at2 : a.entry ≡ slice_index_or (list_at core a.place)
    (length (list_at (lists_of base all) a.place)) a.entry =
    subst (λ (n : ℕ). a.entry ≡ slice_index_or (list_at core a.place) n a.entry) is at in
    subst (λ (w : Lists). Begins w core) (sym (lists_add base all a))
    (begins_next (lists_of base all) core a.place a.entry b low2 at2)

-- the lengths that are kept are those of the lists, also with one more entry
pub counts_added : (lists : Lists) (p k : ℕ) (e : Entry) → p < length lists
    → k ≡ length (list_at lists p)
    → slice_set (map length lists) p (k + 1) ≡ map length (add_at lists p e)
counts_added [] p k e low is = absurd (omega arith)
counts_added (x ∷ xs) zero k e low is =
    ap (λ n. n ∷ map length xs) (omega (arith, is, length-append x (e ∷ [])))
counts_added (x ∷ xs) (suc p) k e low is =
    ap (λ ns. length x ∷ ns) (counts_added xs p k e (omega arith) is)

-- additions leave the number of lists
pub lists_length : (base : Lists) (all : List Addition) → length (lists_of base all) ≡ length base
lists_length base [] = refl
lists_length base (a ∷ all) =
    lists_length (add_at base a.place a.entry) all ∙ length_added base a.place a.entry

-- one more entry of the node at this place was prepared
pub record IsNext (group : GroupView) (base : Lists) (all : List Addition) (a : Addition) (k : ℕ)
    (counts : List ℕ) : Type 0 where
  -- with the addition it is a house
  pub house : IsHouse group (lists_of base (all ++ a ∷ [])) counts
  -- the node had an entry that wasn't prepared
  pub index : k < length (list_at (lists_in group) a.place)
  -- the list that is prepared for the node is longer by one
  pub longer : length (list_at (lists_of base (all ++ a ∷ [])) a.place) ≡ length
      (list_at (lists_of base all) a.place) + 1
  -- each other list stays
  pub others : (q : ℕ) → a.place ≢ q
      → list_at (lists_of base (all ++ a ∷ [])) q ≡ list_at (lists_of base all) q

next_at : (group : GroupView) (base : Lists) (all : List Addition) (a : Addition) (counts : List ℕ)
    (k : ℕ) → IsHouse group (lists_of base all) counts → a.place < length group.nodes
    → k ≡ slice_index_or counts a.place k
    → length (list_at (lists_of base all) a.place) < length (list_at (lists_in group) a.place)
    → a.entry ≡ slice_index_or (list_at (lists_in group) a.place) k a.entry
    → IsNext group base all a k (slice_set counts a.place (k + 1))
next_at group base all a counts k house in_group is lacks entry =
    let lists = lists_of base all in
    let same = house.lists in
    let low : a.place < length lists = omega (arith, in_group, same) in
    let k_is : k ≡ length (list_at lists a.place) =
    counted lists counts a.place k house.lengths low is in
    let k_low : k < length (list_at (lists_in group) a.place) = omega (arith, k_is, lacks) in
    let added : lists_of base (all ++ a ∷ []) ≡ add_at lists a.place a.entry =
    lists_add base all a in
    record {
      house = record {
        sound = house.sound;
        counted = house.counted;
        begins = begins_prepared base (lists_in group) all a k house.begins k_is k_low entry;
        lists = ap length added ∙ (length_added lists a.place a.entry ∙ house.lists);
        lengths =
            ap (λ ns. slice_set ns a.place (k + 1)) house.lengths
            ∙ (counts_added lists a.place k a.entry low k_is ∙ ap (map length) (sym added));
      };
      index = k_low;
      longer =
          ap (λ (ls : Lists). length (list_at ls a.place)) added
          ∙ (ap length (at_added lists a.place a.entry low)
          ∙ length-append (list_at lists a.place) (a.entry ∷ []));
      others =
          λ q apart. ap (λ (ls : Lists). list_at ls q) added
          ∙ at_other lists a.place q a.entry apart;
    }

-- the same, if another number gives the place
pub is_next : (group : GroupView) (base : Lists) (all : List Addition) (a : Addition)
    (counts : List ℕ) (k place : ℕ) → a.place ≡ place → IsHouse group (lists_of base all) counts
    → place < length group.nodes
    → k ≡ slice_index_or counts a.place k
    → length (list_at (lists_of base all) place) < length (list_at (lists_in group) place)
    → a.entry ≡ slice_index_or (list_at (lists_in group) place) k a.entry
    → IsNext group base all a k (slice_set counts a.place (k + 1))
is_next group base all a counts k place same house in_group is lacks entry =
    next_at group base all a counts k house
    (subst (λ (p : ℕ). p < length group.nodes) (sym same) in_group) is
    (subst (λ (p : ℕ). length (list_at (lists_of base all) p) < length (list_at (lists_in group) p))
    (sym same) lacks)
    (subst (λ (p : ℕ). a.entry ≡ slice_index_or (list_at (lists_in group) p) k a.entry)
    (sym same) entry)

-- a house that was just opened
pub opened_house_is : (group : GroupView) (base : Lists) (all : List Addition) (counts : List ℕ)
    → IsSound group → length group.nodes ≡ group.size.n → lists_in group ≡ base → all ≡ []
    → counts ≡ map length base
    → IsHouse group (lists_of base all) counts
opened_house_is group base all counts sound counted same none lengths =
    let lists : lists_of base all ≡ base = ap (lists_of base) none in
    record {
      sound = sound;
      counted = counted;
      begins = rw (lists, same) (begins_self base);
      lists =
          ap length lists ∙ (ap length (sym same)
          ∙ length-map group.nodes (λ view. map entry_of (deliveries view)));
      lengths = lengths ∙ ap (map length) (sym lists);
    }
