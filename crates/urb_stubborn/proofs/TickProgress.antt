-- A tick, name by name, and its progress.
use Rattle.urb_stubborn.proofs.Common.{Carried, Content, Err, IfOk, IsSome, IsTick, IsWalked, Label}
use Rattle.urb_stubborn.proofs.Common.{List, MAX_NODES, NAMES_PER_TICK, None, Ok, Option, Resending}
use Rattle.urb_stubborn.proofs.Common.{Result, Some, [], ap, append-nil, append_assoc, ap₂}
use Rattle.urb_stubborn.proofs.Common.{are_rising, arith, behind, between, drop, due_pairs, false}
use Rattle.urb_stubborn.proofs.Common.{filter, first_name, flat_map, is_after, is_some, is_within}
use Rattle.urb_stubborn.proofs.Common.{last_name, length, list_all, message_of, name_lt, not}
use Rattle.urb_stubborn.proofs.Common.{option_map, refl, resent, subst, suc, sym, take}
use Rattle.urb_stubborn.proofs.Common.{tick_packets, to_unheard, true, zero, ℕ, ◌++◌, ◌+◌, ◌-◌, ◌<◌}
use Rattle.urb_stubborn.proofs.Common.{◌∙◌, ◌∷◌, ◌≡◌, ◌≤◌}
use Rattle.std.proofs.lemmas.List.{flat_map_more, length-take, take_all}
use Rattle.urb_stubborn.specs.declared.outbox.TheConstants.{OUTBOX_MAX}
use Rattle.urb_names.specs.CyclicOrder.{cyclic}
use Rattle.urb_stubborn.specs.declared.resend.TickTurn.{TickTurn}
use Rattle.urb_stubborn.proofs.PairsAfterCursor.{Pairs}
use Rattle.urb_stubborn.proofs.PairRanges.{AreFound, all_found, all_pass, between_next, found_kept}
use Rattle.urb_stubborn.proofs.PairRanges.{rising_kept}
use Rattle.urb_stubborn.proofs.SentPackets.{few_packets}

-- the packets of a resent pair
abbrev pub sends : Resending → List Label → Label × Content → List Carried
sends r certified pair = to_unheard r.limits.n r.node certified r.heard pair

-- The progress through these pairs: the remaining pairs and names of the turn, the cursor, and the
-- packets so far.
pub record Walks (r : Resending) (certified : List Label) (all : List (Label × Content))
    (turn : TickTurn) (old : List Carried) (left : ℕ) (rest : List (Label × Content))
    (cursor : Option Label) (packets : List Carried) : Type 0 where
  -- how many pairs are done
  pub done : ℕ
  -- the names done and those left are as many as the turn had
  pub count : done + left ≡ turn.left
  -- no more pairs are done than there are
  pub few : done ≤ length all
  -- the remaining pairs are those after the ones done
  pub others : rest ≡ drop done all
  -- the cursor is the last name done, or as it was if none is done
  pub last : cursor ≡ last_name turn.cursor (take done all)
  -- the packets of the pairs done follow those from before
  pub sent : packets ≡ old ++ flat_map (sends r certified) (take done all)

-- at the start no pair is done, and the cursor and the packets are as before
pub begun : (r : Resending) (certified : List Label) (all : Pairs) (turn : TickTurn)
    (old : List Carried) → Walks r certified all turn old turn.left all turn.cursor old
begun r certified all turn old =
    record {
      done = 0;
      count = omega arith;
      few = omega arith;
      others = refl;
      last = refl;
      sent =
          sym (append-nil old);
    }

last_name-push : (cursor : Option Label) (ps : Pairs) (q : Label × Content)
    → last_name cursor (ps ++ q ∷ []) ≡ Some q.0
last_name-push cursor [] q = refl
last_name-push cursor (p ∷ ps) q = last_name-push (Some p.0) ps q

next_of : (done : ℕ) (all : Pairs) (q : Label × Content) (rest : Pairs) → drop done all ≡ q ∷ rest
    → (drop (suc done) all ≡ rest) × (take (suc done) all ≡ take done all ++ q ∷ [])
    × (done < length all)
next_of zero [] q rest e = absurd cc
next_of (suc done) [] q rest e = absurd cc
next_of zero (p ∷ all) q rest e =
    let tail : all ≡ rest = cc in
    let head : p ≡ q = cc in
    (tail, ap (λ r. r ∷ []) head, omega arith)
next_of (suc done) (p ∷ all) q rest e =
    let more = next_of done all q rest e in
    (more.0, ap (λ ps. p ∷ ps) more.1, omega (arith, more.2))

-- once a pair's packets are sent, the walk is one name further
pub further : (r : Resending) (certified : List Label) (all : Pairs) (turn : TickTurn)
    (old : List Carried) (left : ℕ) (q : Label × Content) (rest : Pairs) (cursor : Option Label)
    (packets new : List Carried) → 0 < left
    → Walks r certified all turn old left (q ∷ rest) cursor packets
    → new ≡ packets ++ sends r certified q
    → Walks r certified all turn old (left - 1) rest (Some q.0) new
further r certified all turn old left q rest cursor packets new some h e =
    let at = next_of h.done all q rest (sym h.others) in
    record {
      done = suc h.done;
      count = omega (arith, h.count, some);
      few = omega (arith, at.2);
      others = sym at.0;
      last = sym (ap (last_name turn.cursor) at.1 ∙ last_name-push turn.cursor (take h.done all) q);
      sent = e
          ∙ (ap (λ ps. ps ++ sends r certified q) h.sent
          ∙ (flat_map_more (sends r certified) old (take h.done all) q
          ∙ ap (λ ps. old ++ flat_map (sends r certified) ps) (sym at.1)));
    }

-- a walk whose turn has no name left has sent the turn's pairs
pub turn_over : (r : Resending) (certified : List Label) (all : Pairs) (turn : TickTurn)
    (old : List Carried) (left : ℕ) (rest : Pairs) (cursor : Option Label) (packets : List Carried)
    → left ≡ 0
    → Walks r certified all turn old left rest cursor packets
    → IsWalked r certified (take turn.left all) turn old
    (record { left = left; cursor = cursor }) packets
turn_over r certified all turn old left rest cursor packets e h =
    let done : h.done ≡ turn.left = omega (arith, h.count, e) in
    record {
      packets = h.sent ∙ ap (λ (k : ℕ). old ++ flat_map (sends r certified) (take k all)) done;
      left = omega (arith, e, length-take turn.left all, h.few, done);
      cursor = h.last ∙ ap (λ (k : ℕ). last_name turn.cursor (take k all)) done;
    }

nothing_left : (done : ℕ) (all : Pairs) → drop done all ≡ [] → length all ≤ done
nothing_left done [] e = omega arith
nothing_left zero (p ∷ all) e = absurd cc
nothing_left (suc done) (p ∷ all) e = omega (arith, nothing_left done all e)

-- a walk with no pair left has sent the turn's pairs
pub all_walked : (r : Resending) (certified : List Label) (all : Pairs) (turn : TickTurn)
    (old : List Carried) (left : ℕ) (cursor : Option Label) (packets : List Carried)
    → Walks r certified all turn old left [] cursor packets
    → IsWalked r certified (take turn.left all) turn old
    (record { left = left; cursor = cursor }) packets
all_walked r certified all turn old left cursor packets h =
    let done : length all ≤ h.done = nothing_left h.done all (sym h.others) in
    let same : take h.done all ≡ take turn.left all =
    take_all h.done all done ∙ sym (take_all turn.left all (omega (arith, h.count, done))) in
    record {
      packets = h.sent ∙ ap (λ ps. old ++ flat_map (sends r certified) ps) same;
      left = omega (arith, h.count, length-take turn.left all, h.few, done);
      cursor = h.last ∙ ap (last_name turn.cursor) same;
    }

-- ---- the next pair

-- the remaining pairs begin with the pair of the first name and its message
pub record Next (pairs : List (Label × Content)) (x : Label)
    (rest : List (Label × Content)) : Type 0 where
  -- the message of the first name
  pub message : Content
  -- the pairs after the first
  pub others : List (Label × Content)
  -- the first name with this message comes first, and then the others
  pub whole : rest ≡ (x, message) ∷ others
  -- the message is found under the name
  pub found : message_of pairs x ≡ Some message

next_in : (pairs : Pairs) (x : Label) (rest : Pairs) → AreFound pairs rest
    → first_name rest ≡ Some x → Next pairs x rest
next_in pairs x [] h e = absurd cc
next_in pairs x (p ∷ ps) h e =
    let here : p.0 ≡ x = cc in
    record {
      message = p.1;
      others = ps;
      whole = ap (λ (y : Label). (y, p.1) ∷ ps) here;
      found =
          ap (message_of pairs) (sym here) ∙ h.0;
    }

-- the due pairs between a cursor and a last name begin with the first name's pair
pub next : (r : Resending) (pairs : Pairs) (from last : Option Label) (x : Label)
    → are_rising pairs ≡ true → first_name (between from last (due_pairs r pairs)) ≡ Some x
    → Next pairs x (between from last (due_pairs r pairs))
next r pairs from last x rises e =
    next_in pairs x (between from last (due_pairs r pairs))
    (found_kept (λ p. is_within last p.0) pairs (behind from (due_pairs r pairs))
    (found_kept (λ p. is_after from p.0) pairs (due_pairs r pairs)
    (found_kept _ pairs pairs (all_found pairs rises)))) e

-- the first due name between a cursor and a last name has a message
pub some_message : (r : Resending) (pairs : Pairs) (from last : Option Label) (x : Label)
    → are_rising pairs ≡ true → first_name (between from last (due_pairs r pairs)) ≡ Some x
    → IsSome (message_of pairs x)
some_message r pairs from last x rises e = rw (next r pairs from last x rises e).found refl

-- if an option holds a value once that is changed, it held one before
pub some_behind : {A B : Type 0} (f : A → B) (o : Option A) → IsSome (option_map f o) → IsSome o
some_behind f None h = h
some_behind f (Some a) h = refl

-- after its packets, a walk is one name further
pub one_further : (r : Resending) (certified : List Label) (pairs all : Pairs) (turn : TickTurn)
    (old : List Carried) (left : ℕ) (from last cursor : Option Label) (packets new : List Carried)
    (x : Label) (m : Content)
    → are_rising pairs ≡ true → 0 < left
    → first_name (between from last (due_pairs r pairs)) ≡ Some x → message_of pairs x ≡ Some m
    → new ≡ packets ++ sends r certified (x, m)
    → Walks r certified all turn old left (between from last (due_pairs r pairs)) cursor packets
    → Walks r certified all turn old (left - 1) (between (Some x) last (due_pairs r pairs))
    (Some x) new
one_further r certified pairs all turn old left from last cursor packets new x m rises some e f g
    h =
    let n = next r pairs from last x rises e in
    let same : n.message ≡ m = (let both : Some n.message ≡ Some m = sym n.found ∙ f in cc) in
    let whole : between from last (due_pairs r pairs) ≡ (x, m) ∷ n.others =
    n.whole ∙ ap (λ (o : Content). (x, o) ∷ n.others) same in
    let later : between (Some x) last (due_pairs r pairs) ≡ n.others =
    between_next from last (due_pairs r pairs) (x, m) n.others
    (rising_kept _ pairs rises) whole in
    subst (λ (ps : Pairs). Walks r certified all turn old (left - 1) ps (Some x) new) (sym later)
    (further r certified all turn old left (x, m) n.others cursor packets new some
    (subst (λ (ps : Pairs). Walks r certified all turn old left ps cursor packets) whole h) g)

-- if there is no first name, there are no pairs
pub no_name : (ps : Pairs) → first_name ps ≡ None → ps ≡ []
no_name [] e = refl
no_name (p ∷ ps) e = absurd cc

-- ---- the whole tick

take_joined : (n : ℕ) (xs ys : Pairs)
    → take n (xs ++ ys) ≡ take n xs ++ take (n - length (take n xs)) ys
take_joined zero xs ys = refl
take_joined (suc n) [] ys =
    let whole : suc n ≡ suc n - 0 = omega arith in ap (λ (k : ℕ). take k ys) whole
take_joined (suc n) (x ∷ xs) ys =
    let less : n - length (take n xs) ≡ suc n - suc (length (take n xs)) = omega arith in
    ap (λ ps. x ∷ ps) (take_joined n xs ys ∙ ap (λ (k : ℕ). take n xs ++ take k ys) less)

flat_map_joined : (f : Label × Content → List Carried) (xs ys : Pairs)
    → flat_map f (xs ++ ys) ≡ flat_map f xs ++ flat_map f ys
flat_map_joined f [] ys = refl
flat_map_joined f (x ∷ xs) ys =
    ap (λ ps. f x ++ ps) (flat_map_joined f xs ys)
    ∙ sym (append_assoc (f x) (flat_map f xs) (flat_map f ys))

last_name_joined : (cursor : Option Label) (xs ys : Pairs)
    → last_name cursor (xs ++ ys) ≡ last_name (last_name cursor xs) ys
last_name_joined cursor [] ys = refl
last_name_joined cursor (x ∷ xs) ys = last_name_joined (Some x.0) xs ys

all_true : (ps : Pairs) → list_all (λ p. true) ps ≡ true
all_true [] = refl
all_true (p ∷ ps) = all_true ps

-- without a last name, the pairs between are all those after the cursor
pub to_the_end : (cursor : Option Label) (ps : Pairs) → between cursor None ps ≡ behind cursor ps
to_the_end cursor ps = all_pass (λ p. true) (behind cursor ps) (all_true (behind cursor ps))

-- the pairs from the start to the cursor are those that don't come after it
pub to_the_cursor : (cursor : Label) (ps : Pairs)
    → between None (Some cursor) ps ≡ filter (λ p. not (is_after (Some cursor) p.0)) ps
to_the_cursor cursor ps =
    ap (filter (λ p. not (name_lt cursor p.0))) (all_pass (λ p. true) ps (all_true ps))

none_left : (ps : Pairs) → filter (λ p. false) ps ≡ []
none_left [] = refl
none_left (p ∷ ps) = none_left ps

-- A walk to the end is the tick. If there was a cursor, a second walk from the first name up to it
-- belongs to the tick too.
pub tick_around : (r : Resending) (pairs : Pairs) (certified : List Label) (c : Label)
    (first second : TickTurn) (sent packets : List Carried) → r.cursor ≡ Some c
    → IsWalked r certified (take NAMES_PER_TICK (between r.cursor None (due_pairs r pairs)))
    (record { left = NAMES_PER_TICK; cursor = r.cursor }) [] first sent
    → IsWalked r certified (take first.left (between None r.cursor (due_pairs r pairs)))
    first sent second packets
    → IsTick r pairs certified second packets
tick_around r pairs certified c first second sent packets e one two =
    let f : Label × Content → List Carried = sends r certified in
    let front : Pairs = behind r.cursor (due_pairs r pairs) in
    let back : Pairs = filter (λ p. not (is_after r.cursor p.0)) (due_pairs r pairs) in
    let ahead : between r.cursor None (due_pairs r pairs) ≡ front =
    to_the_end r.cursor (due_pairs r pairs) in
    let rest : between None r.cursor (due_pairs r pairs) ≡ back =
    subst (λ (o : Option Label). between None o (due_pairs r pairs) ≡ filter
    (λ p. not (is_after o p.0)) (due_pairs r pairs)) (sym e)
    (to_the_cursor c (due_pairs r pairs)) in
    let left : first.left ≡ NAMES_PER_TICK - length (take NAMES_PER_TICK front) =
    one.left ∙ ap (λ (ps : Pairs). NAMES_PER_TICK - length (take NAMES_PER_TICK ps)) ahead in
    let second_part : take first.left (between None r.cursor (due_pairs r pairs)) ≡ take
    (NAMES_PER_TICK - length (take NAMES_PER_TICK front)) back =
    ap₂ (λ (k : ℕ) (ps : Pairs). take k ps) left rest in
    let whole : take NAMES_PER_TICK front ++ take
    (NAMES_PER_TICK - length (take NAMES_PER_TICK front)) back ≡ resent r.cursor
    (due_pairs r pairs) = sym (take_joined NAMES_PER_TICK front back) in
    record {
      packets =
          two.packets
          ∙ (ap₂ (λ (ps : List Carried) (qs : Pairs). ps ++ flat_map f qs)
          (one.packets ∙ ap (λ (ps : Pairs). flat_map f (take NAMES_PER_TICK ps)) ahead)
          second_part
          ∙ (sym (flat_map_joined f (take NAMES_PER_TICK front)
          (take (NAMES_PER_TICK - length (take NAMES_PER_TICK front)) back))
          ∙ ap (flat_map f) whole));
      cursor =
          two.cursor
          ∙ (ap₂ (λ (o : Option Label) (qs : Pairs). last_name o qs)
          (one.cursor ∙ ap (λ (ps : Pairs). last_name r.cursor (take NAMES_PER_TICK ps)) ahead)
          second_part
          ∙ (sym (last_name_joined r.cursor (take NAMES_PER_TICK front)
          (take (NAMES_PER_TICK - length (take NAMES_PER_TICK front)) back))
          ∙ ap (last_name r.cursor) whole));
    }

-- without a cursor, one walk over the due pairs is the whole tick
pub tick_straight : (r : Resending) (pairs : Pairs) (certified : List Label) (first : TickTurn)
    (sent : List Carried) → r.cursor ≡ None
    → IsWalked r certified (take NAMES_PER_TICK (between r.cursor None (due_pairs r pairs)))
    (record { left = NAMES_PER_TICK; cursor = r.cursor }) [] first sent
    → IsTick r pairs certified first sent
tick_straight r pairs certified first sent e one =
    let f : Label × Content → List Carried = sends r certified in
    let front : Pairs = behind r.cursor (due_pairs r pairs) in
    let back : filter (λ p. not (is_after r.cursor p.0)) (due_pairs r pairs) ≡ [] =
    subst (λ (o : Option Label). filter (λ p. not (is_after o p.0)) (due_pairs r pairs) ≡ [])
    (sym e) (none_left (due_pairs r pairs)) in
    let whole : take NAMES_PER_TICK (between r.cursor None (due_pairs r pairs)) ≡ resent r.cursor
    (due_pairs r pairs) =
    ap (take NAMES_PER_TICK) (to_the_end r.cursor (due_pairs r pairs)
    ∙ (sym (append-nil front) ∙ ap (λ (ps : Pairs). front ++ ps) (sym back))) in
    record {
      packets = one.packets ∙ ap (flat_map f) whole;
      cursor =
          one.cursor ∙ ap (last_name r.cursor) whole;
    }

-- a tick has at most OUTBOX_MAX packets
pub few_sent : (r : Resending) (pairs : Pairs) (certified : List Label) → 1 ≤ r.node
    → r.node ≤ r.limits.n → r.limits.n ≤ MAX_NODES
    → length (tick_packets r pairs certified) ≤ OUTBOX_MAX
few_sent r pairs certified low high most =
    let some : Pairs = resent r.cursor (due_pairs r pairs) in
    omega (
      arith,
      few_packets r.limits.n r.node certified r.heard some low high most,
      length-take NAMES_PER_TICK (cyclic r.cursor (due_pairs r pairs)),
    )

-- what holds for a result without an error implies what follows from it
pub if_ok_more : {A E : Type 0} (P Q : A → Type 0) (result : Result A E) → ((a : A) → P a → Q a)
    → IfOk result P → IfOk result Q
if_ok_more P Q (Ok a) more h = more a h
if_ok_more P Q (Err e) more h = tt

-- an option that tests as full holds a cursor
pub some_cursor : (o : Option Label) → is_some o ≡ true → (c : Label) × (o ≡ Some c)
some_cursor None e = absurd cc
some_cursor (Some c) e = (c, refl)

-- an option that doesn't test as full holds nothing
pub no_cursor : (o : Option Label) → is_some o ≡ false → o ≡ None
no_cursor None e = refl
no_cursor (Some c) e = absurd cc
