-- All nodes come back: a held record is stored, and a node that is down restarts with what its
-- storage holds.
use Rattle.urb_world.proofs.Common.{Bool, Cert, Content, Down, Entry, IsDone, IsNotStranded, Label}
use Rattle.urb_world.proofs.Common.{Limits, List, Node, None, Option, Pend, PendCert, Ready, Reply}
use Rattle.urb_world.proofs.Common.{Restart, Some, State, Storing, World, [], all_back, and_from}
use Rattle.urb_world.proofs.Common.{and_parts, any_left, any_right, ap, cert, cert-append}
use Rattle.urb_world.proofs.Common.{comes_back, cond-true, cond_both, doubt, eq-eqb, false}
use Rattle.urb_world.proofs.Common.{false≢true, has_name, has_pair, has_pair-behind, has_pair-cases}
use Rattle.urb_world.proofs.Common.{has_pair-head, image_with, is_node, keeps_record, length}
use Rattle.urb_world.proofs.Common.{list_all, log, nodes, or_cases, or_left, or_right, pend}
use Rattle.urb_world.proofs.Common.{pend-append, readied, refl, restarts, restarts_with, same_list}
use Rattle.urb_world.proofs.Common.{same_name, same_name-same, same_names, same_pairs, says, step}
use Rattle.urb_world.proofs.Common.{subst, sym, true, world_after, ℕ, ⊎_elim, ◌++◌, ◌∙◌, ◌∷◌, ◌≡◌}
use Rattle.urb_world.proofs.recovery.CarriedPackets.{Moved, moved-after, moved-each, stores-reaches}
use Rattle.urb_world.proofs.recovery.ContinuedWorlds.{Calm, Sound, run-sound}
use Rattle.urb_world.proofs.recovery.EventPlans.{Course, Reaches, reaches-each, reaches-none}
use Rattle.urb_world.proofs.recovery.EventPlans.{reaches-one, reaches-weaker}
use Rattle.urb_world.proofs.hearing.LiveNodes.{IsWhole}
use Rattle.urb_world.proofs.recovery.NodeLists.{in-nodes, nodes-in}
use Rattle.urb_world.proofs.ticks.Membership.{all-in, in-all}
use Rattle.urb_world.specs.World.{stored}
use Rattle.urb_node.proofs.ImageNames.{same_list-same}

-- ---- an image says what it says

all-pairs : (all ps : List (Label × Content))
    → ((x : Label) (m : Content) → has_pair ps x m ≡ true → has_pair all x m ≡ true)
    → list_all (λ pair. has_pair all pair.0 pair.1) ps ≡ true
all-pairs all [] h = refl
all-pairs all (p ∷ ps) h =
    and_from (has_pair all p.0 p.1) _ (h p.0 p.1 (has_pair-head p ps))
    (all-pairs all ps (λ x m k. h x m (has_pair-behind p ps x m k)))

all-names : (all xs : List Label) → ((x : Label) → has_name xs x ≡ true → has_name all x ≡ true)
    → list_all (has_name all) xs ≡ true
all-names all [] h = refl
all-names all (y ∷ xs) h =
    and_from (has_name all y) _ (h y (or_left (same_name y y) _ (same_name-same y)))
    (all-names all xs (λ x k. h x (or_right (same_name y x) _ k)))

-- an image says what it says
pub says-itself : (records : List Entry) → says records records ≡ true
says-itself records =
    and_from (same_pairs (pend records) (pend records)) _ (and_from _ _ pairs pairs)
    (and_from (same_names (cert records) (cert records)) _ (and_from _ _ names names)
    (and_from (same_list (log records) (log records)) _ (same_list-same (log records))
    (eq-eqb (length records) (length records) refl)))
  where
    pairs : list_all (λ pair. has_pair (pend records) pair.0 pair.1) (pend records) ≡ true
    pairs = all-pairs (pend records) (pend records) (λ x m h. h)

    names : list_all (has_name (cert records)) (cert records) ≡ true
    names = all-names (cert records) (cert records) (λ x h. h)

-- ---- certificates of all pairs

-- each pair of these records is certified
abbrev pub Whole : List Entry → Type 0
Whole records =
    (x : Label) (m : Content) → has_pair (pend records) x m ≡ true
    → has_name (cert records) x ≡ true

-- pairs that are all certified stay so with one more record, if it certifies its own pair
pub whole-joined : (records : List Entry) (r : Entry) → IsWhole (Some r) → Whole records
    → Whole (records ++ r ∷ [])
whole-joined records r w h x m k =
    subst (λ (xs : List Label). has_name xs x ≡ true) (sym (cert-append records (r ∷ [])))
    (⊎_elim (λ e. any_left _ (cert records) (cert (r ∷ [])) (h x m e))
    (λ e. any_right _ (cert records) (cert (r ∷ [])) (last r w e))
    (has_pair-cases (pend records) (pend (r ∷ [])) x m
    (subst (λ (ps : List (Label × Content)). has_pair ps x m ≡ true)
    (pend-append records (r ∷ [])) k)))
  where
    last : (r : Entry) → IsWhole (Some r) → has_pair (pend (r ∷ [])) x m ≡ true
        → has_name (cert (r ∷ [])) x ≡ true
    last (Pend y o) w e = absurd w
    last (PendCert y o) w e =
        ⊎_elim (λ f. or_left (same_name y x) false (and_parts (same_name y x) _ f).0)
        (λ f. absurd (false≢true f)) (or_cases _ false e)
    last (Cert y) w e = absurd (false≢true e)

-- ---- a node comes up

-- The event is done, and the node is ready after it. If each stored pair was certified before, and
-- the held or doubtful record certifies its pair too, each stored pair is certified after it.
pub record Up (old : Node) (outcome : Reply × Node) : Type 0 where
  -- the event isn't refused
  pub done : IsDone outcome.0
  -- the node is ready
  pub ready : outcome.1.state ≡ Ready
  -- if the held or doubtful record certifies its pair, then each stored pair stays certified
  pub whole : IsWhole (doubt old.state) → Whole old.records → Whole outcome.1.records

restart-up : (keeps_doubtful : Bool) (p : ℕ) (node : Node) (d : Option Entry) → node.state ≡ Down d
    → Up node (restarts p (image_with keeps_doubtful node.records d) node (Down d))
restart-up keeps_doubtful p node None e =
    subst (Up node) (sym (cond-true (says node.records node.records) _ _
    (says-itself node.records))) (record { done = tt; ready = refl; whole = λ _ h. h })
restart-up keeps_doubtful p node (Some r) e =
    cond_both keeps_doubtful (node.records ++ r ∷ []) node.records
    (λ image. Up node (restarts_with p image node (Some r))) (λ _. joined) (λ _. alone)
  where
    alone : Up node (restarts_with p node.records node (Some r))
    alone =
        subst (Up node) (sym (cond-true (says node.records node.records) _ _
        (says-itself node.records))) (record { done = tt; ready = refl; whole = λ _ h. h })

    joined : Up node (restarts_with p (node.records ++ r ∷ []) node (Some r))
    joined =
        cond_both (says (node.records ++ r ∷ []) node.records) _ _ (Up node)
        (λ _. record { done = tt; ready = refl; whole = λ _ h. h })
        (λ _. subst (Up node) (sym (cond-true
        (says (node.records ++ r ∷ []) (node.records ++ r ∷ [])) _ _
        (says-itself (node.records ++ r ∷ []))))
        (record {
          done = tt;
          ready = refl;
          whole =
              λ w h. whole-joined node.records r (subst (λ (s : State). IsWhole (doubt s)) e w) h;
        }))

-- ---- the world goes back to work

pub record Back (w v : World) : Type 0 where
  -- the limits stay
  pub size : v.size ≡ w.size
  -- a node that is ready stays ready
  pub ready : (p : ℕ) → (w.node p).state ≡ Ready → (v.node p).state ≡ Ready
  -- a group that isn't stranded doesn't become so
  pub whole : IsNotStranded w → IsNotStranded v

back-still : (w : World) → Sound w → Back w w
back-still w s = record { size = refl; ready = λ p h. h; whole = λ h. h }

back-further : (u v w : World) → Back u v → Back v w → Back u w
back-further u v w a b = record {
  size = b.size ∙ a.size;
  ready = λ p h. b.ready p (a.ready p h);
  whole =
      λ h. b.whole (a.whole h);
}

-- node p became ready, and is whole if it was whole
moved-back : (w : World) (p : ℕ) (node : Node) (v : World) → Moved w p node v → node.state ≡ Ready
    → (w.size.n ≡ 1 → Whole (stored w p) → Whole node.records)
    → Back w v × ((v.node p).state ≡ Ready)
moved-back w p node v moved ready whole = (
  record {
    size = moved.size;
    ready =
        moved-each w p node v moved (λ i n. (w.node i).state ≡ Ready → n.state ≡ Ready) (λ _. ready)
        (λ i h. h);
    whole = λ h e. moved-each w p node v moved (λ i n. i ≡ 1 → Whole n.records)
        (λ f. whole (alone e) (subst (λ (i : ℕ). Whole (stored w i)) (sym f) (h (alone e))))
        (λ i f. subst (λ (j : ℕ). Whole (stored w j)) (sym f) (h (alone e))) 1 refl;
  },
  subst (λ (n : Node). n.state ≡ Ready) (sym moved.here) ready,
)
  where
    alone : v.size.n ≡ 1 → w.size.n ≡ 1
    alone e = subst (λ (size : Limits). size.n ≡ 1) moved.size e

restart-is : (w : World) (p : ℕ) (image : List Entry) (d : Option Entry) → (w.node p).state ≡ Down d
    → is_node w.size.n p ≡ true → step w (Restart p image) ≡ world_after w p
    (restarts p image (w.node p) (Down d))
unfolding step
restart-is w p image d e is =
    cond-true (is_node w.size.n p) _ _ is
    ∙ ap (λ (s : State). world_after w p (restarts p image (w.node p) s)) e

module _ (keeps_doubtful : ℕ → Bool) where
  readied-reaches : (p : ℕ) (w : World) (s : State) → (w.node p).state ≡ s → Sound w
      → is_node w.size.n p ≡ true
      → Reaches (λ v. Back w v × ((v.node p).state ≡ Ready)) w
      (readied (keeps_doubtful p) p (w.node p) s)
  readied-reaches p w Ready e sound is = reaches-none _ w (back-still w sound, e)
  readied-reaches p w (Storing entry cause) e sound is =
      reaches-weaker (Moved w p (keeps_record p entry cause (w.node p))) _ w
      (readied (keeps_doubtful p) p (w.node p) (Storing entry cause))
      (λ v moved. moved-back w p (keeps_record p entry cause (w.node p)) v moved refl
      (λ one h. whole-joined (stored w p) entry
      (subst (λ (s : State). IsWhole (doubt s)) e ((sound.live.nodes p).whole one)) h))
      (stores-reaches w p (w.node p) (Storing entry cause) refl e refl is)
  readied-reaches p w (Down d) e sound is =
      let same = restart-is w p image d e is in
      let up = restart-up (keeps_doubtful p) p (w.node p) d e in
      reaches-one _ w (Restart p image) tt
      (subst (λ (o : Reply × World). IsDone o.0) (sym same) up.done)
      (subst (λ (o : Reply × World). Back w o.1 × ((o.1.node p).state ≡ Ready)) (sym same)
      (moved-back w p outcome.1 (world_after w p outcome).1 (moved-after w p outcome) up.ready
      (λ one. up.whole ((sound.live.nodes p).whole one))))
    where
      image : List Entry
      image = image_with (keeps_doubtful p) (stored w p) d

      outcome : Reply × Node
      outcome = restarts p image (w.node p) (Down d)

  coming : Course (comes_back keeps_doubtful) Sound Back (λ p w. is_node w.size.n p ≡ true)
      (λ p w. (w.node p).state ≡ Ready)
  coming =
      record {
        one = λ p w sound is.
            let r = readied-reaches p w (w.node p).state refl sound is in
            record {
              goes = r.goes;
              leads =
                  (run-sound w (comes_back keeps_doubtful p w) sound, r.leads.0, r.leads.1);
            };
        still = back-still;
        further = back-further;
        before = λ p v w b is. subst (λ (size : Limits). is_node size.n p ≡ true) (sym b.size) is;
        after = λ p v w b h. b.ready p h;
      }

  -- all nodes can come back: then each is ready, and a group that wasn't stranded isn't
  pub all-back : (w : World) → Sound w
      → Reaches (λ v. Calm v × (v.size ≡ w.size) × (IsNotStranded w → IsNotStranded v)) w
      (all_back keeps_doubtful w)
  all-back w sound =
      reaches-weaker _ _ w (all_back keeps_doubtful w)
      (λ v r. (
        record {
          sound = r.0;
          ready =
              λ p is. in-all (λ i. (v.node i).state ≡ Ready) p (nodes w.size.n) r.2
              (in-nodes w.size.n p (subst (λ (size : Limits). is_node size.n p ≡ true)
              r.1.size is));
        },
        r.1.size,
        r.1.whole,
      ))
      (reaches-each (comes_back keeps_doubtful) Sound Back (λ p v. is_node v.size.n p ≡ true)
      (λ p v. (v.node p).state ≡ Ready) coming (nodes w.size.n) w sound
      (all-in (λ p. is_node w.size.n p ≡ true) (nodes w.size.n) (λ p h. nodes-in w.size.n p h)))
