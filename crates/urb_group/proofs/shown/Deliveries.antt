-- What a group has delivered, by what it holds in memory, is what its worlds have delivered; and
-- how an event changes it.
use Rattle.urb_group.proofs.Common.{Begins, Commit, Content, Done, Entry, Event, GroupView, IsSound}
use Rattle.urb_group.proofs.Common.{Label, List, Node, Option, Shows, Some, Steps, Stored, World}
use Rattle.urb_group.proofs.Common.{[], ap, ap₂, arith, delivered_at, filter_map, has_name, known}
use Rattle.urb_group.proofs.Common.{length, length-map, log, map, message_of, ne_eqb, option_map}
use Rattle.urb_group.proofs.Common.{or_left, or_right, pend, refl, safe, same_name, same_name-same}
use Rattle.urb_group.proofs.Common.{step-elsewhere, step-goes_on, stored, subst, sym, true, view_of}
use Rattle.urb_group.proofs.Common.{ℕ, ◌++◌, ◌+◌, ◌∙◌, ◌∷◌, ◌≡◌, ◌≢◌}
use Rattle.urb_world.proofs.safety.AgreeingLogs.{entries-all_grow}
use Rattle.urb_group.proofs.shown.AgreeingWorlds.{sound-kept, sound-step}
use Rattle.urb_world.proofs.safety.StoredRecords.{commit-released, step-stored}
use Rattle.urb_group.specs.DeliveredMessages.{Delivery, Follows}
use Rattle.urb_world.specs.EventEffects.{StoresNothing, event_node}
use Rattle.urb_world.specs.Step.{step}
use Rattle.urb_node.proofs.ShownNodes.{shown-found}
use Rattle.urb_stable.specs.DeliveredLogs.{entries}

-- ---- what is held is what the worlds have

-- names whose messages the first function finds, paired with what the second one finds
found-known : (f g : Label → Option Content) (xs : List Label)
    → ((x : Label) → has_name xs x ≡ true → (m : Content) × (f x ≡ Some m) × (g x ≡ Some m))
    → map known (filter_map (λ x. option_map (λ m. (x, m)) (f x)) xs) ≡ map (λ x. (x, g x)) xs
found-known f g [] h = refl
found-known f g (x ∷ xs) h =
    let here = h x (or_left (same_name x x) _ (same_name-same x)) in
    let rest = found-known f g xs (λ y e. h y (or_right (same_name x y) _ e)) in
    rw (here.1, here.2) (ap (λ (es : List (Label × Option Content)). (x, Some here.0) ∷ es) rest)

-- what a node has delivered by its memory is its log, with the messages, in every world that the
-- group shows
pub deliveries-known : (group : GroupView) (w : World) (p : ℕ) → IsSound group → Shows group w
    → map known (delivered_at group p) ≡ entries (stored w p)
deliveries-known group w p sound shows =
    let s = shows.nodes p in
    let view = view_of group p in
    subst (λ (xs : List Label). map known
    (filter_map (λ x. option_map (λ m. (x, m)) (message_of view.pairs x)) xs) ≡ entries
    (stored w p)) (sym s.log)
    (found-known (message_of view.pairs) (message_of (pend (stored w p))) (log (stored w p))
    (λ x h. let held = (safe w (sound-kept group w sound shows).nodes).uniform p x h in
    (held.0, shown-found w.size p view (w.node p) s x ∙ held.1, held.1)))

-- in any two worlds that a sound group shows, a node has delivered the same names with the same
-- messages
pub entries-alike : (group : GroupView) (v w : World) (p : ℕ) → IsSound group → Shows group v
    → Shows group w → entries (stored v p) ≡ entries (stored w p)
entries-alike group v w p sound one other =
    sym (deliveries-known group v p sound one) ∙ deliveries-known group w p sound other

-- ---- deliveries determine what they say

same_delivery : (d e : Delivery) → known d ≡ known e → d ≡ e
same_delivery d e h =
    let x : d.0 ≡ e.0 = ap (λ (k : Label × Option Content). k.0) h in
    let found : Some d.1 ≡ Some e.1 = ap (λ (k : Label × Option Content). k.1) h in
    let m : d.1 ≡ e.1 = cc in
    ap₂ (λ (y : Label) (o : Content). (y, o)) x m

-- if a list of deliveries is a prefix of another in the form of entries, it is a prefix
pub known-begins : (xs ys : List Delivery) → Begins (map known xs) (map known ys) → Begins xs ys
known-begins [] ys h = (ys, refl)
known-begins (x ∷ xs) [] h = (let e = h.1 in cc)
known-begins (x ∷ xs) (y ∷ ys) h =
    let e : known x ∷ (map known xs ++ h.0) ≡ known y ∷ map known ys = h.1 in
    let first : known x ≡ known y = cc in
    let later : map known xs ++ h.0 ≡ map known ys = cc in
    let rest = known-begins xs ys (h.0, later) in
    let same = same_delivery x y first in
    let all = rest.1 in
    (rest.0, cc)

known-same : (xs ys : List Delivery) → map known xs ≡ map known ys → xs ≡ ys
known-same [] [] h = refl
known-same [] (y ∷ ys) h = cc
known-same (x ∷ xs) [] h = cc
known-same (x ∷ xs) (y ∷ ys) h =
    let first : known x ≡ known y = cc in
    let later : map known xs ≡ map known ys = cc in
    let same = same_delivery x y first in
    let all = known-same xs ys later in
    cc

-- ---- an event

module _ (old new : GroupView) (event : Event) (sound : IsSound old)
    (follows : Follows old event new) where
  abbrev before : World
  before = sound.world

  abbrev after : World
  after = (step sound.world event).1

  shown-after : Shows new after
  shown-after = follows sound.world sound.shows

  -- a sound group is sound after an event
  pub sound-after : IsSound new
  sound-after = sound-step old new event sound follows

  before-known : (p : ℕ) → map known (delivered_at old p) ≡ entries (stored before p)
  before-known p = deliveries-known old before p sound sound.shows

  after-known : (p : ℕ) → map known (delivered_at new p) ≡ entries (stored after p)
  after-known p = deliveries-known new after p sound-after shown-after

  -- what a node has delivered before an event is a prefix of what it has delivered after it
  pub deliveries-grow : (p : ℕ) → Begins (delivered_at old p) (delivered_at new p)
  deliveries-grow p =
      known-begins (delivered_at old p) (delivered_at new p)
      (subst (λ (es : List (Label × Option Content)). Begins es (map known (delivered_at new p)))
      (sym (before-known p))
      (subst (λ (es : List (Label × Option Content)). Begins (entries (stored before p)) es)
      (sym (after-known p))
      (entries-all_grow before after (safe before sound.kept.nodes) (step-goes_on before event) p)))

  deliveries-stay : (p : ℕ) → stored after p ≡ stored before p
      → delivered_at new p ≡ delivered_at old p
  deliveries-stay p e =
      known-same (delivered_at new p) (delivered_at old p)
      (after-known p ∙ (ap entries e ∙ sym (before-known p)))

  -- an event at another node doesn't change what a node has delivered
  pub deliveries-elsewhere : (p : ℕ) → event_node event ≢ p
      → delivered_at new p ≡ delivered_at old p
  deliveries-elsewhere p away =
      deliveries-stay p (ap (λ (n : Node). n.records)
      (step-elsewhere before event p (ne_eqb p (event_node event) (λ e. away (sym e)))))

  -- an event that stores no record doesn't change what a node has delivered
  pub deliveries-nothing : StoresNothing event → (p : ℕ) → delivered_at new p ≡ delivered_at old p
  deliveries-nothing quiet p = deliveries-stay p (step-stored before event quiet p)

-- a node has delivered as many messages as its log has names
pub length-known : (group : GroupView) (w : World) (p : ℕ) → IsSound group → Shows group w
    → length (delivered_at group p) ≡ length (log (stored w p))
length-known group w p sound shows =
    sym (length-map (delivered_at group p) known)
    ∙ (ap length (deliveries-known group w p sound shows)
    ∙ length-map (log (stored w p)) (λ x. (x, message_of (pend (stored w p)) x)))

-- a stored record makes its node deliver exactly as many messages as the reply says
pub deliveries-released : (old new : GroupView) (p position : ℕ) (entry : Entry) (done : Done)
    → IsSound old → Steps old (Commit p position entry) (λ reply. reply ≡ Stored done) new
    → length (delivered_at new p) ≡ length (delivered_at old p) + done.released
deliveries-released old new p position entry done sound steps =
    let event : Event = Commit p position entry in
    let w = sound.world in
    let happens = steps w sound.shows in
    let later =
    length-known new (step w event).1 p
    (sound-step old new event sound (λ v s. (steps v s).shows)) happens.shows in
    let earlier = length-known old w p sound sound.shows in
    let grown = commit-released done w p position entry happens.told in
    omega (arith, later, earlier, grown)
