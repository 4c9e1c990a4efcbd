-- What a stop leaves fits together also if storages hold records ahead of their events.
use Rattle.urb_world.proofs.Common.{Begins, Bool, Down, Entry, Grows, IsAhead, IsEither, IsKept}
use Rattle.urb_world.proofs.Common.{Kept, Limits, List, MayFollow, MayJoin, MayLeave, Node, None}
use Rattle.urb_world.proofs.Common.{Ready, Some, State, StateKept, Storing, World, [], ap}
use Rattle.urb_world.proofs.Common.{append-nil, append_assoc, cond, contents-either, doubt}
use Rattle.urb_world.proofs.Common.{eqb-true, false, has_pair, inl, inr, kept-push, pend, refl}
use Rattle.urb_world.proofs.Common.{rules-grow, subst, sym, true, updated, ℕ, ◌++◌, ◌==◌, ◌∙◌, ◌∷◌}
use Rattle.urb_world.proofs.Common.{◌≡◌}
use Rattle.urb_world.proofs.safety.AgreeingLogs.{entries-begin}
use Rattle.urb_world.proofs.safety.SafeWorlds.{safe}
use Rattle.urb_world.proofs.steps.DraftedRecords.{AllKept}
use Rattle.urb_world.proofs.steps.Growth.{log-begins, pair-begins}
use Rattle.urb_world.proofs.steps.Runs.{kept-fits}
use Rattle.urb_world.proofs.stops.StoppedWorlds.{accepted-again}
use Rattle.urb_world.specs.StoresAhead.{SurvivesAhead}
use Rattle.urb_world.specs.World.{stored}
use Rattle.urb_stable.proofs.KeptRules.{kept-grow}

-- ---- an image that is ahead

-- an image that is ahead begins with the records
pub ahead-begins : (records tail image : List Entry) → IsAhead records tail image
    → Begins records image
ahead-begins records [] image h = ([], append-nil records ∙ sym h)
ahead-begins records (r ∷ tail) image (inl e) = ([], append-nil records ∙ sym e)
ahead-begins records (r ∷ tail) image (inr h) =
    let more = ahead-begins (records ++ r ∷ []) tail image h in
    (r ∷ more.0, sym (append_assoc records (r ∷ []) more.0) ∙ more.1)

-- ---- what the state of a node leaves is such an image

-- the held or the doubtful record, as a tail
pub state-ahead : (size : Limits) (images : ℕ → List Entry) (p : ℕ) (node : Node)
    (image : List Entry) → StateKept size images p node.records node.state → MayLeave node image
    → (tail : List Entry) × MayFollow size images p node.records tail
    × IsAhead node.records tail image
state-ahead size images p node image kept left =
    at (contents-either node.records (doubt node.state) image left)
  where
    may_join : (s : State) (r : Entry) → StateKept size images p node.records s
        → doubt s ≡ Some r → MayJoin size images p node.records r
    may_join Ready r k e = cc
    may_join (Storing entry cause) r k e =
        let f : entry ≡ r = cc in
        subst (λ (t : Entry). MayJoin size images p node.records t) f k.0
    may_join (Down None) r k e = cc
    may_join (Down (Some entry)) r k e =
        let f : entry ≡ r = cc in
        subst (λ (t : Entry). MayJoin size images p node.records t) f k

    at : IsEither node.records (doubt node.state) image
        → (tail : List Entry) × MayFollow size images p node.records tail
        × IsAhead node.records tail image
    at (inl e) = ([], tt, e)
    at (inr e) = (e.0 ∷ [], (may_join node.state e.0 kept e.1, tt), inr e.2)

-- ---- the images fit together

module _ (w : World) (images : ℕ → List Entry)
    (begins : (q : ℕ) → Begins (stored w q) (images q)) where
  grows : Grows (stored w) images
  grows q x m h = pair-begins (stored w q) (images q) (begins q) x m h

  -- also with these records of node p, if its image begins with them
  grows-with : (p : ℕ) (records : List Entry) → Begins records (images p)
      → Grows (updated (stored w) p records) images
  grows-with p records b q x m = at (q == p) refl
    where
      at : (e : Bool) → (q == p) ≡ e
          → has_pair (pend (cond e records (stored w q))) x m ≡ true
          → has_pair (pend (images q)) x m ≡ true
      at true f h =
          subst (λ (rs : List Entry). has_pair (pend rs) x m ≡ true)
          (sym (ap images (eqb-true q p f))) (pair-begins records (images p) b x m h)
      at false f h = grows q x m h

  -- if the image is the records of node p and a beginning of their tail, it meets the rules
  pub ahead-kept : (p : ℕ) (records tail : List Entry) → Kept w.size images p [] records
      → MayFollow w.size (stored w) p records tail → IsAhead records tail (images p)
      → Kept w.size images p [] (images p)
  ahead-kept p records [] kept may e =
      subst (λ (rs : List Entry). Kept w.size images p [] rs) (sym e) kept
  ahead-kept p records (r ∷ tail) kept may (inl e) =
      subst (λ (rs : List Entry). Kept w.size images p [] rs) (sym e) kept
  ahead-kept p records (r ∷ tail) kept may (inr h) =
      ahead-kept p (records ++ r ∷ []) tail
      (kept-push w.size images p [] records r kept
      (rules-grow w.size (updated (stored w) p (records ++ r ∷ [])) images p records r
      (grows-with p (records ++ r ∷ []) (ahead-begins (records ++ r ∷ []) tail (images p) h))
      may.0))
      may.1 h

-- whatever a stop leaves of stores that are ahead opens a group that goes on from the world
pub survives-ahead : (w : World) → IsKept w → SurvivesAhead w
survives-ahead w kept images left =
    record {
      fits = kept-fits w.size images all;
      delivered = λ p. log-begins (stored w p) (images p) (begins p);
      entries = λ p. entries-begin w (safe w kept.nodes) p (images p) (begins p);
      again =
          λ p x m is e h. accepted-again w.size images all p x m is e ((kept.short p).stored x m h)
          (pair-begins (stored w p) (images p) (begins p) x m h);
    }
  where
    tails : (p : ℕ) → (tail : List Entry) × MayFollow w.size (stored w) p (stored w p) tail
        × IsAhead (stored w p) tail (images p)
    tails p = elim (left p) [
      | inl still ↦
          state-ahead w.size (stored w) p (w.node p) (images p) (kept.nodes p).state still
      | inr ahead ↦ ahead
    ]

    begins : (p : ℕ) → Begins (stored w p) (images p)
    begins p = ahead-begins (stored w p) (tails p).0 (images p) (tails p).2

    all : AllKept w.size images
    all p =
        ahead-kept w images begins p (stored w p) (tails p).0
        (kept-grow w.size (stored w) images p [] (stored w p) (grows w images begins)
        (kept.nodes p).kept) (tails p).1 (tails p).2

-- ---- a tail stays one

-- a tail stays one while other nodes store more
pub follow-grows : (size : Limits) (old new : ℕ → List Entry) (p : ℕ) (records tail : List Entry)
    → Grows old new → MayFollow size old p records tail → MayFollow size new p records tail
follow-grows size old new p records [] g h = tt
follow-grows size old new p records (r ∷ tail) g h = (
  rules-grow size (updated old p (records ++ r ∷ []))
      (updated new p (records ++ r ∷ [])) p records r (updated-grows (records ++ r ∷ [])) h.0,
  follow-grows size old new p (records ++ r ∷ []) tail g h.1,
)
  where
    updated-grows : (rs : List Entry) → Grows (updated old p rs) (updated new p rs)
    updated-grows rs q x m = at (q == p)
      where
        at : (e : Bool) → has_pair (pend (cond e rs (old q))) x m ≡ true
            → has_pair (pend (cond e rs (new q))) x m ≡ true
        at true h = h
        at false h = g q x m h
