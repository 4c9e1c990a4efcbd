-- Records that may follow those of a node: in a world that the group shows, and once the node has
-- stored some of them.
use Rattle.std.proofs.Common.{Bool, List, None, Option, Some, [], ap, append-nil, append_assoc}
use Rattle.std.proofs.Common.{cond, eqb-true, false, inr, ne_eqb, refl, subst, sym, true, ℕ, ◌++◌}
use Rattle.std.proofs.Common.{◌==◌, ◌∙◌, ◌∷◌, ◌≡◌, ◌≢◌}
use Rattle.std.proofs.Math.Path.{fun_ext}
use Rattle.std.proofs.lemmas.Bool.{eqb-false, cond-false, false≢true}
use Rattle.std.specs.Prelude.{IsTrue}
use Rattle.urb_names.proofs.FoundPairs.{has_pair-found, has_pair-left}
use Rattle.urb_names.proofs.SameNames.{majority_grows}
use Rattle.urb_names.specs.LabelsAndContents.{Content, Label, Limits}
use Rattle.urb_names.specs.ListPrefixes.{Begins}
use Rattle.urb_names.specs.Nodes.{is_node}
use Rattle.urb_names.specs.Pairs.{has_pair, message_of}
use Rattle.urb_node.specs.Part.{Node, State}
use Rattle.urb_stable.proofs.JoinedRecords.{pend-append}
use Rattle.urb_stable.proofs.KeptRules.{Grows, kept-grow}
use Rattle.urb_stable.specs.Entries.{Entry}
use Rattle.urb_stable.specs.Fitting.{Kept, Rules, known_held}
use Rattle.urb_stable.specs.Records.{pend}
use Rattle.urb_stable.specs.declared.record.Record.TheVariants.{Cert}
use Rattle.urb_world.proofs.steps.Growth.{begins-itself, pair-begins}
use Rattle.urb_world.proofs.steps.OneNodeStep.{node-grows, updated-at}
use Rattle.urb_world.proofs.stops.AheadWorlds.{ahead-kept, follow-grows}
use Rattle.urb_world.specs.RunInvariant.{AcksKept, MayJoin, NodeKept, NodesKept, StateKept}
use Rattle.urb_world.specs.StoresAhead.{IsAhead, MayFollow}
use Rattle.urb_world.specs.World.{World, stored, updated}
use Rattle.urb_group.specs.GroupViews.{GroupView, Shows}
use Rattle.urb_group.specs.TailQuestions.{TellsTail}
use Rattle.urb_foresight.specs.ForeseenDrafts.{IsOnceStored}

-- ---- other images

-- what a node is to hold doesn't depend on its own image
images-same : (old new : ℕ → List Entry) (p : ℕ) (records : List Entry)
    → ((q : ℕ) → q ≢ p → old q ≡ new q) → updated old p records ≡ updated new p records
images-same old new p records others = fun_ext (λ q. at q (q == p) refl)
  where
    at : (q : ℕ) (b : Bool) → (q == p) ≡ b
        → cond b records (old q) ≡ cond b records (new q)
    at q true e = refl
    at q false e = others q (eqb-false q p e)

-- whether a record may join depends on the other nodes' images alone
pub join-moves : (size : Limits) (old new : ℕ → List Entry) (p : ℕ) (records : List Entry)
    (r : Entry) → ((q : ℕ) → q ≢ p → old q ≡ new q) → MayJoin size old p records r
    → MayJoin size new p records r
join-moves size old new p records r others h =
    subst (λ (images : ℕ → List Entry). Rules size images p records r)
    (images-same old new p (records ++ r ∷ []) others) h

-- ---- the last record of a tail

-- the last record of a tail may join behind the others
follow-last : (size : Limits) (images : ℕ → List Entry) (p : ℕ) (records tail : List Entry)
    (r : Entry) → MayFollow size images p records (tail ++ r ∷ [])
    → MayJoin size images p (records ++ tail) r
follow-last size images p records [] r h =
    subst (λ (rs : List Entry). MayJoin size images p rs r) (sym (append-nil records)) h.0
follow-last size images p records (s ∷ tail) r h =
    subst (λ (rs : List Entry). MayJoin size images p rs r) (append_assoc records (s ∷ []) tail)
    (follow-last size images p (records ++ s ∷ []) tail r h.1)

-- a record that may join behind a tail makes it a longer one
follow-push : (size : Limits) (images : ℕ → List Entry) (p : ℕ) (records tail : List Entry)
    (r : Entry) → MayFollow size images p records tail → MayJoin size images p (records ++ tail) r
    → MayFollow size images p records (tail ++ r ∷ [])
follow-push size images p records [] r h k =
    (subst (λ (rs : List Entry). MayJoin size images p rs r) (append-nil records) k, tt)
follow-push size images p records (s ∷ tail) r h k = (
  h.0,
  follow-push size images p (records ++ s ∷ []) tail r h.1
      (subst (λ (rs : List Entry). MayJoin size images p rs r)
      (sym (append_assoc records (s ∷ []) tail)) k),
)

-- ---- certificates

-- the holders of a pair still hold it, if the node's new image has it
holders-stay : (images : ℕ → List Entry) (p : ℕ) (records : List Entry) (x : Label) (m : Content)
    → has_pair (pend records) x m ≡ true → (q : ℕ) → has_pair (pend (images q)) x m ≡ true
    → has_pair (pend (updated images p records q)) x m ≡ true
holders-stay images p records x m here q h = at (q == p)
  where
    at : (b : Bool) → has_pair (pend (cond b records (images q))) x m ≡ true
    at true = here
    at false = h

-- the certificate of a pair that a majority holds may come next
pub certificate-held : (size : Limits) (images : ℕ → List Entry) (p : ℕ) (earlier : List Entry)
    (x : Label) (o : Option Content) → message_of (pend earlier) x ≡ o
    → known_held size.n images x o ≡ true
    → known_held size.n (updated images p (earlier ++ Cert x ∷ [])) x o ≡ true
certificate-held size images p earlier x None e h = h
certificate-held size images p earlier x (Some m) e h =
    majority_grows size.n (λ q. has_pair (pend (images q)) x m)
    (λ q. has_pair (pend (updated images p (earlier ++ Cert x ∷ []) q)) x m)
    (holders-stay images p (earlier ++ Cert x ∷ []) x m
    (subst (λ (ps : List (Label × Content)). has_pair ps x m ≡ true)
    (sym (pend-append earlier (Cert x ∷ [])))
    (has_pair-left (pend earlier) [] x m (has_pair-found (pend earlier) x m e)))) h

-- ---- once records are stored

-- an image that is the records with a whole tail is ahead of the records
whole-ahead : (records tail : List Entry) → IsAhead records tail (records ++ tail)
whole-ahead records [] = append-nil records
whole-ahead records (r ∷ tail) =
    inr (subst (λ (rs : List Entry). IsAhead (records ++ r ∷ []) tail rs)
    (append_assoc records (r ∷ []) tail) (whole-ahead (records ++ r ∷ []) tail))

-- the first world, with node p's part of the second one
abbrev pub world_then : World → ℕ → World → World
world_then w p v = record { size = v.size; node = updated w.node p (v.node p); sent = [] }

module _ (p : ℕ) (old : List Entry) (w v : World) (once : IsOnceStored w p old v) where
  -- what each node had stored comes first
  begins : (q : ℕ) → Begins (stored w q) (stored v q)
  begins q = at (q == p) refl
    where
      at : (b : Bool) → (q == p) ≡ b → Begins (stored w q) (stored v q)
      at true e =
          subst (λ (i : ℕ). Begins (stored w i) (stored v i)) (sym (eqb-true q p e))
          (old, sym once.behind)
      at false e = once.others q (eqb-false q p e)

  -- no image has lost a pair
  grows : Grows (stored w) (stored v)
  grows q x m h = pair-begins (stored w q) (stored v q) (begins q) x m h

  module _ (group : GroupView) (shows : Shows group w) (r : Entry) where
    -- a record that may follow a tail may join once the tail is stored
    pub joins : TellsTail group p (old ++ r ∷ []) true → MayJoin v.size (stored v) p (stored v p) r
    joins tells =
        subst (λ (l : Limits). MayJoin l (stored v) p (stored v p) r) (sym once.size)
        (subst (λ (rs : List Entry). MayJoin w.size (stored v) p rs r) (sym once.behind)
        (follow-grows w.size (stored w) (stored v) p (stored w p ++ old) (r ∷ []) grows
        (follow-last w.size (stored w) p (stored w p) old r ((tells w shows).0 refl).1, tt)).0)

    -- a record that may not follow a tail may not join in the first world once the tail is stored
    pub joins-not : IsTrue (is_node w.size.n p) → TellsTail group p (old ++ r ∷ []) false
        → MayJoin v.size (stored (world_then w p v)) p (stored (world_then w p v) p) r → ⊥
    joins-not is tells join =
        false≢true ((tells w shows).1
        (is, follow-push w.size (stored w) p (stored w p) old r once.may last))
      where
        images : ℕ → List Entry
        images = stored (world_then w p v)

        last : MayJoin w.size (stored w) p (stored w p ++ old) r
        last =
            join-moves w.size images (stored w) p (stored w p ++ old) r
            (λ q apart. ap (λ (n : Node). n.records)
            (cond-false (q == p) (v.node p) (w.node q) (ne_eqb q p apart)))
            (subst (λ (rs : List Entry). MayJoin w.size images p rs r)
            (ap (λ (n : Node). n.records) (updated-at w.node p (v.node p)) ∙ once.behind)
            (subst (λ (l : Limits). MayJoin l images p (images p) r) once.size join))

  -- ---- the first world with node p's part of the second one keeps the rules

  -- node p's part is that of the second world
  pub then-here : (world_then w p v).node p ≡ v.node p
  then-here = updated-at w.node p (v.node p)

  -- its source has not changed
  pub then-elsewhere : (q : ℕ) → q ≢ p → stored (world_then w p v) q ≡ stored w q
  then-elsewhere q apart =
      ap (λ (n : Node). n.records)
      (cond-false (q == p) (v.node p) (w.node q) (ne_eqb q p apart))

  module _ (before : NodesKept w) (kept : NodesKept v) where
    abbrev images : ℕ → List Entry
    images = stored (world_then w p v)

    -- each of these images begins with what its node had stored
    then-begins : (q : ℕ) → Begins (stored w q) (images q)
    then-begins q = at (q == p) refl
      where
        at : (b : Bool) → (q == p) ≡ b
            → Begins (stored w q) (cond b (v.node p) (w.node q)).records
        at true e =
            subst (λ (i : ℕ). Begins (stored w i) (stored v p)) (sym (eqb-true q p e))
            (old, sym once.behind)
        at false e = begins-itself (stored w q)

    -- so no image has lost a pair
    then-grows : Grows (stored w) images
    then-grows q x m h = pair-begins (stored w q) (images q) (then-begins q) x m h

    -- node p's image is what it has stored
    image-here : images p ≡ stored v p
    image-here = ap (λ (n : Node). n.records) then-here

    -- node p's records keep the rules
    kept-here : Kept w.size images p [] (stored v p)
    kept-here =
        subst (λ (rs : List Entry). Kept w.size images p [] rs) image-here
        (ahead-kept w images then-begins p (stored w p) old
        (kept-grow w.size (stored w) images p [] (stored w p) then-grows (before p).kept) once.may
        (subst (λ (rs : List Entry). IsAhead (stored w p) old rs)
        (sym (image-here ∙ once.behind)) (whole-ahead (stored w p) old)))

    -- whoever is counted at node p has the pair in these images too
    counted-then : AcksKept images (stored v p) (v.node p).acks
    counted-then x q new counted =
        let k = (kept p).acks x q new counted in
        (k.0, k.1, at k.0 k.1 k.2 (q == p) refl)
      where
        at : (m : Content) → message_of (pend (stored v p)) x ≡ Some m
            → has_pair (pend (stored v q)) x m ≡ true → (b : Bool) → (q == p) ≡ b
            → has_pair (pend (cond b (v.node p) (w.node q)).records) x m ≡ true
        at m found h true e = has_pair-found (pend (stored v p)) x m found
        at m found h false e = once.heard x m q (eqb-false q p e) new counted h

    -- node p keeps the rules
    node-then : NodeKept w.size images p (v.node p)
    node-then =
        record {
          kept = kept-here;
          state =
              subst (λ (s : State). StateKept w.size images p (stored v p) s) (sym once.ready) tt;
          acks = counted-then;
          broadcast = (kept p).broadcast;
        }

    -- all nodes keep the rules
    pub then-kept : NodesKept (world_then w p v)
    then-kept q =
        subst (λ (l : Limits). NodeKept l images q ((world_then w p v).node q)) (sym once.size)
        (at (q == p) refl)
      where
        at : (b : Bool) → (q == p) ≡ b
            → NodeKept w.size images q (cond b (v.node p) (w.node q))
        at true e =
            subst (λ (i : ℕ). NodeKept w.size images i (v.node p)) (sym (eqb-true q p e)) node-then
        at false e = node-grows w.size (stored w) images q (w.node q) then-grows (before q)
