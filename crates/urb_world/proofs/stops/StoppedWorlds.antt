-- What a stop leaves of a world that keeps the rules fits together, and opens a group that goes on
-- from it.
use Rattle.urb_world.proofs.Common.{Accepted, Begins, Bool, Content, Down, Entry, GoesOnUnder}
use Rattle.urb_world.proofs.Common.{Grows, IsEither, IsKept, Kept, Label, Limits, List, MAX_PAYLOAD}
use Rattle.urb_world.proofs.Common.{MayJoin, MayLeave, Node, NodesKept, None, Ready, Reply, Same}
use Rattle.urb_world.proofs.Common.{Some, State, StateKept, Storing, Submit, SurvivesStop, World}
use Rattle.urb_world.proofs.Common.{[], and_from, and_parts, ap, ap₂, arith, bytes_eq, cond}
use Rattle.urb_world.proofs.Common.{cond-false, cond-true, contents-either, doubt, eq-eqb, eqb-true}
use Rattle.urb_world.proofs.Common.{false, find, has_pair, has_pair-left, inl, inr, is_node}
use Rattle.urb_world.proofs.Common.{is_numbered, kept-numbered, kept-push, kept-unique, le-ltb}
use Rattle.urb_world.proofs.Common.{length, lt-ltb, ltb-true, message_of, name, nat_lt, opened}
use Rattle.urb_world.proofs.Common.{opened_node, own, own_number, pend, pend-append}
use Rattle.urb_world.proofs.Common.{position_or_len, refl, rules-grow, slice_get, step, subst, suc}
use Rattle.urb_world.proofs.Common.{sym, true, updated, ℕ, ◌++◌, ◌<◌, ◌==◌, ◌∙◌, ◌∷◌, ◌≡◌, ◌≤◌}
use Rattle.std.proofs.lemmas.Slice.Eq.{bytes_eq-Decides}
use Rattle.urb_world.proofs.safety.AgreeingLogs.{entries-begin}
use Rattle.urb_world.proofs.safety.SafeWorlds.{safe}
use Rattle.urb_world.proofs.steps.DraftedRecords.{AllKept}
use Rattle.urb_world.proofs.steps.Growth.{begins-itself, begins-push, log-begins, pair-begins}
use Rattle.urb_world.proofs.steps.Runs.{kept-fits}
use Rattle.urb_world.specs.World.{stored}
use Rattle.urb_names.proofs.ClientNumbers.{Numbers}
use Rattle.urb_node.specs.Steps.{submits_by_number}
use Rattle.urb_stable.proofs.KeptRules.{kept-grow}
use Rattle.urb_stable.proofs.OwnRules.{kept-numbers}

-- whatever a stop leaves of a world that meets the rules meets them
pub left-kept : (w : World) (inv : NodesKept w) (images : ℕ → List Entry)
    → ((p : ℕ) → MayLeave (w.node p) (images p)) → AllKept w.size images
left-kept w inv images left p =
    go (contents-either (stored w p) (doubt (w.node p).state) (images p) (left p))
  where
    grows : Grows (stored w) images
    grows q x m h = at (contents-either (stored w q) (doubt (w.node q).state) (images q) (left q))
      where
        at : IsEither (stored w q) (doubt (w.node q).state) (images q)
            → has_pair (pend (images q)) x m ≡ true
        at (inl e) = subst (λ (rs : List Entry). has_pair (pend rs) x m ≡ true) (sym e) h
        at (inr e) = subst (λ (rs : List Entry). has_pair (pend rs) x m ≡ true) (sym e.2)
            (subst (λ (ps : List (Label × Content)). has_pair ps x m ≡ true)
            (sym (pend-append (stored w q) (e.0 ∷ [])))
            (has_pair-left (pend (stored w q)) (pend (e.0 ∷ [])) x m h))

    may_join : (s : State) (r : Entry) → StateKept w.size (stored w) p (stored w p) s
        → doubt s ≡ Some r → MayJoin w.size (stored w) p (stored w p) r
    may_join Ready r k e = cc
    may_join (Storing entry cause) r k e =
        let f : entry ≡ r = cc in subst
        (λ (t : Entry). MayJoin w.size (stored w) p (stored w p) t) f k.0
    may_join (Down None) r k e = cc
    may_join (Down (Some entry)) r k e =
        let f : entry ≡ r = cc in subst
        (λ (t : Entry). MayJoin w.size (stored w) p (stored w p) t) f k

    with_joined : (r : Entry) → images p ≡ stored w p ++ r ∷ []
        → Grows (updated (stored w) p (stored w p ++ r ∷ [])) images
    with_joined r e q x m = at (q == p) refl
      where
        at : (b : Bool) → (q == p) ≡ b
            → has_pair (pend (cond b (stored w p ++ r ∷ []) (stored w q))) x m ≡ true
            → has_pair (pend (images q)) x m ≡ true
        at true f h =
            subst (λ (rs : List Entry). has_pair (pend rs) x m ≡ true)
            (sym (ap images (eqb-true q p f) ∙ e)) h
        at false f h = grows q x m h

    go : IsEither (stored w p) (doubt (w.node p).state) (images p)
        → Kept w.size images p [] (images p)
    go (inl e) =
        subst (λ (rs : List Entry). Kept w.size images p [] rs) (sym e)
        (kept-grow w.size (stored w) images p [] (stored w p) grows (inv p).kept)
    go (inr e) =
        subst (λ (rs : List Entry). Kept w.size images p [] rs) (sym e.2)
        (kept-push w.size images p [] (stored w p) e.0
        (kept-grow w.size (stored w) images p [] (stored w p) grows (inv p).kept)
        (rules-grow w.size (updated (stored w) p (stored w p ++ e.0 ∷ [])) images p (stored w p) e.0
        (with_joined e.0 e.2) (may_join (w.node p).state e.0 (inv p).state e.1)))

-- ---- a repeated submit

-- the place of an own pair
own_place : (ms : List Content) (i : ℕ) (m : Content) → slice_get ms i ≡ Some m → Numbers ms
    → (p : ℕ) (size : Limits) (node : Node) → node.broadcast ≡ ms
    → (submits_by_number size p m (find (is_numbered m.client m.number) node.broadcast) node).0
    ≡ Same (Accepted (name p (suc i)))
own_place ms i m e n p size node b =
    let f = n.found i m e in
    ap (λ o. (submits_by_number size p m o node).0)
    (ap (find (is_numbered m.client m.number)) b ∙ f.0)
    ∙ (ap (λ (o : Reply × Node). o.0)
    (cond-true (bytes_eq m.payload m.payload) _ _
    ((bytes_eq-Decides m.payload m.payload).1 refl))
    ∙ ap (λ (k : ℕ). Same (Accepted (name p (suc k))))
    (ap (position_or_len (is_numbered m.client m.number)) b ∙ f.1))

-- a repeat of a message that its node's image holds is accepted under its name
pub accepted-again : (size : Limits) (images : ℕ → List Entry) → AllKept size images
    → (p : ℕ) (x : Label) (m : Content) → is_node size.n p ≡ true → x.sender ≡ p
    → length m.payload ≤ MAX_PAYLOAD
    → has_pair (pend (images p)) x m ≡ true
    → (step (opened size images) (Submit p m)).0 ≡ Same (Accepted x)
unfolding step
accepted-again size images all p x m is e short h =
    ap (λ (o : Reply × World). o.0) (cond-true (is_node size.n p) _ _ is)
    ∙ (ap (λ (o : Reply × Node). o.0)
    (cond-false (nat_lt MAX_PAYLOAD (length m.payload)) _ _
    (le-ltb MAX_PAYLOAD (length m.payload) short))
    ∙ (own_place (own p (pend (images p))) at.0 m found
    (kept-numbers size images p (images p) (all p)) p size (opened_node p (images p)) refl
    ∙ ap (λ y. Same (Accepted y)) (sym same)))
  where
    at : (i : ℕ) × (x.seq ≡ suc i)
    at = own_number size images p (images p) (all p) x m h (eq-eqb x.sender p e)

    same : x ≡ name p (suc at.0)
    same = ap₂ name e at.1

    found : slice_get (own p (pend (images p))) at.0 ≡ Some m
    found =
        sym (kept-numbered size images p (images p) (all p) at.0)
        ∙ (ap (message_of (pend (images p))) (sym same)
        ∙ kept-unique size images p (images p) (all p) x m h)

left-begins : (node : Node) (image : List Entry) → IsEither node.records (doubt node.state) image
    → Begins node.records image
left-begins node image (inl e) =
    subst (λ (rs : List Entry). Begins node.records rs) (sym e) (begins-itself node.records)
left-begins node image (inr e) =
    subst (λ (rs : List Entry). Begins node.records rs) (sym e.2) (begins-push node.records e.0)

left-records : (w : World) (images : ℕ → List Entry)
    → ((p : ℕ) → MayLeave (w.node p) (images p)) → (p : ℕ) → Begins (stored w p) (images p)
left-records w images left p =
    left-begins (w.node p) (images p)
    (contents-either (stored w p) (doubt (w.node p).state) (images p) (left p))

-- whatever a stop leaves goes on under limits whose rules it keeps, if no node is missing
pub goes-on-under : (w : World) → IsKept w → (size : Limits) → w.size.n ≤ size.n
    → (images : ℕ → List Entry) → ((p : ℕ) → MayLeave (w.node p) (images p))
    → AllKept size images → GoesOnUnder size w images
goes-on-under w kept size more images left all =
    record {
      fits = kept-fits size images all;
      delivered = λ p. log-begins (stored w p) (images p) (begins p);
      entries = λ p. entries-begin w (safe w kept.nodes) p (images p) (begins p);
      again =
          λ p x m is e h. accepted-again size images all p x m (still p is) e
          ((kept.short p).stored x m h) (pair-begins (stored w p) (images p) (begins p) x m h);
    }
  where
    begins : (p : ℕ) → Begins (stored w p) (images p)
    begins = left-records w images left

    still : (p : ℕ) → is_node w.size.n p ≡ true → is_node size.n p ≡ true
    still p is =
        let parts = and_parts (nat_lt 0 p) (nat_lt p (suc w.size.n)) is in
        let low : p < suc w.size.n = ltb-true p (suc w.size.n) parts.1 in
        and_from (nat_lt 0 p) (nat_lt p (suc size.n)) parts.0
        (lt-ltb p (suc size.n) (omega (arith, low, more)))

-- whatever a stop leaves of a world that keeps the rules opens a group that goes on from it
pub survives : (w : World) → IsKept w → SurvivesStop w
survives w kept images left =
    goes-on-under w kept w.size (omega arith) images left (left-kept w kept.nodes images left)
