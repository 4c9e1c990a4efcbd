-- A world that keeps the rules is safe, and has one message per name.
use Rattle.urb_world.proofs.Common.{Content, IsInOrder, Label, List, NodesKept, OneMessage, Option}
use Rattle.urb_world.proofs.Common.{Safe, Some, World, ap, ap₂, arith, cert, drop, has_name}
use Rattle.urb_world.proofs.Common.{has_name-part, has_pair, has_pair-found, kept-held}
use Rattle.urb_world.proofs.Common.{kept-numbered, kept-unique, length, length-row, log, map}
use Rattle.urb_world.proofs.Common.{message_of, name, no_name_twice, part-released, part_of, pend}
use Rattle.urb_world.proofs.Common.{reach, refl, reverse, row, slice_get, suc, sym, take, true}
use Rattle.urb_world.proofs.Common.{zero, ℕ, ◌+◌, ◌<◌, ◌∙◌, ◌∷◌, ◌≡◌, ◌≤◌}
use Rattle.urb_world.proofs.steps.DraftedRecords.{AllKept, agree, to_sender}
use Rattle.urb_world.proofs.steps.Runs.{all_kept}
use Rattle.urb_world.specs.World.{stored}
use Rattle.urb_names.proofs.Places.{drop_get}
use Rattle.urb_names.proofs.LogRows.{has-row}
use Rattle.urb_stable.proofs.KeptRules.{IsHeld}
use Rattle.urb_stable.proofs.LogGrowth.{logged_certified}

row_messages : (f : Label → Option Content) (s a k : ℕ) (messages : List Content)
    → ((i : ℕ) → a ≤ i → i < a + k
    → (m : Content) × (f (name s (suc i)) ≡ Some m) × (slice_get messages i ≡ Some m))
    → map f (row s (suc a) k) ≡ map Some (take k (drop a messages))
row_messages f s a zero messages h = refl
row_messages f s a (suc k) messages h =
    let first = h a (omega arith) (omega arith) in
    ap₂ (λ o os. o ∷ os) first.1 (row_messages f s (suc a) k messages
    (λ i l u. h i (omega arith) (omega arith)))
    ∙ ap (λ ms. map Some (take (suc k) ms)) (sym (drop_get messages a first.0 first.2))

module _ (w : World) (inv : NodesKept w) where
  all : AllKept w.size (stored w)
  all = all_kept w inv

  abbrev certificates : ℕ → List Label
  certificates p = reverse (cert (stored w p))

  delivered : (p : ℕ) (x : Label) → has_name (log (stored w p)) x ≡ true
      → IsHeld w.size.n (stored w) (pend (stored w p)) x
  delivered p x h =
      kept-held w.size (stored w) p (stored w p) (all p) x (logged_certified (stored w p) x h)

  -- up to where the log reaches, the name of this number has the message of that place
  at_place : (p s i : ℕ) → i < reach s (certificates p)
      → (m : Content) × (message_of (pend (stored w p)) (name s (suc i)) ≡ Some m)
      × (slice_get (w.node s).broadcast i ≡ Some m)
  at_place p s i h =
      let in_row : has_name (row s 1 (reach s (certificates p))) (name s (suc i)) ≡ true =
      has-row s 1 (reach s (certificates p)) (suc i) (omega arith) (omega arith) in
      let in_log : has_name (log (stored w p)) (name s (suc i)) ≡ true =
      sym (has_name-part s (suc i) (log (stored w p)))
      ∙ (ap (λ xs. has_name xs (name s (suc i))) (part-released s (certificates p)) ∙ in_row) in
      let held = delivered p (name s (suc i)) in_log in
      let theirs : has_pair (pend (stored w s)) (name s (suc i)) held.0 ≡ true =
      to_sender w.size (stored w) all p (name s (suc i)) held.0
      (has_pair-found (pend (stored w p)) (name s (suc i)) held.0 held.1) in (
        held.0,
        held.1,
        ap (λ ms. slice_get ms i) (inv s).broadcast
            ∙ (sym (kept-numbered w.size (stored w) s (stored w s) (all s) i)
            ∙ kept-unique w.size (stored w) s (stored w s) (all s) (name s (suc i)) held.0 theirs),
      )

  in_order : (p s : ℕ) → IsInOrder w p s
  in_order p s =
      let e : part_of s (log (stored w p)) ≡ row s 1 (reach s (certificates p)) =
      part-released s (certificates p) in
      let l : length (part_of s (log (stored w p))) ≡ reach s (certificates p) =
      ap length e ∙ length-row s 1 (reach s (certificates p)) in
      record {
        numbers = e ∙ ap (row s 1) (sym l);
        messages = ap (map (message_of (pend (stored w p)))) e
            ∙ (row_messages (message_of (pend (stored w p))) s 0 (reach s (certificates p))
            (w.node s).broadcast (λ i _ u. at_place p s i (omega arith))
            ∙ ap (λ k. map Some (take k (w.node s).broadcast)) (sym l));
      }

  -- logs are in FIFO order, without creation or duplication, and a majority holds each delivered
  -- message
  pub safe : Safe w
  safe = record {
    in_order = in_order;
    no_twice = λ p. no_name_twice (certificates p);
    uniform =
        delivered;
  }

  -- no two nodes store different messages under one name
  pub one_message : OneMessage w
  one_message = agree w.size (stored w) all
