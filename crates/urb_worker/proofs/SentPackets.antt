-- The packets that a worker sends, one after the other.
use Rattle.std.proofs.Common.{List, None, Some, [], ap, length, refl, slice_get}
use Rattle.std.proofs.Common.{add-one, subst, suc, sym, take, zero, ℕ, ◌++◌, ◌+◌, ◌∙◌, ◌∷◌, ◌≡◌}
use Rattle.std.proofs.Math.Seq.{take-length}
use Rattle.urb_node.proofs.ImagePairs.{take_get}
use Rattle.urb_names.specs.CarriedPackets.{Carried}
use Rattle.urb_worker.specs.Acts.{Act, MaySend, Sends}

-- nothing is sent if there is nothing to send
pub sends_nothing : (acts : List Act) (packets : List Carried) → packets ≡ []
    → Sends acts packets acts
sends_nothing acts packets none = rw none refl

-- no packet was sent yet
pub sends_none : (acts : List Act) (packets : List Carried) → Sends acts (take 0 packets) acts
sends_none acts packets = refl

one_more : (before : List Act) (packets : List Carried) (between : List Act) (packet : Carried)
    (after : List Act) → Sends before packets between → MaySend between packet after
    → Sends before (packets ++ packet ∷ []) after
one_more before [] between packet after so_far last =
    (after, subst (λ (acts : List Act). MaySend acts packet after) so_far last, refl)
one_more before (first ∷ packets) between packet after so_far last =
    (so_far.0, so_far.1, one_more so_far.0 packets between packet after so_far.2 last)

-- one packet more was sent
pub sends_next : (before between after : List Act) (packets : List Carried) (i : ℕ)
    (packet : Carried) → slice_get packets i ≡ Some packet → Sends before (take i packets) between
    → MaySend between packet after → Sends before (take (i + 1) packets) after
sends_next before between after packets i packet got so_far last =
    subst (λ (some : List Carried). Sends before some after)
    (sym (ap (λ j. take j packets) (add-one i) ∙ take_get packets i packet got))
    (one_more before (take i packets) between packet after so_far last)

no_more : (packets : List Carried) (i : ℕ) → slice_get packets i ≡ None
    → take (suc i) packets ≡ take i packets
no_more [] zero none = refl
no_more [] (suc i) none = refl
no_more (packet ∷ packets) zero none = cc
no_more (packet ∷ packets) (suc i) none = ap (λ more. packet ∷ more) (no_more packets i none)

-- there is no packet at this place
pub sends_past : (before after : List Act) (packets : List Carried) (i : ℕ)
    → slice_get packets i ≡ None → Sends before (take i packets) after
    → Sends before (take (i + 1) packets) after
sends_past before after packets i none so_far =
    subst (λ (some : List Carried). Sends before some after)
    (sym (ap (λ j. take j packets) (add-one i) ∙ no_more packets i none)) so_far

-- all packets were sent
pub sends_all : (before after : List Act) (packets : List Carried) (n : ℕ) → n ≡ length packets
    → Sends before (take n packets) after → Sends before packets after
sends_all before after packets n whole so_far =
    subst (λ (some : List Carried). Sends before some after)
    (ap (λ j. take j packets) whole ∙ take-length packets) so_far
