use Rattle.urb_window.proofs.Common.{MAX_NODES, acked, ap, arith, count_by, has_bit, marks_in}
use Rattle.urb_window.proofs.Common.{mask_of, nodes, sym, ℕ, ◌∙◌, ◌≡◌, ◌≤◌}
use Rattle.urb_window.proofs.NodeCounts.{count_alike}
use Rattle.urb_window.proofs.MaskPairs.{acked_bit}
use Rattle.urb_window.proofs.marks.count_of.Goals as goal

pub returns-clause-count : goal.returns-clause-count
returns-clause-count g c =
    let entries = c.args.masks.now.entries in
    let x = c.args.name in
    let few : c.args.n ≤ MAX_NODES = c.requires in
    let alike : count_by (has_bit (mask_of entries x)) (nodes c.args.n) ≡ count_by
    (acked (marks_in entries) x) (nodes c.args.n) =
    count_alike (has_bit (mask_of entries x)) (acked (marks_in entries) x) 1 c.args.n
    (λ q l u. sym (acked_bit entries x q c.recall.ensures.rising (omega arith) (omega arith)))
    in
    c.bits_up_to.ensures.count ∙ (ap
    (λ (m : ℕ). count_by (has_bit m) (nodes c.args.n)) c.mask_of.ensures ∙ alike)
