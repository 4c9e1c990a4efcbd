use Rattle.urb_stubborn.proofs.Common.{Some, behind, due_pairs, false, first_name, is_within, sym}
use Rattle.urb_stubborn.proofs.Common.{◌∙◌, ◌≡◌}
use Rattle.urb_stubborn.proofs.PairsAfterCursor.{Pairs}
use Rattle.urb_stubborn.proofs.PairRanges.{rising_kept, within_over}
use Rattle.urb_stubborn.proofs.resend.Resend.next_within.Goals as goal

pub returns-else-is_within : goal.returns-else-is_within
returns-else-is_within g c =
    let due : Pairs = due_pairs c.args.self.now c.args.pending.now.pairs in
    let first : first_name (behind c.args.from due) ≡ Some c.in_ok-name.name =
    sym c.next_due.ensures ∙ c.in_ok-name.was in
    let over : is_within c.args.last.now c.in_ok-name.name ≡ false =
    sym c.is_within.ensures ∙ c.if-is_within.false in
    sym (within_over c.args.last.now (behind c.args.from due) c.in_ok-name.name
    (rising_kept _ due (rising_kept _ c.args.pending.now.pairs c.recall.ensures.rising))
    first over)
