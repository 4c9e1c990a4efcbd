use Rattle.urb_stubborn.proofs.Common.{IsPassed, None, Some, ap, behind, first_name, is_due, sym}
use Rattle.urb_stubborn.proofs.Common.{true, ◌∙◌, ◌≡◌}
use Rattle.urb_stubborn.proofs.PairsAfterCursor.{first_due, none_due, passed_fewer, passed_same}
use Rattle.urb_stubborn.proofs.resend.Resend.next_due.Goals as goal

pub loop-name-preserved : goal.loop-name-preserved
loop-name-preserved g c =
    let r = c.args.self.now in
    let pairs = c.args.pending.now.pairs in
    let first : first_name (behind c.loop-name.at pairs) ≡ Some c.in-Some.name =
    sym c.behind.ensures ∙ c.in-Some.is in
    let passed : IsPassed r c.in-Some.name c.in-Some-skip_past.end =
    c.in-Some-skip_past.ensures.passed in
    passed_same r c.loop-name.at pairs c.in-Some.name c.in-Some-skip_past.end
    c.recall.ensures.rising first passed ∙ c.loop-name.invariant

pub loop-name-smaller : goal.loop-name-smaller
loop-name-smaller g c =
    let r = c.args.self.now in
    let pairs = c.args.pending.now.pairs in
    let first : first_name (behind c.loop-name.at pairs) ≡ Some c.in-Some.name =
    sym c.behind.ensures ∙ c.in-Some.is in
    let passed : IsPassed r c.in-Some.name c.in-Some-skip_past.end =
    c.in-Some-skip_past.ensures.passed in
    passed_fewer r c.loop-name.at pairs c.in-Some.name c.in-Some-skip_past.end first passed

pub returns-in-None : goal.returns-in-None
returns-in-None g c =
    let r = c.args.self.now in
    let pairs = c.args.pending.now.pairs in
    let first : first_name (behind c.loop-name.at pairs) ≡ Some c.in-Some.name =
    sym c.behind.ensures ∙ c.in-Some.is in
    let due : is_due r.limits.n r.node r.heard c.in-Some.name ≡ true = c.in-None.ensures.due in
    sym (first_due r c.loop-name.at pairs c.in-Some.name first due)
    ∙ ap first_name c.loop-name.invariant

pub returns : goal.returns
returns g c =
    let r = c.args.self.now in
    let pairs = c.args.pending.now.pairs in
    let none : first_name (behind c.loop-name.at pairs) ≡ None =
    sym c.behind.ensures ∙ c.in_default.is in
    sym (none_due r c.loop-name.at pairs none) ∙ ap first_name c.loop-name.invariant
