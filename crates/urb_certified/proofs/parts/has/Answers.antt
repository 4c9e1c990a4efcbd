use Rattle.urb_certified.proofs.Common.{le-leb, low_of, rules, sym, ◌<◌, ◌∙◌, ◌≤◌}
use Rattle.urb_certified.proofs.PartMembers.{all_low, upper_only}
use Rattle.urb_certified.proofs.parts.has.Goals as goal

pub returns-then-name-low_of : goal.returns-then-name-low_of
returns-then-name-low_of c =
    let x = c.args.name in
    let within : x.seq ≤ low_of c.args.low.now x.sender = search rules in
    let label = c.recall.ensures in
    le-leb _ _ c.if-name-low_of.true
    ∙ sym (all_low c.args.low.now c.args.above.now x
    (record { sender = label.sender.0; seq = label.seq.0; low = within }))

pub returns-else-name-low_of : goal.returns-else-name-low_of
returns-else-name-low_of c =
    let x = c.args.name in
    let beyond : low_of c.args.low.now x.sender < x.seq = search rules in
    c.holds.ensures ∙ upper_only c.args.low.now c.args.above.now x beyond
