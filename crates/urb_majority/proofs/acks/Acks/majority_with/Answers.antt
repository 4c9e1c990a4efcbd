use Rattle.std.proofs.Common.{rules, sym, ◌≡◌, ◌<◌, ◌≤◌, ◌+◌, ◌∙◌, false, count_by}
use Rattle.urb_names.specs.Acknowledgements.{acked}
use Rattle.urb_names.specs.Nodes.{is_majority, nodes}
use Rattle.urb_majority.proofs.Majorities.{with_new, with_other}
use Rattle.urb_majority.proofs.acks.Acks.majority_with.Goals as goal

pub returns-else-has : goal.returns-else-has
returns-else-has g c =
    let set = c.args.self.now in
    let none : acked set.counted c.args.name c.args.node ≡ false = search rules in
    let within : c.args.node ≤ set.limits.n = search rules in
    let counts : c.is_majority.result ≡ is_majority
    (count_by (acked set.counted c.args.name) (nodes set.limits.n) + 1) set.limits.n =
    search rules in
    counts ∙ sym (with_new set c.args.name c.args.node c.number.ensures.range.0 within none)

pub returns-then-number-n : goal.returns-then-number-n
returns-then-number-n g c =
    let over : c.args.self.now.limits.n < c.args.node = search rules in
    c.has_majority.ensures ∙ sym (with_other c.args.self.now c.args.name c.args.node over)
