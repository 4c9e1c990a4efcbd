use Rattle.std.proofs.Common.{◌≡◌, ◌<◌, ◌≤◌, ◌==◌, rules, ap, sym, ◌∙◌, length, get_or}
use Rattle.urb_window.proofs.BinarySearches.{holds_beyond, holds_there}
use Rattle.urb_window.proofs.upper.is_at.Goals as goal

pub returns-in-Some : goal.returns-in-Some
returns-in-Some g c =
    let pairs = c.args.above.now.items in
    let pair = c.in-Some.pair.now in
    let within : c.args.place < length pairs = search rules in
    let read : pair ≡ get_or pairs c.args.place pair = search rules in
    ap (λ p. p.0 == c.args.number) read
    ∙ sym (holds_there pairs c.args.place c.args.number pair within)

pub returns-in-None : goal.returns-in-None
returns-in-None g c =
    let pairs = c.args.above.now.items in
    let beyond : length pairs ≤ c.args.place = search rules in
    sym (holds_beyond pairs c.args.place c.args.number beyond)
