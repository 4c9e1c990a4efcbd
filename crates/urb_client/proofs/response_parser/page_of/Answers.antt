use Rattle.std.proofs.Common.{◌≡◌, arith, sym, ap, length, rules}
use Rattle.urb_client.proofs.ResponseParts.{byte_takes}
use Rattle.urb_client.proofs.ResponseLaws.{entries_length}
use Rattle.urb_client.proofs.response_parser.page_of.Goals as goal

pub of-requires-clause-room : goal.of-requires-clause-room
of-requires-clause-room g c =
    let first =
    byte_takes c.args.fields.now (c.in-Some.count, c.in-Some.rest.now)
    (λ i. omega (arith, c.type_inv.fields i)) (sym c.in-Some.ensures) in
    let read = rw c.in-Some-2.is at c.in_ok-entries.ensures.read in
    let none : length c.in-Some-2.rest.now ≡ 0 = search rules in
    let long =
    entries_length c.in-Some.count c.in-Some.rest.now
    (c.in-Some-2.entries.items, c.in-Some-2.rest.now) first.0.rest_fits (sym read) none in
    omega (arith, long, ap length first.0.parts, c.requires)
