use Rattle.std.proofs.Common.{arith}
use Rattle.urb_client.specs.Requests.{asked_by}
use Rattle.urb_client.proofs.RequestLaws.{is_found}
use Rattle.urb_client.proofs.request.parse_request.Goals as goal

pub returns-clause-found : goal.returns-clause-found
returns-clause-found g c =
    is_found asked_by c.args.bytes.now c.parse_by_opcode.result
    (λ i. omega (arith, c.type_inv.bytes i)) c.parse_by_opcode.ensures
