use Rattle.urb_client.proofs.Common.{arith, said_by}
use Rattle.urb_client.proofs.ResponseLaws.{is_found, is_only}
use Rattle.urb_client.proofs.response_parser.parse_response.Goals as goal

pub returns-clause-found : goal.returns-clause-found
returns-clause-found g c =
    is_found said_by c.args.bytes.now c.response_of.result c.if-bytes-gt-LONGEST_FRAME.false
    (λ i. omega (arith, c.type_inv.bytes i)) c.response_of.ensures.read

pub returns-clause-only : goal.returns-clause-only
returns-clause-only g c =
    is_only said_by c.args.bytes.now c.response_of.result c.response_of.ensures.read
