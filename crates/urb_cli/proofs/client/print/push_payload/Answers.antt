use Rattle.urb_cli.proofs.Common.{IsBytes, arith, rules}
use Rattle.urb_cli.proofs.PayloadDigits.{digits_of}
use Rattle.urb_cli.proofs.client.print.push_payload.Goals as goal

pub returns : goal.returns
returns c =
    let are : IsBytes c.args.payload.now = λ i. let byte = c.type_inv.payload i in omega arith in
    let digits = digits_of c.args.payload.now are in
    search rules
