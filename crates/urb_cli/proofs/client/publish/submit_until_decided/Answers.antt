use Rattle.urb_cli.proofs.Common.{err_from_is_err_and, inl, refl}
use Rattle.urb_cli.proofs.client.publish.submit_until_decided.Goals as goal

pub returns-in_err-ask_to_decide-clause-err : goal.returns-in_err-ask_to_decide-clause-err
returns-in_err-ask_to_decide-clause-err g c =
    let p =
    err_from_is_err_and c.from_residual-in_err-ask_to_decide.result
    c.from_residual-in_err-ask_to_decide.ensures.1 in
    let broken = rw c.in_ok-request.ensures.asked at c.in_err-ask_to_decide.ensures.err in
    rw (p.1, p.2) (inl (_, refl, broken))
