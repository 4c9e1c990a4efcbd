use Rattle.std.proofs.Common.{inl, refl}
use Rattle.std.proofs.lemmas.Result.{IfErr-weaker, err_from_is_err_and}
use Rattle.urb_client.specs.Responses.{said_by}
use Rattle.urb_cli.proofs.FollowedPages.{stops_unprinted}
use Rattle.urb_cli.proofs.client.follow.take_turn.Goals as goal

pub returns-in_err-response-clause-err : goal.returns-in_err-response-clause-err
returns-in_err-response-clause-err g c =
    let p = err_from_is_err_and c.from_residual.result c.from_residual.ensures.1 in
    let given_up = c.in_err-response.ensures.err in
    rw (p.1, p.2) (inl (given_up.0, _, given_up.1, refl, inl given_up.2, refl))

pub returns-clause-err : goal.returns-clause-err
returns-clause-err g c =
    IfErr-weaker c.print_response.result _ _
    (λ why unprinted. stops_unprinted g.C.Caller.calls _ (said_by c.in_ok-response.response) why _ _
    c.in_ok-response.ensures.answer unprinted) c.print_response.ensures.err
