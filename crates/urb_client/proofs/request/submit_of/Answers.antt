use Rattle.urb_client.proofs.Common.{err_from_is_err_and, inr, refl, rules}
use Rattle.urb_client.proofs.RequestLaws.{is_submit}
use Rattle.urb_client.proofs.request.submit_of.Goals as goal

pub returns-in_err-copied : goal.returns-in_err-copied
returns-in_err-copied g c =
    let p = err_from_is_err_and c.from_residual.result c.from_residual.ensures.1 in
    rw (p.1, p.2) (inr (
      refl,
      is_submit _ c.if-fields-lt-SUBMIT_HEAD.false
          (rw (← c.read_u16.ensures) (search rules)),
    ))
