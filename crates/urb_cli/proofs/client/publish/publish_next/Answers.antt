use Rattle.urb_cli.proofs.Common.{err_from_is_err_and, inl, refl, rules}
use Rattle.urb_cli.proofs.client.publish.publish_next.Goals as goal

pub returns-in_err-next_text-clause-err : goal.returns-in_err-next_text-clause-err
returns-in_err-next_text-clause-err g c =
    let p = err_from_is_err_and c.from_residual.result c.from_residual.ensures.1 in
    rw (p.1, p.2) (inl (c.in_err-next_text.field-0.0, refl, refl, refl))

pub returns-in-Accepted-clause-ok : goal.returns-in-Accepted-clause-ok
returns-in-Accepted-clause-ok g c = (
  (c.next_text.new.text.items, c.in-Accepted.seq),
  (search rules, search rules, refl, search rules),
)
