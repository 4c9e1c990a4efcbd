use Rattle.std.proofs.Common.{inl, refl, rules}
use Rattle.std.proofs.lemmas.Result.{IfOk-weaker, err_from_is_err_and}
use Rattle.urb_cli.proofs.client.publish.publish_over.Goals as goal

pub returns-in_err-first-clause-broken : goal.returns-in_err-first-clause-broken
returns-in_err-first-clause-broken g c =
    let p = err_from_is_err_and c.from_residual.result c.from_residual.ensures.1 in
    rw (p.1, p.2) (inl (inl c.in_err-first.ensures.err, refl))

pub returns-in-Refused-eq7-default-clause-ended : goal.returns-in-Refused-eq7-default-clause-ended
returns-in-Refused-eq7-default-clause-ended g c =
    IfOk-weaker c.publish_from.result _ _
    (λ ended goes. inl (record {
      first = c.in-Refused-eq7-default.first;
      asked = c.submit_until_decided.new.caller;
      done = goes.0;
      last = goes.1;
      asks = search rules;
      published = goes.2;
      ends_so = goes.3;
    })) c.publish_from.ensures.ok
