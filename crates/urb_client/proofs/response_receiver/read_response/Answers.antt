use Rattle.std.proofs.Common.{◌∙◌}
use Rattle.urb_client.proofs.ReceivedFrames.{no_response, another_frame}
use Rattle.urb_client.proofs.response_receiver.read_response.Goals as goal

pub returns-in_default-clause-none : goal.returns-in_default-clause-none
returns-in_default-clause-none g c =
    λ same. no_response (g.R.Read.remaining c.args.reader.now)
    (rw c.in_default.is at c.in_ok-body.ensures.none)

pub returns-clause-none : goal.returns-clause-none
returns-clause-none g c =
    let whole = rw c.in-Some.is at c.in_ok-body.ensures.whole in
    let short = rw c.in-Some.is at c.in_ok-body.ensures.short in
    let only = rw c.in-None.is at c.in_ok-response.ensures.only in
    λ same. another_frame (g.R.Read.remaining c.args.reader.now) _ _ whole short
    (λ said is spelled. let found = only said is (c.as_slice.ensures.value ∙ spelled) in absurd cc)
