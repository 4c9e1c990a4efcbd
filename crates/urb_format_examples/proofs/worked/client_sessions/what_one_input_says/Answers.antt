-- Two readings of one input are the same.
use Rattle.std.proofs.Common.{[], ap, arith, length, ◌∷◌, ◌≡◌}
use Rattle.urb_client.specs.declared.sessions.Ended.TheVariants.{BadFrame, Closed}
use Rattle.urb_format_examples.proofs.worked.client_sessions.what_one_input_says.Goals as goal

pub returns-clause-one_end : goal.returns-clause-one_end
returns-clause-one_end c once bytes left events others p q =
    let same : Closed ≡ BadFrame = (once bytes Closed BadFrame events others [] left p q).0 in
    absurd cc

pub returns-clause-the_same_events : goal.returns-clause-the_same_events
returns-clause-the_same_events c once bytes events others differ p q =
    differ (once bytes Closed Closed events others [] [] p q).1

pub returns-clause-the_same_rest : goal.returns-clause-the_same_rest
returns-clause-the_same_rest c once bytes events p q =
    omega (arith, ap length (once bytes BadFrame BadFrame events events [] (1 ∷ []) p q).2)
