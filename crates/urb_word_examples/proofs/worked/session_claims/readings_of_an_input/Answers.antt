-- Readings of one input, in another order.
use Rattle.std.proofs.Common.{◌≡◌}
use Rattle.urb_client.specs.declared.sessions.Ended.TheVariants.{BadFrame, Closed}
use Rattle.urb_word_examples.proofs.worked.session_claims.readings_of_an_input.Goals as goal

pub returns-clause-all_the_same : goal.returns-clause-all_the_same
returns-clause-all_the_same c same input ended other events others left rest p q =
    same input ended events left p other others rest q

pub returns-clause-not_with_two_ends : goal.returns-clause-not_with_two_ends
returns-clause-not_with_two_ends c once input events others left rest p q =
    let same : Closed ≡ BadFrame = (once input Closed BadFrame events others left rest p q).0 in
    absurd (cc)
