-- Outcomes of one script, in another order.
use Rattle.urb_word_examples.proofs.worked.script_claims.laws_of_answered_scripts.Goals as goal

pub returns-clause-one_outcome : goal.returns-clause-one_outcome
returns-clause-one_outcome c same input ended other unread left before after later p q =
    same input before ended unread after p other left later q
