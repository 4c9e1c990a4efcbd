-- Nothing is certified, or the one node of the group holds what is.
use Rattle.std.proofs.Common.{Bool, [], if◌then◌else◌, refl, subst, suc, sym, true, zero, ◌+◌, ◌≡◌}
use Rattle.std.proofs.lemmas.Bool.{false≢true}
use Rattle.urb_names.specs.Nodes.{is_majority}
use Rattle.urb_world.proofs.worked.exemptions.what_needs_no_majority.Goals as goal

pub returns-clause-a_pending_pair : goal.returns-clause-a_pending_pair
returns-clause-a_pending_pair c zero x m pair certified = absurd (false≢true pair)
returns-clause-a_pending_pair c (suc zero) x m pair certified = absurd (false≢true certified)
returns-clause-a_pending_pair c (suc (suc p)) x m pair certified = absurd (false≢true pair)

pub returns-clause-another_message : goal.returns-clause-another_message
returns-clause-another_message c zero x m pair certified = absurd (false≢true pair)
returns-clause-another_message c (suc zero) x m pair certified =
    subst (λ (b : Bool). is_majority (0 + (if b then 1 else 0)) 1 ≡ true) (sym pair) refl
returns-clause-another_message c (suc (suc p)) x m pair certified = absurd (false≢true pair)
