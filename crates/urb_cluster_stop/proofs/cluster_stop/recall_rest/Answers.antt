use Rattle.std.proofs.Common.{Some, subst, ◌≡◌}
use Rattle.std.specs.Prelude.{slice_get}
use Rattle.urb_cluster_stop.proofs.cluster_stop.recall_rest.Goals as goal

pub returns-clause-leaves : goal.returns-clause-leaves
returns-clause-leaves g c stores same secured i store got =
    (secured.lasting i store (subst (λ xs. slice_get xs i ≡ Some store) same got)).left
