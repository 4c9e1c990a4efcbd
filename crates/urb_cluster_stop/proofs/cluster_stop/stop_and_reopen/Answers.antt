use Rattle.std.proofs.Common.{List, Some, ap, slice_get, subst, ◌∙◌, ◌≡◌}
use Rattle.std.proofs.lemmas.Result.{IfOk-weaker}
use Rattle.urb_names.specs.LabelsAndContents.{Limits}
use Rattle.urb_cluster_stop.proofs.cluster_stop.stop_and_reopen.Goals as goal

pub stop_and_open_all-requires : goal.stop_and_open_all-requires
stop_and_open_all-requires g c =
    record {
      counted = c.into_stores.ensures.counted
          ∙ ap (λ (size : Limits). size.n) c.requires.same;
    }

pub returns-clause-goes_on : goal.returns-clause-goes_on
returns-clause-goes_on g c =
    IfOk-weaker c.stop_and_open_all.result _ _ (λ new goes_on secured clean.
    goes_on c.args.cluster.group secured.stocked.world c.recall_rest.ensures.sound
    (c.recall_rest.ensures.counted ∙ ap (λ (size : Limits). size.n) c.requires.same)
    c.requires.same secured.stocked.shows
    (c.recall_rest.ensures.leaves c.into_stores.result.items c.into_stores.ensures.value secured)
    clean) c.stop_and_open_all.ensures.goes_on

pub returns-clause-secured : goal.returns-clause-secured
returns-clause-secured g c =
    IfOk-weaker c.stop_and_open_all.result _ _
    (λ new secures secured. secures secured.stocked.world
    (c.recall_rest.ensures.leaves c.into_stores.result.items c.into_stores.ensures.value secured))
    c.stop_and_open_all.ensures.secured

pub returns-clause-behind : goal.returns-clause-behind
returns-clause-behind g c =
    IfOk-weaker c.stop_and_open_all.result _ _ (λ new goes_on old w sound counted size shows would.
    goes_on old w sound counted size shows
    (λ i store got. would i store
    (subst (λ (xs : List _). slice_get xs i ≡ Some store) c.into_stores.ensures.value got)))
    c.stop_and_open_all.ensures.goes_on
