use Rattle.std.proofs.Common.{ap, refl, ◌∙◌}
use Rattle.std.proofs.lemmas.Result.{IfOk-weaker}
use Rattle.urb_names.specs.LabelsAndContents.{Limits}
use Rattle.urb_cluster_stop.proofs.cluster_stop.apply_and_stop.Goals as goal

pub stop_and_reopen-requires : goal.stop_and_reopen-requires
stop_and_reopen-requires g c =
    record { same = c.apply_command-reply.ensures.sized ∙ c.requires.same }

pub returns-clause-goes_on : goal.returns-clause-goes_on
returns-clause-goes_on g c =
    IfOk-weaker c.stop_and_reopen.result _ _ (λ new behind secured clean.
    behind c.args.cluster.group secured.stocked.world c.apply_command-reply.ensures.sound
    (c.apply_command-reply.ensures.counted ∙ ap (λ (size : Limits). size.n) c.requires.same)
    c.requires.same secured.stocked.shows
    (c.apply_command-reply.ensures.leaves c.apply_command-reply.new.cluster.stores refl secured)
    clean) c.stop_and_reopen.ensures.behind

pub returns-clause-secured : goal.returns-clause-secured
returns-clause-secured g c =
    IfOk-weaker c.stop_and_reopen.result _ _
    (λ new secures secured. secures (c.apply_command-reply.ensures.secured secured))
    c.stop_and_reopen.ensures.secured

pub returns-clause-done : goal.returns-clause-done
returns-clause-done g c =
    IfOk-weaker c.stop_and_reopen.result _ _ (λ new goes_on. record {
      between = c.apply_command-reply.new.cluster;
      done = c.apply_command-reply.ensures.done;
      secured = c.apply_command-reply.ensures.secured;
      goes_on = goes_on;
    }) c.stop_and_reopen.ensures.goes_on
