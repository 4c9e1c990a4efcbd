use Rattle.std.proofs.Common.{ap, arith, inl, refl, suc, sym, ◌∙◌}
use Rattle.std.proofs.lemmas.List.Elements.{All-from_recursion}
use Rattle.std.proofs.lemmas.Result.{IfOk-weaker}
use Rattle.sqlite.specs.Files.{file_state}
use Rattle.urb_names.specs.LabelsAndContents.{Limits}
use Rattle.urb_sqlite.proofs.JournalStops.{both_ok}
use Rattle.urb_cluster_stop.proofs.JournalsReopened.{all_genuine, all_hold, same_count}
use Rattle.urb_cluster_stop.proofs.cluster_stop.stop_and_open_all.Goals as goal

pub open_cluster-requires : goal.open_cluster-requires
open_cluster-requires g c = record {
  counted =
      same_count c.args.journals.items c.in-Ok.again.items (λ j. file_state j.conn) c.in-Ok.ensures
      ∙ c.requires.counted;
}

pub returns-in-Ok-clause-goes_on : goal.returns-in-Ok-clause-goes_on
returns-in-Ok-clause-goes_on g c =
    IfOk-weaker c.open_cluster.result _ _ (λ new it old w sound counted size shows would clean. (
      c.in-Ok.again.items,
      it.0 old w (record {
        sound = sound;
        counted = counted ∙ sym (ap (λ (limits : Limits). limits.n) size);
        nodes = let most = ap (λ (limits : Limits). limits.n) size in omega (arith, most);
        shown = w;
        shows = shows;
        stands = record { size = refl; nodes = λ p. inl refl };
        holds =
            all_hold c.args.journals.items c.in-Ok.again.items (λ j. file_state j.conn)
            (λ i. w.node (suc i)) c.in-Ok.ensures
            (λ i store got clean. let of = would i store got clean in
            (of.certain, of.doubtful, of.only, of.may));
      })
          (it.1 (All-from_recursion _ _
          (all_genuine c.args.journals.items c.in-Ok.again.items (λ j. file_state j.conn)
          (λ i. w.node (suc i)) c.in-Ok.ensures
          (λ i store got clean. let of = would i store got clean in
          (of.certain, of.doubtful, of.only, of.may)))) clean),
    ))
    (both_ok c.open_cluster.result _ _ c.open_cluster.ensures.goes_on c.open_cluster.ensures.alive)

pub returns-in-Ok-clause-secured : goal.returns-in-Ok-clause-secured
returns-in-Ok-clause-secured g c =
    IfOk-weaker c.open_cluster.result _ _ (λ new it w would.
    let genuine =
    all_genuine c.args.journals.items c.in-Ok.again.items (λ j. file_state j.conn)
    (λ i. w.node (suc i)) c.in-Ok.ensures
    (λ i store got clean. let of = would i store got clean in
    (of.certain, of.doubtful, of.only, of.may)) in
    it (λ k d low clean. inl (All-from_recursion _ _ genuine k d low
    clean))) c.open_cluster.ensures.secured
