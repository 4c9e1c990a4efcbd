-- A run from any world that keeps the rules: its packets are truthful, and what two nodes deliver
-- agrees.
use Rattle.urb_world.proofs.Common.{AgreeInTime, AllTruthful, EntriesGrow, Event, IsKept, List}
use Rattle.urb_world.proofs.Common.{Reply, Run, ToldTruth, World, all_weaker, subst, true, truthful}
use Rattle.urb_world.proofs.Common.{◌≡◌}
use Rattle.urb_world.proofs.safety.AgreeingLogs.{agree-later, entries-all_grow}
use Rattle.urb_world.proofs.steps.Growth.{run-goes_on}
use Rattle.urb_world.proofs.steps.Runs.{run-kept, run-tells, run-truthful}
use Rattle.urb_world.proofs.safety.SafeWorlds.{safe}
use Rattle.urb_world.specs.TruthfulPackets.{AreTruthful}

module _ (old new : World) (events : List Event) (replies : List Reply) (kept : IsKept old)
    (ran : Run old events replies new) where
  kept-after : IsKept new
  kept-after = subst (λ (v : List Reply × World). IsKept v.1) ran (run-kept old events kept)

  -- for each sender, of what one node delivered before the run and what another delivers after it,
  -- one is a prefix of the other
  pub kept-agree : AgreeInTime old new
  kept-agree =
      agree-later old new (safe old kept.nodes) (safe new kept-after.nodes)
      (run-goes_on old new events replies ran)

  -- what a node has delivered, with its messages, only grows at its end
  pub kept-grow : EntriesGrow old new
  kept-grow =
      entries-all_grow old new (safe old kept.nodes) (run-goes_on old new events replies ran)

  -- each packet of the run's replies is truthful at its end
  pub kept-told : ToldTruth new replies
  kept-told =
      subst (λ (v : List Reply × World). ToldTruth v.1 v.0) ran (run-tells old events kept.nodes)

  -- if all packets sent before the run were truthful then, all packets ever sent are truthful at
  -- its end
  pub kept-sent : AllTruthful old → AllTruthful new
  kept-sent h =
      subst (λ (v : List Reply × World). AllTruthful v.1) ran (run-truthful old events kept.nodes h)

  -- if all packets sent before the run were truthful then, they are still truthful at its end
  pub kept-for_good : AllTruthful old → AreTruthful new old.sent
  kept-for_good h =
      all_weaker (λ packet. truthful old packet ≡ true)
      (λ packet. truthful new packet ≡ true) old.sent
      (run-goes_on old new events replies ran).truth h
