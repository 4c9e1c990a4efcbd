use Rattle.urb_group.proofs.calls.PlayedRuns.{plays-runs, plays-sound, sound-holds}
use Rattle.urb_group.proofs.stops.SecuredClusters.{applies-secured}
use Rattle.urb_group.proofs.stops.StockedClusters.{applies-stocked}
use Rattle.urb_group.proofs.stops.StockedPlays.{plays-kept}
use Rattle.urb_group.specs.StoreContents.{IsSecured, IsStocked}
use Rattle.urb_group.proofs.command_list.play.Goals as goal

pub returns-clause-runs : goal.returns-clause-runs
returns-clause-runs g c =
    plays-runs g.S.Stable _ _ _ _ c.play_commands.ensures c.group.ensures.sound

pub returns-clause-headline : goal.returns-clause-headline
returns-clause-headline g c =
    λ w s. sound-holds _ w (plays-sound g.S.Stable _ _ _ _ c.play_commands.ensures
    c.group.ensures.sound) s

pub returns-clause-stocked : goal.returns-clause-stocked
returns-clause-stocked g c =
    plays-kept g.S.Stable (IsStocked g.S.Stable)
    (applies-stocked g.S.Stable) _ _ _ _ c.play_commands.ensures

pub returns-clause-secured : goal.returns-clause-secured
returns-clause-secured g c =
    plays-kept g.S.Stable (IsSecured g.S.Stable)
    (applies-secured g.S.Stable) _ _ _ _ c.play_commands.ensures
