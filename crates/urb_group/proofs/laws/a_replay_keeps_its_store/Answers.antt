use Rattle.urb_group.proofs.stops.AheadStores.{replay-ends, replay-one}
use Rattle.urb_world.specs.Step.{Arrive, Submit}
use Rattle.urb_group.proofs.laws.a_replay_keeps_its_store.Goals as goal

pub returns-clause-submit : goal.returns-clause-submit
returns-clause-submit g c w p m r cause tail store there h held =
    replay-one g.S.Stable w p (Submit p m) r cause tail store there tt h held

pub returns-clause-arrive : goal.returns-clause-arrive
returns-clause-arrive g c w p bytes r cause tail store there h held =
    replay-one g.S.Stable w p (Arrive p bytes) r cause tail store there tt h held

pub returns-clause-ends : goal.returns-clause-ends
returns-clause-ends g c w p store h = replay-ends g.S.Stable w p store h
