use Rattle.urb_world.specs.RecoveryPlans.{after}
use Rattle.urb_show.proofs.HouseRounds.{shown_after_two}
use Rattle.urb_show.proofs.PastEvents.{reached_after}
use Rattle.urb_show.proofs.laws.two_busy_rounds_of_a_house_deliver.Goals as goal

pub returns : goal.returns
returns c opened group w before first second shows reached leads alive up one two = (
  after (after (after w before) first) second,
  shown_after_two opened group w shows before first second leads,
  c.two_busy_rounds_deliver.ensures (after w before) first second (reached_after w before reached)
      alive up one two,
)
