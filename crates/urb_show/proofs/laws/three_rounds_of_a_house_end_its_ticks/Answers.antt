use Rattle.urb_world.specs.RecoveryPlans.{after}
use Rattle.urb_show.proofs.HouseRounds.{shown_after_four}
use Rattle.urb_show.proofs.PastEvents.{reached_after}
use Rattle.urb_show.proofs.laws.three_rounds_of_a_house_end_its_ticks.Goals as goal

pub returns : goal.returns
returns c opened group w before first second third later shows reached leads alive up one two three
    answered undisturbed =
    let silent =
    c.ticks_end.ensures (after w before) first second third later (reached_after w before reached)
    alive up one two three answered undisturbed in (
      after (after (after (after (after w before) first) second) third) later,
      shown_after_four opened group w shows before first second third later leads,
      silent.0,
      silent.1,
    )
