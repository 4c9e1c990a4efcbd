use Rattle.urb_group.proofs.shown.AgreeingWorlds.{sound-kept}
use Rattle.urb_daemon.proofs.Lives.{lives-again, lives-shown, lives-stored}
use Rattle.urb_daemon.proofs.laws.nothing_is_lost_over_any_number_of_starts.Goals as goal

pub returns-clause-shown : goal.returns-clause-shown
returns-clause-shown c old w v p sound shows lives =
    lives-shown w v lives (sound-kept old w sound shows) p

pub returns-clause-stays : goal.returns-clause-stays
returns-clause-stays c old w v p x m sound shows lives has = lives-stored w v lives p x m has

pub returns-clause-again : goal.returns-clause-again
returns-clause-again c old w v size images group p x m sound shows lives opens is has =
    lives-again w v size images group lives (sound-kept old w sound shows) opens p x m is has
