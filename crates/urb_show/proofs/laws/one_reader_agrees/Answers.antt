use Rattle.urb_show.proofs.AgreeingLists.{goes_on_agrees, goes_on_begins, goes_on_past}
use Rattle.urb_show.proofs.laws.one_reader_agrees.Goals as goal

pub returns-clause-begins : goal.returns-clause-begins
returns-clause-begins c opened first last runs = goes_on_begins opened first last runs

pub returns-clause-agree : goal.returns-clause-agree
returns-clause-agree c opened first before last runs then =
    goes_on_agrees opened first before last runs then

pub returns-clause-past : goal.returns-clause-past
returns-clause-past c opened first last runs = goes_on_past opened first last runs
