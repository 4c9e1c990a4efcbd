-- A page of three entries.
use Rattle.urb_show.proofs.worked.pages.pages_of_three_entries.Goals as goal

pub returns-clause-the_second : goal.returns-clause-the_second
returns-clause-the_second c page is = is.entries

pub returns-clause-of_three : goal.returns-clause-of_three
returns-clause-of_three c page is = is.total
