-- Lists of records that don't keep the rules of their own image.
use Rattle.std.proofs.lemmas.Bool.{false≢true}
use Rattle.urb_world.proofs.worked.records.images_by_themselves.Goals as goal

pub returns-clause-the_same_pair_twice : goal.returns-clause-the_same_pair_twice
returns-clause-the_same_pair_twice c keeps = false≢true keeps.2.0

pub returns-clause-out_of_turn : goal.returns-clause-out_of_turn
returns-clause-out_of_turn c keeps = false≢true keeps.2.1

pub returns-clause-out_of_range : goal.returns-clause-out_of_range
returns-clause-out_of_range c keeps = false≢true keeps.0

pub returns-clause-first_out_of_turn : goal.returns-clause-first_out_of_turn
returns-clause-first_out_of_turn c keeps = false≢true keeps.1
