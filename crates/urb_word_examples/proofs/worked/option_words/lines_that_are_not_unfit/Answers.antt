-- Words that have a task are not unfit.
use Rattle.std.proofs.Common.{None, Option, Some, sym, ◌∙◌, ◌≡◌}
use Rattle.urb_options.specs.Tasks.{Replay, Task}
use Rattle.urb_word_examples.proofs.worked.option_words.lines_that_are_not_unfit.Goals as goal

none-some : ◌≡◌ {A = Option Task} None (Some Replay) → ⊥
none-some e = cc

pub returns-clause-a_task : goal.returns-clause-a_task
returns-clause-a_task c words replays h = none-some (sym h.1 ∙ replays)
