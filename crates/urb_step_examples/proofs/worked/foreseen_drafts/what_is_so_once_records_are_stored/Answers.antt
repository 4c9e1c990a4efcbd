-- A new world is so once no records are stored.
use Rattle.std.proofs.Common.{[], refl, ◌≡◌}
use Rattle.urb_foresight.specs.ForeseenDrafts.{IsOnceStored}
use Rattle.urb_foresight.specs.internal.ForesightExamples.{four_nodes}
use Rattle.urb_step_examples.proofs.worked.foreseen_drafts.what_is_so_once_records_are_stored.Goals as goal

the-same : IsOnceStored four_nodes 1 [] four_nodes
the-same = record {
  size = refl;
  ready = refl;
  may = tt;
  behind = refl;
  others = λ q apart. ([], refl);
  heard = λ x m q apart new counted h. h;
}

pub returns-clause-nothing_false : goal.returns-clause-nothing_false
returns-clause-nothing_false c shows reached h =
    h four_nodes four_nodes shows reached reached the-same
