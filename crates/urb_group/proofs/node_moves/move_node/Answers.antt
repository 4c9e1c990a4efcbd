use Rattle.urb_group.proofs.Common.{ap, insert, refl, slice_get_read, ◌∙◌}
use Rattle.urb_group.proofs.shown.ReplacedElements.{insert_removed}
use Rattle.urb_group.proofs.node_moves.move_node.Goals as goal

pub step-moved-requires : goal.step-moved-requires
step-moved-requires g c =
    c.requires.callable _ (slice_get_read _ _ _ _ refl c.requires.within c.remove.ensures.value)

pub returns : goal.returns
returns g c =
    record {
      node = c.remove.result;
      moved = c.step-moved.result.0;
      was = slice_get_read _ _ _ _ refl c.requires.within c.remove.ensures.value;
      step = c.step-moved.ensures;
      back =
          (rw c.unwrap.ensures at c.insert.ensures.items)
          ∙ (ap (λ ns. insert ns c.args.at c.step-moved.result.0) c.remove.ensures.items
          ∙ insert_removed _ _ _ c.requires.within);
    }
