use Rattle.urb_window.proofs.Common.{length, names_of, ◌≡◌}
use Rattle.urb_window.proofs.MaskClearings.{AreEmpty}
use Rattle.urb_window.proofs.marks.unmark_all.Given as goal

-- the masks before this place are empty, and no name has changed
abbrev pub invariant-loop-index : goal.invariant-loop-index
invariant-loop-index g l = record {
  empty : AreEmpty l.index l.masks.entries;
  long : length l.masks.entries ≡ l.index-end;
  names : names_of l.masks.entries ≡ names_of l.fn.masks.entries;
  reserved : l.masks.reserved ≡ l.fn.masks.reserved;
}
