use Rattle.std.proofs.Common.{length, vec_capacity, vec_len, ◌≡◌, ◌≤◌}
use Rattle.urb_group.proofs.moves.OpenedPlaces.{HasOpened}
use Rattle.urb_group.proofs.group.Group.open.Given as goal

-- the nodes so far are opened, and there is room for all
abbrev pub invariant-loop-image : goal.invariant-loop-image
invariant-loop-image g l = record {
  opened : HasOpened (λ image. image.items)
      l.fn.config l.fn.images.items l.yielded l.image-iterator.rest.items l.number l.nodes.items;
  count : vec_len l.nodes ≡ l.number;
  room : length l.fn.images.items ≤ vec_capacity l.nodes;
}
