use Rattle.std.proofs.Common.{length, map, vec_capacity, vec_len, ◌≡◌, ◌≤◌}
use Rattle.urb_group.proofs.stops.AskedStores.{HasAsked}
use Rattle.urb_group.proofs.reopening.retrieve_all.Given as goal

-- the stores so far gave the lists, and there is room for all
abbrev pub invariant-loop-store : goal.invariant-loop-store
invariant-loop-store g l = record {
  asked : HasAsked g.S.Stable l.fn.stores l.stores
      (map (λ image. image.items) l.images.items) l.store-index;
  count : vec_len l.images ≡ l.store-index;
  room : length l.fn.stores ≤ vec_capacity l.images;
}
