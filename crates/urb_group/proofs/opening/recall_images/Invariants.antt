use Rattle.urb_group.proofs.Common.{All, IsEntry, map, take}
use Rattle.urb_group.proofs.opening.recall_images.Given as goal

-- the records of the images so far are within their limits
abbrev pub invariant-loop-image : goal.invariant-loop-image
invariant-loop-image g l =
    All (All IsEntry) (map (λ image. image.items) (take l.image-index l.images))
