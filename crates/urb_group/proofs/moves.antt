-- From code to steps: a node's own clauses give the clauses of the group's calls. A call on one
-- place of the group is one event, and a new or opened group shows its world. The proofs of the
-- group's calls use `submit-moved` and its like (GroupMoves), `arrive-moved` (PacketsAtNodes),
-- `submit_at` and its like (PlaceMoves), and `all-opens` (OpenedPlaces). This folder uses the
-- folder shown, and the folder steps of urb_world.
pub mod PlaceMoves
pub mod GroupMoves
pub mod PacketEnds
pub mod PacketsAtNodes
pub mod FittingImages
pub mod NewPlaces
pub mod OpenedPlaces
