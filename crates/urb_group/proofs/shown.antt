-- A group in memory and the worlds that it shows: what holds for one of them holds for each. If one
-- node moves, the group takes a step in each world that it shows. Other folders use `sound-kept`
-- and `sound-step` (AgreeingWorlds), `shows-after` (ShownWorlds), and `lifted` (NodeMoves). This
-- folder uses the folders steps and safety of urb_world.
pub mod ShownWorlds
pub mod AgreeingWorlds
pub mod SoundConditions
pub mod ReplacedElements
pub mod NodeMoves
pub mod NodeAnswers
pub mod Deliveries
pub mod AgreeingDeliveries
