-- What readers see of a group's logs is a prefix of what its nodes have delivered, and never
-- contradicts itself. For each sender, of what two readers saw at two nodes, at any moments, one is
-- a prefix of the other.
-- Read Prefixes and ListBeginnings first: lists that are prefixes of others, node by node. Then
-- come the lists of a group (GroupLists, GroupReports), which only grow, and how a house prepares
-- and publishes them (PreparedEntries, ListAdditions, SettledNodes). The rule of publishing stands
-- in PublishingSteps and HistoryAdditions: no step takes back what a reader has seen. What readers
-- can conclude stands last (AgreeingLists, AgreeingPages).
-- The events of a house stand apart: prefixes of its past (PastPrefixes), the past after one more
-- event (PastEvents), and the place and reply of an event in each longer history (ToldReplies). What
-- rounds in a past deliver is in HouseRounds. DeliveredPlaces and TimelyAdditions say when
-- the nodes had delivered the lists that readers see.
-- The main lemmas are `lists_grow` (GroupLists), `goes_on_agrees` (AgreeingLists) and
-- `readers_never_contradict` (AgreeingPages). They rest on urb_group's lemmas about what nodes have
-- delivered, and on the specifications of the crates left_right and logbook.
mod Common
pub mod Prefixes
pub mod HistoryAdditions
pub mod ListAdditions
pub mod PublishingSteps
pub mod ListBeginnings
pub mod AgreeingLists
pub mod GroupLists
pub mod PastPrefixes
pub mod PastEvents
pub mod ToldReplies
pub mod HouseRounds
pub mod GroupReports
pub mod PreparedEntries
pub mod DeliveredPlaces
pub mod TimelyAdditions
pub mod TakenLists
pub mod SettledNodes
pub mod AgreeingPages
pub mod PlacedPages
pub mod AcceptedEntries
pub mod ServiceJoins
pub mod ServiceNodes
pub mod ServiceLaws
pub mod ServicePromises
