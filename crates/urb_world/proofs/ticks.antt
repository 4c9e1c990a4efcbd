-- The cyclic order in which ticks take the pairs that are due, stated about lists only. A pair that
-- stays due is sent: each tick that leaves it out passes sixteen others. Other folders use
-- `due-there` (DueTurns), `all-turn` (TickCoverage), `in-due` (DuePairs), and the lemmas on
-- elements of lists (Membership). This folder uses no other folder.
pub mod Membership
pub mod CyclicOrder
pub mod TickCoverage
pub mod PassedPairs
pub mod DueTurns
pub mod DuePairs
