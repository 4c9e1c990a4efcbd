-- A feed goes through the numbers of names in portions, and makes the packets that its node needs.
-- Proved here: each portion has these packets and no others, and it has a bounded number of them.
-- Read the lemmas on plain lists first: what comes of one more number is added at the end (`more`),
-- and numbers of which nothing comes may be left out (`later`). Deliveries counts the names of a
-- sender in a log by the last of them (`last_number`).
-- Then read how two numbers say which names of a sender a node lacks (`row_by_count`,
-- `row_by_log`). From these, the numbers of which a node needs nothing are skipped (`skips`).
-- Portions puts all together (`is_portion`). The safety of worlds, which `urb_world` proves, gives
-- the order of the names in a log.
mod Common
pub mod Deliveries
pub mod GreatestValues
pub mod NumberedLists
pub mod Portions
pub mod LogRows
pub mod SkippedNumbers
pub mod LackConditions
