-- What a list of records says, and which images of a group's nodes fit together. The pairs of two
-- lists of records are those of the first, then those of the second (`pend-append`). If records
-- keep the four rules, each name has one message (`kept-unique`), and a majority holds the pair of
-- each certified name (`kept-held`). Records that keep rules A and B keep all four if other images
-- have the pairs that C and D ask for (`to_kept`). The log is exactly what the certificates release
-- (`delivers`). A search over images finds the misfit that the definitions say (`broken-first`,
-- `node-told`). It uses an index of each image (`index-next`, `seeks-found`, `seeks-end`). From
-- `urb_names` come found pairs, rising pairs, and the release of names. Read the rules first:
-- JoinedRecords, KeptRules, OwnRules, RisingRecords, and the file of `delivers`. Then read the
-- search: FirstMisfits, the file of `count-images`, and the last four of the list below, on the
-- index. Contents and the file of `whole` are about what one store holds. RecordsAhead,
-- AheadStores, AheadTails and AheadReplacements are about a store that holds records ahead.
mod Common
pub mod AppendedElements
pub mod ClaimedRecords
pub mod Contents
pub mod RecordsAhead
pub mod JoinedRecords
pub mod KeptRules
pub mod LogGrowth
pub mod OwnRules
pub mod RisingRecords
pub mod ImageCounts
pub mod FirstMisfits
pub mod IndexGrowth
mod RecordWalks
mod EarlierFacts
mod ReadImages
mod QueuedRecords
mod AheadStores
mod AheadTails
mod AheadReplacements
mod ShortenedLists
