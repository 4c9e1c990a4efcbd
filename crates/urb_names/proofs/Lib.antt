-- Laws of names, pairs, packets and logs, on which the crates above rest. What is found under a
-- name stays found when pairs are appended (`message_of-more`). Two rising lists of the same pairs
-- are equal (`rises-same`), and sorting puts a new pair at its place (`rising-push`). Bytes that
-- are parsed are the packet's encoding (`found`), and every encoding is parsed (`only`). A log
-- holds each sender's names from 1 up to its reach (`part-released`). A name is released exactly if
-- it and all before it are certified (`released-exactly`). Read the files in four groups. Packets:
-- the first five of the list below. Pairs: SameNames, FoundPairs, RisingPairs, OrderedPairs, and
-- SentPairs on the packets of a tick. Lists: Places, ClientNumbers, and the file of
-- `rising_placed`. Logs: the file of `part-released`, then that of `released-exactly`. No lemma of
-- another crate of this repository is used.
pub mod NumberBytes
pub mod FlagNumbers
pub mod FieldJudgements
pub mod FieldSpellings
pub mod JudgedBytes
pub mod ClientNumbers
pub mod FoundPairs
pub mod ElementPlaces
pub mod OrderedPairs
pub mod Places
pub mod CertificateReaches
pub mod LogRows
pub mod RisingPairs
pub mod SameNames
pub mod SentPairs
pub mod TruthValues
