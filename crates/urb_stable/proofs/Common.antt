-- The names of other files that most proofs of this crate cite, passed on from one place. It
-- declares nothing.
pub use Rattle.std.proofs.Common.{Bool, Err, List, None, Ok, OnOk, Option, Result, Some, []}
pub use Rattle.std.proofs.Common.{add-one, ap, append-nil, append_assoc, ap₂, arith, cond, count_by}
pub use Rattle.std.proofs.Common.{drop, drop-cons, eq-eqb, eqb-true, false, filter, find, flat_map}
pub use Rattle.std.proofs.Common.{inl, inr, is_none, is_some, length, length-append, lt-ltb}
pub use Rattle.std.proofs.Common.{ltb-true, map, nat_lt, ne_eqb, not, option_map, refl, reverse}
pub use Rattle.std.proofs.Common.{rules, slice_get, slice_index_or, subst, suc, sym, take, tests}
pub use Rattle.std.proofs.Common.{true, zero, ℕ, ⊎_elim, ◌&&◌, ◌*◌, ◌++◌, ◌+◌, ◌-◌, ◌<◌, ◌==◌, ◌||◌}
pub use Rattle.std.proofs.Common.{◌∙◌, ◌∷◌, ◌≡◌, ◌≤◌, ◌⊎◌}
pub use Rattle.std.proofs.Math.Numerals.{suc-eq-add-one}
pub use Rattle.std.proofs.Math.Seq.{take-suc}
pub use Rattle.std.proofs.lemmas.Bool.{and_from, and_parts, cases_Bool, false≢true, or_right}
pub use Rattle.std.proofs.lemmas.List.{take_all}
pub use Rattle.std.proofs.lemmas.List.Folds.{list_any-append}
pub use Rattle.std.proofs.lemmas.List.Sums.{length-filter}
pub use Rattle.std.proofs.lemmas.Option.{slice_get_read}
pub use Rattle.std.specs.List.{All}
pub use Rattle.std.specs.Option.{option_or}
pub use Rattle.urb_names.proofs.FoundPairs.{Unique, has_pair-last, message_of-another, no_pair}
pub use Rattle.urb_names.proofs.FoundPairs.{own-other, own-push}
pub use Rattle.urb_names.proofs.SameNames.{same_name-true}
pub use Rattle.urb_names.specs.LabelsAndContents.{Content, Label, Limits}
pub use Rattle.urb_names.specs.Names.{has_name, name, same_message, same_name}
pub use Rattle.urb_names.specs.Nodes.{nodes, numbers_from}
pub use Rattle.urb_names.specs.Pairs.{has_pair, message_of, own}
pub use Rattle.urb_names.specs.declared.refusal.Rule.{Rule}
pub use Rattle.urb_stable.specs.Entries.{Entry, IsEntry, name_of}
pub use Rattle.urb_stable.specs.Fitting.{KeepsOwn, Kept, broken, first_of_all, held_by_majority}
pub use Rattle.urb_stable.specs.Fitting.{in_range, is_next_own, keeps_a, keeps_b, known_held}
pub use Rattle.urb_stable.specs.Fitting.{misfits_behind}
pub use Rattle.urb_stable.specs.Images.{image_of}
pub use Rattle.urb_stable.specs.MemoryStores.{Memory, with_doubt}
pub use Rattle.urb_stable.specs.Records.{cert, pend}
pub use Rattle.urb_stable.specs.StableStorage.{IsContents}
pub use Rattle.urb_stable.specs.declared.fitting.Misfit.{Misfit}
pub use Rattle.urb_stable.specs.declared.index.Places.{Places}
pub use Rattle.urb_stable.specs.declared.record.Record.TheVariants.{Cert, Pend, PendCert}
pub use Rattle.urb_stable.specs.internal.EarlierRecords.{HasTold, IsBefore, same_client}
pub use Rattle.urb_stable.specs.internal.Indexes.{IsIndexOf, IsLast, by_name}
pub use Rattle.urb_stable.specs.internal.NumberedImages.{NodeImage}
