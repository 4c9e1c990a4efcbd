-- The names of other files that most proofs of this crate cite, passed on from one place. It
-- declares nothing.
pub use Rattle.std.proofs.Common.{Bool, Fits, List, None, Option, Some, [], ap, arith, cond}
pub use Rattle.std.proofs.Common.{count_by, eq-eqb, false, filter, find, get_or, inl, inr, is_some}
pub use Rattle.std.proofs.Common.{length, lt-ltb, ltb-true, map, nat_le, nat_lt, ne_eqb, not}
pub use Rattle.std.proofs.Common.{option_map, refl, rules, slice_get, subst, suc, sym, take_while}
pub use Rattle.std.proofs.Common.{true, w32, zero, ℕ, ⊎_elim, ◌&&◌, ◌*◌, ◌++◌, ◌+◌, ◌<◌, ◌==◌, ◌||◌}
pub use Rattle.std.proofs.Common.{◌∙◌, ◌∷◌, ◌≡◌, ◌≤◌, ◌⊎◌}
pub use Rattle.std.proofs.lemmas.Bool.{and_from, and_parts, cond-false, cond-true, eqb-false}
pub use Rattle.std.proofs.lemmas.Bool.{false≢true, or_cases, or_right}
pub use Rattle.std.proofs.lemmas.List.{length-append, map-append}
pub use Rattle.std.specs.List.{list_all, prefix_len}
pub use Rattle.std.specs.Option.{option_or}
pub use Rattle.urb_names.proofs.RisingPairs.{name_lt-strict, name_lt-trans}
pub use Rattle.urb_names.proofs.SameNames.{same_name-true}
pub use Rattle.urb_names.specs.CyclicOrder.{are_rising, inserted}
pub use Rattle.urb_names.specs.LabelsAndContents.{Content, IsLabel, Label, Limits}
pub use Rattle.urb_names.specs.Names.{name, name_lt, names, same_message, same_name}
pub use Rattle.urb_names.specs.Nodes.{is_node, numbers_from}
pub use Rattle.urb_names.specs.Pairs.{message_of, next_number, own}
pub use Rattle.urb_names.specs.Release.{part_of}
pub use Rattle.urb_names.specs.RisingLists.{placed}
pub use Rattle.urb_pending.specs.PendingSet.{IsPendingSet, PendingSet, first_name, is_within}
pub use Rattle.urb_pending.specs.internal.ClientIndex.{IsIndexOf, given_to, has_room, is_roomy}
pub use Rattle.urb_pending.specs.internal.ClientIndex.{numbers_in}
pub use Rattle.urb_pending.specs.internal.ClientRows.{Row, are_in_order, row_lt, row_of}
pub use Rattle.urb_window.specs.Entries.{entry_lt}
