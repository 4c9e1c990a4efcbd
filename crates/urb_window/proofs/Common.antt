-- The names of other files that most proofs of this crate cite, passed on from one place. It
-- declares nothing.
pub use Rattle.std.proofs.Common.{Bool, IsSome, List, None, Option, Some, [], ap, ap₂, arith, cond}
pub use Rattle.std.proofs.Common.{count_by, drop, eq-eqb, false, filter, find, get_or, inl, inr}
pub use Rattle.std.proofs.Common.{is_some, length, map, nat_le, nat_lt, ne_eqb, not, option_map}
pub use Rattle.std.proofs.Common.{refl, rules, slice_get, slice_set, subst, suc, sym, true}
pub use Rattle.std.proofs.Common.{unwrap_or, zero, ℕ, ⊎_elim, ◌&&◌, ◌*◌, ◌++◌, ◌+◌, ◌-◌, ◌<◌, ◌==◌}
pub use Rattle.std.proofs.Common.{◌^◌, ◌||◌, ◌∙◌, ◌∷◌, ◌≡◌, ◌≤◌, ◌⊎◌}
pub use Rattle.std.proofs.lemmas.Bool.{and_from, and_left, and_parts, cases_Bool, cases_eq}
pub use Rattle.std.proofs.lemmas.Bool.{cases_lt, cond-false, cond-true, false_from_ne_true}
pub use Rattle.std.proofs.lemmas.Bool.{false≢true, le-ltb, not-true, not_from_false, or_left}
pub use Rattle.std.proofs.lemmas.Bool.{or_right}
pub use Rattle.std.proofs.lemmas.List.{get_or_past, length-append, length-map, length-set}
pub use Rattle.std.proofs.lemmas.List.{set-get_or}
pub use Rattle.std.proofs.lemmas.Option.{slice_get-get_or, slice_get_past}
pub use Rattle.std.specs.List.{AllByRecursion, list_all, prefix_len}
pub use Rattle.std.specs.VecDeque.{deque_capacity, deque_len}
pub use Rattle.urb_names.proofs.ElementPlaces.{any_insert, placed_behind, placed_front}
pub use Rattle.urb_names.proofs.RisingPairs.{name_lt-strict}
pub use Rattle.urb_names.proofs.SameNames.{same_name-same, same_name-true}
pub use Rattle.urb_names.specs.Acknowledgements.{ack_lt, acked}
pub use Rattle.urb_names.specs.LabelsAndContents.{Label}
pub use Rattle.urb_names.specs.Names.{has_name, name, name_lt, same_name}
pub use Rattle.urb_names.specs.Nodes.{nodes, numbers_from}
pub use Rattle.urb_names.specs.RisingLists.{is_rising, placed}
pub use Rattle.urb_names.specs.declared.limits.TheConstants.{MAX_NODES, MAX_SENDERS}
pub use Rattle.urb_window.specs.Entries.{above_of, entry_lt, low_of, names_of, value_of, window_of}
pub use Rattle.urb_window.specs.Entries.{with_value}
pub use Rattle.urb_window.specs.Marks.{MarkSet, marks_of}
pub use Rattle.urb_window.specs.NodeMasks.{has_bit, marks_in, nodes_in}
pub use Rattle.urb_window.specs.Row.{Row, counted_from, pairs_of}
pub use Rattle.urb_window.specs.RowEntries.{entries_from, named}
pub use Rattle.urb_window.specs.WindowSet.{IsWindowSet, WindowSet}
pub use Rattle.urb_window.specs.internal.EntryMasks.{mask_of}
pub use Rattle.urb_window.specs.internal.RowInvariant.{HasRoom}
pub use Rattle.urb_window.specs.internal.RowOperations.{AreOver, IsInserted, IsRow, holds_at}
pub use Rattle.urb_window.specs.internal.RowOperations.{number_lt, numbered, renumbered}
pub use Rattle.urb_window.specs.internal.SenderRows.{no_row, row_at}
pub use Rattle.urb_window.specs.internal.WindowInvariant.{HasRow}
