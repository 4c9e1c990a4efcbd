-- The names of other files that most proofs of this crate cite, passed on from one place. It
-- declares nothing.
pub use Rattle.std.proofs.Common.{Bool, List, [], ap, ap₂, arith, cond, false, filter, get_or, inl}
pub use Rattle.std.proofs.Common.{inr, length, map, nat_le, refl, rules, slice_set, subst, suc, sym}
pub use Rattle.std.proofs.Common.{true, vec_capacity, vec_len, zero, ℕ, ◌&&◌, ◌+◌, ◌-◌, ◌<◌, ◌==◌}
pub use Rattle.std.proofs.Common.{◌^◌, ◌||◌, ◌∙◌, ◌∷◌, ◌≡◌, ◌≢◌, ◌≤◌, ◌⊎◌}
pub use Rattle.std.proofs.lemmas.Bool.{and_from, and_parts, cases_eq, cases_lt, cases_order}
pub use Rattle.std.proofs.lemmas.Bool.{false_from_ne_true, false≢true, le-leb, or_cases, or_left}
pub use Rattle.std.proofs.lemmas.Bool.{or_right}
pub use Rattle.std.specs.List.{list_all, list_any, prefix_len}
pub use Rattle.urb_certified.specs.Certificates.{Certificates}
pub use Rattle.urb_certified.specs.ListSets.{set_of}
pub use Rattle.urb_certified.specs.Parts.{all_names}
pub use Rattle.urb_certified.specs.internal.PartInvariant.{IsJoined, IsParts, is_left, low_of}
pub use Rattle.urb_certified.specs.internal.StrictOrders.{IsOrder}
pub use Rattle.urb_names.proofs.ElementPlaces.{any_insert, rising_placed}
pub use Rattle.urb_names.proofs.SameNames.{same_name-same, same_name-true}
pub use Rattle.urb_names.proofs.TruthValues.{both_ways}
pub use Rattle.urb_names.specs.LabelsAndContents.{Label}
pub use Rattle.urb_names.specs.Names.{has_name, name, name_lt, same_name}
pub use Rattle.urb_names.specs.Release.{beginning}
pub use Rattle.urb_names.specs.RisingLists.{is_rising, placed}
