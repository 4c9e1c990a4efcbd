-- The names of other files that most proofs of this crate cite, passed on from one place. It
-- declares nothing.
pub use Rattle.std.proofs.Common.{Bool, List, Some, [], ap, append-nil, ap₂, arith, cond, eq-eqb}
pub use Rattle.std.proofs.Common.{false, filter, inl, inr, length, length-append, lt-ltb, ltb-false}
pub use Rattle.std.proofs.Common.{ltb-true, map, nat_lt, not, refl, rules, subst, suc, sym, true}
pub use Rattle.std.proofs.Common.{vec_capacity, vec_len, zero, ℕ, ⊎_elim, ◌*◌, ◌++◌, ◌+◌, ◌-◌, ◌<◌}
pub use Rattle.std.proofs.Common.{◌==◌, ◌||◌, ◌∙◌, ◌∷◌, ◌≡◌, ◌≤◌, ◌⊎◌}
pub use Rattle.std.proofs.lemmas.Bool.{cases_lt, cond-false, or_left}
pub use Rattle.urb_fifo.specs.Delivery.{Delivery, IsDelivery, IsNameOf, IsReleaseOf}
pub use Rattle.urb_fifo.specs.LogFields.{view_of}
pub use Rattle.urb_fifo.specs.NewReleases.{newly_released}
pub use Rattle.urb_names.proofs.CertificateReaches.{reach-certified}
pub use Rattle.urb_names.proofs.LogRows.{beginning_is, length-row, reach, row}
pub use Rattle.urb_names.proofs.SameNames.{same_name-same, same_name-true}
pub use Rattle.urb_names.specs.LabelsAndContents.{Label}
pub use Rattle.urb_names.specs.Names.{has_name, name, name_lt, same_name}
pub use Rattle.urb_names.specs.Nodes.{numbers_from}
pub use Rattle.urb_names.specs.Release.{beginning, part_of}
pub use Rattle.urb_names.specs.RisingLists.{placed, reserved_for}
pub use Rattle.urb_names.specs.declared.limits.TheConstants.{MAX_NODES}
