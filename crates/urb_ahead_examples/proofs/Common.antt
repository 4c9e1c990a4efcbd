-- The names of other files that most proofs of this crate cite, passed on from one place. It
-- declares nothing.
pub use Rattle.std.proofs.Common.{Bool, List, None, Some, [], ap, append-nil, append_assoc, arith}
pub use Rattle.std.proofs.Common.{eqb-true, false, flat_map, if◌then◌else◌, inl, inr, length}
pub use Rattle.std.proofs.Common.{nat_lt, refl, replicate, slice_get, subst, suc, sym, true}
pub use Rattle.std.proofs.Common.{true≢false, zero, ℕ, ⊎_elim, ◌&&◌, ◌++◌, ◌==◌, ◌∙◌, ◌∷◌, ◌≡◌, ◌≤◌}
pub use Rattle.std.proofs.lemmas.Bool.{false≢true}
pub use Rattle.urb_group.specs.StoreContents.{LeavesAhead}
pub use Rattle.urb_names.proofs.OrderedPairs.{has_pair-first, has_pair-head}
pub use Rattle.urb_names.specs.LabelsAndContents.{Content, Label}
pub use Rattle.urb_names.specs.Names.{name}
pub use Rattle.urb_names.specs.declared.limits.TheConstants.{MAX_PAYLOAD}
pub use Rattle.urb_node.specs.Part.{Node, Storing, opened_node}
pub use Rattle.urb_stable.specs.Entries.{Entry}
pub use Rattle.urb_stable.specs.MemoryStores.{empty_memory}
pub use Rattle.urb_stable.specs.Records.{pend}
pub use Rattle.urb_stable.specs.StoredTogether.{IsContentsOrAll}
pub use Rattle.urb_stable.specs.declared.record.Record.TheVariants.{Pend}
pub use Rattle.urb_stable.specs.internal.MemoryCalls.{with_record}
pub use Rattle.urb_world.specs.MemoryStores.{in_memory}
pub use Rattle.urb_world.specs.ProcessStops.{MayLeave}
pub use Rattle.urb_world.specs.RunInvariant.{AreShort, MayJoin}
pub use Rattle.urb_world.specs.StoresAhead.{IsOrStandsFor, MayFollow, MayLeaveAhead}
pub use Rattle.urb_world.specs.World.{World, image_of, opened, started, stored}
pub use Rattle.urb_world.specs.internal.Examples.{certified, filled, limits, node_in, pending}
pub use Rattle.urb_world.specs.internal.Scripts.{message}
