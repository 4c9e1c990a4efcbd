-- The names of other files that most proofs of this crate cite, passed on from one place. It
-- declares nothing.
pub use Rattle.std.proofs.Common.{Bool, Err, IfOk, List, None, Ok, Option, Result, Some, Vec, []}
pub use Rattle.std.proofs.Common.{ap, arith, drop, false, inl, inr, le_refl, length, map, nat_lt}
pub use Rattle.std.proofs.Common.{refl, rules, slice_get, slice_index_or, subst, suc, sym, take}
pub use Rattle.std.proofs.Common.{vec_capacity, vec_len, zero, ℕ, ⊎_elim, ◌++◌, ◌+◌, ◌<◌, ◌∙◌, ◌∷◌}
pub use Rattle.std.proofs.Common.{◌≡◌, ◌≤◌, ◌⊎◌}
pub use Rattle.sqlite_wal.specs.Recovery.{Image}
pub use Rattle.std.proofs.lemmas.Option.{get_or_from_slice_get}
pub use Rattle.std.specs.List.{All}
pub use Rattle.urb_folder.specs.AskedStores.{AllAnswer}
pub use Rattle.urb_folder.specs.ParallelOutcomes.{IsOpen}
pub use Rattle.urb_folder.specs.internal.JournalOutcomes.{OpensIn, OpensOf}
pub use Rattle.urb_folder.specs.internal.OpenedPlaces.{AreFound, AreOpened, IsFoundAt, IsGiven}
pub use Rattle.urb_folder.specs.internal.RetrievedImages.{RetrievesTogether}
pub use Rattle.urb_group.proofs.stops.AskedStores.{written-back}
pub use Rattle.urb_group.specs.GroupViews.{GroupView}
pub use Rattle.urb_group.specs.StoreContents.{IsKnown}
pub use Rattle.urb_group.specs.StoreOpenings.{AllGive, HasStopped}
pub use Rattle.urb_stable.specs.RetrievedRecords.{Gives}
pub use Rattle.urb_names.proofs.Places.{get_some}
pub use Rattle.urb_names.specs.LabelsAndContents.{Limits}
pub use Rattle.urb_node.specs.Part.{Node}
pub use Rattle.urb_sqlite.specs.FoundJournals.{IsFoundIn}
pub use Rattle.urb_stable.specs.Entries.{Entry}
pub use Rattle.urb_stable.specs.StableStorage.{IsContents, list_in, refusal_of}
pub use Rattle.urb_stable.specs.declared.stable.Stable.{Ghosts}
pub use Rattle.urb_stable.specs.declared.stable.StoreFault.{StoreFault}
pub use Rattle.urb_world.specs.World.{World}
