-- The names of other files that most proofs of this crate cite, passed on from one place. It
-- declares nothing.
pub use Rattle.std.proofs.Common.{Bool, Err, IfOk, IsOk, IsSome, IsTrue, List, None, Ok, Option}
pub use Rattle.std.proofs.Common.{Result, Some, SomeIff, Vec, [], add-one, ap, append-nil}
pub use Rattle.std.proofs.Common.{append_assoc, ap₂, arith, cond, count_by, drop, drop-cons, eq-eqb}
pub use Rattle.std.proofs.Common.{eqb-true, false, filter, filter_map, flat_map, get_or}
pub use Rattle.std.proofs.Common.{get_or-set_other, get_or-set_same, inl, inr, is_none, is_some}
pub use Rattle.std.proofs.Common.{le-ltb, length, lt-ltb, ltb-true, map, nat_lt, ne_eqb, not}
pub use Rattle.std.proofs.Common.{option_map, refl, replicate, rules, set, slice_get}
pub use Rattle.std.proofs.Common.{slice_index_or, slice_set, subst, suc, sym, take, true, zero, ℕ}
pub use Rattle.std.proofs.Common.{⊎_elim, ◌&&◌, ◌*◌, ◌++◌, ◌+◌, ◌-◌, ◌<◌, ◌==◌, ◌^◌, ◌||◌, ◌∙◌, ◌∷◌}
pub use Rattle.std.proofs.Common.{◌≡◌, ◌≢◌, ◌≤◌, ◌⊎◌}
pub use Rattle.std.proofs.lemmas.Bool.{and_from, and_parts, and_right, cases_eq, cases_lt}
pub use Rattle.std.proofs.lemmas.Bool.{cond-false, cond-true, cond_both, false≢true, not-false}
pub use Rattle.std.proofs.lemmas.Bool.{not-true, or_left, or_right}
pub use Rattle.std.proofs.lemmas.List.{drop_all, length-map}
pub use Rattle.std.proofs.lemmas.List.Elements.{recursion_from_All}
pub use Rattle.std.proofs.lemmas.List.Sums.{sum_by-append}
pub use Rattle.std.proofs.lemmas.Option.{get_or_from_slice_get, slice_get_read}
pub use Rattle.std.specs.List.{All, AllByRecursion, insert}
pub use Rattle.std.specs.Option.{option_or}
pub use Rattle.urb_group.specs.ClusterCalls.{Applies, AsksStore, Breaks, BreaksArmed, FailsHeld}
pub use Rattle.urb_group.specs.ClusterCalls.{Reacts, RestartsBy, Returns, Starts, StoreMoves}
pub use Rattle.urb_group.specs.ClusterCalls.{StoresDraft, StoresHeld, is_fallen, stored_as}
pub use Rattle.urb_group.specs.Commands.{AreEvents, At_end, By_event, By_none, IsEventOf, IsUnread}
pub use Rattle.urb_group.specs.Commands.{is_no_memory, reply_of}
pub use Rattle.urb_group.specs.DeliveredMessages.{delivered_at, known}
pub use Rattle.urb_group.specs.GroupCalls.{Answers, Commits, GoesDown, Happens, HoldsDraft}
pub use Rattle.urb_group.specs.GroupCalls.{IsRefused, Opens, Steps, Takes}
pub use Rattle.urb_group.specs.GroupStores.{Clustered, held_draft, held_in}
pub use Rattle.urb_group.specs.GroupViews.{GroupView, IsSound, Shows, view_of}
pub use Rattle.urb_group.specs.PlaceViews.{memory_in, shown, view_at}
pub use Rattle.urb_group.specs.PlayedCommands.{Plays, Runs}
pub use Rattle.urb_group.specs.ReportedStates.{state_of}
pub use Rattle.urb_group.specs.StoreContents.{AllHold, AreChosen, HoldsOf, IsKnown, IsSecured}
pub use Rattle.urb_group.specs.StoreContents.{IsStocked, IsStoreOf, LeavesOf, RestLeaves}
pub use Rattle.urb_group.specs.StoreContents.{StopLeaves}
pub use Rattle.urb_group.specs.StoreOpenings.{AllGive, Continues, FirstFails, OpensFrom}
pub use Rattle.urb_group.specs.StoreOpenings.{OpensStores, stores_in}
pub use Rattle.urb_group.specs.BlankStores.{IsBlank}
pub use Rattle.urb_stable.specs.RetrievedRecords.{Gives}
pub use Rattle.urb_group.specs.declared.command.Command.{Command}
pub use Rattle.urb_group.specs.declared.taken.Taken.{Taken}
pub use Rattle.urb_group.specs.internal.CallReplies.{IsUnfallen, IsUnstored}
pub use Rattle.urb_group.specs.internal.ClusterTies.{IsTied, draft_at}
pub use Rattle.urb_group.specs.internal.PacketTargets.{AreEnds, is_for_node}
pub use Rattle.urb_group.specs.internal.PlaceCalls.{ArrivesAt, CallResult, CommitsAt, CrashesAt}
pub use Rattle.urb_group.specs.internal.PlaceCalls.{FailsAt, HoldsAt, Leads, LeadsAt, Outcomes}
pub use Rattle.urb_group.specs.internal.PlaceCalls.{RestartsAt, SubmitsAt, TicksAt, arrives_as}
pub use Rattle.urb_group.specs.internal.PlaceCalls.{told_taken}
pub use Rattle.urb_group.specs.internal.PlaceInvariant.{IsGroup, IsNumbered, ShowsAt}
pub use Rattle.urb_group.specs.internal.TailChecks.{Joins, SenderHolds, of_client, would_hold}
pub use Rattle.urb_names.proofs.FoundPairs.{has_pair-found, has_pair-left}
pub use Rattle.urb_names.proofs.Places.{get_some, one_longer}
pub use Rattle.urb_names.proofs.SameNames.{same_name-same}
pub use Rattle.urb_names.specs.CarriedPackets.{Carried}
pub use Rattle.urb_names.specs.LabelsAndContents.{Content, IsLimits, Label, Limits}
pub use Rattle.urb_names.specs.ListPrefixes.{Begins}
pub use Rattle.urb_names.specs.Names.{has_name, name, same_name}
pub use Rattle.urb_names.specs.Nodes.{is_node, numbers_from}
pub use Rattle.urb_names.specs.Pairs.{has_pair, message_of, own}
pub use Rattle.urb_names.specs.declared.limits.TheConstants.{MAX_NODES}
pub use Rattle.urb_names.specs.declared.refusal.NoMemory.{NoMemory}
pub use Rattle.urb_names.specs.declared.refusal.Refusal.{Refusal}
pub use Rattle.urb_node.proofs.Openings.{nothing-shows}
pub use Rattle.urb_node.specs.CallEffects.{FindsMessage, IsRefusedAs}
pub use Rattle.urb_node.specs.NodeMemories.{ShowsReady, new_memory}
pub use Rattle.urb_node.specs.NodeViews.{NodeView, ShowsNode, no_view}
pub use Rattle.urb_node.specs.Part.{Down, Node, Ready, Storing, opened_node}
pub use Rattle.urb_node.specs.RecordAdmission.{MayArrive}
pub use Rattle.urb_node.specs.Replies.{Done, Drafted, Refused, Same, Sent, Stored, Up, WentDown}
pub use Rattle.urb_node.specs.Replies.{packets_in}
pub use Rattle.urb_node.specs.Steps.{commits, doubt, is_down, is_storing, next_position}
pub use Rattle.urb_node.specs.Steps.{same_record, submits}
pub use Rattle.urb_node.specs.declared.cause.Cause.{Cause}
pub use Rattle.urb_stable.proofs.IndexGrowth.{read_more}
pub use Rattle.urb_stable.proofs.JoinedRecords.{pend-append}
pub use Rattle.urb_stable.proofs.KeptRules.{Grows, kept-range}
pub use Rattle.urb_stable.specs.DeliveredLogs.{log}
pub use Rattle.urb_stable.specs.Entries.{Entry, IsEntry, name_of}
pub use Rattle.urb_stable.specs.Fitting.{Fits, KeepsOwn, Kept, Rules, first_misfit}
pub use Rattle.urb_stable.specs.Fitting.{held_by_majority, in_range, is_next_own, keeps_a, keeps_b}
pub use Rattle.urb_stable.specs.Fitting.{keeps_c, known_held}
pub use Rattle.urb_stable.specs.KeptDrafts.{Keeps}
pub use Rattle.urb_stable.specs.MemoryStores.{after_failure, armed_with, empty_memory}
pub use Rattle.urb_stable.specs.MemoryStores.{without_memory}
pub use Rattle.urb_stable.specs.PlacedRecords.{Placed}
pub use Rattle.urb_stable.specs.Records.{cert, pend}
pub use Rattle.urb_stable.specs.StableStorage.{IsContents, IsPlaced, is_out_of_place, is_place}
pub use Rattle.urb_stable.specs.declared.memory.Failure.{Failure}
pub use Rattle.urb_stable.specs.declared.record.Record.TheVariants.{Cert, Pend, PendCert}
pub use Rattle.urb_stable.specs.declared.stable.Stable.{Ghosts}
pub use Rattle.urb_stable.specs.declared.stable.StoreFault.{StoreFault}
pub use Rattle.urb_world.proofs.safety.AcceptedSubmits.{accepted-stored}
pub use Rattle.urb_world.proofs.safety.RunsOfKeptWorlds.{kept-agree, kept-told}
pub use Rattle.urb_world.proofs.safety.SafeWorlds.{one_message, safe}
pub use Rattle.urb_world.proofs.steps.DraftsInSteps.{step-elsewhere, step-size}
pub use Rattle.urb_world.proofs.steps.Growth.{pair-begins, step-goes_on}
pub use Rattle.urb_world.proofs.steps.Runs.{all_kept, fitting-kept, step-keeps}
pub use Rattle.urb_world.proofs.steps.StepCases.{step-outcome}
pub use Rattle.urb_world.proofs.stops.AheadWorlds.{follow-grows}
pub use Rattle.urb_world.proofs.stops.StockedNodes.{Rises, commit-node}
pub use Rattle.urb_world.proofs.stops.StoppedWorlds.{survives}
pub use Rattle.urb_world.specs.MemoryStores.{in_memory}
pub use Rattle.urb_world.specs.ProcessStops.{GoesOnIn, MayLeave}
pub use Rattle.urb_world.specs.RunInvariant.{IsKept, MayJoin, NodeKept, NodeShort}
pub use Rattle.urb_world.specs.Step.{Arrive, Commit, Crash, Event, Fail, Restart, Run, Submit, Tick}
pub use Rattle.urb_world.specs.Step.{at_node, world_after}
unfoldable pub use Rattle.urb_world.specs.Step.{run}
pub use Rattle.urb_world.specs.StoresAhead.{MayFollow}
pub use Rattle.urb_world.specs.TruthfulPackets.{AreTruthful}
pub use Rattle.urb_world.specs.World.{AreImages, World, opened, started, stored, truthful, updated}
