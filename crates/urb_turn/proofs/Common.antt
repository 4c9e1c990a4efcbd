-- The names of other files that most proofs of this crate cite, passed on from one place. It
-- declares nothing.
pub use Rattle.std.proofs.Common.{Bool, Err, IfSome, IsTrue, List, None, Ok, Option, Result, Some}
pub use Rattle.std.proofs.Common.{Vec, [], add-zero, ap, append_assoc, arith, cond, eq-eqb}
pub use Rattle.std.proofs.Common.{eqb-true, false, get_or-set_other, get_or-set_same, if◌then◌else◌}
pub use Rattle.std.proofs.Common.{inl, inr, length, map, refl, replicate, rules, slice_index_or}
pub use Rattle.std.proofs.Common.{slice_set, subst, suc, sym, true, vec_capacity, vec_len, zero, ℕ}
pub use Rattle.std.proofs.Common.{⊎_elim, ◌&&◌, ◌++◌, ◌+◌, ◌-◌, ◌<◌, ◌==◌, ◌^◌, ◌↔◌, ◌∙◌, ◌∷◌, ◌≡◌}
pub use Rattle.std.proofs.Common.{◌≢◌, ◌≤◌, ◌⊎◌}
pub use Rattle.std.proofs.lemmas.Bool.{cond-false, false≢true}
pub use Rattle.std.specs.declared.alloc.Global.{Global}
pub use Rattle.urb_group.proofs.stops.SecuredClusters.{IsLastingOf}
pub use Rattle.urb_group.proofs.stops.StockedSteps.{Stays, leaves-stay, quiet-stays}
pub use Rattle.urb_group.proofs.stops.StoppedCalls.{leaves-draft}
pub use Rattle.urb_group.specs.GroupCalls.{Answers, ComesUp, Commits, GoesDown, IsRefused, Takes}
pub use Rattle.urb_group.specs.GroupViews.{GroupView, IsSound, Shows, view_of}
pub use Rattle.urb_group.specs.ReportedStates.{state_of}
pub use Rattle.urb_group.specs.StoreContents.{IsLasting, IsStoreOf, LeavesOf}
pub use Rattle.urb_stable.specs.RetrievedRecords.{Gives}
pub use Rattle.urb_group.specs.declared.taken.Taken.{Taken}
pub use Rattle.urb_names.specs.CarriedPackets.{Carried}
pub use Rattle.urb_names.specs.LabelsAndContents.{Label, Limits}
pub use Rattle.urb_names.specs.Names.{name}
pub use Rattle.urb_names.specs.Nodes.{is_node}
pub use Rattle.urb_names.specs.PacketGrammar.{packet_of}
pub use Rattle.urb_names.specs.declared.refusal.Refusal.{Refusal}
pub use Rattle.urb_node.specs.NodeViews.{ShowsNode, no_view}
pub use Rattle.urb_node.specs.Part.{Down, Node, Ready, opened_node}
pub use Rattle.urb_node.specs.Replies.{Done, Drafted, Refused, Same, Stored, Up, WentDown}
pub use Rattle.urb_node.specs.Steps.{doubt, goes_down, is_down, refuses}
pub use Rattle.urb_node.specs.declared.answer.Answer.{Answer}
pub use Rattle.urb_show.specs.Houses.{HouseView}
pub use Rattle.urb_show.specs.Pasts.{IsLedTo}
pub use Rattle.urb_show.specs.Statuses.{status_of}
pub use Rattle.urb_show.specs.declared.status.Status.{Status}
pub use Rattle.urb_show.specs.internal.ReaderExamples.{new_four, shows_none}
pub use Rattle.urb_stable.specs.DeliveredLogs.{log}
pub use Rattle.urb_stable.specs.Doubts.{Doubted}
pub use Rattle.urb_stable.specs.Entries.{Entry}
pub use Rattle.urb_stable.specs.KeptDrafts.{Keeps}
pub use Rattle.urb_stable.specs.MemoryStores.{empty_memory}
pub use Rattle.urb_stable.specs.PlacedRecords.{Placed}
pub use Rattle.urb_stable.specs.StableStorage.{refusal_of}
pub use Rattle.urb_stable.specs.StoreAnswers.{answer_of}
pub use Rattle.urb_stable.specs.declared.stable.Stable.{Ghosts}
pub use Rattle.urb_stable.specs.declared.stable.StoreFault.{StoreFault}
pub use Rattle.urb_turn.specs.Changes.{change_by}
pub use Rattle.urb_turn.specs.Counting.{count_of, events_in}
pub use Rattle.urb_turn.specs.Jobs.{node_of, runs_at}
pub use Rattle.urb_turn.specs.LastLoans.{AllBegin, AllRestSince}
pub use Rattle.urb_turn.specs.Loans.{AreLoans, IsLoan, LoanView, LoansView, events_until}
pub use Rattle.urb_turn.specs.NodeStores.{AreElsewhere, HasRested, IsStoreAfter, LeavesAfter}
pub use Rattle.urb_turn.specs.NodeStores.{is_own}
pub use Rattle.urb_turn.specs.Settlings.{NothingNew, OutOfMemory, Published, Settles}
pub use Rattle.urb_turn.specs.Stages.{crash_stage, image_stage, kept_stage, restart_stage}
pub use Rattle.urb_turn.specs.Stages.{taken_stage, tick_stage}
pub use Rattle.urb_turn.specs.Turns.{Begins, CameOf, Counts, Ends, Finishes, Goes, HasBegun}
pub use Rattle.urb_turn.specs.Turns.{IsKeptOf, Stores}
pub use Rattle.urb_turn.specs.Views.{FinishedView, TurnView}
pub use Rattle.urb_turn.specs.WholeTurns.{IsTurn, IsTurnAt}
pub use Rattle.urb_turn.specs.declared.job.Job.{Job}
pub use Rattle.urb_turn.specs.declared.turn_stages.Stage.{Stage}
pub use Rattle.urb_turn.specs.internal.LoanEnds.{AllRest, LoanEnds}
pub use Rattle.urb_turn.specs.internal.TurnExamples.{drafts_in_none, ended, first_of_one, four}
pub use Rattle.urb_turn.specs.internal.TurnExamples.{holding, house_of, house_of_four}
pub use Rattle.urb_turn.specs.internal.TurnExamples.{house_of_none, memory, new_status}
pub use Rattle.urb_turn.specs.internal.TurnExamples.{nothing_released}
pub use Rattle.urb_world.proofs.recovery.EventPlans.{after-append}
pub use Rattle.urb_world.proofs.steps.DraftsInSteps.{event_node, step-size}
pub use Rattle.urb_world.proofs.steps.Runs.{new-kept}
pub use Rattle.urb_world.specs.ProcessStops.{MayLeave}
pub use Rattle.urb_world.specs.RecoveryPlans.{after}
pub use Rattle.urb_world.specs.Step.{Arrive, Commit, Crash, Event, Fail, Restart, Submit, Tick}
unfoldable pub use Rattle.urb_world.specs.Step.{run}
pub use Rattle.urb_world.specs.Step.{world_after}
unfoldable pub use Rattle.urb_world.specs.Step.{step}
pub use Rattle.urb_world.specs.World.{World}
pub use Rattle.urb_world.specs.internal.Examples.{limits, pending}
pub use mathlib.Core.List.{IsPrefix}
