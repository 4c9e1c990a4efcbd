-- The names of other files that most proofs of this crate cite, passed on from one place. It
-- declares nothing.
pub use Rattle.std.proofs.Common.{Bool, Contains, Err, IfOk, List, MatchOption, None, Ok, Option}
pub use Rattle.std.proofs.Common.{Result, Some, Vec, [], ap, arith, false, if◌then◌else◌, inl, inr}
pub use Rattle.std.proofs.Common.{length, refl, rules, slice_get, subst, suc, sym, true, zero, ℕ}
pub use Rattle.std.proofs.Common.{⊎_elim, ◌++◌, ◌-◌, ◌↔◌, ◌∙◌, ◌∷◌, ◌≡◌, ◌≤◌, ◌⊎◌}
pub use Rattle.std.proofs.lemmas.Bool.{false≢true}
pub use Rattle.urb_client.specs.Requests.{Asked}
pub use Rattle.urb_client.specs.Responses.{Said}
pub use Rattle.urb_desk.specs.Desks.{DeskView, HasAccepted, HasCrashed, HasRestarted, IsJobOf, Sees}
pub use Rattle.urb_desk.specs.Desks.{WasSo, Works, told_of, told_state}
pub use Rattle.urb_group.specs.GroupViews.{GroupView, IsSound, Shows, view_of}
pub use Rattle.urb_group.specs.ReportedStates.{state_of}
pub use Rattle.urb_names.specs.CarriedPackets.{Carried}
pub use Rattle.urb_names.specs.LabelsAndContents.{Content, Label, Limits}
pub use Rattle.urb_names.specs.Names.{name}
pub use Rattle.urb_names.specs.Nodes.{is_node}
pub use Rattle.urb_names.specs.Pairs.{own}
pub use Rattle.urb_node.specs.NodeViews.{ShowsNode, no_view}
pub use Rattle.urb_node.specs.Part.{Down, Node, Ready, opened_node}
pub use Rattle.urb_node.specs.Replies.{Refused, Up, WentDown}
pub use Rattle.urb_node.specs.Steps.{comes_up, crashes, doubt, goes_down, is_down, refuses}
pub use Rattle.urb_node.specs.Steps.{restarts, says}
pub use Rattle.urb_show.proofs.Prefixes.{prefix_trans}
pub use Rattle.urb_show.specs.Pasts.{IsLedTo}
pub use Rattle.urb_show.specs.Statuses.{TellsStatus}
pub use Rattle.urb_show.specs.declared.status.Status.{Status}
pub use Rattle.urb_show.specs.internal.ReaderExamples.{new_four}
pub use Rattle.urb_stable.specs.DeliveredLogs.{log}
pub use Rattle.urb_stable.specs.Records.{pend}
pub use Rattle.urb_turn.specs.Loans.{LoansView}
pub use Rattle.urb_turn.specs.internal.TurnExamples.{four, new_status, stored_four}
pub use Rattle.urb_world.proofs.steps.Runs.{new-kept, opened-kept}
pub use Rattle.urb_world.specs.Acceptance.{HasStored}
pub use Rattle.urb_world.specs.RecoveryPlans.{after}
pub use Rattle.urb_world.specs.Step.{Crash, Event, Restart, world_after}
unfoldable pub use Rattle.urb_world.specs.Step.{run, step}
pub use Rattle.urb_world.specs.World.{AreImages, World, image_of, opened, stored}
pub use Rattle.urb_world.specs.internal.Examples.{limits, pending}
pub use Rattle.urb_world.specs.internal.Scripts.{message}
pub use mathlib.Core.List.{IsPrefix}
