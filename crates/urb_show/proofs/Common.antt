-- The names of other files that most proofs of this crate cite, passed on from one place. It
-- declares nothing.
pub use Rattle.std.proofs.Common.{Bool, Contains, Err, IfOk, IsTrue, List, MatchResult, None, Ok}
pub use Rattle.std.proofs.Common.{Option, Result, Some, [], ap, append_assoc, ap₂, arith, bytes_eq}
pub use Rattle.std.proofs.Common.{cond, drop, eq-eqb, eqb-true, false, filter, find, fold}
pub use Rattle.std.proofs.Common.{if◌then◌else◌, inl, inr, is_none, is_ok, le_refl, le_trans}
pub use Rattle.std.proofs.Common.{length, length-append, length-take, lt-ltb, map, nat_lt, ne_eqb}
pub use Rattle.std.proofs.Common.{not, refl, rules, slice_get, slice_index_or, slice_set, subst}
pub use Rattle.std.proofs.Common.{suc, sym, take, true, zero, zero-le, ℕ, ⊎_elim, ◌&&◌, ◌++◌, ◌+◌}
pub use Rattle.std.proofs.Common.{◌-◌, ◌<◌, ◌==◌, ◌^◌, ◌||◌, ◌↔◌, ◌∙◌, ◌∷◌, ◌≡◌, ◌≢◌, ◌≤◌, ◌⊎◌}
pub use Rattle.std.proofs.lemmas.Bool.{cond-true, false≢true}
pub use Rattle.std.proofs.lemmas.Bool.Decides.{nat_tests}
pub use Rattle.std.proofs.lemmas.List.{length-map}
pub use Rattle.std.proofs.lemmas.List.Elements.{filter-append}
pub use Rattle.std.proofs.lemmas.List.Sums.{fold-append}
pub use Rattle.urb_group.proofs.shown.AgreeingWorlds.{sound-kept}
pub use Rattle.urb_group.proofs.shown.Deliveries.{deliveries-known}
pub use Rattle.urb_group.specs.DeliveredMessages.{Delivery, delivered_at, deliveries, known}
pub use Rattle.urb_group.specs.DeliveredMessages.{sent_by}
pub use Rattle.urb_group.specs.GroupCalls.{ComesUp, Commits, GoesDown, Ticks}
pub use Rattle.urb_group.specs.GroupViews.{GroupView, IsSound, Shows, view_of}
pub use Rattle.urb_group.specs.declared.state.State.{State}
pub use Rattle.urb_group.specs.declared.taken.Taken.{Taken}
pub use Rattle.urb_names.proofs.FoundPairs.{has_pair-found}
pub use Rattle.urb_names.specs.CarriedPackets.{Carried}
pub use Rattle.urb_names.specs.LabelsAndContents.{Content, Label, Limits}
pub use Rattle.urb_names.specs.ListPrefixes.{OneBegins}
pub use Rattle.urb_names.specs.Names.{has_name, name}
pub use Rattle.urb_names.specs.Nodes.{is_node, numbers_from}
pub use Rattle.urb_names.specs.Pairs.{has_pair, message_of, own}
pub use Rattle.urb_names.specs.declared.refusal.Refusal.{Refusal}
pub use Rattle.urb_node.specs.NodeViews.{ShowsNode, no_view}
pub use Rattle.urb_node.specs.Part.{Down, Ready, Storing, opened_node}
pub use Rattle.urb_node.specs.Replies.{Done, Refused, Reply, Sent, Stored, Up, WentDown}
pub use Rattle.urb_node.specs.Steps.{doubt, submits}
pub use Rattle.urb_show.specs.Additions.{lists_of}
pub use Rattle.urb_show.specs.Answers.{Answer}
pub use Rattle.urb_show.specs.DeliveredLists.{AreDeliveredBy, HaveDelivered, in_log}
pub use Rattle.urb_show.specs.Houses.{Grew, HouseView}
pub use Rattle.urb_show.specs.Lists.{Agree, AgreeAcross, Lists, OneBeginsAll, add_at, delivery_of}
pub use Rattle.urb_show.specs.Lists.{entry_of, list_at, lists_in}
pub use Rattle.urb_show.specs.Pages.{IsPageOf}
pub use Rattle.urb_show.specs.Pasts.{IsLedTo, reply_to}
pub use Rattle.urb_show.specs.Readers.{AreOfOneHistory, GoesOn, Learns, ReaderView, ToldView}
pub use Rattle.urb_show.specs.Service.{Does, Join, Node, Resumes, Service, Starts}
pub use Rattle.urb_show.specs.ShownServices.{ShowsStep, listed, shown_node, submit_answer, write_of}
pub use Rattle.urb_show.specs.declared.entry.Addition.{Addition}
pub use Rattle.urb_show.specs.internal.Examples.{told}
pub use Rattle.urb_show.specs.internal.History.{Issue, PublisherView, issue_of}
pub use Rattle.urb_show.specs.internal.Marks.{MarkView}
pub use Rattle.urb_show.specs.internal.Operations.{applied_to}
pub use Rattle.urb_show.specs.internal.PreparedLists.{IsHouse}
pub use Rattle.urb_show.specs.internal.PublishingRule.{AreTimely, IsIssue, IsTimely, NameView}
pub use Rattle.urb_show.specs.internal.ReaderExamples.{new_four, shows_none}
pub use Rattle.urb_show.specs.internal.ServiceExamples.{m1, m2, ready}
pub use Rattle.urb_stable.proofs.JoinedRecords.{pend-append}
pub use Rattle.urb_stable.specs.DeliveredLogs.{entries, log}
pub use Rattle.urb_stable.specs.PlacedRecords.{Placed}
pub use Rattle.urb_stable.specs.Records.{pend}
pub use Rattle.urb_world.proofs.recovery.EventPlans.{after-append}
pub use Rattle.urb_world.proofs.safety.SafeWorlds.{safe}
pub use Rattle.urb_world.proofs.steps.DraftedRecords.{to_sender}
pub use Rattle.urb_world.proofs.steps.DraftsInSteps.{step-size}
pub use Rattle.urb_world.proofs.steps.Runs.{all_kept, reached-keeps, run-kept}
pub use Rattle.urb_world.specs.RecoveryPlans.{after}
pub use Rattle.urb_world.specs.RunInvariant.{NodesKept}
pub use Rattle.urb_world.specs.Step.{Arrive, Commit, Crash, Event, Fail, Restart, Submit, Tick}
unfoldable pub use Rattle.urb_world.specs.Step.{run}
pub use Rattle.urb_world.specs.World.{World, started, stored}
pub use Rattle.urb_world.specs.internal.Examples.{limits}
pub use mathlib.Core.List.{IsPrefix}
