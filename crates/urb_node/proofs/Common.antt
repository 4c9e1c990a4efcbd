-- The names of other files that most proofs of this crate cite, passed on from one place. It
-- declares nothing.
pub use Rattle.std.proofs.Common.{Bool, Break, Continue, ControlFlow, Err, Fits, IfOk, IfSome, List}
pub use Rattle.std.proofs.Common.{None, Ok, OnErr, OnOk, Option, Result, Some, [], add-one, ap}
pub use Rattle.std.proofs.Common.{append-nil, append_assoc, ap₂, arith, bytes_eq, cond, count_by}
pub use Rattle.std.proofs.Common.{drop, eq-eqb, eqb-true, false, filter, find, flat_map}
pub use Rattle.std.proofs.Common.{if◌then◌else◌, inl, inr, is_none, is_some, le-ltb, length}
pub use Rattle.std.proofs.Common.{length-append, lt-ltb, map, nat_le, nat_lt, ne_eqb, not}
pub use Rattle.std.proofs.Common.{option_map, refl, reverse, rules, slice_get, subst, suc, sym}
pub use Rattle.std.proofs.Common.{take, true, w32, zero, ℕ, ⊎_elim, ◌&&◌, ◌*◌, ◌++◌, ◌+◌, ◌-◌, ◌<◌}
pub use Rattle.std.proofs.Common.{◌==◌, ◌||◌, ◌∙◌, ◌∷◌, ◌≡◌, ◌≢◌, ◌≤◌, ◌⊎◌}
pub use Rattle.std.proofs.Math.Path.{fun_ext}
pub use Rattle.std.proofs.lemmas.Bool.{and_from, and_parts, cases_Bool, cond-false, cond-true}
pub use Rattle.std.proofs.lemmas.Bool.{false≢true, or_cases, or_left, or_right}
pub use Rattle.std.proofs.lemmas.List.Folds.{list_any-append}
pub use Rattle.std.specs.List.{list_all, position_or_len, prefix_len}
pub use Rattle.std.specs.Option.{ForSome}
pub use Rattle.urb_fifo.specs.Delivery.{Delivery, IsDelivery, IsReleaseOf}
pub use Rattle.urb_fifo.specs.NewReleases.{newly_released}
pub use Rattle.urb_majority.specs.Acks.{AckSet}
pub use Rattle.urb_names.proofs.ElementPlaces.{any_insert}
pub use Rattle.urb_names.proofs.FoundPairs.{has_pair-found}
pub use Rattle.urb_names.proofs.OrderedPairs.{has_pair-head, has_pair-inserted}
pub use Rattle.urb_names.proofs.SameNames.{same_message-same, same_name-same, same_name-true}
pub use Rattle.urb_names.proofs.SentPairs.{all_weaker, resent-from, to_others-from}
pub use Rattle.urb_names.proofs.TruthValues.{both_ways}
pub use Rattle.urb_names.specs.Acknowledgements.{acked, with_ack}
pub use Rattle.urb_names.specs.CarriedPackets.{AreFrom, Carried, says_certified, to_others}
pub use Rattle.urb_names.specs.CyclicOrder.{are_rising, inserted}
pub use Rattle.urb_names.specs.LabelsAndContents.{Content, Label, Limits}
pub use Rattle.urb_names.specs.Names.{has_name, name, name_lt, names, same_message, same_name}
pub use Rattle.urb_names.specs.Nodes.{is_majority, majority_passes}
pub use Rattle.urb_names.specs.Pairs.{has_pair, is_numbered, message_of, next_number, own}
pub use Rattle.urb_names.specs.Release.{part_of, released}
pub use Rattle.urb_names.specs.RisingLists.{is_rising, placed}
pub use Rattle.urb_names.specs.declared.flags.Flags.{Flags}
pub use Rattle.urb_names.specs.declared.limits.TheConstants.{MAX_PAYLOAD}
pub use Rattle.urb_names.specs.declared.refusal.NoMemory.{NoMemory}
pub use Rattle.urb_names.specs.declared.refusal.Refusal.{Refusal}
pub use Rattle.urb_node.specs.AnswerPackets.{answer_with}
pub use Rattle.urb_node.specs.CallEffects.{AnswersFrom, AnswersOfStored, AreOfStored, Confirms}
pub use Rattle.urb_node.specs.CallEffects.{Crashes, Fails, LeadsTo, MayGrow, Restarts, TellsNext}
pub use Rattle.urb_node.specs.CallEffects.{Ticks}
pub use Rattle.urb_node.specs.LayerFields.{memory_of}
pub use Rattle.urb_node.specs.NodeMemories.{Fallen, Holding, Memory, ShowsDown, ShowsIn, ShowsReady}
pub use Rattle.urb_node.specs.NodeMemories.{ShowsStoring, view_in}
pub use Rattle.urb_node.specs.NodeViews.{NodeView, ShowsNode}
pub use Rattle.urb_node.specs.Part.{Down, Node, Ready, State, Storing, opened_node, own_acks}
pub use Rattle.urb_node.specs.Part.{packet_from, self_acks}
pub use Rattle.urb_node.specs.RecordAdmission.{IsNext, MayArrive}
pub use Rattle.urb_node.specs.Replies.{Done, Drafted, Refused, Reply, Same, Sent, WentDown}
pub use Rattle.urb_node.specs.Steps.{acks_after, answers, arrives, broadcast_after, comes_up}
pub use Rattle.urb_node.specs.Steps.{commits, counts, done, drafts, fails, goes_down, heard_after}
pub use Rattle.urb_node.specs.Steps.{heard_of, hears, is_accepted, is_down, is_storing}
pub use Rattle.urb_node.specs.Steps.{keeps_record, packets_of, refuses, reply_to, resends, restarts}
pub use Rattle.urb_node.specs.Steps.{restarts_with, same_list, same_names, same_pairs, same_record}
pub use Rattle.urb_node.specs.Steps.{says, submits, submits_by_number, takes, tells, with_heard}
pub use Rattle.urb_node.specs.declared.answer.Answer.{Answer}
pub use Rattle.urb_node.specs.declared.call_outcomes.Wanted.{Wanted}
pub use Rattle.urb_node.specs.declared.cause.Cause.{Cause}
pub use Rattle.urb_node.specs.declared.held.Held.{Held}
pub use Rattle.urb_node.specs.declared.image_verdict.Verdict.TheVariants.{Neither}
pub use Rattle.urb_node.specs.internal.HeldLayers.{HasRoom, IsDrafted, IsHeld, IsNextHeld, IsNextIn}
pub use Rattle.urb_node.specs.internal.ImageVerdicts.{IsOtherThan, IsVerdict, SaysWith}
pub use Rattle.urb_node.specs.internal.ImageVerdicts.{certified_by, delivered_by, pairs_with}
pub use Rattle.urb_node.specs.internal.LayerAdditions.{certified_with, counted_with, with_doubtful}
pub use Rattle.urb_node.specs.internal.LayerAdditions.{with_record}
pub use Rattle.urb_node.specs.internal.OutcomeSteps.{Finds, step_from}
pub use Rattle.urb_node.specs.internal.Outcomes.{Answers, Outcome, Refuses, Wants, arrive_outcome}
pub use Rattle.urb_node.specs.internal.Outcomes.{certified_outcome, counted_outcome, hearing}
pub use Rattle.urb_node.specs.internal.Outcomes.{numbered_outcome, own_of, pending_outcome}
pub use Rattle.urb_node.specs.internal.Outcomes.{submit_outcome, with_counted}
pub use Rattle.urb_node.specs.internal.ReadyViews.{ready_view}
pub use Rattle.urb_pending.specs.PendingSet.{IsPendingSet, PendingSet, added, name_given}
pub use Rattle.urb_stable.proofs.JoinedRecords.{cert-append}
pub use Rattle.urb_stable.specs.DeliveredLogs.{log}
pub use Rattle.urb_stable.specs.Entries.{Entry, name_of}
pub use Rattle.urb_stable.specs.Fitting.{KeepsOwn, in_range}
pub use Rattle.urb_stable.specs.Records.{cert, pend}
pub use Rattle.urb_stable.specs.declared.record.Record.TheVariants.{Cert, Pend, PendCert}
pub use Rattle.urb_stubborn.specs.Resends.{Resending, tick_packets}
