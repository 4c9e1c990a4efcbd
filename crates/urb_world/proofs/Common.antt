-- The names of other files that most proofs of this crate cite, passed on from one place. It
-- declares nothing.
pub use Rattle.std.proofs.Common.{Bool, Err, IsTrue, List, None, Ok, Option, Result, Some, [], ap}
pub use Rattle.std.proofs.Common.{append-nil, append_assoc, ap₂, arith, bytes_eq, cond, count_by}
pub use Rattle.std.proofs.Common.{drop, eq-eqb, eqb-true, false, filter, find, flat_map}
pub use Rattle.std.proofs.Common.{if◌then◌else◌, inl, inr, is_none, is_some, le-ltb, length}
pub use Rattle.std.proofs.Common.{length-take, lt-ltb, ltb-true, map, nat_lt, ne_eqb, not, refl}
pub use Rattle.std.proofs.Common.{replicate, reverse, slice_get, slice_index_or, subst, suc, sym}
pub use Rattle.std.proofs.Common.{take, true, zero, ℕ, ⊎_elim, ◌&&◌, ◌*◌, ◌++◌, ◌+◌, ◌-◌, ◌<◌, ◌==◌}
pub use Rattle.std.proofs.Common.{◌||◌, ◌∙◌, ◌∷◌, ◌≡◌, ◌≤◌, ◌⊎◌}
pub use Rattle.std.proofs.Math.Path.{fun_ext}
pub use Rattle.std.proofs.lemmas.Bool.{and_from, and_parts, cases_Bool, cases_eq, cases_lt}
pub use Rattle.std.proofs.lemmas.Bool.{cond-false, cond-true, cond_both, false_from_ne_true}
pub use Rattle.std.proofs.lemmas.Bool.{false≢true, not-false, or_cases, or_left, or_right}
pub use Rattle.std.proofs.lemmas.List.{length-map, take-append-le}
pub use Rattle.std.proofs.lemmas.List.Elements.{filter-append}
pub use Rattle.std.proofs.lemmas.List.Sums.{length-filter}
pub use Rattle.std.specs.List.{AllByRecursion, list_all, list_any, position_or_len}
pub use Rattle.urb_names.proofs.FoundPairs.{has_pair-cases, has_pair-found, has_pair-itself}
pub use Rattle.urb_names.proofs.FoundPairs.{has_pair-last, has_pair-left, message_of-more}
pub use Rattle.urb_names.proofs.FoundPairs.{message_of-new, no_pair, none_found, own-other}
pub use Rattle.urb_names.proofs.FoundPairs.{own-push, some_found}
pub use Rattle.urb_names.proofs.LogRows.{has_name-part, length-row, no_name_twice, part-released}
pub use Rattle.urb_names.proofs.LogRows.{reach, row}
pub use Rattle.urb_names.proofs.OrderedPairs.{has_pair-behind, has_pair-first, has_pair-head}
pub use Rattle.urb_names.proofs.Places.{get_some}
pub use Rattle.urb_names.proofs.RisingPairs.{name_lt-strict, name_lt-trans}
pub use Rattle.urb_names.proofs.SameNames.{any_left, any_right, majority_grows, same_message-true}
pub use Rattle.urb_names.proofs.SameNames.{same_name-same, same_name-true}
pub use Rattle.urb_names.proofs.SentPairs.{AllIn, all-from, all_append, all_weaker, in_due}
pub use Rattle.urb_names.proofs.SentPairs.{in_itself, in_resent, in_rising}
pub use Rattle.urb_names.specs.Acknowledgements.{acked, with_ack}
pub use Rattle.urb_names.specs.CarriedPackets.{AreFrom, Carried, IsFrom, due_of, is_due}
pub use Rattle.urb_names.specs.CarriedPackets.{is_heard_of, others, packets_to, says_certified}
pub use Rattle.urb_names.specs.CarriedPackets.{to_unheard}
pub use Rattle.urb_names.specs.CyclicOrder.{are_rising, cyclic, inserted, is_after, last_name}
pub use Rattle.urb_names.specs.CyclicOrder.{resent, rising}
pub use Rattle.urb_names.specs.LabelsAndContents.{Content, Label, Limits}
pub use Rattle.urb_names.specs.ListPrefixes.{Begins, OneBegins}
pub use Rattle.urb_names.specs.Names.{has_name, name, name_lt, names, same_message, same_name}
pub use Rattle.urb_names.specs.Nodes.{is_node, majority_passes, nodes, numbers_from}
pub use Rattle.urb_names.specs.Pairs.{has_pair, is_numbered, message_of, own}
pub use Rattle.urb_names.specs.Release.{part_of}
pub use Rattle.urb_names.specs.declared.flags.Flags.{Flags}
pub use Rattle.urb_names.specs.declared.limits.TheConstants.{MAX_PAYLOAD, NAMES_PER_TICK}
pub use Rattle.urb_names.specs.declared.refusal.PacketFault.{PacketFault}
pub use Rattle.urb_names.specs.declared.refusal.Refusal.{Refusal}
pub use Rattle.urb_node.proofs.FinalAnswers.{answers-certify, answers-hear, heard-silent}
pub use Rattle.urb_node.proofs.RestartReplies.{same_record-same}
pub use Rattle.urb_node.proofs.SubmitCases.{IsNew, first_name, next_name, submits-cases}
pub use Rattle.urb_node.specs.Part.{Down, Node, Ready, State, Storing, opened_node, packet_from}
pub use Rattle.urb_node.specs.Replies.{Done, Drafted, Refused, Reply, Same, Sent, Stored, WentDown}
pub use Rattle.urb_node.specs.Replies.{packets_in}
pub use Rattle.urb_node.specs.Steps.{acks_after, answers, answers_of, arrives, broadcast_after}
pub use Rattle.urb_node.specs.Steps.{comes_up, commits, counts, crashes, done, doubt, drafts, due}
pub use Rattle.urb_node.specs.Steps.{fails, goes_down, heard_after, heard_of, hears, is_down}
pub use Rattle.urb_node.specs.Steps.{is_storing, keeps_record, next_position, refuses, reply_to}
pub use Rattle.urb_node.specs.Steps.{resends, restarts, restarts_with, same_list, same_names}
pub use Rattle.urb_node.specs.Steps.{same_pairs, same_record, says, says_heard, submits, takes}
pub use Rattle.urb_node.specs.Steps.{with_cause, with_heard}
pub use Rattle.urb_node.specs.declared.answer.Answer.TheVariants.{Accepted, Again, Answered, Noted}
pub use Rattle.urb_node.specs.declared.cause.Cause.{Cause}
pub use Rattle.urb_stable.proofs.Contents.{IsEither, contents-either}
pub use Rattle.urb_stable.proofs.JoinedRecords.{cert-append, pend-append}
pub use Rattle.urb_stable.proofs.KeptRules.{Grows, kept-held, kept-known, kept-numbered, kept-push}
pub use Rattle.urb_stable.proofs.KeptRules.{kept-range, kept-unique, pairs-all, rules-grow}
pub use Rattle.urb_stable.proofs.OwnRules.{own_number}
pub use Rattle.urb_stable.specs.DeliveredLogs.{entries, log}
pub use Rattle.urb_stable.specs.Entries.{Entry, IsEntry, name_of}
pub use Rattle.urb_stable.specs.Fitting.{Fits, Kept, Rules, in_range, keeps_a, keeps_c, keeps_d}
pub use Rattle.urb_stable.specs.Fitting.{misfits_behind}
pub use Rattle.urb_stable.specs.Records.{cert, pend}
pub use Rattle.urb_stable.specs.declared.record.Record.TheVariants.{Cert, Pend, PendCert}
pub use Rattle.urb_world.specs.ProcessStops.{AlwaysLeaves, GoesOnUnder, MayLeave, SurvivesStop}
pub use Rattle.urb_world.specs.RecoveredWorlds.{AllDelivered, IsDone, IsHarmless, IsNotStranded}
pub use Rattle.urb_world.specs.RecoveredWorlds.{WasSent}
pub use Rattle.urb_world.specs.RecoveryPlans.{Plan, after, all_back, both, carries, comes_back}
pub use Rattle.urb_world.specs.RecoveryPlans.{each, image_with, readied, receipt_of, recovery}
pub use Rattle.urb_world.specs.RecoveryPlans.{round_of, rounds, stores}
pub use Rattle.urb_world.specs.Resends.{IsDueAmong, cursor_next}
pub use Rattle.urb_world.specs.Rounds.{Act, Adds, AllUp, AnswersArrive, AreUp, Arrives, Breaks}
pub use Rattle.urb_world.specs.Rounds.{DoArrive, DoesArrive, HasDeliveredHeld, IsBusyRound}
pub use Rattle.urb_world.specs.Rounds.{IsBusyRoundAmong, IsHeldAmong, IsRound, IsRoundAmong}
pub use Rattle.urb_world.specs.Rounds.{IsUnbroken, IsUndisturbed, TicksArrive, act_of, acts_of}
pub use Rattle.urb_world.specs.Rounds.{arrival_by, disturbance, taken, tick_by}
pub use Rattle.urb_world.specs.RunInvariant.{AcksKept, DoubtKept, IsCaused, IsKept, MayJoin}
pub use Rattle.urb_world.specs.RunInvariant.{NodeKept, NodesKept, StateKept}
pub use Rattle.urb_world.specs.RunMoments.{AgreeInTime, EntriesGrow, GoesOn}
pub use Rattle.urb_world.specs.SafetyProperties.{IsInOrder, OneMessage, Safe}
pub use Rattle.urb_world.specs.Scenes.{held_by}
pub use Rattle.urb_world.specs.StartLimits.{HaveMajorities}
pub use Rattle.urb_world.specs.Step.{Arrive, Commit, Crash, Event, Fail, IsReached, IsStart}
pub use Rattle.urb_world.specs.Step.{Of_images, Of_new, Restart, Run, Submit, Tick, at_node, is_for}
pub use Rattle.urb_world.specs.Step.{packet_arrives, world_after}
unfoldable pub use Rattle.urb_world.specs.Step.{run, step}
pub use Rattle.urb_world.specs.StoresAhead.{IsAhead, MayFollow}
pub use Rattle.urb_world.specs.TruthfulPackets.{AllTruthful, ToldTruth}
pub use Rattle.urb_world.specs.World.{AreImages, World, bears_out, image_of, opened, started}
pub use Rattle.urb_world.specs.World.{truthful, updated}
pub use Rattle.urb_world.specs.internal.Examples.{certified, filled, held_by_three, limits, node_in}
pub use Rattle.urb_world.specs.internal.Examples.{two_of_one}
pub use Rattle.urb_world.specs.internal.Scripts.{message}
