-- The names of other files that most proofs of this crate cite, passed on from one place. It
-- declares nothing.
pub use Rattle.std.proofs.Common.{Bool, Err, IfOk, IsSomeAnd, IsTrue, List, None, Ok, OnOk, Option}
pub use Rattle.std.proofs.Common.{Result, Some, [], ap, append-nil, append_assoc, ap₂, arith, codes}
pub use Rattle.std.proofs.Common.{cond, drop, eq-eqb, eqb-true, false, get_or, inl, inr, le_refl}
pub use Rattle.std.proofs.Common.{length, length-append, length-drop, map, nat_lt, not, refl, rules}
pub use Rattle.std.proofs.Common.{slice_index_or, slice_set, subst, suc, sym, take, true}
pub use Rattle.std.proofs.Common.{vec_capacity, zero, ℕ, ⊎_elim, ◌%◌, ◌&&◌, ◌*◌, ◌++◌, ◌+◌, ◌-◌}
pub use Rattle.std.proofs.Common.{◌/◌, ◌<◌, ◌==◌, ◌^◌, ◌↔◌, ◌∙◌, ◌∷◌, ◌≡◌, ◌≢◌, ◌≤◌, ◌⊎◌}
pub use Rattle.std.proofs.lemmas.Bool.{cond-false, cond-true, cond_both, false≢true}
pub use Rattle.std.proofs.lemmas.Bool.Decides.{nat_tests}
pub use Rattle.std.proofs.lemmas.Fmt.{decimal_digit, decimal_injective}
pub use Rattle.std.proofs.lemmas.List.Elements.{All-push}
pub use Rattle.std.proofs.lemmas.List.Splits.{length-slice_split}
pub use Rattle.std.specs.Fmt.{decimal}
pub use Rattle.std.specs.Io.KnownBytes.{Consumes}
pub use Rattle.std.specs.List.{All, flat_map}
pub use Rattle.std.specs.Option.{IfSome, is_some}
pub use Rattle.std.specs.Str.{IsUtf8, bytes_eq}
pub use Rattle.urb_group.specs.ClusterCalls.{StoreMoves}
pub use Rattle.urb_group.specs.GroupCalls.{Steps}
pub use Rattle.urb_group.specs.GroupStores.{Clustered, held_draft}
pub use Rattle.urb_group.specs.GroupViews.{GroupView, Shows}
pub use Rattle.urb_stable.specs.RetrievedRecords.{Gives}
pub use Rattle.urb_names.specs.CarriedPackets.{Carried}
pub use Rattle.urb_names.specs.LabelsAndContents.{Content, IsLabel, Label, Limits}
pub use Rattle.urb_names.specs.Nodes.{is_node, numbers_from}
pub use Rattle.urb_names.specs.Pairs.{message_of}
pub use Rattle.urb_names.specs.declared.flags.Flags.{Flags}
pub use Rattle.urb_names.specs.declared.refusal.Refusal.{Refusal}
pub use Rattle.urb_node.specs.Part.{Down, Node, Ready, State, Storing, opened_node}
pub use Rattle.urb_node.specs.Replies.{Refused, Reply}
pub use Rattle.urb_node.specs.Steps.{commits, doubt, fails, goes_down, is_down, keeps_record}
pub use Rattle.urb_node.specs.Steps.{restarts_with}
pub use Rattle.urb_node.specs.declared.cause.Cause.{Cause}
pub use Rattle.urb_script.specs.ByteWords.{IsHexWord}
pub use Rattle.urb_script.specs.Commands.{AreArguments, ArriveFlagged, Command, Group, Held}
pub use Rattle.urb_script.specs.Commands.{InRange, IsSpelled, Log, Raw, Reopen, Spells, keyword}
pub use Rattle.urb_script.specs.Lines.{IsOneLine, lines_of, words_of}
pub use Rattle.urb_script.specs.Scripts.{Answers, IsBad, bad_line}
pub use Rattle.urb_script.specs.Steps.{Plays, Takes, answer, happens, happens_with, new_scene}
pub use Rattle.urb_script.specs.Steps.{reopens, shown_log}
pub use Rattle.urb_script.specs.Texts.{answer_text, entry_text, packet_text, reply_text, told_text}
pub use Rattle.urb_script.specs.ValueWords.{IsNodeNumber, name_text}
pub use Rattle.urb_script.specs.declared.commands.CommandLine.{CommandLine}
pub use Rattle.urb_script.specs.declared.runs.RunEnd.TheVariants.{BadLine}
pub use Rattle.urb_script.specs.internal.HexDigits.{bytes_of}
pub use Rattle.urb_script.specs.internal.LineReads.{ReadsLine, TookPart, words_left}
pub use Rattle.urb_script.specs.internal.ShownScenes.{IsHeldBy, ShowsScene}
pub use Rattle.urb_stable.specs.DeliveredLogs.{entries, log}
pub use Rattle.urb_stable.specs.Entries.{Entry}
pub use Rattle.urb_stable.specs.Fitting.{first_misfit}
pub use Rattle.urb_stable.specs.MemoryStores.{Memory, empty_memory, with_doubt}
pub use Rattle.urb_stable.specs.PlacedRecords.{Placed}
pub use Rattle.urb_stable.specs.Records.{pend}
pub use Rattle.urb_stable.specs.StableStorage.{IsContents, refusal_of}
pub use Rattle.urb_stable.specs.declared.fitting.Misfit.{Misfit}
pub use Rattle.urb_stable.specs.declared.memory.Failure.{Failure}
pub use Rattle.urb_stable.specs.declared.memory.Failure.TheVariants.{New, Old}
pub use Rattle.urb_world.proofs.steps.DraftsInSteps.{step-size}
pub use Rattle.urb_world.proofs.steps.OneNodeStep.{updated-at}
pub use Rattle.urb_world.specs.EventEffects.{event_node}
pub use Rattle.urb_world.specs.MemoryStores.{in_memory}
pub use Rattle.urb_world.specs.Scenes.{Scene, held_by, receipt}
pub use Rattle.urb_world.specs.Step.{Commit, Event, at_node, world_after}
unfoldable pub use Rattle.urb_world.specs.Step.{step}
pub use Rattle.urb_world.specs.World.{World, stored, updated}
