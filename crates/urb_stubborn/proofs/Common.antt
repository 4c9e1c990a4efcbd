-- The names of other files that most proofs of this crate cite, passed on from one place. It
-- declares nothing.
pub use Rattle.std.proofs.Common.{Bool, Err, IfOk, IsSome, List, None, Ok, Option, Result, Some, []}
pub use Rattle.std.proofs.Common.{ap, append-nil, append_assoc, ap₂, arith, cond, drop, eq-eqb}
pub use Rattle.std.proofs.Common.{false, filter, flat_map, get_or, get_or-set_other}
pub use Rattle.std.proofs.Common.{get_or-set_same, inl, inr, is_some, length, lt-ltb, ltb-true, map}
pub use Rattle.std.proofs.Common.{nat_lt, ne_eqb, not, option_map, refl, rules, slice_set, subst}
pub use Rattle.std.proofs.Common.{suc, sym, take, true, zero, ℕ, ⊎_elim, ◌&&◌, ◌*◌, ◌++◌, ◌+◌, ◌-◌}
pub use Rattle.std.proofs.Common.{◌<◌, ◌==◌, ◌||◌, ◌∙◌, ◌∷◌, ◌≡◌, ◌≢◌, ◌≤◌, ◌⊎◌}
pub use Rattle.std.proofs.lemmas.Bool.{and_from, and_parts, cases_lt, cond-false, cond-true}
pub use Rattle.std.proofs.lemmas.Bool.{cond_both, false_from_ne_true, false≢true, or_left, or_parts}
pub use Rattle.std.proofs.lemmas.Bool.{or_right}
pub use Rattle.std.specs.List.{list_all}
pub use Rattle.urb_names.proofs.RisingPairs.{name_lt-strict, name_lt-trans}
pub use Rattle.urb_names.specs.Acknowledgements.{ack_lt, acked}
pub use Rattle.urb_names.specs.CarriedPackets.{Carried, is_due, is_heard_of, others, packets_to}
pub use Rattle.urb_names.specs.CarriedPackets.{to_others, to_unheard}
pub use Rattle.urb_names.specs.CyclicOrder.{are_rising, is_after, last_name, resent}
pub use Rattle.urb_names.specs.LabelsAndContents.{Content, Label}
pub use Rattle.urb_names.specs.Names.{has_name, name, name_lt, same_name}
pub use Rattle.urb_names.specs.Nodes.{numbers_from}
pub use Rattle.urb_names.specs.Pairs.{message_of}
pub use Rattle.urb_names.specs.RisingLists.{placed}
pub use Rattle.urb_names.specs.declared.flags.Flags.{Flags}
pub use Rattle.urb_names.specs.declared.limits.TheConstants.{MAX_NODES, MAX_SENDERS, NAMES_PER_TICK}
pub use Rattle.urb_pending.specs.PendingSet.{first_name}
pub use Rattle.urb_stubborn.specs.Resends.{Resending, tick_packets}
pub use Rattle.urb_stubborn.specs.internal.TickWalks.{IsPassed, IsTick, IsWalked, behind, between}
pub use Rattle.urb_stubborn.specs.internal.TickWalks.{due_pairs, is_within}
