-- From the outcome in a node's memory to the result of its call.
use Rattle.urb_node.proofs.Common.{Answer, Answers, Break, Carried, Content, Continue, ControlFlow}
use Rattle.urb_node.proofs.Common.{Drafted, Err, Finds, Held, IfOk, IfSome, IsHeld, Label, LeadsTo}
use Rattle.urb_node.proofs.Common.{List, MayGrow, Memory, NoMemory, Node, Ok, OnErr, OnOk, Outcome}
use Rattle.urb_node.proofs.Common.{Refusal, Refused, Refuses, Reply, Resending, Result, Sent}
use Rattle.urb_node.proofs.Common.{ShowsReady, State, Ticks, Wanted, Wants, ap, are_rising}
use Rattle.urb_node.proofs.Common.{has_name, if◌then◌else◌, is_down, is_storing, name_of}
use Rattle.urb_node.proofs.Common.{ready_view, refl, refuses, resends, step_from, subst, suc, sym}
use Rattle.urb_node.proofs.Common.{tick_packets, true, ℕ, ◌∙◌, ◌≡◌}
use Rattle.std.specs.ControlFlow.{continue_value}
use Rattle.urb_stubborn.specs.Resends.{ticked}
use Rattle.urb_node.specs.Steps.{ticks}
use Rattle.urb_node.specs.NodeMemories.{IsSameNode}
use Rattle.urb_node.specs.internal.OutcomeSteps.{IsRefusalOf, IsWanted, TakesMemory}
use Rattle.urb_node.specs.CallEffects.{IsRefusedAs}
use Rattle.urb_node.proofs.MemoryChanges.{tick-shows}
use Rattle.urb_node.proofs.OutcomeAgreement.{Says}
use Rattle.urb_names.specs.declared.refusal.Refusal.TheVariants as refusal
use Rattle.urb_node.specs.declared.answer.Answer.TheVariants as answer

-- an outcome that allocates memory has a reply that may be refused for it
grows : (told : Reply × Node) (outcome : Outcome) → Says told outcome → TakesMemory outcome
    → MayGrow told.0
grows told (Answers (answer.Noted x) a) says takes = subst MayGrow (sym says.0) tt
grows told (Answers (answer.Answered x packets) a) says takes = subst MayGrow (sym says.0) tt
grows told (Wants entry cause a) says takes = subst MayGrow (sym says.0) tt
grows told (Answers (answer.Accepted x) a) says takes = absurd takes
grows told (Answers (answer.Again x) a) says takes = absurd takes
grows told (Refuses r) says takes = absurd takes

-- a refusal of the outcome is the reply
refused : (told : Reply × Node) (outcome : Outcome) (r : Refusal) → Says told outcome
    → outcome ≡ Refuses r → told.0 ≡ Refused r
refused told outcome r says e =
    let told_so : Says told (Refuses r) = subst (λ (o : Outcome). Says told o) e says in told_so

-- the refusal of an outcome is the definition's, or it is for memory, if memory may be refused
pub is-refused : (told : Reply × Node) (outcome : Outcome) (r : Refusal) → Says told outcome
    → IsRefusalOf outcome r → IsRefusedAs told.0 r
is-refused told outcome refusal.NoMemory says is = grows told outcome says is
is-refused told outcome refusal.BadNode says is = refused told outcome refusal.BadNode says is
is-refused told outcome refusal.Down says is = refused told outcome refusal.Down says is
is-refused told outcome refusal.Busy says is = refused told outcome refusal.Busy says is
is-refused told outcome refusal.TooLong says is = refused told outcome refusal.TooLong says is
is-refused told outcome refusal.Conflict says is = refused told outcome refusal.Conflict says is
is-refused told outcome (refusal.Gap k) says is = refused told outcome (refusal.Gap k) says is
is-refused told outcome refusal.Full says is = refused told outcome refusal.Full says is
is-refused told outcome refusal.Forged says is = refused told outcome refusal.Forged says is
is-refused told outcome (refusal.Packet fault) says is =
    refused told outcome (refusal.Packet fault) says is
is-refused told outcome refusal.Stale says is = refused told outcome refusal.Stale says is
is-refused told outcome refusal.NotDown says is = refused told outcome refusal.NotDown says is
is-refused told outcome refusal.BadImage says is = refused told outcome refusal.BadImage says is
is-refused told outcome (refusal.Inconsistent rule node name) says is =
    refused told outcome (refusal.Inconsistent rule node name) says is
is-refused told outcome refusal.Device says is = refused told outcome refusal.Device says is
is-refused told outcome (refusal.Place next) says is =
    refused told outcome (refusal.Place next) says is
is-refused told outcome (refusal.BadRow place) says is =
    refused told outcome (refusal.BadRow place) says is
is-refused told outcome (refusal.BadLine line) says is =
    refused told outcome (refusal.BadLine line) says is
is-refused told outcome (refusal.Frame code) says is =
    refused told outcome (refusal.Frame code) says is

-- what was found leads to what the definition's outcome says
pub found-leads : {A : Type 0} (held : Held A) (told : Reply × Node) (outcome : Outcome)
    (old new : Memory) (f : ControlFlow (Answer (List Carried)) (Wanted A)) → Says told outcome
    → Finds old outcome (Ok f) new → IsSameNode old new → IfSome (continue_value f) (IsWanted held)
    → LeadsTo told old (Ok (step_from new f))
found-leads held told outcome old new (Break a) says finds same in_it =
    let told_so : Says told (Answers a new) =
    subst (λ (o : Outcome). Says told o) finds says in (told_so.0, told_so.1, same)
found-leads held told outcome old new (Continue w) says finds same in_it =
    let told_so : Says told (Wants w.entry w.cause new) =
    subst (λ (o : Outcome). Says told o) finds says in (
      told_so.0 ∙ ap (λ entry. Drafted (name_of entry) (suc new.count)) (sym in_it.1),
      told_so.1,
      same,
      ap (λ entry. record { node = new.node; pos = suc new.count; entry = entry }) in_it.1,
    )

-- what was refused leaves the node as it was
pub refusal-leads : (A : Type 0) (told : Reply × Node) (outcome : Outcome) (old new : Memory)
    (r : Refusal) → Says told outcome → Finds {A = A} old outcome (Err r) new
    → LeadsTo {A = A} told old (Err (new, r))
refusal-leads A told outcome old new r says finds =
    (is-refused told outcome r says finds.0, finds.1)

-- a tick in the memory has the definition's result, and if memory is refused, nothing changes
pub tick-leads : (a : Memory) (old new : Resending) (result : Result (List Carried) NoMemory)
    → are_rising a.pairs ≡ true
    → old ≡ record {
      limits = a.limits;
      node = a.node;
      cursor = a.cursor;
      heard = a.heard;
      roomy =
          old.roomy;
    }
    → IfOk result (λ packets. packets ≡ tick_packets old a.pairs a.certified)
    → OnOk result (new ≡ ticked old a.pairs) → OnErr result (new ≡ old)
    → Ticks a (record a { heard = new.heard; cursor = new.cursor }, result)
tick-leads a old new (Ok packets) rise is sent moved stays = (
  (refl, refl),
  λ node s. subst
      (λ (heard : List (Label × ℕ)). ((ticks a.limits.n a.node node).0 ≡ Sent packets)
      × ShowsReady (record a { heard = heard; cursor = new.cursor }) (ticks a.limits.n a.node node).1)
      (sym heard) (shows node s),
)
  where
    here : Resending
    here = record {
      limits = a.limits;
      node = a.node;
      cursor = a.cursor;
      heard = a.heard;
      roomy =
          old.roomy;
    }

    cursor : new.cursor ≡ (ticked here a.pairs).cursor
    cursor = ap (λ (r : Resending). r.cursor) (moved ∙ ap (λ r. ticked r a.pairs) is)

    heard : new.heard ≡ a.heard
    heard = ap (λ (r : Resending). r.heard) (moved ∙ ap (λ r. ticked r a.pairs) is)

    shows : (node : Node) → ShowsReady a node
        → ((ticks a.limits.n a.node node).0 ≡ Sent packets)
        × ShowsReady (record a { cursor = new.cursor }) (ticks a.limits.n a.node node).1
    shows node s =
        let sends = tick-shows a.limits a.limits.n a.node (ready_view a) node s rise in
        subst (λ (state : State). ((if is_down state then refuses node refusal.Down else
        (if is_storing state then refuses node refusal.Busy else resends a.limits.n a.node
        node)).0 ≡ Sent packets)
        × ShowsReady (record a { cursor = new.cursor })
        (if is_down state then refuses node refusal.Down else
        (if is_storing state then refuses node refusal.Busy else resends a.limits.n a.node
        node)).1) s.state (
          sends.0 ∙ ap Sent (sym (sent ∙ ap (λ r. tick_packets r a.pairs a.certified) is)),
          subst (λ (after : _). ShowsReady (record a { cursor = after })
              (resends a.limits.n a.node node).1) (sym cursor) sends.1,
        )
tick-leads a old new (Err e) rise is sent moved stays =
    ap (λ (r : Resending). record a { heard = r.heard; cursor = r.cursor }) (stays ∙ is)

-- a tick changes neither the node nor the space for certificates heard
pub tick_keeps : (old new : Resending) (pairs : List (Label × Content))
    (result : Result (List Carried) NoMemory) → OnOk result (new ≡ ticked old pairs)
    → OnErr result (new ≡ old) → (new.limits ≡ old.limits) × (new.node ≡ old.node)
    × (new.roomy ≡ old.roomy)
tick_keeps old new pairs (Ok packets) moved stays = (
  ap (λ (r : Resending). r.limits) moved,
  ap (λ (r : Resending). r.node) moved,
  ap (λ (r : Resending). r.roomy) moved,
)
tick_keeps old new pairs (Err e) moved stays = (
  ap (λ (r : Resending). r.limits) stays,
  ap (λ (r : Resending). r.node) stays,
  ap (λ (r : Resending). r.roomy) stays,
)

-- so the invariant of what the node holds is preserved
pub resend-kept : {A : Type 0} (h : Held A) (new : Resending) → IsHeld h
    → (new.limits ≡ h.resend.limits) × (new.node ≡ h.resend.node) × (new.roomy ≡ h.resend.roomy)
    → IsHeld (record h { resend = new })
resend-kept h new k same = record {
  node = k.node;
  pending_limits = k.pending_limits;
  pending_node = k.pending_node;
  acks_limits = k.acks_limits;
  fifo_limits = k.fifo_limits;
  resend_limits = same.0 ∙ k.resend_limits;
  resend_node = same.1 ∙ k.resend_node;
  certified = k.certified;
  pending = k.pending;
  room_to_hear =
      λ x there. subst (λ (roomy : List Label). has_name roomy x ≡ true) (sym same.2)
      (k.room_to_hear x there);
  count = k.count;
}
