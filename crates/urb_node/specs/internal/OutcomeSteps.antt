-- The outcome of a call at a ready node, and the step that follows from it.
use Rattle.std.specs.Prelude.{◌≡◌, suc, List, Result, Ok, Err}
use Rattle.std.specs.declared.ops.ControlFlow.{ControlFlow}
use Rattle.std.specs.declared.ops.ControlFlow.TheVariants.{Break, Continue}
use Rattle.urb_names.specs.CarriedPackets.{Carried}
use Rattle.urb_names.specs.declared.refusal.Refusal.{Refusal}
use Rattle.urb_names.specs.declared.refusal.Refusal.TheVariants as refusal
use Rattle.urb_node.specs.declared.answer.Answer.{Answer}
use Rattle.urb_node.specs.declared.answer.Answer.TheVariants as answer
use Rattle.urb_node.specs.declared.call_outcomes.Wanted.{Wanted}
use Rattle.urb_node.specs.declared.held.Held.{Held}
use Rattle.urb_node.specs.declared.step.Step.{Step}
use Rattle.urb_node.specs.declared.step.Step.TheVariants as step
use Rattle.urb_node.specs.internal.HeldLayers.{IsDrafted}
use Rattle.urb_node.specs.internal.Outcomes.{Outcome, Answers, Refuses, Wants}
use Rattle.urb_node.specs.NodeMemories.{Memory}

-- the record that is wanted can be held as a draft, and its copy is the same record
abbrev pub IsWanted : {A : Type 0} → Held A → Wanted A → Type 0
IsWanted held w = IsDrafted held w.entry w.cause w.packets × (w.copy ≡ w.entry)

-- an outcome that allocates memory: a record to store, an acknowledgement counted, or a packet in
-- answer
abbrev pub TakesMemory : Outcome → Type 0
TakesMemory (Answers (answer.Accepted x) a) = ⊥
TakesMemory (Answers (answer.Noted x) a) = Unit {0}
TakesMemory (Answers (answer.Again x) a) = ⊥
TakesMemory (Answers (answer.Answered x packets) a) = Unit {0}
TakesMemory (Refuses r) = ⊥
TakesMemory (Wants entry cause a) = Unit {0}

-- the refusal of an outcome, or NoMemory if the outcome allocates memory
abbrev pub IsRefusalOf : Outcome → Refusal → Type 0
IsRefusalOf outcome refusal.NoMemory = TakesMemory outcome
IsRefusalOf outcome r = outcome ≡ Refuses r

-- From the old memory to the new one, the call had this outcome. It breaks off with an answer, or
-- continues with a record to store. A refusal leaves the memory unchanged.
abbrev pub Finds : {A : Type 0} → Memory → Outcome
    → Result (ControlFlow (Answer (List Carried)) (Wanted A)) Refusal → Memory → Type 0
Finds old outcome (Ok (Break told)) new = outcome ≡ Answers told new
Finds old outcome (Ok (Continue w)) new = outcome ≡ Wants w.entry w.cause new
Finds old outcome (Err r) new = IsRefusalOf outcome r × (new ≡ old)

-- the step that follows
abbrev pub step_from : {A : Type 0} → Memory → ControlFlow (Answer (List Carried)) (Wanted A)
    → Step A
step_from a (Break told) = step.Same a told
step_from a (Continue w) =
    step.Store (record { memory = a; entry = w.entry; cause = w.cause })
    (record { node = a.node; pos = suc a.count; entry = w.copy })
