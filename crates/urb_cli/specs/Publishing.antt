-- What `urbd publish` does.
use Rattle.std.specs.Prelude.{◌≡◌, ◌⊎◌, ℕ, ◌<◌, ◌≤◌, ◌+◌, ◌==◌, Bool, true, false, List, [], ◌∷◌, ◌++◌, length}
use Rattle.std.specs.Prelude.{Option, Some, None}
use Rattle.std.specs.List.{All}
use Rattle.std.specs.Io.KnownBytes.{Appends, Consumes, IsAtEnd}
use Rattle.urb_names.specs.declared.limits.TheConstants.{MAX_PAYLOAD}
use Rattle.urb_client.specs.Requests.{Asked, Submit}
use Rattle.urb_client.specs.Responses.{Said, Accepted, Refused}
use Rattle.urb_cli.specs.Advice.{explained_refusal}
use Rattle.urb_cli.specs.ClientOutput.{accepted_shown, submit_shown}
use Rattle.urb_cli.specs.Calls.{GetsNothing, Insists, Steps}
use Rattle.urb_cli.specs.Streams.{IsUnwritten, fault_of_text}
use Rattle.urb_cli.specs.declared.client.call_fault.CallFault.{CallFault}
use Rattle.urb_cli.specs.declared.client.call_fault.CallFault.TheVariants.{BadReply}
use Rattle.urb_cli.specs.declared.client.stream_fault.TextFault.{TextFault}
use Rattle.urb_cli.specs.declared.client.stream_fault.StreamFault.TheVariants as fault
use Rattle.urb_names.specs.declared.refusal.NoMemory.{NoMemory}
use Rattle.urb_cli.specs.declared.client.stream_fault.StreamEnd.{StreamEnd}
use Rattle.urb_cli.specs.declared.client.stream_fault.StreamEnd.TheVariants as stream
use Rattle.urb_cli.specs.declared.client.stream_fault.StreamFault.{StreamFault}

-- A line is taken from the front of an input. It has no LF, and an LF follows it. The last line may
-- lack its LF, and isn't empty then. Of a line that is too long for a message, only the front is
-- taken.
abbrev pub TakesLine : Option (List ℕ) → List ℕ → Option (List ℕ) → Type 0
TakesLine old line new =
    All (λ byte. (byte == 10) ≡ false) line
    × (Consumes old new (line ++ 10 ∷ [])
    ⊎ ((0 < length line) × Consumes old new line × IsAtEnd new)
    ⊎ ((MAX_PAYLOAD < length line) × Consumes old new line))

-- no byte is left in an input, and none was taken
abbrev pub HasEnded : Option (List ℕ) → Option (List ℕ) → Type 0
HasEnded old new = Consumes old new [] × IsAtEnd new

-- a text is given, or no text is left
abbrev pub Gives : {T : Type 0} → (T → List ℕ → T → Type 0) → (T → T → Type 0) → T → List ℕ → T
    → Bool → Type 0
Gives gives ends old text new true = gives old text new
Gives gives ends old text new false = ends old new

-- A request to take a message got no decision, for this reason. The calls got no response to a
-- submit; or memory was refused, and the fault has the witness of it.
abbrev pub IsUndecided : {C : Type 0} → (C → Asked → Option Said → C → Type 0) → Asked → C
    → StreamFault → C → Type 0
IsUndecided calls asked old why new =
    ((broken : CallFault) × (why ≡ fault.Call broken)
    × GetsNothing calls submit_shown asked old broken new)
    ⊎ ((refused : NoMemory) × (why ≡ fault.NoMemory refused))

-- How far a publisher is: what gives its texts, its caller, the number of the next message, and the
-- bytes of its output.
pub record Progress (T C : Type 0) : Type 0 where
  pub texts : T
  pub caller : C
  pub number : ℕ
  pub output : Option (List ℕ)

module _ {T C : Type 0} (gives : T → List ℕ → T → Type 0) (ends : T → T → Type 0)
    (calls : C → Asked → Option Said → C → Type 0) (client : ℕ) where
  -- One text is published. The request with this text and the next number was sent until the node
  -- accepted it, and the line with the name that it got is written.
  abbrev pub IsPublished : Progress T C → List ℕ × ℕ → Progress T C → Type 0
  IsPublished old done new =
      gives old.texts done.0 new.texts
      × Insists calls (Submit client old.number done.0) old.caller (Some (Accepted done.1))
      new.caller × (new.number ≡ old.number + 1)
      × Appends old.output new.output (accepted_shown done.1).0

  -- the node was asked for the client's next number, by a message with number 0, and gave it
  abbrev pub AsksNumber : C → ℕ → C → Type 0
  AsksNumber old number new =
      Insists calls (Submit client 0 []) old (Some (Refused 7 number)) new

  -- this refusal is written, with its advice
  abbrev pub WritesRefusal : ℕ → ℕ → Option (List ℕ) → Option (List ℕ) → Type 0
  WritesRefusal number detail old new = Appends old new (explained_refusal number detail)

  -- the next text is longer than a message may be, so it isn't sent, and the refusal is written
  abbrev pub IsTooLong : Progress T C → T → C → Option (List ℕ) → Type 0
  IsTooLong last texts caller output =
      (text : List ℕ) × (MAX_PAYLOAD < length text) × gives last.texts text texts
      × (caller ≡ last.caller) × WritesRefusal 5 0 last.output output

  -- the node refused the next text, and the refusal is written
  abbrev pub IsRefusedNext : Progress T C → T → C → Option (List ℕ) → Type 0
  IsRefusedNext last texts caller output =
      (text : List ℕ) × (number : ℕ) × (detail : ℕ) × gives last.texts text texts
      × Insists calls (Submit client last.number text) last.caller (Some (Refused number detail))
      caller × WritesRefusal number detail last.output output

  -- how it ends after the last text that was published: no text is left, or the next is refused
  abbrev pub EndsAfter : Progress T C → StreamEnd → T → C → Option (List ℕ) → Type 0
  EndsAfter last stream.Done texts caller output =
      ends last.texts texts × (caller ≡ last.caller) × (output ≡ last.output)
  EndsAfter last stream.Refused texts caller output =
      IsTooLong last texts caller output ⊎ IsRefusedNext last texts caller output

  -- It asks for the client's next number. From that number on the texts are published, in order.
  pub record Publishes (texts : T) (caller : C) (output : Option (List ℕ)) (ended : StreamEnd)
      (new_texts : T) (new_caller : C) (new_output : Option (List ℕ)) : Type 0 where
    pub first : ℕ
    pub asked : C
    pub done : List (List ℕ × ℕ)
    pub last : Progress T C
    pub asks : AsksNumber caller first asked
    pub published : Steps IsPublished
        (record { texts = texts; caller = asked; number = first; output = output }) done last
    pub ends_so : EndsAfter last ended new_texts new_caller new_output

  -- the node refused the question for the client's next number, and the refusal is written
  abbrev pub IsRefusedAtOnce : T → C → Option (List ℕ) → StreamEnd → T → C → Option (List ℕ)
      → Type 0
  IsRefusedAtOnce texts caller output ended new_texts new_caller new_output =
      (number : ℕ) × (detail : ℕ) × (ended ≡ stream.Refused) × (new_texts ≡ texts)
      × Insists calls (Submit client 0 []) caller (Some (Refused number detail)) new_caller
      × WritesRefusal number detail output new_output

  -- Why it breaks off after the last text that was published. It could not take the next text; or
  -- the next text got no decision; or its line, or its refusal, could not be written; or there is no
  -- next number.
  abbrev pub StopsAfter : Progress T C → StreamFault → T → C → Option (List ℕ) → Type 0
  StopsAfter last why texts caller output =
      ((failed : TextFault) × (why ≡ fault_of_text failed) × (caller ≡ last.caller)
      × (output ≡ last.output))
      ⊎ ((text : List ℕ) × gives last.texts text texts
      × IsUndecided calls (Submit client last.number text) last.caller why caller
      × (output ≡ last.output))
      ⊎ IsUnwritten why last.output output
      ⊎ ((why ≡ fault.AtEnd) × (last.number ≡ 4294967295) × (output ≡ last.output))

  -- texts are published from here on, in order, and then it breaks off with this fault
  abbrev pub BreaksOffAfter : Progress T C → StreamFault → T → C → Option (List ℕ) → Type 0
  BreaksOffAfter old why texts caller output =
      (done : List (List ℕ × ℕ)) × (last : Progress T C) × Steps IsPublished old done last
      × StopsAfter last why texts caller output

  -- It breaks off before the first text, and nothing is printed. The question for the next number
  -- got no decision, or was accepted as if it were a message.
  abbrev pub HasNoNumber : C → StreamFault → C → Type 0
  HasNoNumber old why new =
      IsUndecided calls (Submit client 0 []) old why new
      ⊎ ((seq : ℕ) × Insists calls (Submit client 0 []) old (Some (Accepted seq)) new
      × (why ≡ fault.Call BadReply))

  -- It breaks off. It got no number; or the node refused the question, and the refusal could not be
  -- written; or it stopped after some texts.
  abbrev pub BreaksOff : T → C → Option (List ℕ) → StreamFault → T → C → Option (List ℕ) → Type 0
  BreaksOff texts caller output why new_texts new_caller new_output =
      (HasNoNumber caller why new_caller × (new_output ≡ output))
      ⊎ ((number : ℕ) × (detail : ℕ)
      × Insists calls (Submit client 0 []) caller (Some (Refused number detail)) new_caller
      × IsUnwritten why output new_output)
      ⊎ ((first : ℕ) × (asked : C) × AsksNumber caller first asked
      × BreaksOffAfter
      (record { texts = texts; caller = asked; number = first; output = output }) why new_texts
      new_caller new_output)
