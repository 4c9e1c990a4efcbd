-- Calls that answer only the question for a number.
use Rattle.std.proofs.Common.{List, None, Option, Some, [], ap, arith, inl, inr, suc, zero, ℕ, ◌∙◌}
use Rattle.std.proofs.Common.{◌∷◌, ◌≡◌}
use Rattle.urb_client.specs.Requests.{Asked}
use Rattle.urb_client.specs.Responses.{Accepted, Refused, Said}
use Rattle.urb_cli.specs.Calls.{Fails, Insists, Steps}
use Rattle.urb_cli.specs.Publishing.{IsPublished, IsUndecided, Progress, StopsAfter}
use Rattle.urb_cli.specs.Streams.{fault_of_text}
use Rattle.urb_cli.specs.declared.client.stream_fault.StreamFault.TheVariants.{AtEnd}
use Rattle.urb_cli.specs.declared.client.stream_fault.TextFault.{TextFault}
use Rattle.urb_cli.specs.declared.client.stream_fault.TextFault.TheVariants as text
use Rattle.urb_word_examples.specs.internal.CallExamples.{any_end, any_text, progress, tells_number}
use Rattle.urb_word_examples.proofs.worked.publisher_lines.what_nobody_accepts.Goals as goal

-- no call is without a response
all-answered : (asked : Asked) (old failures new : ℕ) → Fails tells_number asked old failures new
    → new ≡ old
all-answered asked old zero new h = h
all-answered asked old (suc n) new h =
    let none : None ≡ Some (Refused 7 1) = h.2.1 in absurd (cc)

-- so each request is answered by the number, and leaves its caller as it is
told : (asked : Asked) (old : ℕ) (answer : Option Said) (new : ℕ)
    → Insists tells_number asked old answer new
    → (answer ≡ Some (Refused 7 1)) × (new ≡ old)
told asked old answer new h = (h.3.1, h.3.2 ∙ all-answered asked old h.0 h.1 h.2)

none-published : (old : Progress ℕ ℕ) (done : List ℕ × ℕ) (new : Progress ℕ ℕ)
    → IsPublished any_text any_end tells_number 7 old done new → ⊥
none-published old done new h =
    let is : Some (Accepted done.1) ≡ Some (Refused 7 1) =
    (told _ old.caller (Some (Accepted done.1)) new.caller h.1).0 in
    absurd (cc)

stays : (old : Progress ℕ ℕ) (done : List (List ℕ × ℕ)) (last : Progress ℕ ℕ)
    → Steps (IsPublished any_text any_end tells_number 7) old done last → last ≡ old
stays old [] last h = h
stays old (one ∷ done) last h = absurd (none-published old one h.0 h.1)

no-text : (failed : TextFault) → AtEnd ≡ fault_of_text failed → ⊥
no-text (text.Read why) e = cc
no-text (text.NoMemory why) e = cc

decided : (asked : Asked) (old new : ℕ) → IsUndecided tells_number asked old AtEnd new → ⊥
decided asked old new (inl h) = let e = h.1 in absurd (cc)
decided asked old new (inr h) = let e = h.1 in absurd (cc)

-- a publisher is at an end only behind the last number, and its output stays
at-the-end : (last : Progress ℕ ℕ) (texts caller : ℕ) (output : Option (List ℕ))
    → StopsAfter any_text any_end tells_number 7 last AtEnd texts caller output
    → (last.number ≡ 4294967295) × (output ≡ last.output)
at-the-end last texts caller output (inl h) = absurd (no-text h.0 h.1)
at-the-end last texts caller output (inr (inl h)) = absurd (decided _ last.caller caller h.2)
at-the-end last texts caller output (inr (inr (inl h))) = absurd h
at-the-end last texts caller output (inr (inr (inr h))) = (h.1, h.2)

pub returns-clause-done_after_another_call : goal.returns-clause-done_after_another_call
returns-clause-done_after_another_call c h =
    let last = ap (λ (it : Progress ℕ ℕ). it.caller) (stays _ h.done h.last h.published) in
    let asked = (told _ 0 (Some (Refused 7 h.first)) h.asked h.asks).1 in
    let five : 5 ≡ h.last.caller = h.ends_so.1 in
    omega (arith, last, asked, five)

pub returns-clause-broken_off_at_the_last_number : goal.returns-clause-broken_off_at_the_last_number
returns-clause-broken_off_at_the_last_number c h =
    let last : h.1.number ≡ 1 =
    ap (λ (it : Progress ℕ ℕ). it.number) (stays (progress 1 None) h.0 h.1 h.2) in
    omega (arith, last, (at-the-end h.1 0 0 None h.3).0)

some-none : ◌≡◌ {A = Option (List ℕ)} (Some []) None → ⊥
some-none e = cc

pub returns-clause-broken_off_with_another_output
    : goal.returns-clause-broken_off_with_another_output
returns-clause-broken_off_with_another_output c h =
    some-none ((at-the-end h.1 0 0 (Some []) h.3).1
    ∙ ap (λ (it : Progress ℕ ℕ). it.output) (stays (progress 4294967295 None) h.0 h.1 h.2))
