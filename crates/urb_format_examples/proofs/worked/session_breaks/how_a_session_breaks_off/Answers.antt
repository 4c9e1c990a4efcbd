-- Without bytes there is no frame, and a silent desk writes nothing and doesn't change.
use Rattle.std.proofs.Common.{List, [], ap, arith, inl, inr, length, length-append, refl, sym, ℕ}
use Rattle.std.proofs.Common.{◌++◌, ◌<◌, ◌∙◌, ◌∷◌, ◌≡◌}
use Rattle.urb_client.specs.Responses.{frame}
use Rattle.urb_client.specs.Sessions.{Asks, Begins, Event, Fault, Meets, Replies, TakesFrame}
use Rattle.urb_format_examples.specs.internal.FrameExamples.{empty_frame, is_silent}
use Rattle.urb_format_examples.proofs.worked.session_breaks.how_a_session_breaks_off.Goals as goal

-- no bytes begin with no frame
none-begun : (events : List Event) (rest : List ℕ) → Begins [] events rest
    → (events ≡ []) × (rest ≡ [])
none-begun [] rest b = (refl, sym b)
none-begun (event ∷ events) rest b = absurd (omega (arith, ap length b.4))

-- no frame is taken where there are no bytes
none-taken : (P : Event → Type 0) (bytes left : List ℕ) → bytes ≡ [] → TakesFrame P bytes left → ⊥
none-taken P bytes left none (inl (event, begun, p)) =
    omega (arith, ap length (sym none ∙ begun.4))
none-taken P bytes left none (inr (code, inl bad, p)) =
    omega (arith, ap length (sym none ∙ bad.0.1))
none-taken P bytes left none (inr (code, inr (inl one, nothing, is), p)) =
    omega (arith, one, ap length none)
none-taken P bytes left none (inr (code, inr (inr inside, nothing, is), p)) =
    omega (arith, ap length (sym none ∙ inside.2))

-- an empty frame is no frame
not-empty : (body mid : List ℕ) → 0 < length body → empty_frame ≡ frame body ++ mid → ⊥
not-empty body mid some e = omega (arith, some, ap length e, length-append body mid)

-- at an empty frame a silent desk has written nothing, and is as before
silent : (events : List Event) (rest output : List ℕ) (mid : ℕ) → Begins empty_frame events rest
    → Replies is_silent 0 events output mid → (output ≡ []) × (mid ≡ 0)
silent [] rest output mid b r = r
silent (Asks asked ∷ events) rest output mid b r = absurd r.3
silent (Fault code ∷ events) rest output mid b r = absurd (not-empty b.0 b.1 b.2 b.4)

-- nothing leads to another desk
not-met : (mid : ℕ) (event : Event) → mid ≡ 0 → Meets is_silent mid event 1 → ⊥
not-met mid (Asks asked) none met = met.1
not-met mid (Fault code) none met = omega (arith, none, met)

not-taken : (mid : ℕ) (bytes left : List ℕ) → mid ≡ 0
    → TakesFrame (λ event. Meets is_silent mid event 1) bytes left → ⊥
not-taken mid bytes left none (inl (event, begun, met)) = not-met mid event none met
not-taken mid bytes left none (inr (code, broken, met)) = not-met mid (Fault code) none met

-- an empty frame isn't behind whole frames
not-begun : (events : List Event) → Begins empty_frame events [] → ⊥
not-begun [] b = omega (arith, ap length b)
not-begun (event ∷ events) b = not-empty b.0 b.1 b.2 b.4

pub returns-clause-reading_nothing : goal.returns-clause-reading_nothing
returns-clause-reading_nothing c why h =
    let none = none-begun h.1.events h.0 h.1.begins in
    omega (arith, ap length none.1, ap length h.2.1, length-append h.2.0 (1 ∷ []))

pub returns-clause-without_memory_for_nothing : goal.returns-clause-without_memory_for_nothing
returns-clause-without_memory_for_nothing c why h =
    none-taken _ h.0 (1 ∷ []) (none-begun h.2.events h.0 h.2.begins).1 h.3

pub returns-clause-without_memory_at_no_frame : goal.returns-clause-without_memory_at_no_frame
returns-clause-without_memory_at_no_frame c why h =
    none-taken _ h.0 [] (none-begun h.2.events h.0 h.2.begins).1 h.3

pub returns-clause-without_memory_for_what_it_wrote
    : goal.returns-clause-without_memory_for_what_it_wrote
returns-clause-without_memory_for_what_it_wrote c why h =
    let nothing = silent h.2.events h.0 h.2.output h.1 h.2.begins h.2.replies in
    omega (arith, ap length h.2.written, ap length nothing.0)

pub returns-clause-writing_for_nothing : goal.returns-clause-writing_for_nothing
returns-clause-writing_for_nothing c why h =
    none-taken _ h.0 (1 ∷ []) (none-begun h.2 h.0 h.4).1 h.6

pub returns-clause-writing_at_another_desk : goal.returns-clause-writing_at_another_desk
returns-clause-writing_at_another_desk c why h =
    not-taken h.1 h.0 [] (silent h.2 h.0 h.3 h.1 h.4 h.5).1 h.6

pub returns-clause-after_too_few : goal.returns-clause-after_too_few
returns-clause-after_too_few c h =
    omega (arith, h.1, ap length (none-begun h.0.events [] h.0.begins).0)

pub returns-clause-after_a_bad_frame : goal.returns-clause-after_a_bad_frame
returns-clause-after_a_bad_frame c h = not-begun h.0.events h.0.begins
