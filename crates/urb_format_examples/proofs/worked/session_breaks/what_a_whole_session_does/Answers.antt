-- One byte is no frame. If there are no events, the desk doesn't change.
use Rattle.std.proofs.Common.{List, [], ap, arith, length, length-append, ℕ, ◌∷◌, ◌≡◌}
use Rattle.urb_client.specs.Sessions.{Begins, Event, Replies}
use Rattle.urb_format_examples.specs.internal.FrameExamples.{counts}
use Rattle.urb_format_examples.proofs.worked.session_breaks.what_a_whole_session_does.Goals as goal

one-byte : (events : List Event) (rest : List ℕ) → rest ≡ [] → Begins (1 ∷ []) events rest → ⊥
one-byte [] rest none b = omega (arith, ap length none, ap length b)
one-byte (event ∷ events) rest none b = omega (arith, ap length b.4)

no-events : (events : List Event) (rest : List ℕ) → Begins [] events rest
    → (length events ≡ 0) × (length rest ≡ 0)
no-events [] rest b = (omega arith, omega (arith, ap length b))
no-events (event ∷ events) rest b = absurd (omega (arith, ap length b.4))

no-change : (events : List Event) (output : List ℕ) → length events ≡ 0
    → Replies counts 0 events output 1 → ⊥
no-change [] output none r = omega (arith, r.1)
no-change (event ∷ events) output none r = omega (arith, none)

pub returns-clause-a_byte_unread : goal.returns-clause-a_byte_unread
returns-clause-a_byte_unread c h =
    one-byte h.reads.whole h.reads.rest h.reads.ends.0 h.reads.begins

pub returns-clause-a_change_for_nothing : goal.returns-clause-a_change_for_nothing
returns-clause-a_change_for_nothing c h =
    no-change h.events h.output (omega (
      arith,
      ap length h.reads.all,
      length-append h.reads.whole h.reads.last,
      (no-events h.reads.whole h.reads.rest h.reads.begins).0,
      ap length h.reads.ends.1,
    )) h.replies

pub returns-clause-another_rest : goal.returns-clause-another_rest
returns-clause-another_rest c h =
    omega (arith, (no-events h.events (1 ∷ []) h.begins).1)

pub returns-clause-another_desk : goal.returns-clause-another_desk
returns-clause-another_desk c h =
    no-change h.events h.output (no-events h.events [] h.begins).0 h.replies
