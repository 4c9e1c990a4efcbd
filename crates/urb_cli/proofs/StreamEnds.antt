-- What the status of a command that makes many calls tells.
use Rattle.urb_cli.proofs.Common.{Err, IfOk, Ok, Result, StreamFault, arith, inl, inr, ℕ, ◌≡◌, ◌⊎◌}
use Rattle.urb_cli.specs.Streams.{status_of_stream}
use Rattle.urb_cli.specs.declared.client.stream_fault.StreamEnd.{StreamEnd}
use Rattle.urb_cli.specs.declared.client.stream_fault.StreamEnd.TheVariants as stream

-- with status 0 the command is done, if one end of two isn't possible for it
pub done_by_status : (P Q : StreamEnd → Type 0) (outcome : Result StreamEnd StreamFault)
    (status : ℕ) → status ≡ status_of_stream outcome → IfOk outcome (λ ended. P ended ⊎ Q ended)
    → (Q stream.Done → ⊥) → status ≡ 0 → P stream.Done
done_by_status P Q (Ok stream.Done) status told ended none zero =
    elim ended [
      | inl is ↦ is
      | inr other ↦ absurd (none other)
    ]
done_by_status P Q (Ok stream.Refused) status told ended none zero =
    absurd (omega (arith, told, zero))
done_by_status P Q (Err fault) status told ended none zero = absurd (omega (arith, told, zero))
