use Rattle.std.proofs.Common.{◌≡◌, length}
use Rattle.urb_cli.specs.EntryForms.{has_control}
use Rattle.urb_cli.proofs.client.entry_form.has_control.Given as goal

-- the bytes before the rest have no control character
abbrev pub invariant-loop-rest : goal.invariant-loop-rest
invariant-loop-rest l = has_control l.rest ≡ has_control l.bytes

abbrev pub decreases-loop-rest : goal.decreases-loop-rest
decreases-loop-rest l = length l.rest
