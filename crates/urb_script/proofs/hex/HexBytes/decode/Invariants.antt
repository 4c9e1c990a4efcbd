use Rattle.urb_script.proofs.Common.{bytes_of, drop, ◌*◌, ◌++◌, ◌≡◌}
use Rattle.urb_script.proofs.hex.HexBytes.decode.Given as goal

-- what is read so far, and what is left
abbrev pub invariant-loop-at : goal.invariant-loop-at
invariant-loop-at g l = l.bytes.items ++ bytes_of (drop (2 * l.at) l.digits) ≡ bytes_of l.digits
