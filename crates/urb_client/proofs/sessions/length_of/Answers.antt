use Rattle.std.proofs.Common.{arith}
use Rattle.urb_client.proofs.FramePieces.{two_bytes}
use Rattle.urb_client.proofs.sessions.length_of.Goals as goal

pub returns : goal.returns
returns c =
    rw c.read_u16.ensures (two_bytes c.args.bytes.now
    (λ i. omega (arith, c.type_inv.bytes i)) c.requires)
