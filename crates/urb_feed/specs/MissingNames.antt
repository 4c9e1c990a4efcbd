-- What a node's log lacks, and the packets that bring it.
use Rattle.std.specs.Prelude.{Bool, List, None, Option, Some, [], false, flat_map, if◌then◌else◌, length}
use Rattle.std.specs.Prelude.{nat_le, nat_lt, not, ℕ, ◌&&◌, ◌==◌, ◌∷◌}
use Rattle.urb_world.specs.World.{World, stored}
use Rattle.urb_names.specs.CarriedPackets.{Carried}
use Rattle.urb_names.specs.Names.{has_name, name}
use Rattle.urb_names.specs.LabelsAndContents.{Content, Label}
use Rattle.urb_names.specs.Nodes.{is_node, nodes, numbers_from}
use Rattle.urb_names.specs.Pairs.{message_of}
use Rattle.urb_stable.specs.DeliveredLogs.{log}
use Rattle.urb_stable.specs.Records.{pend}

-- whether node q lacks a name: the name's sender has stored its message, but q's log doesn't have
-- the name
abbrev pub lacks : World → ℕ → Label → Bool
lacks w q x =
    is_node w.size.n q && (is_node w.size.n x.sender && (nat_lt 0 x.seq
    && (nat_le x.seq (length (w.node x.sender).broadcast)
    && not (has_name (log (stored w q)) x))))

-- the packet that carries a message from p to q, if there is a message; it reports no certificate
abbrev pub carrying : ℕ → ℕ → Label → Option Content → List Carried
carrying p q x None = []
carrying p q x (Some m) =
    record {
      source = p;
      target = q;
      name = x;
      message = m;
      flags = Some (record { certified = false; heard = false });
    } ∷ []

-- the packet in which node p offers a name to q, if p is another node and has stored the message
abbrev pub offer : World → ℕ → Label → ℕ → List Carried
offer w q x p = if p == q then [] else carrying p q x (message_of (pend (stored w p)) x)

-- the packets in which all other nodes that have stored the name's message offer it to q
abbrev pub offers : World → ℕ → Label → List Carried
offers w q x = flat_map (offer w q x) (nodes w.size.n)

-- what q needs of a name: all offers of it if q lacks it, otherwise nothing
abbrev pub needed : World → ℕ → Label → List Carried
needed w q x = if lacks w q x then offers w q x else []

-- what q needs of one sender's names with the numbers first, first + 1, .., as many as count
abbrev pub needed_of : World → ℕ → ℕ → ℕ → ℕ → List Carried
needed_of w q first count s = flat_map (λ j. needed w q (name s j)) (numbers_from first count)

-- what q needs of all senders' names with these numbers
abbrev pub needed_from : World → ℕ → ℕ → ℕ → List Carried
needed_from w q first count = flat_map (needed_of w q first count) (nodes w.size.n)
