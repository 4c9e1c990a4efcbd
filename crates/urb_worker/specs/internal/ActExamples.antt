-- Words for the worked examples of acts: a packet, its bytes, and that a link got them.
use Rattle.std.specs.Prelude.{List, None, codes, ℕ, ◌++◌, ◌∷◌}
use Rattle.urb_names.specs.CarriedPackets.{Carried}
use Rattle.urb_names.specs.Names.{name}
use Rattle.urb_worker.specs.Acts.{Act, Sent}

-- a packet of version one, from node 2 to node p: its first message, which is client 7's
abbrev pub packet_for : ℕ → Carried
packet_for p = record {
  source = 2;
  target = p;
  name = name 2 1;
  message = record { client = 7; number = 1; payload = codes "a" };
  flags = None;
}

-- the bytes of this packet, as docs/FORMATS.md has them
abbrev pub bytes_for : ℕ → List ℕ
bytes_for p =
    codes "UB" ++ 1 ∷ 2 ∷ p ∷ 2 ∷ 0 ∷ 0 ∷ 0 ∷ 1 ∷ 0 ∷ 7 ∷ 0 ∷ 0 ∷ 0 ∷ 1 ∷ 0 ∷ 1 ∷ codes "a"

-- a link got these bytes for node p
abbrev pub given : ℕ → Act
given p = Sent p (bytes_for p)
