-- Words of the worked examples: packets, their fields and their bytes.
use Prim.Native.String.{String}
use Rattle.std.specs.Prelude.{List, None, Some, [], codes, false, replicate, true, ℕ, ◌∷◌}
use Rattle.urb_names.specs.CarriedPackets.{Carried}
use Rattle.urb_names.specs.LabelsAndContents.{Content}
use Rattle.urb_names.specs.Names.{name}
use Rattle.urb_names.specs.PacketGrammar.{Fields}

-- a message, its payload by ASCII letters
abbrev pub message : ℕ → ℕ → String → Content
message client number letters = record { client = client; number = number; payload = codes letters }

-- the first message of client 7, with a payload of `size` bytes
abbrev pub long : ℕ → Content
long size = record { client = 7; number = 1; payload = replicate size 120 }

-- a packet of version two from node 1 to node 2. It says that node 1 holds a certificate
abbrev pub telling : Carried
telling = record {
  source = 1;
  target = 2;
  name = name 3 4;
  message = message 7 5 "ab";
  flags = Some (record { certified = true; heard = false });
}

-- the same packet in version one, without flags
abbrev pub plain : Carried
plain = record telling { flags = None }

-- the fields of the packet of version two
abbrev pub telling_fields : Fields
telling_fields = record {
  magic = 0x5542;
  version = 2;
  source = 1;
  target = 2;
  flags = Some 1;
  sender = 3;
  seq = 4;
  client = 7;
  number = 5;
  size = 2;
  payload = codes "ab";
}

-- the fields of the packet of version one
abbrev pub plain_fields : Fields
plain_fields = record telling_fields { version = 1; flags = None }

-- the bytes of the packet of version two
abbrev pub telling_bytes : List ℕ
telling_bytes =
    85 ∷ 66 ∷ 2 ∷ 1 ∷ 2 ∷ 1 ∷ 3 ∷ 0 ∷ 0 ∷ 0 ∷ 4 ∷ 0 ∷ 7 ∷ 0 ∷ 0 ∷ 0 ∷ 5 ∷ 0 ∷ 2 ∷ 97 ∷ 98 ∷ []

-- the bytes of the packet of version one, but from this source
abbrev pub bytes_from : ℕ → List ℕ
bytes_from source =
    85 ∷ 66 ∷ 1 ∷ source ∷ 2 ∷ 3 ∷ 0 ∷ 0 ∷ 0 ∷ 4 ∷ 0 ∷ 7 ∷ 0 ∷ 0 ∷ 0 ∷ 5 ∷ 0 ∷ 2 ∷ 97 ∷ 98 ∷ []

-- the bytes of the packet of version one
abbrev pub plain_bytes : List ℕ
plain_bytes = bytes_from 1
