-- The packet grammar in two versions: the encoding of a packet, and the first fault of other bytes.
use Rattle.std.specs.Prelude.{◌≡◌, ◌≢◌, ◌<◌, ◌≤◌, ◌^◌, ◌+◌, ◌/◌, ◌%◌, ◌==◌, ◌&&◌, ◌||◌, not, nat_lt}
use Rattle.std.specs.Prelude.{ℕ, Bool, true, List, [], ◌∷◌, ◌++◌, length, drop, slice_index, Option}
use Rattle.std.specs.Prelude.{Some, None, is_some, IfNone, IfSome, Result, Ok, Err, if◌then◌else◌}
use Rattle.byteorder.specs.Endian.{big_bytes, big_number}
use Rattle.urb_names.specs.LabelsAndContents.{IsLabel, IsContent}
use Rattle.urb_names.specs.declared.flags.Flags.{Flags}
use Rattle.urb_names.specs.declared.limits.TheConstants.{MAX_NODES, MAX_PAYLOAD, MAX_PLAIN_PAYLOAD}
use Rattle.urb_names.specs.declared.refusal.PacketFault.{PacketFault}
use Rattle.urb_names.specs.declared.refusal.PacketFault.TheVariants as fault
use Rattle.urb_names.specs.CarriedPackets.{Carried}
use Rattle.urb_names.specs.Nodes.{is_node}

-- without flags (version one), a payload has at most 1,024 bytes
abbrev pub FitsVersion : Option Flags → List ℕ → Type 0
FitsVersion flags payload = IfNone flags (length payload ≤ MAX_PLAIN_PAYLOAD)

-- A packet joins two different nodes, each from 1 to MAX_NODES. Its name and message are within
-- their limits, and its payload is within the limit of its version.
pub record IsPacket (p : Carried) : Type 0 where
  pub source : (0 < p.source) × (p.source ≤ MAX_NODES)
  pub target : (0 < p.target) × (p.target ≤ MAX_NODES)
  pub apart : p.source ≢ p.target
  pub name : IsLabel p.name
  pub message : IsContent p.message
  pub version : FitsVersion p.flags p.message.payload

-- The values in the fields of a header, and the bytes after it. Only packets of version two have a
-- byte of flags, after the target.
pub record Fields : Type 0 where
  pub magic : ℕ
  pub version : ℕ
  pub source : ℕ
  pub target : ℕ
  pub flags : Option ℕ
  pub sender : ℕ
  pub seq : ℕ
  pub client : ℕ
  pub number : ℕ
  pub size : ℕ
  pub payload : List ℕ

-- whether a byte of flags must follow the target: if the magic bytes are 55 42 and the version is
-- two
abbrev pub has_flags : ℕ → ℕ → Bool
has_flags magic version = (magic == 0x5542) && (version == 2)

-- Each number fits its field. In bytes the fields take two, one, one, one, one for flags if they
-- are present, then one, four, two, four, two.
pub record IsFields (f : Fields) : Type 0 where
  pub magic : f.magic < 2 ^ 16
  pub version : f.version < 2 ^ 8
  pub source : f.source < 2 ^ 8
  pub target : f.target < 2 ^ 8
  pub has_flags : is_some f.flags ≡ has_flags f.magic f.version
  pub flags : IfSome f.flags (λ flags. flags < 2 ^ 8)
  pub sender : f.sender < 2 ^ 8
  pub seq : f.seq < 2 ^ 32
  pub client : f.client < 2 ^ 16
  pub number : f.number < 2 ^ 32
  pub size : f.size < 2 ^ 16

-- the byte of flags, if there is one
abbrev pub flags_spelled : Option ℕ → List ℕ
flags_spelled None = []
flags_spelled (Some flags) = flags ∷ []

-- the encoding of fields: their numbers in order, each with its highest byte first, then the
-- payload
abbrev pub spelled : Fields → List ℕ
spelled f =
    (big_bytes 2 f.magic ++ f.version ∷ f.source ∷ f.target ∷ flags_spelled f.flags)
    ++ (f.sender ∷ big_bytes 4 f.seq ++ big_bytes 2 f.client ++ big_bytes 4 f.number
    ++ big_bytes 2 f.size)
    ++ f.payload

-- the version of a packet: two if it has flags, otherwise one
abbrev pub version_of : Option Flags → ℕ
version_of None = 1
version_of (Some flags) = 2

-- the number of the flags: `certified` counts 1, and `heard` counts 2
abbrev pub flags_number : Flags → ℕ
flags_number flags = (if flags.certified then 1 else 0) + (if flags.heard then 2 else 0)

-- the byte of a packet's flags, if it has them
abbrev pub flags_byte : Option Flags → Option ℕ
flags_byte None = None
flags_byte (Some flags) = Some (flags_number flags)

-- the fields of a packet: the magic bytes 55 42, its version and flags, and the payload's length as
-- size
abbrev pub fields_of : Carried → Fields
fields_of p = record {
  magic = 0x5542;
  version = version_of p.flags;
  source = p.source;
  target = p.target;
  flags = flags_byte p.flags;
  sender = p.name.sender;
  seq = p.name.seq;
  client = p.message.client;
  number = p.message.number;
  size = length p.message.payload;
  payload = p.message.payload;
}

-- the only encoding of a packet
abbrev pub spelling : Carried → List ℕ
spelling p = spelled (fields_of p)

-- the flags that a number up to three encodes
abbrev pub flags_said : ℕ → Flags
flags_said number = record { certified = number % 2 == 1; heard = number / 2 == 1 }

-- the flags that a byte encodes, if there is one
abbrev pub flags_of : Option ℕ → Option Flags
flags_of None = None
flags_of (Some byte) = Some (flags_said byte)

-- the packet that fields describe
abbrev pub carried_of : Fields → Carried
carried_of f = record {
  source = f.source;
  target = f.target;
  name = record { sender = f.sender; seq = f.seq };
  message = record { client = f.client; number = f.number; payload = f.payload };
  flags = flags_of f.flags;
}

-- whether the byte of flags, if there is one, is at most three
abbrev pub are_flags : Option ℕ → Bool
are_flags None = true
are_flags (Some byte) = nat_lt byte 4

-- whether the nodes are from 1 to MAX_NODES, source and target differ, no number is 0, and the
-- flags are at most three
abbrev pub is_in_range : Fields → Bool
is_in_range f =
    ((is_node MAX_NODES f.source && is_node MAX_NODES f.target)
    && (is_node MAX_NODES f.sender && not (f.source == f.target)))
    && ((nat_lt 0 f.seq && nat_lt 0 f.client) && (nat_lt 0 f.number && are_flags f.flags))

-- the greatest length of a payload: MAX_PAYLOAD with a byte of flags (version two),
-- MAX_PLAIN_PAYLOAD without
-- (version one)
abbrev pub longest_payload : Option ℕ → ℕ
longest_payload None = MAX_PLAIN_PAYLOAD
longest_payload (Some flags) = MAX_PAYLOAD

-- the packet that fields describe, or their first fault: in the magic bytes, the version, the size,
-- or the range of a field
unfoldable pub judged : Fields → Result Carried PacketFault
judged f =
    if not (f.magic == 0x5542) then Err fault.Magic
    else if not ((f.version == 1) || (f.version == 2)) then Err fault.Version
    else if nat_lt (longest_payload f.flags) f.size
    || not (f.size == length f.payload) then Err fault.Length
    else if is_in_range f then Ok (carried_of f)
    else Err fault.Range

-- whether bytes begin in such a way that a byte of flags must follow the target
abbrev pub begins_with_flags : List ℕ → Bool
begins_with_flags bytes = has_flags (big_number 2 bytes) (slice_index bytes 2)

-- the length of a header that begins like this: nineteen bytes with a byte of flags, otherwise
-- eighteen
abbrev pub header_length : List ℕ → ℕ
header_length bytes = if begins_with_flags bytes then 19 else 18

-- The first fault of bytes. It is Short if they are fewer than their header has. Otherwise it is
-- the first fault of the fields that the bytes encode.
abbrev pub IsFirstFault : List ℕ → PacketFault → Type 0
IsFirstFault bytes fault.Short = length bytes < header_length bytes
IsFirstFault bytes e = (f : Fields) × IsFields f × (bytes ≡ spelled f) × (judged f ≡ Err e)

-- the fields that bytes encode with these flags, if rest begins after the flags
abbrev pub fields_with : Option ℕ → List ℕ → List ℕ → Fields
fields_with flags bytes rest = record {
  magic = big_number 2 bytes;
  version = slice_index bytes 2;
  source = slice_index bytes 3;
  target = slice_index bytes 4;
  flags = flags;
  sender = slice_index rest 0;
  seq = big_number 4 (drop 1 rest);
  client = big_number 2 (drop 5 rest);
  number = big_number 4 (drop 7 rest);
  size = big_number 2 (drop 11 rest);
  payload = drop 13 rest;
}

-- the fields that bytes encode, if they are at least as long as their header
abbrev pub fields_at : List ℕ → Fields
fields_at bytes =
    if begins_with_flags bytes then fields_with (Some (slice_index bytes 5)) bytes (drop 6 bytes)
    else fields_with None bytes (drop 5 bytes)

-- the packet that bytes encode, or their first fault
abbrev pub packet_of : List ℕ → Result Carried PacketFault
packet_of bytes =
    if nat_lt (length bytes) (header_length bytes) then Err fault.Short else judged
    (fields_at bytes)
