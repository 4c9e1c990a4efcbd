-- The bytes of entries of a log.
use Rattle.std.specs.Prelude.{ℕ, List, ◌∷◌, ◌++◌, length}
use Rattle.std.specs.List.{flat_map}
use Rattle.byteorder.specs.Endian.{big_bytes}
use Rattle.urb_names.specs.LabelsAndContents.{Label, Content, IsLabel, IsContent}
use Rattle.urb_client.specs.declared.format.TheConstants.{SAY_ENTRIES}

-- an entry of a log: a name and its message
abbrev pub IsEntry : Label × Content → Type 0
IsEntry entry = IsLabel entry.0 × IsContent entry.1

-- the bytes of an entry before its payload: its name, the client, the number, and the payload's
-- length
abbrev pub entry_head : Label → Content → List ℕ
entry_head name m =
    name.sender ∷ (big_bytes 4 name.seq
    ++ (big_bytes 2 m.client ++ (big_bytes 4 m.number ++ big_bytes 2 (length m.payload))))

-- the bytes of an entry
abbrev pub entry_bytes : Label × Content → List ℕ
entry_bytes entry = entry_head entry.0 entry.1 ++ entry.1.payload

-- the bytes of entries, after the length of their frame: the opcode, their count, and each entry
abbrev pub listing_body : List (Label × Content) → List ℕ
listing_body entries = SAY_ENTRIES ∷ length entries ∷ flat_map entry_bytes entries
