-- How `urbd follow` prints the entries of a log: as text, hexadecimal or JSON.
use Rattle.std.specs.Prelude.{ℕ, ◌==◌, ◌&&◌, ◌||◌, not, nat_le, nat_lt, Bool, false, List, [], ◌∷◌, ◌++◌}
use Rattle.std.specs.Prelude.{flat_map, if◌then◌else◌, codes}
use Rattle.std.specs.Fmt.{decimal}
use Rattle.std.specs.Str.{is_utf8}
use Rattle.urb_names.specs.LabelsAndContents.{Label, Content}
use Rattle.urb_cli.specs.ClientOutput.{entry_line, hex_byte, hex_payload}
use Rattle.urb_options.specs.declared.entry_form_kind.EntryForm.{EntryForm}
use Rattle.urb_options.specs.declared.entry_form_kind.EntryForm.TheVariants.{Text, Hex, Json}

-- a control character begins these bytes of UTF-8: U+0000 to U+001F, or U+007F to U+009F
abbrev pub begins_with_control : List ℕ → Bool
begins_with_control [] = false
begins_with_control (byte ∷ []) = nat_lt byte 32 || byte == 127
begins_with_control (byte ∷ next ∷ bytes) =
    nat_lt byte 32 || (byte == 127 || (byte == 194 && (nat_le 128 next && nat_le next 159)))

-- there is a control character in these bytes of UTF-8
abbrev pub has_control : List ℕ → Bool
has_control [] = false
has_control (byte ∷ bytes) = begins_with_control (byte ∷ bytes) || has_control bytes

-- a payload is printed as text if it is UTF-8 and has no control character
abbrev pub is_shown_as_text : List ℕ → Bool
is_shown_as_text payload = is_utf8 payload && not (has_control payload)

-- the payload after the word `text` or `hex`, which says how it is written
abbrev pub text_payload : List ℕ → List ℕ
text_payload payload =
    if is_shown_as_text payload then codes "text " ++ payload
    else codes "hex " ++ hex_payload payload

-- an entry as `read` prints it, with a word before the payload
abbrev pub text_line : Label × Content → List ℕ
text_line entry =
    decimal entry.0.sender ++ (46
    ∷ (decimal entry.0.seq ++ (32 ∷ (decimal entry.1.client ++ (32 ∷ (decimal entry.1.number
    ++ (32 ∷ (text_payload entry.1.payload ++ 10 ∷ []))))))))

-- a byte in a string of JSON: a quotation mark and a backslash have a backslash before them
abbrev pub escaped_byte : ℕ → List ℕ
escaped_byte byte = if byte == 34 || byte == 92 then 92 ∷ byte ∷ [] else byte ∷ []

-- a member of an object of JSON: the text of the payload, or its hexadecimal digits
abbrev pub json_payload : List ℕ → List ℕ
json_payload payload =
    if is_shown_as_text payload then codes "\"text\":\"" ++ (flat_map escaped_byte payload ++ 34 ∷ [])
    else codes "\"hex\":\"" ++ (hex_payload payload ++ 34 ∷ [])

-- the front of an object of JSON: its brace, the name, the client, and the client's number
unfoldable pub json_head : Label × Content → List ℕ
json_head entry =
    codes "{\"name\":\"" ++ (decimal entry.0.sender ++ (46
    ∷ (decimal entry.0.seq ++ (codes "\",\"client\":" ++ (decimal entry.1.client
    ++ (codes ",\"number\":" ++ (decimal entry.1.number ++ 44 ∷ [])))))))

-- an entry as an object of JSON
abbrev pub json_line : Label × Content → List ℕ
json_line entry = json_head entry ++ (json_payload entry.1.payload ++ 125 ∷ 10 ∷ [])

-- an entry in a form
abbrev pub form_line : EntryForm → Label × Content → List ℕ
form_line Text = text_line
form_line Hex = entry_line
form_line Json = json_line
