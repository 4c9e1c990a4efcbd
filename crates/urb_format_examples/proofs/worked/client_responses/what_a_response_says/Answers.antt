-- Four of the longest entries have no room in a frame.
use Rattle.std.proofs.Common.{List, [], ap, arith, flat_map, length, length-append, ℕ, ◌+◌, ◌∷◌}
use Rattle.std.proofs.Common.{◌≡◌}
use Rattle.std.proofs.lemmas.List.Concat.{flat_map-cons}
use Rattle.urb_names.specs.LabelsAndContents.{Content, Label}
use Rattle.urb_client.specs.Listings.{entry_bytes, entry_head}
use Rattle.urb_format_examples.specs.internal.FrameExamples.{holding_message}
use Rattle.urb_format_examples.proofs.worked.client_responses.what_a_response_says.Goals as goal

-- the bytes of entries, and those of one more
abbrev size : List (Label × Content) → ℕ
size entries = length (flat_map entry_bytes entries)

one-more : (entry : Label × Content) (entries : List (Label × Content))
    → size (entry ∷ entries) ≡ 13 + length entry.1.payload + size entries
one-more entry entries =
    omega (
      arith,
      ap length (flat_map-cons entry_bytes entry entries),
      length-append (entry_bytes entry) (flat_map entry_bytes entries),
      length-append (entry_head entry.0 entry.1) entry.1.payload,
    )

pub returns-clause-more_than_a_frame : goal.returns-clause-more_than_a_frame
returns-clause-more_than_a_frame c m long h =
    let e = holding_message m in
    omega (
      arith,
      long,
      h.2,
      one-more e (e ∷ e ∷ e ∷ []),
      one-more e (e ∷ e ∷ []),
      one-more e (e ∷ []),
      one-more e [],
    )
