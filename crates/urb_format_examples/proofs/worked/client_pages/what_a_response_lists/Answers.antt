-- A list of a page is no longer than the page, and a long entry has no room in a frame.
use Rattle.std.proofs.Common.{List, [], ap, arith, flat_map, length, length-append}
use Rattle.std.proofs.Common.{refl, ℕ, ◌++◌, ◌<◌, ◌∷◌, ◌≡◌, ◌≤◌}
use Rattle.std.proofs.lemmas.List.Concat.{flat_map-cons}
use Rattle.urb_names.specs.LabelsAndContents.{Content, Label}
use Rattle.urb_client.specs.Listings.{entry_bytes, entry_head, listing_body}
use Rattle.urb_client.specs.declared.format.TheConstants.{LONGEST_FRAME}
use Rattle.urb_format_examples.specs.internal.FrameExamples.{holding_message, small}
use Rattle.urb_format_examples.proofs.worked.client_pages.what_a_response_lists.Goals as goal

-- the length of the second entry's payload
abbrev second : List (Label × Content) → ℕ
second (x ∷ y ∷ zs) = length y.1.payload
second _ = 0

-- two entries take at least the bytes of the second payload
two-entries : (x y : Label × Content) (zs : List (Label × Content))
    → length y.1.payload ≤ length (listing_body (x ∷ y ∷ zs))
two-entries x y zs =
    omega (
      arith,
      ap length (flat_map-cons entry_bytes x (y ∷ zs)),
      length-append (entry_bytes x) (flat_map entry_bytes (y ∷ zs)),
      ap length (flat_map-cons entry_bytes y zs),
      length-append (entry_bytes y) (flat_map entry_bytes zs),
      length-append (entry_head y.0 y.1) y.1.payload,
    )

no-room : (m : Content) (other rest : List (Label × Content)) → LONGEST_FRAME < length m.payload
    → small 1 ∷ holding_message m ∷ [] ≡ other ++ rest
    → length (listing_body other) ≤ LONGEST_FRAME → length other ≤ 1
no-room m [] rest long is room = omega arith
no-room m (x ∷ []) rest long is room = omega arith
no-room m (x ∷ y ∷ zs) rest long is room =
    let same : length m.payload ≡ length y.1.payload = ap second is in
    let whole : length y.1.payload ≤ LONGEST_FRAME = omega (arith, room, two-entries x y zs) in
    absurd (omega (arith, long, same, whole))

pub returns-clause-nothing : goal.returns-clause-nothing
returns-clause-nothing c = record {
  begins = ([], refl);
  fits = omega arith;
  longest = λ other rest is room. omega (arith, ap length is, length-append other rest);
  some = λ none. none;
}

pub returns-clause-all_of_a_page : goal.returns-clause-all_of_a_page
returns-clause-all_of_a_page c = record {
  begins = ([], refl);
  fits = omega arith;
  longest = λ other rest is room. omega (arith, ap length is, length-append other rest);
  some = λ none. none;
}

pub returns-clause-all_that_a_frame_has_room_for
    : goal.returns-clause-all_that_a_frame_has_room_for
returns-clause-all_that_a_frame_has_room_for c m long = record {
  begins = (holding_message m ∷ [], refl);
  fits = omega arith;
  longest = λ other rest is room. no-room m other rest long is room;
  some = λ none. absurd (omega (arith, ap length none));
}

pub returns-clause-less_than_a_frame_has_room_for
    : goal.returns-clause-less_than_a_frame_has_room_for
returns-clause-less_than_a_frame_has_room_for c h =
    let both : 2 ≤ 1 = h.longest (small 1 ∷ small 2 ∷ []) [] refl (omega arith) in
    omega (arith, both)
