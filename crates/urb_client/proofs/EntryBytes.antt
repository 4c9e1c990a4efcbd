-- Entries pushed one after the other, as a loop does.
use Rattle.urb_client.proofs.Common.{Content, Label, List, add-one, ap, append_assoc, drop}
use Rattle.urb_client.proofs.Common.{drop-cons, entry_bytes, flat_map, flat_map-cons, get_or}
use Rattle.urb_client.proofs.Common.{length, suc, sym, ℕ, ◌++◌, ◌+◌, ◌<◌, ◌∙◌, ◌∷◌, ◌≡◌}

-- once the next entry is pushed, the bytes and those of the later entries are still the whole
pub one_more : (old new whole : List ℕ) (entries : List (Label × Content)) (i : ℕ)
    (entry : Label × Content) → i < length entries → entry ≡ get_or entries i entry
    → new ≡ old ++ entry_bytes entry
    → old ++ flat_map entry_bytes (drop i entries) ≡ whole
    → new ++ flat_map entry_bytes (drop (i + 1) entries) ≡ whole
one_more old new whole entries i entry lt here pushed so_far =
    let left : drop i entries ≡ entry ∷ drop (i + 1) entries =
    rw add-one (drop-cons entries i entry lt ∙ ap (λ e. e ∷ drop (suc i) entries) (sym here)) in
    ap (λ bytes. bytes ++ flat_map entry_bytes (drop (i + 1) entries)) pushed
    ∙ append_assoc old (entry_bytes entry) (flat_map entry_bytes (drop (i + 1) entries))
    ∙ ap (λ bytes. old ++ bytes) (sym
    (ap (flat_map entry_bytes) left ∙ flat_map-cons entry_bytes entry (drop (i + 1) entries)))
    ∙ so_far
