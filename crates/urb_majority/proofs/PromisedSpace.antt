-- The promised space remains when acknowledgements and certificates are added.
use Rattle.std.proofs.Common.{◌≡◌, true, false, Some, sym, ap, subst, ◌∙◌}
use Rattle.std.proofs.lemmas.Bool.{false≢true, or_left}
use Rattle.urb_names.specs.LabelsAndContents.{Label}
use Rattle.urb_names.specs.Names.{has_name, name_lt, same_name}
use Rattle.urb_names.specs.RisingLists.{placed, reserved_for}
use Rattle.urb_names.proofs.SameNames.{same_name-same}
use Rattle.urb_names.proofs.ElementPlaces.{any_insert, reserved_for-some}
use Rattle.urb_majority.specs.internal.SpaceInvariant.{HasRoom, IsKept}
use Rattle.urb_majority.specs.declared.acks.Acks.TheInside.{Inside}

-- promised space remains if only the space for certificates grows
pub kept_bigger : {A : Type 0} (a b : Inside A) → b.reserved ≡ a.reserved → b.counted ≡ a.counted
    → b.certified.names ≡ a.certified.names → (a.certified.room ≡ true → b.certified.room ≡ true)
    → IsKept a → IsKept b
kept_bigger a b reserved counted certified certified_room kept = λ x e.
    let room : HasRoom a x = kept x (sym reserved ∙ e) in
    record {
      counted =
          subst (λ s. has_name s.roomy x ≡ false → s.reserved ≡ Some x) (sym counted) room.counted;
      certified =
          λ none. certified_room (room.certified (ap (λ xs. has_name xs x) (sym certified) ∙ none));
    }

-- promised space remains if a node is counted for a name
pub kept_noted : {A : Type 0} (a b : Inside A) (x : Label) → has_name b.counted.roomy x ≡ true
    → b.reserved ≡ reserved_for a.reserved x → b.certified ≡ a.certified
    → IsKept a → IsKept b
kept_noted a b x there reserved certified kept = λ y e.
    let parts = reserved_for-some a.reserved x y (sym reserved ∙ e) in
    let room : HasRoom a x =
    kept x (subst (λ (z : Label). a.reserved ≡ Some z) (sym parts.1) parts.0) in
    subst (HasRoom b) parts.1 (record {
      counted = λ none. absurd (false≢true (sym none ∙ there));
      certified =
          subst (λ s. has_name s.names x ≡ false → s.room ≡ true) (sym certified) room.certified;
    })

-- promised space remains if one more name is certified
pub kept_certified : {A : Type 0} (a b : Inside A) (x : Label)
    → b.reserved ≡ reserved_for a.reserved x
    → b.certified.names ≡ placed name_lt a.certified.names x → b.counted ≡ a.counted
    → IsKept a → IsKept b
kept_certified a b x reserved certified counted kept = λ y e.
    let parts = reserved_for-some a.reserved x y (sym reserved ∙ e) in
    let room : HasRoom a x =
    kept x (subst (λ (z : Label). a.reserved ≡ Some z) (sym parts.1) parts.0) in
    let there : has_name b.certified.names x ≡ true =
    ap (λ xs. has_name xs x) certified
    ∙ (any_insert (λ z. same_name z x) a.certified.names _ x
    ∙ or_left (same_name x x) (has_name a.certified.names x) (same_name-same x)) in
    subst (HasRoom b) parts.1 (record {
      counted =
          subst (λ s. has_name s.roomy x ≡ false → s.reserved ≡ Some x) (sym counted) room.counted;
      certified = λ gone. absurd (false≢true (sym gone ∙ there));
    })
