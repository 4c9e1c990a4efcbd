use Rattle.urb_window.proofs.Common.{None, WindowSet, ap, cond-true, false, has_name, is_some}
use Rattle.urb_window.proofs.Common.{marks_in, marks_of, name_lt, names_of, placed, rules, sym}
use Rattle.urb_window.proofs.Common.{true, value_of, ℕ, ◌∙◌, ◌≡◌}
use Rattle.urb_window.proofs.NameSearches.{has_value}
use Rattle.urb_window.proofs.MaskClearings.{placed_empty, room_new}
use Rattle.urb_window.proofs.marks.make_room.Goals as goal

pub returns-then-has_mask-clause-ok : goal.returns-then-has_mask-clause-ok
returns-then-has_mask-clause-ok g c =
    let old = c.args.masks.now in
    let x = c.args.name in
    let some : is_some (value_of old.entries x) ≡ true = search rules in
    sym (cond-true (has_name (names_of old.entries) x) (marks_of old)
    (record {
      marks = marks_in old.entries;
      roomy =
          placed name_lt (names_of old.entries) x;
      reserved = None;
    })
    (has_value old.entries x ∙ some))

pub returns-in-Ok-clause-ok : goal.returns-in-Ok-clause-ok
returns-in-Ok-clause-ok g c =
    let old = c.args.masks.now in
    let new = c.insert.new.self in
    let x = c.args.name in
    let none : is_some (value_of old.entries x) ≡ false = search rules in
    ap (λ acks. record { marks = acks; roomy = names_of new.entries; reserved = new.reserved })
    (ap (λ (s : WindowSet ℕ). marks_in s.entries) c.in-Ok.ensures.ok
    ∙ placed_empty old.entries x)
    ∙ sym (room_new old new x 0 none c.in-Ok.ensures.ok)
