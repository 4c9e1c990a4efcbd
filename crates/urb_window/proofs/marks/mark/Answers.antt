use Rattle.urb_window.proofs.Common.{WindowSet, ap, entry_lt, false, has_bit, has_name, is_some}
use Rattle.urb_window.proofs.Common.{mask_of, names_of, placed, rules, sym, true, value_of}
use Rattle.urb_window.proofs.Common.{with_value, ℕ, ◌+◌, ◌-◌, ◌^◌, ◌∙◌, ◌≡◌}
use Rattle.urb_window.proofs.MaskPairs.{acked_bit}
use Rattle.urb_window.proofs.NewMarks.{changed_known, changed_new, marks_more}
use Rattle.urb_window.proofs.NameSearches.{has_value}
use Rattle.urb_window.proofs.MaskClearings.{mark_joins, room_known, room_new}
use Rattle.urb_window.proofs.marks.mark.Goals as goal

pub with_bit-mask-requires-clause-new : goal.with_bit-mask-requires-clause-new
with_bit-mask-requires-clause-new g c =
    let old = c.args.masks.now.entries in
    ap (λ (m : ℕ). has_bit m c.args.number) c.mask_of.ensures
    ∙ (sym (acked_bit old c.args.name c.args.number c.recall.ensures.rising c.requires.range.0
    c.requires.range.1) ∙ c.requires.new)

pub returns-then-has_mask-clause-ok : goal.returns-then-has_mask-clause-ok
returns-then-has_mask-clause-ok g c =
    let old = c.args.masks.now.entries in
    let x = c.args.name in
    let q = c.args.number in
    let clear : has_bit (mask_of old x) q ≡ false =
    sym (acked_bit old x q c.recall.ensures.rising c.requires.range.0 c.requires.range.1)
    ∙ c.requires.new in
    let mask : c.with_bit-mask.result ≡ mask_of old x + 2 ^ (q - 1) =
    c.with_bit-mask.ensures ∙ ap (λ (m : ℕ). m + 2 ^ (q - 1)) c.mask_of.ensures in
    let there : is_some (value_of old x) ≡ true = search rules in
    mark_joins c.args.masks.now c.replace.new.self x q
    (room_known c.args.masks.now c.replace.new.self x c.with_bit-mask.result there
    c.replace.ensures.new)
    (marks_more old c.replace.new.self.entries x q c.requires.range.0 c.requires.range.1
    c.recall.ensures.rising c.recall-then-has_mask.ensures.rising clear
    (changed_known old c.replace.new.self.entries x (mask_of old x + 2 ^ (q - 1)) there
    (ap (λ (s : WindowSet ℕ). s.entries) c.replace.ensures.new ∙ ap (with_value old x) mask)))

pub returns-in-Ok-clause-ok : goal.returns-in-Ok-clause-ok
returns-in-Ok-clause-ok g c =
    let old = c.args.masks.now.entries in
    let x = c.args.name in
    let q = c.args.number in
    let clear : has_bit (mask_of old x) q ≡ false =
    sym (acked_bit old x q c.recall.ensures.rising c.requires.range.0 c.requires.range.1)
    ∙ c.requires.new in
    let mask : c.with_bit-mask.result ≡ mask_of old x + 2 ^ (q - 1) =
    c.with_bit-mask.ensures ∙ ap (λ (m : ℕ). m + 2 ^ (q - 1)) c.mask_of.ensures in
    let none : is_some (value_of old x) ≡ false = search rules in
    mark_joins c.args.masks.now c.insert.new.self x q
    (room_new c.args.masks.now c.insert.new.self x c.with_bit-mask.result none
    c.in-Ok.ensures.ok)
    (marks_more old c.insert.new.self.entries x q c.requires.range.0 c.requires.range.1
    c.recall.ensures.rising c.recall-in-Ok.ensures.rising clear
    (changed_new old c.insert.new.self.entries x (mask_of old x + 2 ^ (q - 1)) none
    (ap (λ (s : WindowSet ℕ). s.entries) c.in-Ok.ensures.ok
    ∙ ap (λ (m : ℕ). placed entry_lt old (x, m)) mask)))

pub returns-in-Err-clause-roomy : goal.returns-in-Err-clause-roomy
returns-in-Err-clause-roomy g c =
    λ room.
    let none : has_name (names_of c.args.masks.now.entries) c.args.name ≡ false =
    has_value c.args.masks.now.entries c.args.name ∙ search rules in
    let ok = c.insert.ensures.reserved (room none) in
    search rules
