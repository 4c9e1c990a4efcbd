use Rattle.urb_window.proofs.Common.{WindowSet, [], ap, arith, length, length-map, names_of, subst}
use Rattle.urb_window.proofs.Common.{suc, sym, with_value, ℕ, ◌+◌, ◌<◌, ◌∙◌, ◌≡◌}
use Rattle.urb_window.proofs.MaskClearings.{AreEmpty, name_stands, names_valued, none_marked}
use Rattle.urb_window.proofs.MaskClearings.{one_more_empty, value_there}
use Rattle.urb_window.proofs.marks.unmark_all.Goals as goal

pub unwrap-name-requires : goal.unwrap-name-requires
unwrap-name-requires g c =
    let less : c.loop-index.index < length c.loop-index.masks.entries =
    omega (arith, c.loop-index.invariant.long, c.loop-index-test.true) in
    rw c.name_at.ensures (name_stands c.loop-index.index c.loop-index.masks.entries less)

pub replace-requires : goal.replace-requires
replace-requires g c =
    value_there c.loop-index.index c.loop-index.masks.entries c.unwrap-name.result
    (sym c.name_at.ensures ∙ c.unwrap-name.ensures)

pub loop-index-preserved : goal.loop-index-preserved
loop-index-preserved g c =
    let i = c.loop-index.index in
    let old = c.loop-index.masks.entries in
    let x = c.unwrap-name.result in
    let new : c.replace.new.self.entries ≡ with_value old x 0 =
    ap (λ (s : WindowSet ℕ). s.entries) c.replace.ensures.new in
    let names : names_of c.replace.new.self.entries ≡ names_of old =
    ap names_of new ∙ names_valued old x 0 in
    let next : suc i ≡ i + 1 = omega arith in
    let long : length c.replace.new.self.entries ≡ length old =
    sym (length-map c.replace.new.self.entries (λ e. e.0))
    ∙ (ap length names ∙ length-map old (λ e. e.0)) in
    record {
      empty =
          subst (λ (k : ℕ). AreEmpty k c.replace.new.self.entries) next
          (subst (AreEmpty (suc i)) (sym new)
          (one_more_empty i old x c.loop-index.invariant.empty
          (sym c.name_at.ensures ∙ c.unwrap-name.ensures)));
      long = long ∙ c.loop-index.invariant.long;
      names = names ∙ c.loop-index.invariant.names;
      reserved =
          ap (λ (s : WindowSet ℕ). s.reserved) c.replace.ensures.new
          ∙ c.loop-index.invariant.reserved;
    }

pub returns : goal.returns
returns g c =
    let masks = c.loop-index.masks in
    let all : length masks.entries ≡ c.loop-index.index =
    omega (
      arith,
      c.loop-index.invariant.long,
      c.loop-index-test.false,
      c.loop-index.auto.index-end,
    ) in
    ap (λ acks. record { marks = acks; roomy = names_of masks.entries; reserved = masks.reserved })
    (none_marked c.loop-index.index masks.entries c.loop-index.invariant.empty all)
    ∙ (ap (λ names. record { marks = []; roomy = names; reserved = masks.reserved })
    c.loop-index.invariant.names
    ∙ ap (λ reserved. record {
      marks = [];
      roomy = names_of c.args.masks.now.entries;
      reserved =
          reserved;
    }) c.loop-index.invariant.reserved)
