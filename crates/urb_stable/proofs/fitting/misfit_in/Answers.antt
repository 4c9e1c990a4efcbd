use Rattle.urb_stable.proofs.Common.{Entry, Label, List, Misfit, None, Option, Rule, Some, ap}
use Rattle.urb_stable.proofs.Common.{broken, first_of_all, image_of, length, map, name_of}
use Rattle.urb_stable.proofs.Common.{option_map, refl, slice_get, slice_get_read, slice_index_or}
use Rattle.urb_stable.proofs.Common.{subst, sym, take, ◌<◌, ◌∙◌, ◌≡◌, ◌≤◌}
use Rattle.urb_stable.proofs.FirstMisfits.{broken-first, found, passed, record-none, record-step}
use Rattle.urb_stable.proofs.fitting.misfit_in.Goals as goal

pub broken_rule-requires-clause-here : goal.broken_rule-requires-clause-here
broken_rule-requires-clause-here g c =
    let records = c.records-records.result.now in
    subst (λ (rs : List Entry). slice_get rs c.loop-i.i ≡ Some c.index-records-i.result)
    c.records-records.ensures
    (slice_get_read records (length records)
    c.loop-i.i c.index-records-i.result refl c.loop-i-test.true c.index-records-i.is)

pub returns : goal.returns
returns g c =
    let past : length c.args.image.now.records ≤ c.loop-i.i =
    subst (λ (rs : List Entry). length rs ≤ c.loop-i.i) c.records-records.ensures
    c.loop-i-test.false in
    sym (record-none c.args.config (image_of (map (λ image. image.records) c.args.images.now))
    c.args.node c.args.image.now.records c.loop-i.i past) ∙ c.loop-i.invariant

pub returns-in-Some : goal.returns-in-Some
returns-in-Some g c =
    let same : c.records-records.result.now ≡ c.args.image.now.records =
    c.records-records.ensures in
    let within : c.loop-i.i < length c.args.image.now.records =
    subst (λ (rs : List Entry). c.loop-i.i < length rs) same c.loop-i-test.true in
    let here : c.index-records-i.result
    ≡ slice_index_or c.args.image.now.records c.loop-i.i c.index-records-i.result =
    c.index-records-i.is ∙ ap (λ (rs : List Entry).
    slice_index_or rs c.loop-i.i c.index-records-i.result) same in
    let images = image_of (map (λ image. image.records) c.args.images.now) in
    let told : Rule → Misfit =
    λ rule. record { rule = rule; node = c.args.node; name = name_of c.index-records-i.result }
    in
    let first : first_of_all (broken c.args.config images c.args.node
    (take c.loop-i.i c.args.image.now.records) c.index-records-i.result) ≡ Some
    (record { rule = c.in-Some.rule; node = c.args.node; name = c.name-name.result }) =
    broken-first c.args.config images c.args.node
    (take c.loop-i.i c.args.image.now.records)
    c.index-records-i.result c.broken_rule.result c.broken_rule.ensures
    ∙ (ap (λ (o : Option Rule). option_map told o) c.in-Some.is
    ∙ ap (λ (x : Label). Some (record { rule = c.in-Some.rule; node = c.args.node; name = x }))
    (sym c.name-name.ensures)) in
    found _ _ _ _ _ (record-step c.args.config images c.args.node c.args.image.now.records
    c.loop-i.i c.index-records-i.result within here) first c.loop-i.invariant

pub loop-i-preserved : goal.loop-i-preserved
loop-i-preserved g c =
    let same : c.records-records.result.now ≡ c.args.image.now.records =
    c.records-records.ensures in
    let within : c.loop-i.i < length c.args.image.now.records =
    subst (λ (rs : List Entry). c.loop-i.i < length rs) same c.loop-i-test.true in
    let here : c.index-records-i.result
    ≡ slice_index_or c.args.image.now.records c.loop-i.i c.index-records-i.result =
    c.index-records-i.is ∙ ap (λ (rs : List Entry).
    slice_index_or rs c.loop-i.i c.index-records-i.result) same in
    let images = image_of (map (λ image. image.records) c.args.images.now) in
    let told : Rule → Misfit =
    λ rule. record { rule = rule; node = c.args.node; name = name_of c.index-records-i.result }
    in
    let first : first_of_all (broken c.args.config images c.args.node
    (take c.loop-i.i c.args.image.now.records) c.index-records-i.result) ≡ None =
    broken-first c.args.config images c.args.node
    (take c.loop-i.i c.args.image.now.records)
    c.index-records-i.result c.broken_rule.result c.broken_rule.ensures
    ∙ ap (λ (o : Option Rule). option_map told o) c.in_default.is in
    passed _ _ _ _ (record-step c.args.config images c.args.node c.args.image.now.records c.loop-i.i
    c.index-records-i.result within here) first c.loop-i.invariant
