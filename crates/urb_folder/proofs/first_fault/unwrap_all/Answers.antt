use Rattle.urb_folder.proofs.Common.{All, IsOpen, Ok, [], ap, arith, map, rules, subst, suc, ◌++◌}
use Rattle.urb_folder.proofs.Common.{◌∙◌, ◌∷◌, ◌≡◌}
use Rattle.std.proofs.lemmas.List.{append_assoc, map-append}
use Rattle.urb_folder.proofs.first_fault.unwrap_all.Goals as goal

pub loop-outcome-preserved : goal.loop-outcome-preserved
loop-outcome-preserved g c =
    let before = c.loop-outcome.all.items in
    let it = c.unwrap.result in
    let rest = c.next.new.self.rest.items in
    let split : c.loop-outcome.outcome-iterator.rest.items ≡ Ok it ∷ rest = search rules in
    let there = subst (λ them. All IsOpen them) split c.loop-outcome.invariant.3 in
    let whole =
    subst (λ them. map Ok before ++ them ≡ c.args.outcomes.items)
    split c.loop-outcome.invariant.2 in
    let more : map Ok c.push_reserved.new.self.items ++ rest ≡ map Ok before ++ Ok it ∷ rest =
    ap (λ them. map Ok them ++ rest) c.push_reserved.ensures.items
    ∙ (ap (λ them. them ++ rest) (map-append Ok before (it ∷ []))
    ∙ append_assoc (map Ok before) (Ok it ∷ []) rest) in (
      search rules,
      search rules,
      more ∙ whole,
      λ k d less. there (suc k) d (omega (arith, less)),
      search rules,
    )
