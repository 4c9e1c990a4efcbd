use Rattle.urb_folder.proofs.Common.{All, Err, IsOpen, ap, arith, drop, length, rules}
use Rattle.urb_folder.proofs.Common.{slice_index_or, subst, sym, take, ◌++◌, ◌+◌, ◌<◌, ◌∙◌, ◌∷◌}
use Rattle.urb_folder.proofs.Common.{◌≡◌, ◌≤◌}
use Rattle.std.proofs.lemmas.List.{drop_more, take-append-drop, take_all}
use Rattle.urb_folder.proofs.first_fault.find_first_fault.Goals as goal

pub returns-in-Err : goal.returns-in-Err
returns-in-Err g c =
    let all = c.args.outcomes.now in
    let at = c.loop-outcome.outcome-index in
    let less : at < length all =
    omega (arith, c.loop-outcome-test.true, c.loop-outcome.auto.outcome-index-end) in
    let there : slice_index_or all at (Err c.in-Err.fault) ≡ Err c.in-Err.fault = search rules in
    record {
      earlier = take at all;
      later = drop (at + 1) all;
      were =
          sym (take-append-drop at all)
          ∙ ap (λ more. take at all ++ more)
          (drop_more all at (Err c.in-Err.fault) less ∙ ap (λ it. it ∷ drop (at + 1) all) there);
      there = c.loop-outcome.invariant;
    }

pub returns : goal.returns
returns g c =
    let all = c.args.outcomes.now in
    let whole : length all ≤ c.loop-outcome.outcome-index =
    omega (arith, c.loop-outcome-test.false, c.loop-outcome.auto.outcome-index-end) in
    subst (λ them. All IsOpen them)
    (take_all c.loop-outcome.outcome-index all whole) c.loop-outcome.invariant
