use Rattle.std.proofs.Common.{[], ap, arith, rules, sym, take, ◌++◌, ◌+◌, ◌-◌, ◌∙◌, ◌∷◌, ◌≡◌}
use Rattle.std.proofs.lemmas.List.{take_more}
use Rattle.urb_feed.proofs.Deliveries.{last_number}
use Rattle.urb_feed.proofs.delivered.delivered_of.Goals as goal
use Rattle.urb_names.specs.Release.{part_of}

pub returns-then-eq : goal.returns-then-eq
returns-then-eq c =
    let x = c.index-log-left.result in
    let log = c.args.log.now in
    let i = c.loop-left.left - 1 in
    let here : c.loop-left.left ≡ i + 1 = omega arith in
    let more : take c.loop-left.left log ≡ take i log ++ x ∷ [] =
    ap (λ n. take n log) here
    ∙ (take_more log i x (omega (arith, c.loop-left.invariant.0))
    ∙ ap (λ y. take i log ++ y ∷ []) (sym c.index-log-left.is)) in
    let same : part_of c.args.sender log ≡ part_of c.args.sender (take i log ++ x ∷ []) =
    c.loop-left.invariant.1 ∙ ap (part_of c.args.sender) more in
    let sender : x.sender ≡ c.args.sender = search rules in
    let seq : c.name.inside.seq ≡ x.seq = search rules in
    seq ∙ last_number c.args.sender log (take i log) x c.requires same sender
