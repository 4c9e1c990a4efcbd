use Rattle.urb_fifo.proofs.Common.{Label, same_name, same_name-same, same_name-true, subst, true}
use Rattle.urb_fifo.proofs.Common.{◌≡◌}
use Rattle.std.proofs.lemmas.Slice.Eq.{slice_eq-Decides}
use Rattle.urb_fifo.proofs.fifo.are_same.Goals as goal

pub returns : goal.returns
returns c =
    slice_eq-Decides (λ (a b : Label). (
      same_name-true a b,
      λ (e : a ≡ b).
          subst (λ (z : Label). same_name a z ≡ true) e (same_name-same a),
    ))
    c.args.first.now c.args.second.now c.eq.result c.eq.ensures
