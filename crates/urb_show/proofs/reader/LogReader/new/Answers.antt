use Rattle.urb_show.proofs.Common.{Addition, Agree, AreDeliveredBy, List, ap, length, lists_of}
use Rattle.urb_show.proofs.Common.{subst, sym, zero-le, ℕ, ◌≤◌}
use Rattle.urb_show.proofs.reader.LogReader.new.Goals as goal

pub invariant_of-result : goal.invariant_of-result
invariant_of-result g c =
    let base = g.K.HouseName.base in (
      subst (λ (n : ℕ). n ≤ c.args.reader.place.me.0.client) (ap length (sym c.requires.empty))
          zero-le,
      subst (λ (l : List Addition). Agree (lists_of base l)) (sym c.requires.empty)
          c.requires.agree,
      c.requires.sound,
      subst (λ (l : List Addition).
          AreDeliveredBy g.K.HouseName.origin c.args.moment (lists_of base l))
          (sym c.requires.empty) c.requires.delivered,
    )
