use Rattle.urb_show.proofs.Common.{Delivery, ap, arith, delivery_of, slice_index_or, sym, told}
use Rattle.urb_show.proofs.Common.{⊎_elim, ◌≡◌}
use Rattle.urb_show.proofs.worked.disagreements.Goals as goal

-- one letter is not another
apart : delivery_of (told 1 1 "a") ≡ delivery_of (told 1 1 "b") → ⊥
apart same =
    let first : 97 ≡ 98 = ap (λ (d : Delivery). slice_index_or d.1.payload 0 0) same in
    omega (arith, first)

pub returns-clause-two_messages : goal.returns-clause-two_messages
returns-clause-two_messages c agree =
    ⊎_elim (λ h. let e = h.1 in let same : delivery_of (told 1 1 "a") ≡ delivery_of (told 1 1 "b") =
    cc (e) in apart same)
    (λ h. let e = h.1 in let same : delivery_of (told 1 1 "b") ≡ delivery_of (told 1 1 "a") =
    cc (e) in apart (sym same)) (agree.one_begins 0 1 1)

pub returns-clause-a_number_is_missing : goal.returns-clause-a_number_is_missing
returns-clause-a_number_is_missing c agree = let e = agree.numbers 0 1 in cc

pub returns-clause-a_number_twice : goal.returns-clause-a_number_twice
returns-clause-a_number_twice c agree = let e = agree.numbers 0 1 in cc

pub returns-clause-too_early : goal.returns-clause-too_early
returns-clause-too_early c agree = let e = agree.numbers 1 1 in cc
