-- What a settling publishes, and what it can't.
use Rattle.urb_show.proofs.Common.{GroupView, List, Tick, [], ap, arith, list_at, refl, suc, sym}
use Rattle.urb_show.proofs.Common.{told, zero, ℕ, ◌∷◌, ◌≡◌, ◌≢◌}
use Rattle.urb_show.specs.internal.HouseExamples.{settled, unsettled}
use Rattle.urb_show.proofs.worked.houses.what_a_settling_publishes.Goals as goal

some-none : {A : Type 0} (x : A) (xs : List A) → x ∷ xs ≡ [] → ⊥
some-none x xs e = cc

-- the list of each other node is the one that had been prepared
others : (q : ℕ) → 0 ≢ q → list_at settled.published q ≡ list_at unsettled.prepared q
others zero other = absurd (other refl)
others (suc zero) other = refl
others (suc (suc q)) other = refl

pub returns-clause-each_list : goal.returns-clause-each_list
returns-clause-each_list c = record {
  group = refl;
  events = refl;
  past = refl;
  own = refl;
  others = others;
  prepared = refl;
  told = refl;
  until = refl;
}

pub returns-clause-of_another_group : goal.returns-clause-of_another_group
returns-clause-of_another_group c h =
    let four : 4 ≡ 1 = ap (λ (g : GroupView). g.size.n) h.group in
    omega (arith, four)

pub returns-clause-with_an_event_more : goal.returns-clause-with_an_event_more
returns-clause-with_an_event_more c h =
    let more : 4 ≡ 3 = h.events in
    omega (arith, more)

pub returns-clause-with_another_past : goal.returns-clause-with_another_past
returns-clause-with_another_past c h = some-none (Tick 1) [] (sym h.past)

pub returns-clause-without_its_own_entry : goal.returns-clause-without_its_own_entry
returns-clause-without_its_own_entry c h = some-none (told 1 1 "a") [] (sym h.own)

pub returns-clause-without_what_was_prepared : goal.returns-clause-without_what_was_prepared
returns-clause-without_what_was_prepared c h =
    some-none (told 2 1 "b") [] (sym (h.others 1 (λ e. let no : 0 ≡ 1 = e in omega (arith, no))))

pub returns-clause-of_another_node : goal.returns-clause-of_another_node
returns-clause-of_another_node c h = some-none (told 2 1 "b") [] h.own

pub returns-clause-with_other_lists_prepared : goal.returns-clause-with_other_lists_prepared
returns-clause-with_other_lists_prepared c h =
    some-none (told 1 1 "a" ∷ []) ((told 2 1 "b" ∷ []) ∷ []) (sym h.prepared)

pub returns-clause-with_a_token_of_less : goal.returns-clause-with_a_token_of_less
returns-clause-with_a_token_of_less c h =
    some-none (told 1 1 "a" ∷ []) ((told 2 1 "b" ∷ []) ∷ []) (sym h.told)

pub returns-clause-with_a_token_of_an_earlier_moment : goal.returns-clause-with_a_token_of_an_earlier_moment
returns-clause-with_a_token_of_an_earlier_moment c h = some-none (Tick 1) [] (sym h.until)
