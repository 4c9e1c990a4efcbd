-- What a token can't tell.
use Rattle.urb_show.proofs.Common.{List, Lists, Tick, [], told, ⊎_elim, ◌∷◌, ◌≡◌}
use Rattle.urb_show.specs.Lists.{Begins}
use Rattle.urb_show.proofs.worked.readers.what_a_token_tells.Goals as goal

some-none : {A : Type 0} (x : A) (xs : List A) → x ∷ xs ≡ [] → ⊥
some-none x xs e = cc

-- an entry that is lost at the first node
lost : (xs ys : Lists) → Begins ((told 1 1 "a" ∷ []) ∷ xs) ([] ∷ ys) → ⊥
lost xs ys (first, rest) = some-none (told 1 1 "a") _ first.1

pub returns-clause-what_nobody_told : goal.returns-clause-what_nobody_told
returns-clause-what_nobody_told c learns = ⊎_elim (some-none [] []) (some-none [] []) learns.one

pub returns-clause-less_than_it_knew : goal.returns-clause-less_than_it_knew
returns-clause-less_than_it_knew c learns = lost [] [] learns.earlier

pub returns-clause-less_than_the_token : goal.returns-clause-less_than_the_token
returns-clause-less_than_the_token c learns = lost [] [] learns.told

pub returns-clause-other_lists_are_seen : goal.returns-clause-other_lists_are_seen
returns-clause-other_lists_are_seen c learns = some-none [] [] learns.seen

pub returns-clause-an_earlier_moment : goal.returns-clause-an_earlier_moment
returns-clause-an_earlier_moment c learns = some-none (Tick 1) _ learns.past.earlier.1

pub returns-clause-a_moment_of_nobody : goal.returns-clause-a_moment_of_nobody
returns-clause-a_moment_of_nobody c learns =
    ⊎_elim (some-none (Tick 1) []) (some-none (Tick 1) []) learns.one

pub returns-clause-less_than_its_moment : goal.returns-clause-less_than_its_moment
returns-clause-less_than_its_moment c learns = some-none (Tick 1) _ learns.earlier.1

pub returns-clause-less_than_the_tokens_moment : goal.returns-clause-less_than_the_tokens_moment
returns-clause-less_than_the_tokens_moment c learns = some-none (Tick 1) _ learns.told.1
