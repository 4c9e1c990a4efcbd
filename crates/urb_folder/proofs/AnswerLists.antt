-- Stores that were asked in parallel: from what is known at each place to what is known of the
-- lists.
use Rattle.urb_folder.proofs.Common.{AllAnswer, AllGive, Entry, Ghosts, Gives, List, Ok, Result}
use Rattle.urb_folder.proofs.Common.{StoreFault, Vec, [], arith, length, list_in, map}
use Rattle.urb_folder.proofs.Common.{slice_index_or, suc, ℕ, ◌<◌, ◌∷◌, ◌≡◌}

-- each of these places was asked
pub all_answered : {T S A : Type 0} (g : Ghosts S A) (store : T → S)
    (answer : T → Result (Vec Entry A) StoreFault) (befores afters : List T)
    → length befores ≡ length afters
    → ((i : ℕ) (d : T) → i < length befores
    → Gives g (store (slice_index_or befores i d))
    (list_in (answer (slice_index_or afters i d))) (store (slice_index_or afters i d)))
    → AllAnswer g (map store befores) (map answer afters) (map store afters)
all_answered g store answer [] [] same each = tt
all_answered g store answer [] (a ∷ afters) same each = absurd (omega (arith, same))
all_answered g store answer (b ∷ befores) [] same each = absurd (omega (arith, same))
all_answered g store answer (b ∷ befores) (a ∷ afters) same each = (
  each 0 b (omega (arith)),
  all_answered g store answer befores afters (omega (arith, same))
      (λ i d less. each (suc i) d (omega (arith, less))),
)

-- stores that all gave their lists
pub all_give : {S A : Type 0} (g : Ghosts S A) (stores : List S) (images : List (Vec Entry A))
    (asked : List S)
    → AllAnswer g stores (map Ok images) asked
    → AllGive g stores (map (λ image. image.items) images) asked
all_give g [] [] [] answered = tt
all_give g [] [] (a ∷ asked) answered = absurd answered
all_give g [] (i ∷ images) asked answered = absurd answered
all_give g (s ∷ stores) [] asked answered = absurd answered
all_give g (s ∷ stores) (i ∷ images) [] answered = absurd answered
all_give g (s ∷ stores) (i ∷ images) (a ∷ asked) answered =
    (answered.0, all_give g stores images asked answered.1)
