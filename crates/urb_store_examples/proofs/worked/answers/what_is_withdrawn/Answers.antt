-- A stop leaves the records before the last one. Nothing else is a beginning of the same length.
use Rattle.std.proofs.Common.{List, None, [], arith, inl, inr, length, refl, ℕ, ⊎_elim, ◌++◌}
use Rattle.std.proofs.Common.{◌∷◌, ◌≡◌}
use Rattle.std.proofs.lemmas.Grind.{common_steps}
use Rattle.urb_stable.specs.Entries.{Entry}
use Rattle.urb_stable.specs.StoredTogether.{IsContentsOrAll}
use Rattle.urb_store_examples.specs.internal.SeenStores.{both, pending}
use Rattle.urb_store_examples.proofs.worked.answers.what_is_withdrawn.Goals as goal

none-some : {A : Type 0} (x : A) (xs : List A) → [] ≡ x ∷ xs → ⊥
none-some x xs e = cc

last : (kept gone : List Entry) → both ≡ kept ++ gone → length gone ≡ 1
    → IsContentsOrAll gone kept None (pending 1 ∷ [])
last [] gone e l = grind (arith, common_steps)
last (a ∷ []) gone e l = inl cc
last (a ∷ b ∷ []) gone e l = grind (arith, common_steps)
last (a ∷ b ∷ x ∷ rest) gone e l = cc

pub returns-clause-the_last_of_a_store : goal.returns-clause-the_last_of_a_store
returns-clause-the_last_of_a_store c = record {
  withdrawn = λ h. record { taken = (pending 2 ∷ [], refl, refl); failed = tt };
  stop = λ h i. last;
  rest = λ h. refl;
}

pub returns-clause-more_by_a_stop : goal.returns-clause-more_by_a_stop
returns-clause-more_by_a_stop c h =
    ⊎_elim (none-some _ _) (none-some _ _)
    (h.stop tt tt (pending 1 ∷ []) (pending 2 ∷ []) refl refl)
