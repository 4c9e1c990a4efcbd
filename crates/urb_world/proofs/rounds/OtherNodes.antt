-- A majority has another node than any given one, except in a group of one.
use Rattle.urb_world.proofs.Common.{Bool, List, ap, arith, cases_Bool, cond-false, cond-true}
use Rattle.urb_world.proofs.Common.{count_by, eqb-true, false, filter, inl, inr, length}
use Rattle.urb_world.proofs.Common.{length-filter, ltb-true, majority_passes, nodes, numbers_from}
use Rattle.urb_world.proofs.Common.{refl, suc, true, zero, ℕ, ⊎_elim, ◌*◌, ◌<◌, ◌==◌, ◌∙◌, ◌∷◌, ◌≡◌}
use Rattle.urb_world.proofs.Common.{◌≤◌, ◌⊎◌}

module _ (among : ℕ → Bool) (q : ℕ) where
  -- one of them other than q
  abbrev pub Other : Type 0
  Other = (p : ℕ) × (among p ≡ true) × ((q == p) ≡ false)

  -- or there is no such node, or q alone
  abbrev AtMost : ℕ → ℕ → Type 0
  AtMost first count =
      (length (filter among (numbers_from first count)) ≡ 0)
      ⊎ ((length (filter among (numbers_from first count)) ≡ 1) × (first ≤ q))

  other-or-few : (first count : ℕ) → Other ⊎ AtMost first count
  other-or-few first zero = inr (inl refl)
  other-or-few first (suc count) = ⊎_elim inl at (other-or-few (suc first) count)
    where
      rest : List ℕ
      rest = filter among (numbers_from (suc first) count)

      with-first : AtMost (suc first) count → among first ≡ true → Other ⊎ AtMost first (suc count)
      with-first few is =
          ⊎_elim itself (λ differs. inl (first, is, differs)) (cases_Bool (q == first))
        where
          counted : length (filter among (numbers_from first (suc count))) ≡ suc (length rest)
          counted = ap length (cond-true (among first) (first ∷ rest) rest is)

          itself : (q == first) ≡ true → Other ⊎ AtMost first (suc count)
          itself e =
              let same = eqb-true q first e in
              ⊎_elim (λ none. inr (inr (counted ∙ ap suc none, omega (arith, same))))
              (λ one. let l = one.1 in absurd (omega (arith, l, same))) few

      without : AtMost (suc first) count → among first ≡ false → Other ⊎ AtMost first (suc count)
      without few not =
          let same : length (filter among (numbers_from first (suc count))) ≡ length rest =
          ap length (cond-false (among first) (first ∷ rest) rest not) in
          ⊎_elim (λ none. inr (inl (same ∙ none)))
          (λ one. let l = one.1 in inr (inr (same ∙ one.0, omega (arith, l)))) few

      at : AtMost (suc first) count → Other ⊎ AtMost first (suc count)
      at few = ⊎_elim (with-first few) (without few) (cases_Bool (among first))

  -- a majority of n nodes has a node other than q, or n is at most 1
  pub another : (n : ℕ) → majority_passes n among ≡ true → Other ⊎ (n ≤ 1)
  another n most =
      let l : n < 2 * count_by among (nodes n) = ltb-true n (2 * count_by among (nodes n)) most in
      ⊎_elim inl
      (λ few. inr (⊎_elim (λ none. let c = length-filter among (nodes n) in
      omega (arith, l, c, none)) (λ one. let e = one.0 in let c =
      length-filter among (nodes n) in omega (arith, l, c, e)) few))
      (other-or-few 1 n)
