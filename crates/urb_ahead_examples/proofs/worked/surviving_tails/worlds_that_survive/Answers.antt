-- If nobody may broadcast, no record may follow, and a stop leaves nothing of a new group.
use Rattle.urb_ahead_examples.proofs.Common.{Bool, Content, Entry, Label, List, MayJoin}
use Rattle.urb_ahead_examples.proofs.Common.{MayLeaveAhead, Pend, [], eqb-true, false, false≢true}
use Rattle.urb_ahead_examples.proofs.Common.{flat_map, if◌then◌else◌, inl, inr, limits, nat_lt}
use Rattle.urb_ahead_examples.proofs.Common.{pend, refl, started, stored, subst, suc, sym, true, ℕ}
use Rattle.urb_ahead_examples.proofs.Common.{◌&&◌, ◌++◌, ◌==◌, ◌∷◌, ◌≡◌}
use Rattle.urb_stable.specs.declared.record.Record.TheVariants.{Cert, PendCert}
use Rattle.urb_names.specs.Pairs.{has_pair}
use Rattle.urb_names.specs.Nodes.{nodes}
use Rattle.urb_stable.specs.DeliveredLogs.{entries, log}
use Rattle.urb_stable.specs.Fitting.{is_next_own, misfits_behind}
use Rattle.urb_world.specs.StoresAhead.{SurvivesAhead}
use Rattle.urb_ahead_examples.proofs.worked.surviving_tails.worlds_that_survive.Goals as goal

both-left : (a b : Bool) → (a && b) ≡ true → a ≡ true
both-left true b e = refl
both-left false b e = e

both-right : (a b : Bool) → (a && b) ≡ true → b ≡ true
both-right true b e = e
both-right false b e = absurd (false≢true e)

-- no number is both 1 and less than 1
one-less : (k : ℕ) → (k == 1) ≡ true → nat_lt k 1 ≡ true → ⊥
one-less k e h = false≢true (subst (λ (i : ℕ). nat_lt i 1 ≡ true) (eqb-true k 1 e) h)

-- a pair that its sender doesn't hold is the node's own
is-own : (own : Bool) (r : Entry) (x : Label) (m : Content)
    → (if own then true else has_pair (pend (if own then r ∷ [] else [])) x m) ≡ true → own ≡ true
is-own true r x m e = refl
is-own false r x m e = e

is-next : (own next : Bool) → own ≡ true → (if own then next else true) ≡ true → next ≡ true
is-next true next o e = e
is-next false next o e = absurd (false≢true o)

-- a new pair would be the node's first, but no name is in range
no-pair : (own : Bool) (n : ℕ) (r : Entry) (x : Label) (m : Content) (rest : Bool)
    → ((nat_lt x.sender (suc n) && nat_lt x.seq 1) && rest) ≡ true
    → (if own then is_next_own [] x m else true) ≡ true
    → (if own then true else has_pair (pend (if own then r ∷ [] else [])) x m) ≡ true → ⊥
no-pair own n r x m rest a b c =
    one-less x.seq
    (both-left (x.seq == 1) _ (is-next own (is_next_own [] x m) (is-own own r x m c) b))
    (both-right (nat_lt x.sender (suc n)) (nat_lt x.seq 1)
    (both-left (nat_lt x.sender (suc n) && nat_lt x.seq 1) rest a))

none-joins : (n p : ℕ) (r : Entry)
    → MayJoin (limits n 0) (stored (started (limits n 0))) p [] r → ⊥
none-joins n p (Pend x m) may = no-pair (x.sender == p) n (Pend x m) x m true may.a may.b may.c
none-joins n p (PendCert x m) may =
    no-pair (x.sender == p) n (PendCert x m) x m true may.a may.b may.c
none-joins n p (Cert x) may =
    false≢true (both-right (nat_lt x.sender (suc n) && nat_lt x.seq 1) false may.a)

none-left : (n p : ℕ) (image : List Entry) → MayLeaveAhead (started (limits n 0)) p image
    → image ≡ []
none-left n p image (inl e) = e
none-left n p image (inr ([], may, e)) = e
none-left n p image (inr (r ∷ tail, may, ahead)) = absurd (none-joins n p r may.0)

survives : (n : ℕ) → SurvivesAhead (started (limits n 0))
survives n images left = record {
  fits = none (nodes n);
  delivered = λ p. (log (images p), refl);
  entries = λ p. (entries (images p), refl);
  again = λ p x m is own has. absurd (false≢true has);
}
  where
    none : (ps : List ℕ)
        → flat_map (λ p. misfits_behind (limits n 0) images p [] (images p)) ps ≡ []
    none [] = refl
    none (p ∷ ps) =
        subst (λ (rs : List Entry). misfits_behind (limits n 0) images p [] rs
        ++ flat_map (λ p. misfits_behind (limits n 0) images p [] (images p)) ps ≡ [])
        (sym (none-left n p (images p) (left p))) (none ps)

pub returns-clause-of_any_size : goal.returns-clause-of_any_size
returns-clause-of_any_size c n = survives n

pub returns-clause-of_three : goal.returns-clause-of_three
returns-clause-of_three c = survives 3

pub returns-clause-of_four : goal.returns-clause-of_four
returns-clause-of_four c = survives 4

pub returns-clause-of_seven : goal.returns-clause-of_seven
returns-clause-of_seven c = survives 7
