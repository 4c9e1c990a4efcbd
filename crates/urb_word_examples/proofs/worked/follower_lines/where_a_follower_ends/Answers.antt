-- Calls that answer only the request for the entry at place 5.
use Rattle.std.proofs.Common.{List, None, Option, Some, [], ap, arith, inl, inr, subst, sym, ℕ, ⊎_elim}
use Rattle.std.proofs.Common.{◌∷◌, ◌≡◌}
use Rattle.std.specs.Io.KnownBytes.{Appends}
use Rattle.urb_client.specs.Requests.{Asked}
use Rattle.urb_client.specs.Responses.{Refused, Said}
use Rattle.urb_client.specs.declared.frame_write.WriteFailed.{WriteFailed}
use Rattle.urb_cli.specs.Advice.{explained_refusal}
use Rattle.urb_cli.specs.ClientOutput.{entry_line}
use Rattle.urb_cli.specs.Following.{Follows, IsAnswered, IsFrom, Prints, Reader, StopsAfter}
use Rattle.urb_cli.specs.declared.client.stream_fault.StreamFault.TheVariants.{Output}
use Rattle.urb_word_examples.specs.internal.CallExamples.{refuses_fifth}
use Rattle.urb_word_examples.proofs.worked.follower_lines.where_a_follower_ends.Goals as goal

-- only the request at place 5 is answered, and that by a refusal
only-fifth : (old place : ℕ) (answer : Option Said) (new : ℕ)
    → IsAnswered refuses_fifth old place answer new
    → (place ≡ 5) × (answer ≡ Some (Refused 3 0))
only-fifth old place answer new h =
    let from : 5 ≡ place = subst (λ (asked : Asked). IsFrom place asked) h.2.3.0 h.1 in
    (sym from, h.2.3.1)

first-not-fifth : ◌≡◌ {A = ℕ} 1 5 → ⊥
first-not-fifth e = omega (arith, e)

not-nineteen : ◌≡◌ {A = ℕ} 3 19 → ⊥
not-nineteen e = omega (arith, e)

-- a follower stays at place 1
stays-first : (output : Option (List ℕ)) (answers : List Said) (last : Reader ℕ)
    → Follows refuses_fifth entry_line 0 1 output answers last
    → last ≡ record { caller = 0; place = 1; output = output }
stays-first output [] last h = h
stays-first output (said ∷ answers) last h =
    absurd (first-not-fifth (only-fifth 0 1 (Some said) h.0.caller h.1.0).0)

-- a refusal with number 3 isn't passed over
not-passed : (said : Said) (old new : Reader ℕ) → Some said ≡ Some (Refused 3 0)
    → Prints refuses_fifth entry_line old said new → ⊥
not-passed said old new same prints =
    let is : said ≡ Refused 3 0 = cc in
    not-nineteen (subst (λ (it : Said). Prints refuses_fifth entry_line old it new) is prints).0

stays-fifth : (output : Option (List ℕ)) (answers : List Said) (last : Reader ℕ)
    → Follows refuses_fifth entry_line 0 5 output answers last
    → last ≡ record { caller = 0; place = 5; output = output }
stays-fifth output [] last h = h
stays-fifth output (said ∷ answers) last h =
    absurd (not-passed said (record { caller = 0; place = 5; output = output }) h.0
    (only-fifth 0 5 (Some said) h.0.caller h.1.0).1 h.1.1)

never-at-first : (last : Reader ℕ) (output : Option (List ℕ))
    → last ≡ record { caller = 0; place = 1; output = output } → (answer : Option Said) (new : ℕ)
    → IsAnswered refuses_fifth last.caller last.place answer new → ⊥
never-at-first last output is answer new answered =
    let place : last.place ≡ 1 = ap (λ (it : Reader ℕ). it.place) is in
    omega (arith, place, (only-fifth last.caller last.place answer new answered).0)

no-line : (number detail : ℕ) → explained_refusal number detail ≡ [] → ⊥
no-line number detail e = cc

never-stops : (failed : WriteFailed) (last : Reader ℕ) (output : Option (List ℕ))
    → last ≡ record { caller = 0; place = 1; output = output } → (caller : ℕ)
    (new : Option (List ℕ)) → StopsAfter refuses_fifth last (Output failed) caller new → ⊥
never-stops failed last output is caller new (inl h) = let e = h.3 in absurd (cc)
never-stops failed last output is caller new (inr (inl h)) =
    never-at-first last output is (Some h.0) caller h.1
never-stops failed last output is caller new (inr (inr h)) = let e = h.2 in absurd (cc)

pub returns-clause-refused_at_another_place : goal.returns-clause-refused_at_another_place
returns-clause-refused_at_another_place c h =
    never-at-first h.1 None (stays-first None h.0 h.1 h.4) (Some (Refused h.2 h.3)) 0 h.5

pub returns-clause-refused_without_a_line : goal.returns-clause-refused_without_a_line
returns-clause-refused_without_a_line c h =
    let output : h.1.output ≡ Some [] =
    ap (λ (it : Reader ℕ). it.output) (stays-fifth (Some []) h.0 h.1 h.4) in
    no-line h.2 h.3 (sym (subst (λ (o : Option (List ℕ)). Appends o (Some []) (explained_refusal
    h.2 h.3)) output h.6))

pub returns-clause-broken_off_at_another_place : goal.returns-clause-broken_off_at_another_place
returns-clause-broken_off_at_another_place c failed h =
    ⊎_elim (never-stops failed h.1 None (stays-first None h.0 h.1 h.2) 0 None)
    (λ end. let e = end.0 in absurd (cc)) h.3
