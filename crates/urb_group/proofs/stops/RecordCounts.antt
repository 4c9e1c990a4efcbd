-- A node has few records: at most two for each name that its group may have.
use Rattle.urb_group.proofs.Common.{Cert, Content, Entry, GroupView, IsLimits, IsSound, Kept, Label}
use Rattle.urb_group.proofs.Common.{Limits, List, Pend, PendCert, Rules, Shows, World, []}
use Rattle.urb_group.proofs.Common.{and_parts, ap, append-nil, arith, cert, false≢true, flat_map}
use Rattle.urb_group.proofs.Common.{has_name, has_pair, in_range, inl, inr, is_none, is_some}
use Rattle.urb_group.proofs.Common.{length, ltb-true, map, message_of, name, nat_lt, not, not-true}
use Rattle.urb_group.proofs.Common.{numbers_from, or_left, or_right, pend, refl, same_name}
use Rattle.urb_group.proofs.Common.{same_name-same, stored, subst, suc, sym, true, zero, ℕ, ⊎_elim}
use Rattle.urb_group.proofs.Common.{◌&&◌, ◌*◌, ◌++◌, ◌+◌, ◌∙◌, ◌∷◌, ◌≡◌, ◌≤◌, ◌⊎◌}
use Rattle.std.proofs.lemmas.List.{length-append}
use Rattle.urb_group.proofs.shown.AgreeingWorlds.{sound-kept}
use Rattle.urb_world.proofs.recovery.PendingNames.{in-without, length-names}
use Rattle.urb_world.proofs.recovery.NodeLists.{in-numbers}
use Rattle.urb_world.proofs.ticks.Membership.{IsIn, in-flat_map, in-map, in-split}
use Rattle.urb_names.proofs.FoundPairs.{no_pair, none_found}
use Rattle.urb_names.proofs.OrderedPairs.{has_pair-behind, has_pair-head}
use Rattle.urb_stable.proofs.KeptRules.{kept-all}

-- ---- names that stand once each are no more than the list that has all of them

abbrev Once : List Label → Type 0
Once [] = Unit {0}
Once (x ∷ xs) = (IsIn x xs → ⊥) × Once xs

in-parts : (x : Label) (xs ys : List Label) → IsIn x (xs ++ ys) → IsIn x xs ⊎ IsIn x ys
in-parts x [] ys h = inr h
in-parts x (z ∷ xs) ys h =
    ⊎_elim (λ e. inl (inl e)) (λ k. ⊎_elim (λ a. inl (inr a)) (λ b. inr b) (in-parts x xs ys k)) h

once-push : (xs : List Label) (x : Label) → Once xs → (IsIn x xs → ⊥) → Once (xs ++ x ∷ [])
once-push [] x h new = (λ k. k, tt)
once-push (y ∷ xs) x h new = (
  λ k. ⊎_elim h.0 (λ e. ⊎_elim (λ f. new (inl (sym f))) (λ none. none) e)
      (in-parts y xs (x ∷ []) k),
  once-push xs x h.1 (λ k. new (inr k)),
)

once-fit : (xs ys : List Label) → Once xs → ((x : Label) → IsIn x xs → IsIn x ys)
    → length xs ≤ length ys
once-fit [] ys once all = omega arith
once-fit (x ∷ xs) ys once all =
    let split = in-split x ys (all x (inl refl)) in
    let fewer =
    once-fit xs (split.0 ++ split.1) once.1
    (λ y h. in-without y x split.0 split.1
    (λ e. once.0 (subst (λ (z : Label). IsIn z xs) (sym e) h))
    (subst (IsIn y) split.2 (all y (inr h)))) in
    omega (
      arith,
      fewer,
      length-append split.0 split.1,
      length-append split.0 (x ∷ split.1),
      ap length split.2,
    )

-- ---- each record is the first or the second of its name

-- the names of the records that hold a pair
abbrev firsts : List Entry → List Label
firsts [] = []
firsts (Pend x m ∷ records) = x ∷ firsts records
firsts (PendCert x m ∷ records) = x ∷ firsts records
firsts (Cert x ∷ records) = firsts records

-- the names of the other records
abbrev seconds : List Entry → List Label
seconds [] = []
seconds (Pend x m ∷ records) = seconds records
seconds (PendCert x m ∷ records) = seconds records
seconds (Cert x ∷ records) = x ∷ seconds records

both-counted : (records : List Entry)
    → length records ≡ length (firsts records) + length (seconds records)
both-counted [] = refl
both-counted (Pend x m ∷ records) = omega (arith, both-counted records)
both-counted (PendCert x m ∷ records) = omega (arith, both-counted records)
both-counted (Cert x ∷ records) = omega (arith, both-counted records)

firsts-push : (records : List Entry) (r : Entry)
    → firsts (records ++ r ∷ []) ≡ firsts records ++ firsts (r ∷ [])
firsts-push [] r = refl
firsts-push (Pend x m ∷ records) r = ap (λ xs. x ∷ xs) (firsts-push records r)
firsts-push (PendCert x m ∷ records) r = ap (λ xs. x ∷ xs) (firsts-push records r)
firsts-push (Cert x ∷ records) r = firsts-push records r

seconds-push : (records : List Entry) (r : Entry)
    → seconds (records ++ r ∷ []) ≡ seconds records ++ seconds (r ∷ [])
seconds-push [] r = refl
seconds-push (Pend x m ∷ records) r = seconds-push records r
seconds-push (PendCert x m ∷ records) r = seconds-push records r
seconds-push (Cert x ∷ records) r = ap (λ xs. x ∷ xs) (seconds-push records r)

first-in : (y : Label) (m : Content) (records : List Entry) (x : Label)
    → (IsIn x (firsts records) → (o : Content) × (has_pair (pend records) x o ≡ true))
    → (y ≡ x) ⊎ IsIn x (firsts records)
    → (o : Content) × (has_pair ((y, m) ∷ pend records) x o ≡ true)
first-in y m records x later (inl e) = (
  m,
  subst (λ (z : Label). has_pair ((y, m) ∷ pend records) z m ≡ true) e
      (has_pair-head (y, m) (pend records)),
)
first-in y m records x later (inr k) =
    (let one = later k in (one.0, has_pair-behind (y, m) (pend records) x one.0 one.1))

in-firsts : (records : List Entry) (x : Label) → IsIn x (firsts records)
    → (m : Content) × (has_pair (pend records) x m ≡ true)
in-firsts [] x h = absurd h
in-firsts (Pend y m ∷ records) x h = first-in y m records x (in-firsts records x) h
in-firsts (PendCert y m ∷ records) x h = first-in y m records x (in-firsts records x) h
in-firsts (Cert y ∷ records) x h = in-firsts records x h

in-seconds : (records : List Entry) (x : Label) → IsIn x (seconds records)
    → has_name (cert records) x ≡ true
in-seconds [] x h = absurd h
in-seconds (Pend y m ∷ records) x h = in-seconds records x h
in-seconds (PendCert y m ∷ records) x h = or_right (same_name y x) _ (in-seconds records x h)
in-seconds (Cert y ∷ records) x h =
    ⊎_elim (λ e. subst (λ (z : Label). has_name (y ∷ cert records) z ≡ true) e
    (or_left (same_name y y) _ (same_name-same y)))
    (λ k. or_right (same_name y x) _ (in-seconds records x k)) h

-- ---- the names of records that keep the rules

-- each of these names occurs once, and the group may have it
record AreAllowed (size : Limits) (xs : List Label) : Type 0 where
  -- no name occurs twice
  pub once : Once xs
  -- the group may have each name
  pub range : (x : Label) → IsIn x xs → in_range size x ≡ true

allowed-push : (size : Limits) (xs : List Label) (x : Label) → AreAllowed size xs → (IsIn x xs → ⊥)
    → in_range size x ≡ true → AreAllowed size (xs ++ x ∷ [])
allowed-push size xs x h new range =
    record {
      once = once-push xs x h.once new;
      range =
          λ y k. ⊎_elim (λ old. h.range y old)
          (λ e. ⊎_elim (λ f. subst (λ (z : Label). in_range size z ≡ true) f range)
          (λ none. absurd none) e) (in-parts y xs (x ∷ []) k);
    }

module _ (size : Limits) (images : ℕ → List Entry) (p : ℕ) where
  abbrev Allowed : List Entry → Type 0
  Allowed records = AreAllowed size (firsts records) × AreAllowed size (seconds records)

  -- a record that holds a pair
  pair-allowed : (earlier : List Entry) (x : Label) (r : Entry) → firsts (r ∷ []) ≡ x ∷ []
      → seconds (r ∷ []) ≡ [] → (in_range size x && is_none (message_of (pend earlier) x)) ≡ true
      → Allowed earlier → Allowed (earlier ++ r ∷ [])
  pair-allowed earlier x r one none rule h =
      let parts = and_parts (in_range size x) (is_none (message_of (pend earlier) x)) rule in
      let new : IsIn x (firsts earlier) → ⊥ =
      λ k. (let held = in-firsts earlier x k in
      no_pair (pend earlier) x held.0 (none_found (message_of (pend earlier) x) parts.1) held.1)
      in (
        subst (AreAllowed size) (sym (firsts-push earlier r ∙ ap (λ xs. firsts earlier ++ xs) one))
            (allowed-push size (firsts earlier) x h.0 new parts.0),
        subst (AreAllowed size) (sym (seconds-push earlier r
            ∙ (ap (λ xs. seconds earlier ++ xs) none ∙ append-nil (seconds earlier)))) h.1,
      )

  certificate-allowed : (earlier : List Entry) (x : Label)
      → (in_range size x && (is_some (message_of (pend earlier) x)
      && not (has_name (cert earlier) x))) ≡ true
      → Allowed earlier → Allowed (earlier ++ Cert x ∷ [])
  certificate-allowed earlier x rule h =
      let parts = and_parts (in_range size x) _ rule in
      let open_ =
      and_parts (is_some (message_of (pend earlier) x))
      (not (has_name (cert earlier) x)) parts.1 in
      let new : IsIn x (seconds earlier) → ⊥ =
      λ k. false≢true (sym (not-true (has_name (cert earlier) x) open_.1)
      ∙ in-seconds earlier x k) in (
        subst (AreAllowed size) (sym (firsts-push earlier (Cert x) ∙ append-nil (firsts earlier)))
            h.0,
        subst (AreAllowed size) (sym (seconds-push earlier (Cert x)))
            (allowed-push size (seconds earlier) x h.1 new parts.0),
      )

  one-more : (earlier : List Entry) (r : Entry) → Allowed earlier → Rules size images p earlier r
      → Allowed (earlier ++ r ∷ [])
  one-more earlier (Pend x m) h rules = pair-allowed earlier x (Pend x m) refl refl rules.a h
  one-more earlier (PendCert x m) h rules =
      pair-allowed earlier x (PendCert x m) refl refl rules.a h
  one-more earlier (Cert x) h rules = certificate-allowed earlier x rules.a h

  none-allowed : AreAllowed size []
  none-allowed = record { once = tt; range = λ x k. absurd k }

  all-allowed : (records : List Entry) → Kept size images p [] records → Allowed records
  all-allowed records h =
      kept-all size images p Allowed one-more [] records (none-allowed, none-allowed) h

-- ---- the names that a group may have

abbrev numbered-names : Limits → ℕ → List Label
numbered-names size sender = map (name sender) (numbers_from 0 (suc size.cap))

abbrev allowed : Limits → List Label
allowed size = flat_map (numbered-names size) (numbers_from 0 (suc size.n))

in-allowed : (size : Limits) (x : Label) → in_range size x ≡ true → IsIn x (allowed size)
in-allowed size x h =
    let parts = and_parts (nat_lt x.sender (suc size.n)) (nat_lt x.seq (suc size.cap)) h in
    in-flat_map (numbered-names size) x.sender (numbers_from 0 (suc size.n)) x
    (in-numbers 0 (suc size.n) x.sender (omega arith)
    (let low = ltb-true x.sender (suc size.n) parts.0 in omega (arith, low)))
    (in-map (name x.sender) x.seq (numbers_from 0 (suc size.cap))
    (in-numbers 0 (suc size.cap) x.seq (omega arith)
    (let low = ltb-true x.seq (suc size.cap) parts.1 in omega (arith, low))))

few-names : (size : Limits) → size.cap ≤ 1000000 → (first count : ℕ)
    → length (flat_map (numbered-names size) (numbers_from first count)) ≤ 1000001 * count
few-names size low first zero = omega arith
few-names size low first (suc count) =
    let here : length (numbered-names size first) ≡ suc size.cap =
    length-names first 0 (suc size.cap) in
    let rest = few-names size low (suc first) count in
    let both =
    length-append (numbered-names size first)
    (flat_map (numbered-names size) (numbers_from (suc first) count)) in
    omega (arith, here, rest, both, low)

few-allowed : (size : Limits) → IsLimits size → length (allowed size) ≤ 8000008
few-allowed size limits =
    (let few = few-names size limits.3 0 (suc size.n) in let n = limits.1 in omega (arith, few, n))

-- ---- a node's records

kept-few : (size : Limits) (images : ℕ → List Entry) (p : ℕ) (records : List Entry) → IsLimits size
    → Kept size images p [] records → length records ≤ 16000016
kept-few size images p records limits kept =
    let all = all-allowed size images p records kept in
    let first =
    once-fit (firsts records) (allowed size) all.0.once
    (λ x k. in-allowed size x (all.0.range x k)) in
    let second =
    once-fit (seconds records) (allowed size) all.1.once
    (λ x k. in-allowed size x (all.1.range x k)) in
    omega (arith, both-counted records, first, second, few-allowed size limits)

-- a node of a sound group within its limits has stored at most 16,000,016 records
pub few-records : (group : GroupView) (w : World) (p : ℕ) → IsSound group → IsLimits group.size
    → Shows group w → length (w.node p).records ≤ 16000016
few-records group w p sound limits shows =
    kept-few w.size (stored w) p (stored w p) (subst IsLimits shows.size limits)
    ((sound-kept group w sound shows).nodes p).kept
