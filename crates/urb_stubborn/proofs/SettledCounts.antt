-- The counts of settled names, after hearing a certificate and after dropping what was heard.
use Rattle.urb_stubborn.proofs.Common.{IsPassed, Label, List, MAX_SENDERS, Resending, ack_lt, acked}
use Rattle.urb_stubborn.proofs.Common.{ap, arith, cases_lt, false, get_or, get_or-set_other}
use Rattle.urb_stubborn.proofs.Common.{get_or-set_same, inl, inr, is_due, length, name, or_right}
use Rattle.urb_stubborn.proofs.Common.{placed, refl, same_name, slice_set, subst, sym, true, ℕ}
use Rattle.urb_stubborn.proofs.Common.{◌&&◌, ◌+◌, ◌-◌, ◌<◌, ◌==◌, ◌∙◌, ◌≡◌, ◌≢◌, ◌≤◌, ◌⊎◌}
use Rattle.std.proofs.lemmas.Bool.{cases_eq}
use Rattle.std.proofs.lemmas.List.{length-set}
use Rattle.urb_names.proofs.ElementPlaces.{any_insert}
use Rattle.urb_stubborn.specs.internal.SettledInvariant.{IsKept, IsSettledBy, settled_of}
use Rattle.urb_stubborn.specs.declared.resend.Resend.TheInside.{Inside}
use Rattle.urb_stubborn.proofs.DueNames.{due_less}

-- what was heard stays heard when more is heard
heard_more : (marks : List (Label × ℕ)) (x : Label) (q : ℕ) (y : Label) (r : ℕ)
    → acked marks y r ≡ true → acked (placed ack_lt marks (x, q)) y r ≡ true
heard_more marks x q y r e =
    any_insert (λ ack. same_name ack.0 y && (ack.1 == r)) marks _ (x, q)
    ∙ or_right (same_name x y && (q == r)) (acked marks y r) e

-- the counts are preserved when one more certificate is heard, and the count of the name's sender
-- moves on
pub kept_heard : {A : Type 0} (a b : Inside A) (x : Label) (q i end : ℕ) → b.config ≡ a.config
    → b.node ≡ a.node → b.heard.marks ≡ placed ack_lt a.heard.marks (x, q)
    → b.settled ≡ slice_set a.settled i end
    → i + 1 ≡ x.sender → i < MAX_SENDERS
    → ((k : ℕ) → get_or a.settled i 0 < k → k ≤ end
    → is_due a.config.n a.node b.heard.marks (name x.sender k) ≡ false)
    → IsKept a → IsKept b
kept_heard a b x q i end config node marks counts place low settled kept =
    record {
      node =
          subst (λ (c : ℕ). b.node ≤ c) (sym (ap (λ l. l.n) config))
          (subst (λ (p : ℕ). p ≤ a.config.n) (sym node) kept.node);
      senders = ap length counts ∙ (length-set a.settled i end ∙ kept.senders);
      settled =
          λ y h. ap (λ l. is_due l.n b.node b.heard.marks y) config
          ∙ (ap (λ (p : ℕ). is_due a.config.n p b.heard.marks y) node
          ∙ by_sender y h (cases_eq y.sender x.sender) (cases_lt (get_or a.settled i 0) y.seq));
    }
  where
    before : (y : Label) → IsSettledBy a.settled y
        → is_due a.config.n a.node b.heard.marks y ≡ false
    before y h =
        due_less a.config.n a.node a.heard.marks b.heard.marks y
        (λ r e. ap (λ acks. acked acks y r) marks ∙ heard_more a.heard.marks x q y r e)
        (kept.settled y h)

    by_sender : (y : Label) → IsSettledBy b.settled y
        → (y.sender ≡ x.sender) ⊎ (y.sender ≡ x.sender → ⊥)
        → (get_or a.settled i 0 < y.seq) ⊎ (y.seq ≤ get_or a.settled i 0)
        → is_due a.config.n a.node b.heard.marks y ≡ false
    by_sender y h (inl e) (inl l) =
        let within : i < length a.settled = omega (arith, kept.senders, low) in
        let at : y.sender - 1 ≡ i = omega (arith, e, place) in
        let here : settled_of b.settled y.sender ≡ end =
        ap (λ cs. settled_of cs y.sender) counts
        ∙ (ap (λ (j : ℕ). get_or (slice_set a.settled i end) j 0) at
        ∙ get_or-set_same a.settled i end 0 within) in
        let last : y.seq ≤ end = omega (arith, h.last, here) in
        ap (λ (s : ℕ). is_due a.config.n a.node b.heard.marks (name s y.seq)) e
        ∙ settled y.seq l last
    by_sender y h (inl e) (inr l) =
        let at : y.sender - 1 ≡ i = omega (arith, e, place) in
        before y (record {
          sender = h.sender;
          first = h.first;
          last =
              subst (λ (j : ℕ). y.seq ≤ get_or a.settled j 0) (sym at) l;
        })
    by_sender y h (inr e) k =
        let other : y.sender - 1 ≢ i =
        λ f. e (let from = h.sender in omega (arith, f, place, from)) in
        let same : settled_of b.settled y.sender ≡ settled_of a.settled y.sender =
        ap (λ cs. settled_of cs y.sender) counts
        ∙ get_or-set_other a.settled i (y.sender - 1) end 0 other in
        before y (record { sender = h.sender; first = h.first; last = omega (arith, h.last, same) })

-- a name that isn't due is passed
pub passed_itself : (r : Resending) (x : Label) → is_due r.limits.n r.node r.heard x ≡ false
    → IsPassed r x x
passed_itself r x e =
    record {
      sender = refl;
      forward = omega arith;
      settled =
          λ y same l u. let one : y.seq ≡ x.seq = omega (arith, l, u) in
          ap (λ (s : ℕ). is_due r.limits.n r.node r.heard (name s y.seq)) same
          ∙ (ap (λ (k : ℕ). is_due r.limits.n r.node r.heard (name x.sender k)) one ∙ e);
    }
