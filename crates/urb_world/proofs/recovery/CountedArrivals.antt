-- A packet comes to a ready node, and the record that it may draft is stored. The node then knows
-- the name, and has counted the packet's source for it or has certified it.
use Rattle.urb_world.proofs.Common.{AcksKept, Again, Answered, Bool, Carried, Cause, Cert, Content}
use Rattle.urb_world.proofs.Common.{Down, Entry, Flags, IsDone, Label, Limits, List, Node, None}
use Rattle.urb_world.proofs.Common.{Noted, Option, Pend, PendCert, Ready, Reply, Same, Some, State}
use Rattle.urb_world.proofs.Common.{Storing, [], acked, answers, any_left, any_right, ap}
use Rattle.urb_world.proofs.Common.{append-nil, arrives, cases_Bool, cert, cert-append, cond_both}
use Rattle.urb_world.proofs.Common.{counts, eq-eqb, false, false_from_ne_true, false≢true, has_name}
use Rattle.urb_world.proofs.Common.{inl, inr, is_down, is_none, is_some, keeps_record}
use Rattle.urb_world.proofs.Common.{majority_grows, majority_passes, message_of, message_of-new}
use Rattle.urb_world.proofs.Common.{none_found, not, not-false, or_left, or_right, packet_from}
use Rattle.urb_world.proofs.Common.{pend, pend-append, refl, reply_to, same_name, same_name-same}
use Rattle.urb_world.proofs.Common.{same_name-true, says_certified, subst, sym, takes, true}
use Rattle.urb_world.proofs.Common.{with_ack, ℕ, ⊎_elim, ◌++◌, ◌==◌, ◌||◌, ◌∙◌, ◌∷◌, ◌≡◌, ◌⊎◌}
use Rattle.urb_world.proofs.steps.ArrivalCases.{any-heard}
use Rattle.urb_world.proofs.hearing.CountedNodes.{acked-cases, acked-itself, acked-stays}
use Rattle.urb_names.proofs.FoundPairs.{message_of-other}
use Rattle.urb_node.specs.declared.answer.Answer.{Answer}

-- whether a message is stored under the name
abbrev pub knows : List Entry → Label → Bool
knows records x = is_some (message_of (pend records) x)

-- If the name isn't certified, a node with these records and acknowledgements has counted z. The
-- nodes that it has counted are no majority yet.
pub record Counts (n : ℕ) (records : List Entry) (acks : List (Label × ℕ)) (x : Label)
    (z : ℕ) : Type 0 where
  -- unless the name is certified, the node is counted for it
  pub counted : has_name (cert records) x ≡ false → acked acks x z ≡ true
  -- unless the name is certified, the counted nodes are no majority
  pub few : has_name (cert records) x ≡ false → majority_passes n (acked acks x) ≡ false

-- a node with these records and acknowledgements took a packet of the name from p
pub record Settles (n : ℕ) (x : Label) (p : ℕ) (records : List Entry) (acks : List (Label × ℕ))
    (new : Node) : Type 0 where
  -- the node is ready
  pub ready : new.state ≡ Ready
  -- it knows the name
  pub known : knows new.records x ≡ true
  -- it has counted p for the name, or certified the name
  pub told : Counts n new.records new.acks x p
  -- each node that was counted for a name still is, or the name is certified
  pub others : (y : Label) (z : ℕ) → Counts n records acks y z → Counts n new.records new.acks y z
  -- it knows no other name than before
  pub only : (y : Label) → knows new.records y ≡ true → (knows records y ≡ true) ⊎ (x ≡ y)

-- ---- records that grow

module _ (records : List Entry) (r : Entry) where
  certified-stays : (y : Label) → has_name (cert records) y ≡ true
      → has_name (cert (records ++ r ∷ [])) y ≡ true
  certified-stays y h =
      subst (λ (xs : List Label). has_name xs y ≡ true) (sym (cert-append records (r ∷ [])))
      (any_left _ (cert records) (cert (r ∷ [])) h)

  -- the record certifies the name
  pub certified-last : (x : Label) → has_name (cert (r ∷ [])) x ≡ true
      → has_name (cert (records ++ r ∷ [])) x ≡ true
  certified-last x h =
      subst (λ (xs : List Label). has_name xs x ≡ true) (sym (cert-append records (r ∷ [])))
      (any_right _ (cert records) (cert (r ∷ [])) h)

-- a name is in the list that has only this name
pub certifies-itself : (x : Label) → has_name (x ∷ []) x ≡ true
certifies-itself x = or_left (same_name x x) false (same_name-same x)

known-joined : (ps : List (Label × Content)) (x : Label) (m : Content) → message_of ps x ≡ None
    → is_some (message_of (ps ++ (x, m) ∷ []) x) ≡ true
known-joined ps x m e = ap is_some (message_of-new ps x m e)

-- a name that has a pair once a pair is added had one before, or is the added pair's
pub only-joined : (ps : List (Label × Content)) (x y : Label) (m : Content)
    → is_some (message_of (ps ++ (x, m) ∷ []) y) ≡ true
    → (is_some (message_of ps y) ≡ true) ⊎ (x ≡ y)
only-joined ps x y m h =
    ⊎_elim (λ e. inr (same_name-true x y e))
    (λ e. inl (sym (ap is_some (message_of-other ps x y m e)) ∙ h)) (cases_Bool (same_name x y))

-- ---- from what was counted

settles : (n : ℕ) (x : Label) (p : ℕ) (records : List Entry) (acks : List (Label × ℕ)) (new : Node)
    → new.state ≡ Ready → knows new.records x ≡ true → Counts n new.records new.acks x p
    → ((y : Label) → has_name (cert records) y ≡ true → has_name (cert new.records) y ≡ true)
    → ((y : Label) (z : ℕ) → acked acks y z ≡ true → acked new.acks y z ≡ true)
    → ((y : Label) (z : ℕ) → acked new.acks y z ≡ true → (acked acks y z ≡ true) ⊎ (x ≡ y))
    → ((y : Label) → knows new.records y ≡ true → (knows records y ≡ true) ⊎ (x ≡ y))
    → Settles n x p records acks new
settles n x p records acks new ready known told certified more new_acks only =
    record { ready = ready; known = known; told = told; others = others; only = only }
  where
    before : (y : Label) → has_name (cert new.records) y ≡ false → has_name (cert records) y ≡ false
    before y e = false_from_ne_true _ (λ h. false≢true (sym e ∙ certified y h))

    others : (y : Label) (z : ℕ) → Counts n records acks y z → Counts n new.records new.acks y z
    others y z c = record {
      counted = λ e. more y z (c.counted (before y e));
      few =
          λ e. at (cases_Bool (same_name x y)) e;
    }
      where
        at : (same_name x y ≡ true) ⊎ (same_name x y ≡ false)
            → has_name (cert new.records) y ≡ false → majority_passes n (acked new.acks y) ≡ false
        at (inl same) e =
            subst (λ (v : Label). has_name (cert new.records) v ≡ false
            → majority_passes n (acked new.acks v) ≡ false) (same_name-true x y same) told.few e
        at (inr other) e =
            false_from_ne_true _ (λ most.
            false≢true (sym (c.few (before y e))
            ∙ majority_grows n (acked new.acks y) (acked acks y) was most))
          where
            was : (q : ℕ) → acked new.acks y q ≡ true → acked acks y q ≡ true
            was q h =
                ⊎_elim (λ k. k) (λ k. absurd (false≢true
                (sym other ∙ subst (λ (v : Label). same_name x v ≡ true) k (same_name-same x))))
                (new_acks y q h)

-- a certified name needs no more counting
pub certified-counts : (n : ℕ) (records : List Entry) (acks : List (Label × ℕ)) (x : Label) (z : ℕ)
    → has_name (cert records) x ≡ true → Counts n records acks x z
certified-counts n records acks x z h =
    record {
      counted = λ e. absurd (false≢true (sym e ∙ h));
      few =
          λ e. absurd (false≢true (sym e ∙ h));
    }

-- ---- each outcome

-- the node once the record that it holds in this state is stored
abbrev pub settled : ℕ → Node → State → Node
settled q node Ready = node
settled q node (Storing entry cause) = keeps_record q entry cause node
settled q node (Down doubtful) = node

pub record Took (n : ℕ) (q : ℕ) (x : Label) (p : ℕ) (records : List Entry) (acks : List (Label × ℕ))
    (outcome : Reply × Node) : Type 0 where
  -- the packet isn't refused
  pub done : IsDone outcome.0
  -- the node stays up
  pub up : is_down outcome.1.state ≡ false
  -- once the record that it may draft is stored, it has taken the packet
  pub settles : Settles n x p records acks (settled q outcome.1 outcome.1.state)

module _ (size : Limits) (q p : ℕ) (x : Label) (m : Content) (flags : Option Flags) where
  cause : Cause
  cause = packet_from p (says_certified flags)

  -- a pair is drafted: it and its source are counted when it is stored
  module _ (images : ℕ → List Entry) (node : Node) (new : message_of (pend node.records) x ≡ None)
      (kept : AcksKept images node.records node.acks) where
    abbrev pub counted : List (Label × ℕ)
    counted = with_ack (with_ack node.acks x q) x p

    counted-stays : (y : Label) (z : ℕ) → acked node.acks y z ≡ true → acked counted y z ≡ true
    counted-stays y z h =
        acked-stays (with_ack node.acks x q) x p y z (acked-stays node.acks x q y z h)

    counted-cases : (y : Label) (z : ℕ) → acked counted y z ≡ true
        → (acked node.acks y z ≡ true) ⊎ ((x ≡ y) × (((z == q) || (z == p)) ≡ true))
    counted-cases y z h =
        ⊎_elim
        (λ e. ⊎_elim (λ f. inl f) (λ f. inr (f.0, or_left (z == q) (z == p) (eq-eqb z q (sym f.1))))
        (acked-cases node.acks x q y z e))
        (λ e. inr (e.0, or_right (z == q) (z == p) (eq-eqb z p (sym e.1))))
        (acked-cases (with_ack node.acks x q) x p y z h)

    counted-only : (y : Label) (z : ℕ) → acked counted y z ≡ true
        → (acked node.acks y z ≡ true) ⊎ (x ≡ y)
    counted-only y z h = ⊎_elim (λ e. inl e) (λ e. inr e.0) (counted-cases y z h)

    -- if p and q are no majority, the nodes that are counted for a new name are no majority
    pub few : majority_passes size.n (λ z. (z == q) || (z == p)) ≡ false
        → has_name (cert node.records) x ≡ false → majority_passes size.n (acked counted x) ≡ false
    few none e =
        false_from_ne_true _ (λ most.
        false≢true (sym none ∙ majority_grows size.n (acked counted x)
        (λ z. (z == q) || (z == p)) two most))
      where
        two : (z : ℕ) → acked counted x z ≡ true → ((z == q) || (z == p)) ≡ true
        two z h =
            ⊎_elim (λ f. let k = kept x z e f in absurd (unknown k.0 k.1)) (λ f. f.1)
            (counted-cases x z h)
          where
            unknown : (o : Content) → message_of (pend node.records) x ≡ Some o → ⊥
            unknown o f = let g : None ≡ Some o = sym new ∙ f in cc

    -- a node that stores the pair, and counts itself and the source, has taken the packet
    pub pair_settles : (r : Entry) (heard : List (Label × ℕ)) (broadcast : List Content)
        → pend (r ∷ []) ≡ (x, m) ∷ []
        → (has_name (cert (node.records ++ r ∷ [])) x ≡ false
        → majority_passes size.n (acked counted x) ≡ false)
        → Settles size.n x p node.records node.acks
        (record node {
          records = node.records ++ r ∷ [];
          state = Ready;
          acks = counted;
          heard =
              heard;
          broadcast = broadcast;
        })
    pair_settles r heard broadcast e few =
        settles size.n x p node.records node.acks _ refl
        (subst (λ (ps : List (Label × Content)). is_some (message_of ps x) ≡ true) (sym pairs)
        (known-joined (pend node.records) x m new))
        (record { counted = λ _. acked-itself (with_ack node.acks x q) x p; few = few })
        (λ y h. certified-stays node.records r y h) counted-stays counted-only
        (λ y h. only-joined (pend node.records) x y m
        (subst (λ (ps : List (Label × Content)). is_some (message_of ps y) ≡ true) pairs h))
      where
        pairs : pend (node.records ++ r ∷ []) ≡ pend node.records ++ (x, m) ∷ []
        pairs = pend-append node.records (r ∷ []) ∙ ap (λ ps. pend node.records ++ ps) e

    takes-settles : Took size.n q x p node.records node.acks (takes size q p x m flags node)
    takes-settles =
        cond_both (majority_passes size.n (λ z. (z == q) || (z == p))) _ _
        (Took size.n q x p node.records node.acks)
        (λ _. record {
          done = tt;
          up = refl;
          settles =
              pair_settles (PendCert x m) _ _ refl
              (λ e. absurd (false≢true (sym e
              ∙ certified-last node.records (PendCert x m) x (certifies-itself x))));
        })
        (λ none. record {
          done = tt;
          up = refl;
          settles =
              pair_settles (Pend x m) _ _ refl (λ e. few none (before e));
        })
      where
        before : has_name (cert (node.records ++ Pend x m ∷ [])) x ≡ false
            → has_name (cert node.records) x ≡ false
        before e =
            false_from_ne_true _ (λ h. false≢true
            (sym e ∙ certified-stays node.records (Pend x m) x h))

  -- a node that stays ready
  took : (records : List Entry) (acks : List (Label × ℕ)) (told : Answer (List Carried))
      (new : Node) → new.state ≡ Ready → Settles size.n x p records acks new
      → Took size.n q x p records acks (Same told, new)
  took records acks told new e s =
      record {
        done = tt;
        up = ap is_down e;
        settles =
            subst (Settles size.n x p records acks) (sym (ap (settled q new) e)) s;
      }

  -- a name that is known: its source is counted, and a certificate may be drafted
  module _ (node : Node) (ready : node.state ≡ Ready) (known : knows node.records x ≡ true) where
    counts-settles : Took size.n q x p node.records node.acks (counts size p x flags node)
    counts-settles =
        cond_both (majority_passes size.n (acked (with_ack node.acks x p) x)) _ _
        (Took size.n q x p node.records node.acks)
        (λ _. record { done = tt; up = refl; settles = certificate })
        (λ few. cond_both (acked node.acks x p) _ _ (Took size.n q x p node.records node.acks)
        (λ _. took node.records node.acks (Again x) _ ready (noted few))
        (λ _. took node.records node.acks (Noted x) _ ready (noted few)))
      where
        same_pairs : pend (node.records ++ Cert x ∷ []) ≡ pend node.records
        same_pairs = pend-append node.records (Cert x ∷ []) ∙ append-nil (pend node.records)

        one_more : (y : Label) (z : ℕ) → acked (with_ack node.acks x p) y z ≡ true
            → (acked node.acks y z ≡ true) ⊎ (x ≡ y)
        one_more y z h = ⊎_elim (λ e. inl e) (λ e. inr e.0) (acked-cases node.acks x p y z h)

        certificate : Settles size.n x p node.records node.acks
            (keeps_record q (Cert x) (Some cause) (record node { acks = with_ack node.acks x p }))
        certificate =
            settles size.n x p node.records node.acks _ refl
            (ap (λ ps. is_some (message_of ps x)) same_pairs ∙ known)
            (certified-counts size.n (node.records ++ Cert x ∷ []) (with_ack node.acks x p) x p
            (certified-last node.records (Cert x) x (certifies-itself x)))
            (λ y h. certified-stays node.records (Cert x) y h)
            (λ y z h. acked-stays node.acks x p y z h) one_more
            (λ y h. inl (sym (ap (λ ps. is_some (message_of ps y)) same_pairs) ∙ h))

        noted : majority_passes size.n (acked (with_ack node.acks x p) x) ≡ false
            → Settles size.n x p node.records node.acks
            (record node { acks = with_ack node.acks x p })
        noted few =
            settles size.n x p node.records node.acks _ ready known
            (record { counted = λ _. acked-itself node.acks x p; few = λ _. few }) (λ y h. h)
            (λ y z h. acked-stays node.acks x p y z h) one_more (λ y h. inl h)

    -- a name that is certified
    answers-settles : has_name (cert node.records) x ≡ true → (flags : Option Flags)
        → Took size.n q x p node.records node.acks (answers q p x m flags node)
    answers-settles c flags = at flags
      where
        same : Settles size.n x p node.records node.acks node
        same =
            settles size.n x p node.records node.acks node ready known
            (certified-counts size.n node.records node.acks x p c) (λ y h. h) (λ y z h. h)
            (λ y z h. inl h) (λ y h. inl h)

        at : (flags : Option Flags) → Took size.n q x p node.records node.acks
            (answers q p x m flags node)
        at None = took node.records node.acks (Again x) node ready same
        at (Some f) =
            cond_both f.heard _ _ (Took size.n q x p node.records node.acks)
            (λ _. took node.records node.acks (Again x) node ready same)
            (λ _. took node.records node.acks
            (Answered x (reply_to q p x m node ∷ [])) node ready same)

-- a packet of the name comes to a ready node, whatever it heard before
pub arrives-settles : (size : Limits) (images : ℕ → List Entry) (q p : ℕ) (x : Label) (m : Content)
    (flags : Option Flags) (node : Node) → node.state ≡ Ready
    → AcksKept images node.records node.acks
    → Took size.n q x p node.records node.acks (arrives size q p x m flags node)
arrives-settles size images q p x m flags node ready kept =
    cond_both (is_none (message_of (pend node.records) x)) _ _ Goes
    (λ none. takes-settles size q p x m flags images node
    (none_found (message_of (pend node.records) x) none) kept)
    (λ some. cond_both (not (has_name (cert node.records) x)) _ _ Goes
    (λ _. any-heard (λ told. Goes (counts size p x flags told)) p x flags node
    (λ heard. counts-settles size q p x m flags (record node { heard = heard }) ready
    (known some)))
    (λ old. any-heard (λ told. Goes (answers q p x m flags told)) p x flags node
    (λ heard. answers-settles size q p x m flags (record node { heard = heard }) ready (known some)
    (not-false (has_name (cert node.records) x) old) flags)))
  where
    Goes : Reply × Node → Type 0
    Goes = Took size.n q x p node.records node.acks

    known : is_none (message_of (pend node.records) x) ≡ false → knows node.records x ≡ true
    known h = not-false (is_some (message_of (pend node.records) x)) h
