-- A submit preserves what holds for all nodes.
use Rattle.urb_world.proofs.Common.{Bool, Content, Entry, IsNew, Kept, Label, Limits, List, MayJoin}
use Rattle.urb_world.proofs.Common.{Node, NodeKept, None, Pend, PendCert, [], and_from, and_parts}
use Rattle.urb_world.proofs.Common.{ap, arith, cond, cond-true, drafts, eq-eqb, eqb-true, has_pair}
use Rattle.urb_world.proofs.Common.{has_pair-itself, in_range, is_node, is_none, kept-numbered}
use Rattle.urb_world.proofs.Common.{length, lt-ltb, ltb-true, majority_passes, message_of, name}
use Rattle.urb_world.proofs.Common.{nat_lt, next_name, own, pend, pend-append, refl, slice_get}
use Rattle.urb_world.proofs.Common.{subst, suc, sym, true, updated, ℕ, ◌&&◌, ◌*◌, ◌++◌, ◌+◌, ◌<◌}
use Rattle.urb_world.proofs.Common.{◌==◌, ◌∙◌, ◌∷◌, ◌≡◌}
use Rattle.urb_world.proofs.steps.DraftedRecords.{leads-drafts}
use Rattle.urb_world.proofs.steps.OneNodeStep.{Leads, updated-at}
use Rattle.urb_names.specs.Pairs.{next_number}
use Rattle.urb_stable.specs.Fitting.{is_next_own}

majority_one : (n p : ℕ) (f : ℕ → Bool) → (n == 1) ≡ true → is_node n p ≡ true → f p ≡ true
    → majority_passes n f ≡ true
majority_one n p f e h k =
    let one : n ≡ 1 = eqb-true n 1 e in
    let bounds = and_parts (nat_lt 0 p) (nat_lt p (suc n)) h in
    let low : 0 < p = ltb-true 0 p bounds.0 in
    let high : p < suc n = ltb-true p (suc n) bounds.1 in
    let first : p ≡ 1 = omega arith in
    let passes : f 1 ≡ true = subst (λ (i : ℕ). f i ≡ true) first k in
    subst (λ (i : ℕ). majority_passes i f ≡ true) (sym one)
    (subst (λ (b : Bool). nat_lt 1 (2 * (0 + cond b 1 0)) ≡ true) (sym passes) refl)

module _ (size : Limits) (images : ℕ → List Entry) (p : ℕ) (records : List Entry)
    (kept : Kept size images p [] records) (is : is_node size.n p ≡ true)
    (m : Content) (room : nat_lt (length (own p (pend records))) size.cap ≡ true)
    (number : (m.number == next_number m.client (own p (pend records))) ≡ true) where
  abbrev own_next : Label
  own_next = name p (suc (length (own p (pend records))))

  own_a : (in_range size own_next && is_none (message_of (pend records) own_next)) ≡ true
  own_a =
      let low : nat_lt p (suc size.n) ≡ true =
      (and_parts (nat_lt 0 p) (nat_lt p (suc size.n)) is).1 in
      let r : length (own p (pend records)) < size.cap = ltb-true _ _ room in
      let none : message_of (pend records) own_next ≡ None =
      kept-numbered size images p records kept (length (own p (pend records)))
      ∙ get_end (own p (pend records)) in
      and_from (in_range size own_next) _
      (and_from (nat_lt p (suc size.n)) _ low
      (lt-ltb (suc (length (own p (pend records)))) (suc size.cap) (omega arith)))
      (ap is_none none)
    where
      get_end : (xs : List Content) → slice_get xs (length xs) ≡ None
      get_end [] = refl
      get_end (x ∷ xs) = get_end xs

  own_b : cond (p == p) (is_next_own (own p (pend records)) own_next m) true ≡ true
  own_b =
      cond-true (p == p) _ _ (eq-eqb p p refl)
      ∙ and_from (suc (length (own p (pend records))) == suc (length (own p (pend records)))) _
      (eq-eqb (suc (length (own p (pend records)))) (suc (length (own p (pend records)))) refl)
      number

  own_c : (b : Bool) → cond (p == p) true b ≡ true
  own_c b = cond-true (p == p) _ _ (eq-eqb p p refl)

  joins-own : MayJoin size images p records (Pend own_next m)
  joins-own = record { a = own_a; b = own_b; c = own_c _; d = refl }

  joins-own_alone : (size.n == 1) ≡ true → MayJoin size images p records (PendCert own_next m)
  joins-own_alone one =
      record {
        a = own_a;
        b = own_b;
        c = own_c _;
        d =
            majority_one size.n p (λ q. has_pair
            (pend (updated images p (records ++ PendCert own_next m ∷ []) q)) own_next m) one is
            (subst (λ (rs : List Entry). has_pair (pend rs) own_next m ≡ true)
            (sym (updated-at images p (records ++ PendCert own_next m ∷ [])))
            (subst (λ (ps : List (Label × Content)). has_pair ps own_next m ≡ true)
            (sym (pend-append records (PendCert own_next m ∷ [])))
            (has_pair-itself (pend records) own_next m)));
      }

-- a node that is new to the message drafts it
module _ (size : Limits) (images : ℕ → List Entry) (p : ℕ) (m : Content) (node : Node)
    (e : images p ≡ node.records) (is : is_node size.n p ≡ true) (k : NodeKept size images p node)
    (new : IsNew size m node) where
  -- drafting a new message as pending preserves the rules
  pub leads-among : Leads size images p (drafts node (Pend (next_name p node) m) None)
  leads-among =
      leads-drafts size images p node _ None e k
      (subst (λ (ms : List Content). (m.number == next_number m.client ms) ≡ true
      → nat_lt (length ms) size.cap ≡ true
      → MayJoin size images p node.records (Pend (name p (suc (length ms))) m))
      (sym k.broadcast)
      (λ number room. joins-own size images p node.records k.kept is m room number)
      new.number new.room) tt

  -- at a node that is alone, drafting a new message together with its certificate preserves the
  -- rules
  pub leads-alone : (size.n == 1) ≡ true
      → Leads size images p (drafts node (PendCert (next_name p node) m) None)
  leads-alone one =
      leads-drafts size images p node _ None e k
      (subst (λ (ms : List Content). (m.number == next_number m.client ms) ≡ true
      → nat_lt (length ms) size.cap ≡ true
      → MayJoin size images p node.records (PendCert (name p (suc (length ms))) m))
      (sym k.broadcast)
      (λ number room. joins-own_alone size images p node.records k.kept is m room number one)
      new.number new.room) tt
