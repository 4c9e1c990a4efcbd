-- A submit drafts the node's next own record, if that may join, or else nothing.
use Rattle.std.proofs.Common.{Bool, List, None, Option, [], ap, ap₂, arith, subst, cond, count_by, eq-eqb}
use Rattle.std.proofs.Common.{eqb-true, false, find, inl, inr, le-ltb, length, lt-ltb, ltb-true}
use Rattle.std.proofs.Common.{nat_lt, not, refl, suc, sym, true, ℕ, ◌*◌, ◌<◌, ◌==◌, ◌∙◌, ◌∷◌, ◌≡◌}
use Rattle.std.proofs.Common.{◌≤◌}
use Rattle.std.proofs.lemmas.Bool.{and_parts, cond-false, cond-true, or_parts}
use Rattle.std.specs.List.{list_any}
use Rattle.urb_names.proofs.TruthValues.{both_ways}
use Rattle.urb_names.specs.LabelsAndContents.{Content, Limits}
use Rattle.urb_names.specs.Nodes.{is_majority, is_node}
use Rattle.urb_names.specs.Pairs.{is_numbered, next_number, own}
use Rattle.urb_names.specs.declared.limits.TheConstants.{MAX_PAYLOAD}
use Rattle.urb_node.proofs.SubmitCases.{IsNew, next_name, submits-cases}
use Rattle.urb_node.specs.Part.{Node, Ready, Storing}
use Rattle.urb_node.specs.Replies.{Reply}
use Rattle.urb_node.specs.Steps.{drafts, is_down, is_storing, submits, submits_by_number}
use Rattle.urb_stable.proofs.OwnRules.{kept-numbers}
use Rattle.urb_stable.specs.Entries.{Entry}
use Rattle.urb_stable.specs.Fitting.{in_range, is_next_own, keeps_a, keeps_b}
use Rattle.urb_stable.specs.Records.{pend}
use Rattle.urb_stable.specs.declared.record.Record.TheVariants.{Pend, PendCert}
use Rattle.urb_world.proofs.steps.OneNodeStep.{updated-at}
use Rattle.urb_world.proofs.steps.StepCases.{step-here, step-outcome}
use Rattle.urb_world.specs.RunInvariant.{MayJoin, NodesKept}
use Rattle.urb_world.specs.Step.{Submit, step, world_after}
use Rattle.urb_world.specs.World.{World, stored}
use Rattle.urb_foresight.proofs.DraftedEvents.{IsReadyOr, drafts-is, drafts-none}
use Rattle.urb_foresight.specs.ForeseenDrafts.{Drafts, DraftsNone}
use Rattle.urb_foresight.specs.internal.ReachedWorlds.{pair_record}

-- a node is a majority exactly if it is alone
pub alone-is : (n p : ℕ) → is_node n p ≡ true → (n == 1) ≡ is_majority 1 n
alone-is n p is =
    both_ways (n == 1) (is_majority 1 n)
    (λ e. let one : n ≡ 1 = eqb-true n 1 e in lt-ltb n (2 * 1) (omega (arith, one)))
    (λ e. let few : n < 2 * 1 = ltb-true n (2 * 1) e in eq-eqb n 1 (omega (arith, some, few)))
  where
    bounds : (nat_lt 0 p ≡ true) × (nat_lt p (suc n) ≡ true)
    bounds = and_parts (nat_lt 0 p) (nat_lt p (suc n)) is

    some : 0 < n
    some =
        let low : 0 < p = ltb-true 0 p bounds.0 in
        let high : p < suc n = ltb-true p (suc n) bounds.1 in
        omega arith

-- a number that no message has isn't found
not-numbered : (client number : ℕ) (ms : List Content)
    → list_any (is_numbered client number) ms ≡ false → find (is_numbered client number) ms ≡ None
not-numbered client number [] e = refl
not-numbered client number (m ∷ ms) e =
    let parts =
    or_parts (is_numbered client number m) (list_any (is_numbered client number) ms) e in
    cond-false (is_numbered client number m) _ _ parts.0 ∙ not-numbered client number ms parts.1

module _ (v : World) (p : ℕ) (m : Content) (kept : NodesKept v)
    (ready : (v.node p).state ≡ Ready) where
  -- the record that a submit of this message may draft
  abbrev pub next_own : Entry
  next_own = pair_record (v.size.n == 1) (next_name p (v.node p)) m

  -- the node's own messages, as it has stored them
  abbrev messages : List Content
  messages = own p (pend (stored v p))

  -- they are the messages that the node broadcasts
  same : (v.node p).broadcast ≡ messages
  same = (kept p).broadcast

  -- ---- what it means that it may join

  -- its name is in range
  a-is : (b : Bool)
      → keeps_a v.size (stored v p) (pair_record b (next_name p (v.node p)) m) ≡ true
      → in_range v.size (next_name p (v.node p)) ≡ true
  a-is true h = (and_parts (in_range v.size (next_name p (v.node p))) _ h).0
  a-is false h = (and_parts (in_range v.size (next_name p (v.node p))) _ h).0

  -- it is the node's next own pair
  b-is : (b : Bool) → keeps_b p (stored v p) (pair_record b (next_name p (v.node p)) m) ≡ true
      → is_next_own messages (next_name p (v.node p)) m ≡ true
  b-is true h = sym (cond-true (p == p) _ _ (eq-eqb p p refl)) ∙ h
  b-is false h = sym (cond-true (p == p) _ _ (eq-eqb p p refl)) ∙ h

  module _ (join : MayJoin v.size (stored v) p (stored v p) next_own) where
    -- the node may broadcast one more message
    room : nat_lt (length (v.node p).broadcast) v.size.cap ≡ true
    room =
        let range =
        and_parts (nat_lt p (suc v.size.n))
        (nat_lt (suc (length (v.node p).broadcast)) (suc v.size.cap))
        (a-is (v.size.n == 1) join.a) in
        let low : suc (length (v.node p).broadcast) < suc v.size.cap = ltb-true _ _ range.1 in
        lt-ltb (length (v.node p).broadcast) v.size.cap (omega arith)

    -- the message has its client's next number among the stored ones
    its_number : (m.number == next_number m.client messages) ≡ true
    its_number =
        (and_parts (suc (length (v.node p).broadcast) == suc (length messages)) _
        (b-is (v.size.n == 1) join.b)).1

    -- so it has among those that the node broadcasts
    number : (m.number == next_number m.client (v.node p).broadcast) ≡ true
    number = ap (λ (ms : List Content). m.number == next_number m.client ms) same ∙ its_number

    -- the node has stored no message of this client with this number
    is_first : (b : Bool) → list_any (is_numbered m.client m.number) messages ≡ b
        → find (is_numbered m.client m.number) messages ≡ None
    is_first true e =
        let low = (kept-numbers v.size (stored v) p (stored v p) (kept p).kept).bounded
        m.client m.number e in
        let next : m.number ≡ suc (count_by (λ o. o.client == m.client) messages) =
        eqb-true m.number _ its_number in
        absurd (omega (arith, low, next))
    is_first false e = not-numbered m.client m.number messages e

    -- it broadcasts none either
    first : find (is_numbered m.client m.number) (v.node p).broadcast ≡ None
    first =
        ap (find (is_numbered m.client m.number)) same
        ∙ is_first (list_any (is_numbered m.client m.number) messages) refl

    -- the draft is of this record, certified at once or not
    drafts-next : (b : Bool)
        → cond b (drafts (v.node p) (PendCert (next_name p (v.node p)) m) None)
        (drafts (v.node p) (Pend (next_name p (v.node p)) m) None)
        ≡ drafts (v.node p) (pair_record b (next_name p (v.node p)) m) None
    drafts-next true = refl
    drafts-next false = refl

    -- the node's part of the submit is the draft
    submits-is : length m.payload ≤ MAX_PAYLOAD
        → submits v.size p m (v.node p) ≡ drafts (v.node p) next_own None
    submits-is short =
        cond-false (is_down (v.node p).state) _ _ (ap is_down ready)
        ∙ (cond-false (is_storing (v.node p).state) _ _ (ap is_storing ready)
        ∙ (cond-false (nat_lt MAX_PAYLOAD (length m.payload)) _ _
        (le-ltb MAX_PAYLOAD (length m.payload) short)
        ∙ (ap (λ (o : Option Content). submits_by_number v.size p m o (v.node p)) first
        ∙ (cond-false (not (m.number == next_number m.client (v.node p).broadcast)) _ _
        (ap not number)
        ∙ (cond-false (not (nat_lt (length (v.node p).broadcast) v.size.cap)) _ _ (ap not room)
        ∙ drafts-next (v.size.n == 1))))))

    -- a submit drafts the node's next own record if that may join
    pub submit-drafts : is_node v.size.n p ≡ true → length m.payload ≤ MAX_PAYLOAD
        → Drafts p (Submit p m) next_own v
    submit-drafts is short =
        drafts-is v p (Submit p m) next_own None (v.node p)
        (step-outcome v (Submit p m) tt
        ∙ (cond-true (is_node v.size.n p) _ _ is ∙ ap (world_after v p) (submits-is short))) refl

  -- ---- nothing is drafted

  -- a submit drafts nothing if its message isn't new
  pub submit-not-new : (IsNew v.size m (v.node p) → ⊥) → DraftsNone p (Submit p m) v
  submit-not-new old =
      step-here (λ (o : Reply × Node). o.1.state ≡ Ready) v (Submit p m) (λ r. ready)
      (submits-cases (λ (o : Reply × Node). o.1.state ≡ Ready) v.size p m (v.node p) (λ r. ready)
      (λ first again. ready) (λ new one. absurd (old new)) (λ new others. absurd (old new)))

  -- a submit drafts nothing if the node's next own record may not join
  pub submit-drafts-none : (MayJoin v.size (stored v) p (stored v p) next_own → ⊥)
      → DraftsNone p (Submit p m) v
  submit-drafts-none never =
      drafts-none v (Submit p m) kept ready next_own next_own
      (submits-cases Stays v.size p m (v.node p) (λ r. inl ready) (λ first again. inl ready)
      (λ new one. inr (inl (record {
        cause = None;
        state = ap (λ (r : Entry). Storing r None) (sym (cond-true (v.size.n == 1) _ _ one));
        stays = refl;
      })))
      (λ new others. inr (inl (record {
        cause = None;
        state = ap (λ (r : Entry). Storing r None) (sym (cond-false (v.size.n == 1) _ _ others));
        stays = refl;
      })))) never never
    where
      Stays : Reply × Node → Type 0
      Stays o = IsReadyOr next_own next_own (stored v p) o.1

-- the node after a submit
submit-after : (v : World) (p : ℕ) (m : Content) → is_node v.size.n p ≡ true
    → (step v (Submit p m)).1.node p ≡ (submits v.size p m (v.node p)).1
submit-after v p m is =
    ap (λ (o : Reply × World). o.1.node p)
    (step-outcome v (Submit p m) tt ∙ cond-true (is_node v.size.n p) _ _ is)
    ∙ updated-at v.node p (submits v.size p m (v.node p)).1

-- two worlds with the same limits and the same node do the same with a submit
pub submit-same : (u v : World) (p : ℕ) (m : Content) → u.size ≡ v.size → u.node p ≡ v.node p
    → is_node v.size.n p ≡ true → DraftsNone p (Submit p m) u → DraftsNone p (Submit p m) v
submit-same u v p m size same is none =
    ap (λ (n : Node). n.state)
    (submit-after v p m is
    ∙ (ap₂ (λ (l : Limits) (n : Node). (submits l p m n).1) (sym size) (sym same)
    ∙ sym (submit-after u p m (subst (λ (l : Limits). is_node l.n p ≡ true) (sym size) is))))
    ∙ none
