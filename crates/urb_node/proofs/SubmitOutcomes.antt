-- The outcome of a submit in a memory is the definition's for every node that the memory shows.
use Rattle.urb_node.proofs.Common.{Answers, Bool, Cause, Content, Drafted, Entry, Label, List}
use Rattle.urb_node.proofs.Common.{MAX_PAYLOAD, Memory, Node, None, Option, Pend, PendCert, Refuses}
use Rattle.urb_node.proofs.Common.{Same, ShowsReady, Some, State, Storing, Wants, [], ap}
use Rattle.urb_node.proofs.Common.{are_rising, arith, bytes_eq, cond, drafts, false, find}
use Rattle.urb_node.proofs.Common.{if◌then◌else◌, is_down, is_majority, is_numbered, is_storing}
use Rattle.urb_node.proofs.Common.{le-ltb, length, message_of, name, name_given, name_of, nat_lt}
use Rattle.urb_node.proofs.Common.{ne_eqb, next_number, not, numbered_outcome, option_map, own_of}
use Rattle.urb_node.proofs.Common.{position_or_len, prefix_len, ready_view, refl, refuses}
use Rattle.urb_node.proofs.Common.{slice_get, submit_outcome, submits, submits_by_number, subst}
use Rattle.urb_node.proofs.Common.{suc, sym, true, view_in, zero, ℕ, ◌*◌, ◌+◌, ◌==◌, ◌∙◌, ◌∷◌, ◌≡◌}
use Rattle.urb_node.proofs.Common.{◌≤◌}
use Rattle.urb_stable.proofs.OwnRules.{own-numbered}
use Rattle.urb_node.specs.Steps.{submits_again, submits_new}
use Rattle.urb_node.specs.internal.Outcomes.{fresh_outcome, own_record, repeat_outcome}
use Rattle.urb_node.proofs.ShownNodes.{shown-broadcast, shown-found}
use Rattle.urb_node.proofs.MemoryChanges.{draft-shows}
use Rattle.urb_node.proofs.OutcomeAgreement.{Says}
use Rattle.urb_names.specs.declared.refusal.Refusal.TheVariants as refusal
use Rattle.urb_node.specs.declared.answer.Answer.TheVariants as answer

-- what `find` finds is at its place
pub find-place : {X : Type 0} (test : X → Bool) (xs : List X) (x : X) → find test xs ≡ Some x
    → slice_get xs (position_or_len test xs) ≡ Some x
find-place test [] x e = cc
find-place test (y ∷ xs) x e = at (find-place test xs x) (test y) e
  where
    at : (find test xs ≡ Some x → slice_get xs (position_or_len test xs) ≡ Some x) → (b : Bool)
        → cond b (Some y) (find test xs) ≡ Some x
        → slice_get (y ∷ xs) (cond (not b) (1 + prefix_len (λ z. not (test z)) xs) 0) ≡ Some x
    at ih true h = h
    at ih false h =
        let one : 1 + prefix_len (λ z. not (test z)) xs ≡ suc (prefix_len (λ z. not (test z)) xs) =
        omega arith in ap (slice_get (y ∷ xs)) one ∙ ih h

-- one of n nodes is a majority exactly if it is the only one
pub alone : (n : ℕ) → 1 ≤ n → (n == 1) ≡ is_majority 1 n
alone zero h = absurd (omega arith)
alone (suc zero) h = refl
alone (suc (suc n)) h =
    ne_eqb (suc (suc n)) 1 (λ e. (let f = e in omega arith))
    ∙ sym (le-ltb (suc (suc n)) (2 * 1) (omega arith))

-- ---- the outcomes

-- a draft of the record
pub drafts-says : (a : Memory) (node : Node) (entry : Entry) (cause : Option Cause)
    → ShowsReady a node → Says (drafts node entry cause) (Wants entry cause a)
drafts-says a node entry cause s = (
  ap (λ k. Drafted (name_of entry) (suc k)) (sym s.count),
  draft-shows a.limits a.node (ready_view a)
      (view_in (Storing entry cause) a) node entry cause s refl,
)

fresh-says : (a : Memory) (m : Content) (node : Node) → ShowsReady a node → 1 ≤ a.limits.n
    → node.broadcast ≡ own_of a → Says (submits_new a.limits a.node m node) (fresh_outcome a m)
fresh-says a m node s some b =
    subst (λ (messages : List Content). Says (
    if not (m.number == next_number m.client messages) then refuses node
    (refusal.Gap (next_number m.client messages))
    else (if not (nat_lt (length messages) a.limits.cap) then refuses node refusal.Full
    else (if a.limits.n == 1 then drafts node
    (PendCert (name a.node (suc (length messages))) m) None else drafts node
    (Pend (name a.node (suc (length messages))) m) None))
    ) (fresh_outcome a m)) (sym b) (gap (not (m.number == next_number m.client (own_of a))))
  where
    x : Label
    x = name a.node (suc (length (own_of a)))

    record_of : (c : Bool) → Says
        (if c then drafts node (PendCert x m) None else drafts node (Pend x m) None)
        (Wants (if c then PendCert x m else Pend x m) None a)
    record_of true = drafts-says a node (PendCert x m) None s
    record_of false = drafts-says a node (Pend x m) None s

    drafted : Says (if a.limits.n == 1 then drafts node (PendCert x m) None else drafts node
        (Pend x m) None) (Wants (own_record a m) None a)
    drafted =
        subst (λ (c : Bool). Says (if c then drafts node (PendCert x m) None else drafts node
        (Pend x m) None) (Wants (own_record a m) None a)) (sym (alone a.limits.n some))
        (record_of (is_majority 1 a.limits.n))

    full : (c : Bool) → Says (if c then refuses node refusal.Full else
        (if a.limits.n == 1 then drafts node (PendCert x m) None else drafts node (Pend x m) None))
        (if c then Refuses refusal.Full else Wants (own_record a m) None a)
    full true = refl
    full false = drafted

    gap : (c : Bool) → Says (
        if c then refuses node (refusal.Gap (next_number m.client (own_of a)))
        else (if not (nat_lt (length (own_of a)) a.limits.cap) then refuses node refusal.Full
        else (if a.limits.n == 1 then drafts node (PendCert x m) None else drafts node
        (Pend x m) None))
        ) (if c then Refuses (refusal.Gap (next_number m.client (own_of a))) else
        (if not (nat_lt (length (own_of a)) a.limits.cap) then Refuses refusal.Full else Wants
        (own_record a m) None a))
    gap true = refl
    gap false = full (not (nat_lt (length (own_of a)) a.limits.cap))

-- the message that a memory finds under one of the node's own names
own-found : (a : Memory) (node : Node) → ShowsReady a node → are_rising a.pairs ≡ true → (j : ℕ)
    → message_of a.pairs (name a.node (suc j)) ≡ slice_get (own_of a) j
own-found a node s rise j =
    shown-found a.limits a.node (ready_view a) node s (name a.node (suc j))
    ∙ (own-numbered a.limits a.node node.records s.rules j
    ∙ ap (λ messages. slice_get messages j)
    (sym s.broadcast ∙ shown-broadcast a.limits a.node (ready_view a) node s rise))

again-says : (a : Memory) (m first : Content) (node : Node) → ShowsReady a node
    → node.broadcast ≡ own_of a → message_of a.pairs
    (name a.node (suc (position_or_len (is_numbered m.client m.number) (own_of a)))) ≡ Some first
    → Says (submits_again a.node m first node)
    (repeat_outcome a m (name a.node
    (suc (position_or_len (is_numbered m.client m.number) (own_of a)))) (Some first))
again-says a m first node s b e = at (bytes_eq first.payload m.payload)
  where
    at : (c : Bool) → Says (if c then (
      Same (answer.Accepted (name a.node
          (suc (position_or_len (is_numbered m.client m.number) node.broadcast)))),
      node,
    )
        else refuses node refusal.Conflict)
        (if c then Answers (answer.Accepted
        (name a.node (suc (position_or_len (is_numbered m.client m.number) (own_of a)))))
        a else Refuses refusal.Conflict)
    at true = (
      ap (λ messages. Same (answer.Accepted
          (name a.node (suc (position_or_len (is_numbered m.client m.number) messages))))) b,
      s,
    )
    at false = refl

-- For every node that the memory shows, the outcome is what the definition says about a submit.
pub submit-says : (a : Memory) (m : Content) (node : Node) → ShowsReady a node
    → are_rising a.pairs ≡ true → 1 ≤ a.limits.n
    → Says (submits a.limits a.node m node) (submit_outcome a m)
submit-says a m node s rise some =
    subst (λ (state : State). Says (
    if is_down state then refuses node refusal.Down
    else (if is_storing state then refuses node refusal.Busy
    else (if nat_lt MAX_PAYLOAD (length m.payload) then refuses node refusal.TooLong
    else submits_by_number a.limits a.node m
    (find (is_numbered m.client m.number) node.broadcast) node))
    ) (submit_outcome a m)) s.state (long (nat_lt MAX_PAYLOAD (length m.payload)))
  where
    b : node.broadcast ≡ own_of a
    b = shown-broadcast a.limits a.node (ready_view a) node s rise

    numbered : (o : Option Content) → find (is_numbered m.client m.number) (own_of a) ≡ o
        → Says (submits_by_number a.limits a.node m o node)
        (numbered_outcome a m (option_map
        (λ (first : Content). name a.node
        (suc (position_or_len (is_numbered m.client m.number) (own_of a)))) o))
    numbered None e = fresh-says a m node s some b
    numbered (Some first) e =
        let found =
        own-found a node s rise (position_or_len (is_numbered m.client m.number) (own_of a))
        ∙ find-place (is_numbered m.client m.number) (own_of a) first e in
        subst (λ (o : Option Content).
        Says (submits_again a.node m first node)
        (repeat_outcome a m (name a.node
        (suc (position_or_len (is_numbered m.client m.number) (own_of a)))) o)) (sym found)
        (again-says a m first node s b found)

    by_number : Says (submits_by_number a.limits a.node m
        (find (is_numbered m.client m.number) node.broadcast) node)
        (numbered_outcome a m (name_given a.node m.client m.number (own_of a)))
    by_number =
        subst (λ (messages : List Content).
        Says (submits_by_number a.limits a.node m
        (find (is_numbered m.client m.number) messages) node)
        (numbered_outcome a m (name_given a.node m.client m.number (own_of a)))) (sym b)
        (numbered (find (is_numbered m.client m.number) (own_of a)) refl)

    long : (c : Bool) → Says (if c then refuses node refusal.TooLong else submits_by_number a.limits
        a.node m (find (is_numbered m.client m.number) node.broadcast) node)
        (if c then Refuses refusal.TooLong else numbered_outcome a m
        (name_given a.node m.client m.number (own_of a)))
    long true = refl
    long false = by_number
