-- The outcomes of a submit. A property holds for its outcome if it holds for any refusal, for a
-- message that was accepted before, and for a new draft. A new refusal of a submit changes only
-- this file.
use Rattle.urb_node.proofs.Common.{Content, Down, Label, Limits, MAX_PAYLOAD, Node, None, Option}
use Rattle.urb_node.proofs.Common.{Pend, PendCert, Ready, Refusal, Reply, Same, Some, State}
use Rattle.urb_node.proofs.Common.{Storing, bytes_eq, drafts, false, false≢true, find}
use Rattle.urb_node.proofs.Common.{if◌then◌else◌, is_down, is_numbered, is_storing, length, name}
use Rattle.urb_node.proofs.Common.{nat_lt, next_number, not, position_or_len, refl, refuses}
use Rattle.urb_node.proofs.Common.{submits, submits_by_number, suc, sym, true, ℕ, ◌==◌, ◌≡◌, ◌≤◌}
use Rattle.std.proofs.lemmas.Bool.{cond_both, ltb-false, not-false}
use Rattle.urb_node.specs.declared.answer.Answer.TheVariants.{Accepted}
use Rattle.urb_names.specs.declared.refusal.Refusal.TheVariants as refusal

-- a node that is up and holds no draft is ready
pub is-ready : (s : State) → is_down s ≡ false → is_storing s ≡ false → s ≡ Ready
is-ready Ready up free = refl
is-ready (Storing entry cause) up free = absurd (false≢true (sym free))
is-ready (Down doubtful) up free = absurd (false≢true (sym up))

-- the message is drafted under a new name
pub record IsNew (size : Limits) (m : Content) (node : Node) : Type 0 where
  -- the node is ready
  pub ready : node.state ≡ Ready
  -- the payload is within its limit
  pub short : length m.payload ≤ MAX_PAYLOAD
  -- the message has its client's next number
  pub number : (m.number == next_number m.client node.broadcast) ≡ true
  -- the node has fewer messages of its own than the cap
  pub room : nat_lt (length node.broadcast) size.cap ≡ true

-- it was accepted before, as this message
pub record IsAgain (m first : Content) (node : Node) : Type 0 where
  -- the node is ready
  pub ready : node.state ≡ Ready
  -- the node has broadcast a message with this client and number
  pub found : find (is_numbered m.client m.number) node.broadcast ≡ Some first
  -- both messages have the same payload
  pub same : bytes_eq first.payload m.payload ≡ true

-- the name of the node's next message
abbrev pub next_name : ℕ → Node → Label
next_name p node = name p (suc (length node.broadcast))

-- the name under which a message of this client and number was accepted
abbrev pub first_name : ℕ → Content → Node → Label
first_name p m node = name p (suc (position_or_len (is_numbered m.client m.number) node.broadcast))

-- what holds for a refusal, for a message accepted before, and for a new draft holds for a submit
pub submits-cases : (P : Reply × Node → Type 0) (size : Limits) (p : ℕ) (m : Content) (node : Node)
    → ((r : Refusal) → P (refuses node r))
    → ((first : Content) → IsAgain m first node → P (Same (Accepted (first_name p m node)), node))
    → (IsNew size m node → (size.n == 1) ≡ true
    → P (drafts node (PendCert (next_name p node) m) None))
    → (IsNew size m node → (size.n == 1) ≡ false → P (drafts node (Pend (next_name p node) m) None))
    → P (submits size p m node)
submits-cases P size p m node refused again alone among =
    cond_both (is_down node.state) _ _ P (λ _. refused refusal.Down)
    (λ up. cond_both (is_storing node.state) _ _ P (λ _. refused refusal.Busy)
    (λ free. cond_both (nat_lt MAX_PAYLOAD (length m.payload)) _ _ P (λ _. refused refusal.TooLong)
    (λ fits. by_number (is-ready node.state up free) (ltb-false MAX_PAYLOAD (length m.payload) fits)
    (find (is_numbered m.client m.number) node.broadcast) refl)))
  where
    by_number : node.state ≡ Ready → length m.payload ≤ MAX_PAYLOAD → (o : Option Content)
        → find (is_numbered m.client m.number) node.broadcast ≡ o
        → P (submits_by_number size p m o node)
    by_number ready short None found =
        cond_both (not (m.number == next_number m.client node.broadcast)) _ _ P
        (λ _. refused (refusal.Gap (next_number m.client node.broadcast)))
        (λ number. cond_both (not (nat_lt (length node.broadcast) size.cap)) _ _ P
        (λ _. refused refusal.Full)
        (λ room. drafted (record {
          ready = ready;
          short = short;
          number =
              not-false (m.number == next_number m.client node.broadcast) number;
          room =
              not-false (nat_lt (length node.broadcast) size.cap) room;
        })))
      where
        drafted : IsNew size m node → P
            (if size.n == 1 then drafts node (PendCert (next_name p node) m) None else drafts node
            (Pend (next_name p node) m) None)
        drafted new = cond_both (size.n == 1) _ _ P (alone new) (among new)
    by_number ready short (Some first) found =
        cond_both (bytes_eq first.payload m.payload) _ _ P
        (λ same. again first (record { ready = ready; found = found; same = same }))
        (λ _. refused refusal.Conflict)
