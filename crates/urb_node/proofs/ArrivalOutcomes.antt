-- The outcome of a packet in a memory is the definition's for every node that the memory shows.
use Rattle.urb_node.proofs.Common.{Answers, Bool, Cause, Cert, Content, Flags, Label, List, Memory}
use Rattle.urb_node.proofs.Common.{Node, None, Option, Outcome, Pend, PendCert, Same, ShowsReady}
use Rattle.urb_node.proofs.Common.{Some, Wants, [], acked, answer_with, answers, any_insert, ap}
use Rattle.urb_node.proofs.Common.{arith, arrive_outcome, arrives, cert, certified_outcome}
use Rattle.urb_node.proofs.Common.{count_by, counted_outcome, counted_with, counts, drafts, false}
use Rattle.urb_node.proofs.Common.{has_name, hearing, hears, if◌then◌else◌, is_majority, is_none}
use Rattle.urb_node.proofs.Common.{majority_passes, message_of, ne_eqb, not, packet_from}
use Rattle.urb_node.proofs.Common.{pending_outcome, placed, ready_view, refl, reply_to, same_name}
use Rattle.urb_node.proofs.Common.{says_certified, subst, suc, sym, takes, true, with_ack}
use Rattle.urb_node.proofs.Common.{with_counted, zero, ℕ, ◌&&◌, ◌==◌, ◌||◌, ◌∙◌, ◌∷◌, ◌≡◌, ◌≢◌, ◌≤◌}
use Rattle.urb_names.specs.Nodes.{nodes, numbers_from}
use Rattle.urb_majority.specs.Acks.{ack_lt}
use Rattle.urb_window.proofs.NodeCounts.{count_alike, count_one_more}
use Rattle.urb_node.proofs.ShownNodes.{shown-found, shown-majority}
use Rattle.urb_node.proofs.MemoryChanges.{counted-shows, heard-shows}
use Rattle.urb_node.proofs.SubmitOutcomes.{drafts-says}
use Rattle.urb_node.proofs.OutcomeAgreement.{Says}
use Rattle.urb_names.proofs.TruthValues.{eqb-turned}
use Rattle.urb_node.specs.declared.answer.Answer.TheVariants as answer

-- ---- two nodes

none_pass : (first count : ℕ) → count_by (λ (q : ℕ). false) (numbers_from first count) ≡ 0
none_pass first zero = refl
none_pass first (suc count) = none_pass (suc first) count

either : (a b c d : Bool) → a ≡ c → b ≡ d → (a || b) ≡ (c || (d || false))
either true b true d e f = refl
either true b false d e f = cc
either false b true d e f = cc
either false true false true e f = refl
either false true false false e f = f
either false false false true e f = f
either false false false false e f = refl

-- two nodes of n are a majority exactly if 2 of n are
pub two-majority : (n p q : ℕ) → p ≢ q → 1 ≤ p → p ≤ n → 1 ≤ q → q ≤ n
    → majority_passes n (λ z. (z == p) || (z == q)) ≡ is_majority 2 n
two-majority n p q apart pl pu ql qu = ap (λ (count : ℕ). is_majority count n) two
  where
    two : count_by (λ z. (z == p) || (z == q)) (nodes n) ≡ 2
    two =
        count_alike (λ z. (z == p) || (z == q)) (λ z. (p == z) || ((q == z) || false)) 1 n
        (λ z l u. either (z == p) (z == q) (p == z) (q == z) (eqb-turned z p) (eqb-turned z q))
        ∙ (count_one_more (λ z. (q == z) || false) 1 n p pl (omega arith)
        (ap (λ b. b || false) (ne_eqb q p (λ e. apart (sym e))))
        ∙ ap suc (count_one_more (λ z. false) 1 n q ql (omega arith) refl ∙ ap suc (none_pass 1 n)))

-- ---- one more acknowledgement

-- an acknowledgement counts, whether it is at its place in the order or at the front
pub counted-with : (acks : List (Label × ℕ)) (x : Label) (q : ℕ) (y : Label) (z : ℕ)
    → acked (counted_with acks x q) y z ≡ acked (with_ack acks x q) y z
counted-with acks x q y z = at (acked acks x q)
  where
    at : (c : Bool) → acked (if c then acks else placed ack_lt acks (x, q)) y z ≡ acked
        (if c then acks else (x, q) ∷ acks) y z
    at true = refl
    at false = any_insert (λ ack. same_name ack.0 y && (ack.1 == z)) acks _ (x, q)

-- the memory that counts it shows the node that counts it
pub counted-says : (a : Memory) (node : Node) (x : Label) (q : ℕ) → ShowsReady a node
    → ShowsReady (with_counted a x q) (record node { acks = with_ack node.acks x q })
counted-says a node x q s =
    counted-shows a.limits a.node (ready_view a) (counted_with a.acks x q) node x q s
    (λ y z l. counted-with a.acks x q y z)

-- the memory after hearing what a packet reports shows the node that heard it
pub hears-says : (a : Memory) (node : Node) (q : ℕ) (x : Label) (flags : Option Flags)
    → ShowsReady a node → ShowsReady (hearing a q x flags) (hears q x flags node)
hears-says a node q x flags s = at (says_certified flags)
  where
    at : (b : Bool) → ShowsReady (record a
        { heard = if b then counted_with a.heard x q else a.heard })
        (if b then record node { heard = with_ack node.heard x q } else node)
    at true =
        heard-shows a.limits a.node (ready_view a) (counted_with a.heard x q) node x q s
        (counted-with a.heard x q)
    at false = s

-- the outcome of a packet whose name is not certified, after hearing what the packet reports
abbrev pub counted_then : Memory → ℕ → Label → Option Flags → Outcome
counted_then a q x flags =
    if majority_passes a.limits.n (acked (with_ack a.acks x q) x) then Wants (Cert x)
    (Some (packet_from q (says_certified flags))) (with_counted a x q)
    else if acked a.acks x q then Answers (answer.Again x) a
    else Answers (answer.Noted x) (with_counted a x q)

counts-says : (a : Memory) (q : ℕ) (x : Label) (flags : Option Flags) (node : Node)
    → ShowsReady a node → has_name a.certified x ≡ false
    → Says (counts a.limits q x flags node) (counted_then a q x flags)
counts-says a q x flags node s c =
    subst (λ (b : Bool). Says (
    if b then drafts after (Cert x) (Some cause)
    else (if acked node.acks x q then (Same (answer.Again x), after) else
    (Same (answer.Noted x), after))
    ) (counted_then a q x flags)) (shown-majority a.limits a.node (ready_view
    a) node s x q c) (reached (majority_passes a.limits.n (acked (with_ack a.acks x q) x)))
  where
    cause : Cause
    cause = packet_from q (says_certified flags)

    after : Node
    after = record node { acks = with_ack node.acks x q }

    shows : ShowsReady (with_counted a x q) after
    shows = counted-says a node x q s

    before : acked a.acks x q ≡ acked node.acks x q
    before = s.acks x q (sym (s.certified x) ∙ c)

    again : (b : Bool) → acked a.acks x q ≡ b
        → Says (if b then (Same (answer.Again x), after) else (Same (answer.Noted x), after))
        (if b then Answers (answer.Again x) a else Answers (answer.Noted x) (with_counted a x q))
    again true e = (
      refl,
      subst (λ (b : Bool). ShowsReady
          (record a { acks = if b then a.acks else placed ack_lt a.acks (x, q) }) after) e shows,
    )
    again false e = (refl, shows)

    reached : (b : Bool) → Says (if b then drafts after (Cert x) (Some cause) else
        (if acked node.acks x q then (Same (answer.Again x), after) else
        (Same (answer.Noted x), after)))
        (if b then Wants (Cert x) (Some cause) (with_counted a x q) else
        (if acked a.acks x q then Answers (answer.Again x) a else Answers (answer.Noted x)
        (with_counted a x q)))
    reached true = drafts-says (with_counted a x q) after (Cert x) (Some cause) shows
    reached false =
        subst (λ (b : Bool). Says (if b then (Same (answer.Again x), after) else
        (Same (answer.Noted x), after))
        (if acked a.acks x q then Answers (answer.Again x) a else Answers (answer.Noted x)
        (with_counted a x q))) before
        (again (acked a.acks x q) refl)

-- the outcome of a packet whose name is certified
answers-says : (a : Memory) (q : ℕ) (x : Label) (m : Content) (flags : Option Flags) (node : Node)
    → ShowsReady a node → Says (answers a.node q x m flags node) (certified_outcome a q x m flags)
answers-says a q x m None node s = (refl, s)
answers-says a q x m (Some flags) node s = at flags.heard
  where
    at : (b : Bool) → Says (if b then (Same (answer.Again x), node) else
        (Same (answer.Answered x (reply_to a.node q x m node ∷ [])), node))
        (if not b then Answers (answer.Answered x
        (answer_with a.node q x m (acked a.heard x q) ∷ [])) a else Answers (answer.Again x) a)
    at true = (refl, s)
    at false = (
      ap (λ heard. Same (answer.Answered x (answer_with a.node q x m heard ∷ [])))
          (sym (s.heard x q)),
      s,
    )

-- For every node that the memory shows, the outcome is what the definition says about an arrival
-- from another node.
pub arrive-says : (a : Memory) (q : ℕ) (x : Label) (m : Content) (flags : Option Flags)
    (node : Node) → ShowsReady a node → a.node ≢ q → 1 ≤ a.node → a.node ≤ a.limits.n → 1 ≤ q
    → q ≤ a.limits.n
    → Says (arrives a.limits a.node q x m flags node) (arrive_outcome a q x m flags)
arrive-says a q x m flags node s apart pl pu ql qu =
    subst (λ (o : Option Content). Says (
    if is_none o then takes a.limits a.node q x m flags node
    else (if not (has_name (cert node.records) x)
    then counts a.limits q x flags told else answers a.node q x m flags told)
    ) (arrive_outcome a q x m flags)) (shown-found a.limits a.node (ready_view
    a) node s x) (found (message_of a.pairs x))
  where
    cause : Option Cause
    cause = Some (packet_from q (says_certified flags))

    told : Node
    told = hears q x flags node

    heard : Memory
    heard = hearing a q x flags

    shows : ShowsReady heard told
    shows = hears-says a node q x flags s

    taken : (b : Bool) → Says (if b then drafts node (PendCert x m) cause else drafts node
        (Pend x m) cause) (Wants (if b then PendCert x m else Pend x m) cause a)
    taken true = drafts-says a node (PendCert x m) cause s
    taken false = drafts-says a node (Pend x m) cause s

    certified : (b : Bool) → has_name a.certified x ≡ b
        → Says (if not b then counts a.limits q x flags told else answers a.node q x m flags told)
        (if b then certified_outcome heard q x m flags else counted_outcome a q x flags)
    certified true e = answers-says heard q x m flags told shows
    certified false e = counts-says heard q x flags told shows e

    found : (o : Option Content) → Says (
        if is_none o then takes a.limits a.node q x m flags node
        else (if not (has_name (cert node.records) x)
        then counts a.limits q x flags told else answers a.node q x m flags told)
        ) (pending_outcome a q x m flags o)
    found None =
        subst (λ (b : Bool). Says (if b then drafts node (PendCert x m) cause else drafts node
        (Pend x m) cause) (Wants (if is_majority 2 a.limits.n then PendCert x m else Pend x m)
        cause a)) (sym (two-majority a.limits.n a.node q apart pl pu ql qu))
        (taken (is_majority 2 a.limits.n))
    found (Some first) =
        subst (λ (b : Bool). Says (if not b then counts a.limits q x flags told else answers a.node
        q x m flags told) (if has_name a.certified x then certified_outcome heard q x m flags
        else counted_outcome a q x flags)) (s.certified x)
        (certified (has_name a.certified x) refl)
