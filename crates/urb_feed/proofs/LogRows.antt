-- Which names of a sender a node lacks, by what a group says of the node's log and of the sender.
use Rattle.urb_feed.proofs.Common.{Bool, GroupView, IsRow, Label, Limits, List, None, Option, Shows}
use Rattle.urb_feed.proofs.Common.{Some, World, and_from, ap, arith, cond, cond-true}
use Rattle.urb_feed.proofs.Common.{false, has_name, is_node, length, lt-ltb, name, names, nat_le}
use Rattle.urb_feed.proofs.Common.{nat_lt, not, part_of, refl, stored, subst, suc, sym, true}
use Rattle.urb_feed.proofs.Common.{unwrap_or, ℕ, ◌&&◌, ◌∙◌, ◌≡◌, ◌≤◌}
use Rattle.std.proofs.lemmas.Option.{cond_some}
use Rattle.urb_feed.proofs.Deliveries.{has_by_number}
use Rattle.urb_feed.proofs.LackConditions.{sent}
use Rattle.urb_group.specs.GroupCalls.{TellsLog}
use Rattle.urb_world.specs.SafetyProperties.{Safe}
use Rattle.urb_group.specs.GroupViews.{IsSound}
use Rattle.urb_stable.specs.DeliveredLogs.{log}

-- how many messages a node has broadcast; 0 if the group has no such node
abbrev pub own_of : World → ℕ → ℕ
own_of w s = cond (is_node w.size.n s) (length (w.node s).broadcast) 0

-- a row by the node's log, which has the sender's names in order
pub row_by_log : (w : World) (q s own : ℕ) (xs : List Label) → own ≡ own_of w s
    → is_node w.size.n q ≡ true → xs ≡ log (stored w q)
    → part_of s xs ≡ names s (length (part_of s xs)) → IsRow w q s (length (part_of s xs)) own
row_by_log w q s own xs counted here same order j low =
    sent (is_node w.size.n q) (is_node w.size.n s) (nat_lt 0 j)
    (not (has_name (log (stored w q)) (name s j))) j (length (w.node s).broadcast) here
    (lt-ltb 0 j low) low
    ∙ (ap (λ n. nat_le j n && not (has_name (log (stored w q)) (name s j))) (sym counted)
    ∙ (ap (λ ys. nat_le j own && not (has_name ys (name s j))) (sym same)
    ∙ ap (λ b. nat_le j own && b) (has_by_number s j xs order low)))

-- what a group says of a sender's own messages, as a number
pub own_is : (w : World) (s own : ℕ) (told : Option ℕ)
    → told ≡ cond (is_node w.size.n s) (Some (length (w.node s).broadcast)) None
    → own ≡ unwrap_or told 0 → own ≡ own_of w s
own_is w s own told e f =
    f ∙ (ap (λ (o : Option ℕ). unwrap_or o 0) e
    ∙ at (is_node w.size.n s) (length (w.node s).broadcast))
  where
    at : (b : Bool) (n : ℕ) → unwrap_or (cond b (Some n) None) 0 ≡ cond b n 0
    at true n = refl
    at false n = refl

-- a row by a count of the log's names
pub row_by_count : (w : World) (q s own delivered : ℕ) (xs : List Label) → own ≡ own_of w s
    → is_node w.size.n q ≡ true → xs ≡ log (stored w q)
    → part_of s xs ≡ names s (length (part_of s xs)) → delivered ≡ length (part_of s xs)
    → IsRow w q s delivered own
row_by_count w q s own delivered xs counted here same order count j low =
    row_by_log w q s own xs counted here same order j low
    ∙ ap (λ n. nat_le j own && nat_lt n j) (sym count)

-- what a group says of a log: the node is one of the group, and this is its log
pub told_log : (group : GroupView) (q : ℕ) (xs : List Label) → TellsLog group q (Some xs)
    → (w : World) → Shows group w → (is_node w.size.n q ≡ true) × (log (stored w q) ≡ xs)
told_log group q xs told w shows =
    cond_some (is_node w.size.n q) (log (stored w q)) xs (sym (told w shows))

-- a log that a group tells has each sender's names in order
pub told_in_order : (group : GroupView) → IsSound group → ((w : World) → Shows group w → Safe w)
    → (q s : ℕ) (xs : List Label) → TellsLog group q (Some xs)
    → part_of s xs ≡ names s (length (part_of s xs))
told_in_order group sound safe q s xs told =
    subst (λ (ys : List Label). part_of s ys ≡ names s (length (part_of s ys)))
    (told_log group q xs told sound.world sound.shows).1
    ((safe sound.world sound.shows).in_order q s).numbers

-- a number from one up to a group's count of nodes is a node of each world that the group shows
pub is_node_of : (group : GroupView) (w : World) → Shows group w → (n p : ℕ) → n ≡ group.size.n
    → 1 ≤ p → p ≤ n → is_node w.size.n p ≡ true
is_node_of group w shows n p count low high =
    let size = ap (λ (l : Limits). l.n) shows.size in
    and_from (nat_lt 0 p) (nat_lt p (suc w.size.n)) (lt-ltb 0 p low)
    (lt-ltb p (suc w.size.n) (omega (arith, size, count)))

-- a node of the group has broadcast as many messages as the group says
pub own_at_node : (w : World) (s own : ℕ) → own ≡ own_of w s → is_node w.size.n s ≡ true
    → own ≡ length (w.node s).broadcast
own_at_node w s own counted here =
    counted ∙ cond-true (is_node w.size.n s) (length (w.node s).broadcast) 0 here
