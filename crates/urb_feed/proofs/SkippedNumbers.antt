-- Numbers of which a node needs nothing.
use Rattle.urb_feed.proofs.Common.{GroupView, IsRow, LacksNoneBelow, LacksNoneUpTo, Limits, Shows}
use Rattle.urb_feed.proofs.Common.{World, [], and_from, and_left, and_right, ap, arith, cases_lt}
use Rattle.urb_feed.proofs.Common.{cond-true, false, inl, inr, is_node, lacks, le-ltb, lt-leb}
use Rattle.urb_feed.proofs.Common.{lt-ltb, max, name, nat_le, nat_lt, needed, needed_from}
use Rattle.urb_feed.proofs.Common.{needed_of, offers, suc, sym, ℕ, ◌+◌, ◌-◌, ◌<◌, ◌∙◌, ◌≡◌, ◌≤◌}
use Rattle.urb_feed.proofs.Common.{◌⊎◌}
use Rattle.std.proofs.lemmas.Bool.{cases_eq, cond-false, le-leb}
use Rattle.urb_feed.proofs.NumberedLists.{later, same_of_each}
use Rattle.urb_feed.proofs.LackConditions.{skipped}

-- a name that lacks nowhere needs nothing
pub needs_nothing : (w : World) (q s j : ℕ) → lacks w q (name s j) ≡ false
    → needed w q (name s j) ≡ []
needs_nothing w q s j none = cond-false (lacks w q (name s j)) (offers w q (name s j)) [] none

-- numbers of which the node lacks nothing may be left out
pub skips : (w : World) (q after from upto : ℕ) → LacksNoneUpTo w q after from → after ≤ from
    → from ≤ upto → needed_from w q (suc from) (upto - from)
    ≡ needed_from w q (suc after) (upto - after)
skips w q after from upto none low high =
    same_of_each (needed_of w q (suc from) (upto - from))
    (needed_of w q (suc after) (upto - after)) 1 w.size.n each
  where
    there : suc after + (from - after) ≡ suc from
    there = omega arith

    each : (s : ℕ) → needed_of w q (suc from) (upto - from) s
        ≡ needed_of w q (suc after) (upto - after) s
    each s =
        sym (later (λ j. needed w q (name s j)) (suc after) (from - after) (upto - from)
        (upto - after) (omega arith)
        (λ j l h. needs_nothing w q s j (none s j l (omega arith)))
        ∙ ap (λ n. needed_of w q n (upto - from) s) there)

-- one more sender lacks nothing up to a number
pub one_more : (w : World) (q s node own delivered after upto : ℕ) → node ≡ s
    → IsRow w q node delivered own
    → (own ≤ max delivered after) ⊎ (upto ≤ max delivered after)
    → LacksNoneBelow w q s after upto → LacksNoneBelow w q (s + 1) after upto
one_more w q s node own delivered after upto is row h before t j first below low high =
    at (cases_eq t s)
  where
    at : (t ≡ s) ⊎ (t ≡ s → ⊥) → lacks w q (name t j) ≡ false
    at (inl e) =
        ap (λ n. lacks w q (name n j)) (e ∙ sym is)
        ∙ (row j (omega arith) ∙ skipped j own delivered after upto low high h)
    at (inr other) = before t j first (omega (arith, other)) low high

-- all senders together
pub all_senders : (group : GroupView) (w : World) → Shows group w → (q n number after upto : ℕ)
    → n ≡ group.size.n → n < number → LacksNoneBelow w q number after upto
    → LacksNoneUpTo w q after upto
all_senders group w shows q n number after upto count high none s j low within =
    at (cases_lt s 1) (cases_lt s number)
  where
    size : group.size.n ≡ w.size.n
    size = ap (λ (l : Limits). l.n) shows.size

    not_of : is_node w.size.n s ≡ false → lacks w q (name s j) ≡ false
    not_of none_there =
        and_right (is_node w.size.n q) _ (and_left (is_node w.size.n s) _ none_there)

    at : (s < 1) ⊎ (1 ≤ s) → (s < number) ⊎ (number ≤ s) → lacks w q (name s j) ≡ false
    at (inl zero_is) other =
        not_of (and_left (nat_lt 0 s) (nat_lt s (suc w.size.n)) (le-ltb 0 s (omega arith)))
    at (inr first) (inl below) = none s j first below low within
    at (inr first) (inr above) =
        not_of (and_right (nat_lt 0 s) (nat_lt s (suc w.size.n))
        (le-ltb s (suc w.size.n) (omega (arith, size, count))))

-- what a row says of one name
pub needs_all : (w : World) (q s own delivered j : ℕ) → IsRow w q s delivered own → 1 ≤ j
    → delivered < j → j ≤ own → needed w q (name s j) ≡ offers w q (name s j)
needs_all w q s own delivered j row low above within =
    cond-true (lacks w q (name s j)) (offers w q (name s j)) []
    (row j low ∙ and_from (nat_le j own) (nat_lt delivered j) (le-leb j own within)
    (lt-ltb delivered j above))

-- a node needs nothing for a name that it has delivered, or that its sender has not broadcast
pub needs_none : (w : World) (q s own delivered j : ℕ) → IsRow w q s delivered own → 1 ≤ j
    → (j ≤ delivered) ⊎ (own < j) → needed w q (name s j) ≡ []
needs_none w q s own delivered j row low (inl within) =
    needs_nothing w q s j (row j low
    ∙ and_right (nat_le j own) (nat_lt delivered j) (le-ltb delivered j within))
needs_none w q s own delivered j row low (inr above) =
    needs_nothing w q s j (row j low
    ∙ and_left (nat_le j own) (nat_lt delivered j) (lt-leb j own above))
