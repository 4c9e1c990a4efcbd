-- The portions of a feed: how many packets they have, and what they are.
use Rattle.urb_feed.proofs.Common.{Bool, GroupView, IsPortion, Label, LacksNoneUpTo, List, None}
use Rattle.urb_feed.proofs.Common.{Option, Shows, Some, World, [], ap, arith, cases_lt, cond, false}
use Rattle.urb_feed.proofs.Common.{inl, inr, lacks, length, name, needed, needed_from, needed_of}
use Rattle.urb_feed.proofs.Common.{offer, offers, refl, stored, suc, true, ℕ, ◌-◌, ◌<◌, ◌==◌, ◌∙◌}
use Rattle.urb_feed.proofs.Common.{◌≡◌, ◌≤◌, ◌⊎◌}
use Rattle.urb_feed.proofs.NumberedLists.{bounded}
use Rattle.urb_feed.proofs.SkippedNumbers.{skips}
use Rattle.urb_feed.specs.MissingNames.{carrying}
use Rattle.urb_feed.specs.declared.feed.TheConstants.{MOST_PACKETS, PORTION}
use Rattle.urb_feed.specs.internal.SenderRows.{HasWorld}
use Rattle.urb_names.specs.CarriedPackets.{Carried}
use Rattle.urb_names.specs.LabelsAndContents.{Content}
use Rattle.urb_names.specs.Pairs.{message_of}
use Rattle.urb_names.specs.declared.limits.TheConstants.{MAX_NODES}
use Rattle.urb_stable.specs.Records.{pend}

-- a node offers a name in one packet at most
one_offer : (w : World) (q : ℕ) (x : Label) (p : ℕ) → length (offer w q x p) ≤ 1
one_offer w q x p = at (p == q) (message_of (pend (stored w p)) x)
  where
    at : (b : Bool) (o : Option Content) → length (cond b [] (carrying p q x o)) ≤ 1
    at true o = omega arith
    at false None = omega arith
    at false (Some m) = omega arith

few_needed : (w : World) (q : ℕ) (x : Label) → w.size.n ≤ MAX_NODES → length (needed w q x) ≤ 7
few_needed w q x few = at (lacks w q x)
  where
    at : (b : Bool) → length (cond b (offers w q x) []) ≤ 7
    at true = omega (arith, bounded (offer w q x) 1 1 w.size.n (one_offer w q x))
    at false = omega arith

few_packets : (w : World) (q first count : ℕ) → w.size.n ≤ MAX_NODES → count ≤ PORTION
    → length (needed_from w q first count) ≤ MOST_PACKETS
few_packets w q first count few short =
    omega (arith, bounded (needed_of w q first count) 224 1 w.size.n each)
  where
    each : (s : ℕ) → length (needed_of w q first count s) ≤ 224
    each s =
        omega (
          arith,
          bounded (λ j. needed w q (name s j)) 7 first count
              (λ j. few_needed w q (name s j) few),
        )

-- a portion that goes past where it begins goes past the feed's position
goes_on : (after end from upto : ℕ) → after ≤ from → from ≤ upto → (from < end → from < upto)
    → after < end → after < upto
goes_on after end from upto low high moves left = at (cases_lt from end)
  where
    at : (from < end) ⊎ (end ≤ from) → after < upto
    at (inl more) = omega (arith, low, moves more)
    at (inr all) = omega (arith, left, all, high)

-- what is made of the numbers that are left is a portion
pub is_portion : (group : GroupView) (q after end from upto : ℕ) (packets : List Carried)
    → HasWorld group
    → ((w : World) → Shows group w → packets ≡ needed_from w q (suc from) (upto - from))
    → ((w : World) → Shows group w → LacksNoneUpTo w q after from) → after ≤ from → from ≤ upto
    → upto ≤ end → (from < end → from < upto) → upto - from ≤ PORTION
    → IsPortion group (record { target = q; after = after; end = end })
    (record { target = q; after = upto; end = end }) packets
is_portion group q after end from upto packets has made none low high last moves short = record {
  needed = λ w shows. made w shows ∙ skips w q after from upto (none w shows) low high;
  same = (refl, refl);
  within = (omega arith, omega arith);
  onward = goes_on after end from upto low high moves;
  few =
      omega (
        arith,
        ap length (made has.world has.shows),
        few_packets has.world q (suc from) (upto - from) has.few short,
      );
}
