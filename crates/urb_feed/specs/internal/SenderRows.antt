-- Which names of one sender a node lacks, by two numbers.
use Rattle.std.specs.Prelude.{false, nat_le, nat_lt, suc, ℕ, ◌&&◌, ◌<◌, ◌≡◌, ◌≤◌}
use Rattle.urb_feed.specs.MissingNames.{lacks}
use Rattle.urb_group.specs.GroupViews.{GroupView, Shows}
use Rattle.urb_world.specs.World.{World}
use Rattle.urb_names.specs.Names.{name}
use Rattle.urb_names.specs.declared.limits.TheConstants.{MAX_NODES}

-- node q lacks the sender's names with numbers up to `own` and above `delivered`, and no others
abbrev pub IsRow : World → ℕ → ℕ → ℕ → ℕ → Type 0
IsRow w q sender delivered own =
    (j : ℕ) → 1 ≤ j → lacks w q (name sender j) ≡ (nat_le j own && nat_lt delivered j)

-- of the senders below this number, node q lacks no name with a number above `after`, up to `upto`
abbrev pub LacksNoneBelow : World → ℕ → ℕ → ℕ → ℕ → Type 0
LacksNoneBelow w q senders after upto =
    (s j : ℕ) → 1 ≤ s → s < senders → suc after ≤ j → j ≤ upto → lacks w q (name s j) ≡ false

-- node q lacks no name with a number above `after`, up to `upto`
abbrev pub LacksNoneUpTo : World → ℕ → ℕ → ℕ → Type 0
LacksNoneUpTo w q after upto =
    (s j : ℕ) → suc after ≤ j → j ≤ upto → lacks w q (name s j) ≡ false

-- the group shows a world, with at most MAX_NODES nodes
pub record HasWorld (group : GroupView) : Type 0 where
  pub world : World
  pub shows : Shows group world
  pub few : world.size.n ≤ MAX_NODES
