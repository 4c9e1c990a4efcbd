-- What a reader knows, and what a read does to it.
use Rattle.std.specs.Prelude.{List, ◌≡◌, ◌⊎◌}
use Rattle.urb_group.specs.GroupViews.{GroupView}
use Rattle.urb_world.specs.Step.{Event}
use Rattle.urb_show.specs.DeliveredLists.{AreDeliveredBy}
use Rattle.urb_show.specs.Lists.{Agree, AgreeAcross, Begins, Lists, OneBeginsAll}
use mathlib.Core.List.{IsPrefix}

-- The lists that the reader took last, and the longest lists that it learnt. Then all events until
-- the latest moment that it knows: that of the lists that it took, or one that it learnt.
pub record ReaderView : Type 0 where
  pub seen : Lists
  pub told : Lists
  pub past : List Event

-- what a token names: lists that were published, and all events until then
pub record ToldView : Type 0 where
  pub lists : Lists
  pub past : List Event

-- The lists of one moment were taken, in a house that opened with this group. They agree, and begin
-- with all that was seen and all that was learnt. They are prefixes of what the nodes had delivered
-- at a place of the history, behind all that was seen or learnt.
pub record Takes (opened : GroupView) (before after : ReaderView) : Type 0 where
  pub agree : Agree after.seen
  pub seen : Begins before.seen after.seen
  pub told : Begins before.told after.seen
  pub kept : after.told ≡ before.told
  pub past : IsPrefix before.past after.past
  pub delivered : AreDeliveredBy opened after.past after.seen

-- The reader now knows the later one of two moments: the one that it knew, and this one. Both are
-- prefixes of it.
pub record LearnsPast (moment : List Event) (before after : List Event) : Type 0 where
  pub one : (after ≡ before) ⊎ (after ≡ moment)
  pub earlier : IsPrefix before after
  pub told : IsPrefix moment after

-- A reader that learns this token has then learnt the longer of two: what it had learnt before, and
-- the token. Both are prefixes of it. It also knows the token's moment.
pub record Learns (token : ToldView) (before after : ReaderView) : Type 0 where
  pub one : (after.told ≡ before.told) ⊎ (after.told ≡ token.lists)
  pub earlier : Begins before.told after.told
  pub told : Begins token.lists after.told
  pub seen : after.seen ≡ before.seen
  pub past : LearnsPast token.past before.past after.past

-- What two readers saw, at any moments, belongs to one history. The lists that each saw agree, and
-- what one saw is, node by node, a prefix of what the other saw. So for any two of their lists and
-- each sender, its entries in one are a prefix of those in the other.
pub record AreOfOneHistory (these those : Lists) : Type 0 where
  pub these_agree : Agree these
  pub those_agree : Agree those
  pub one_begins : OneBeginsAll these those
  pub across : AgreeAcross these those

-- a reader after answered reads and what it learnt between them, one after the other
pub data GoesOn (opened : GroupView) (first : ReaderView) : ReaderView → Type 0 where
  Rests : GoesOn opened first first
  HasRead : (before after : ReaderView) → GoesOn opened first before → Takes opened before after
      → GoesOn opened first after
  HasLearnt : (token : ToldView) (before after : ReaderView) → GoesOn opened first before
      → Learns token before after → GoesOn opened first after
