-- What each node of a group has delivered, by what it holds in memory, and when nodes agree on it.
use Rattle.std.specs.Prelude.{List, Option, Some, filter, filter_map, length, map, option_map, ℕ}
use Rattle.std.specs.Prelude.{◌<◌, ◌==◌, ◌^◌, ◌≡◌}
use Rattle.urb_names.specs.ListPrefixes.{OneBegins}
use Rattle.urb_names.specs.LabelsAndContents.{Content, Label}
use Rattle.urb_names.specs.Nodes.{numbers_from}
use Rattle.urb_names.specs.Pairs.{message_of}
use Rattle.urb_node.specs.NodeViews.{NodeView}
use Rattle.urb_group.specs.GroupViews.{GroupView, Shows, view_of}
use Rattle.urb_world.specs.Step.{Event, step}
use Rattle.urb_world.specs.World.{World}

-- a name that was delivered, and its message
abbrev pub Delivery : Type 0
Delivery = Label × Content

-- the name with its message among these pairs, if it has one
abbrev pub delivery_in : List (Label × Content) → Label → Option Delivery
delivery_in pairs x = option_map (λ m. (x, m)) (message_of pairs x)

-- what a node has delivered: the names of its log, each with its message
abbrev pub deliveries : NodeView → List Delivery
deliveries view = filter_map (delivery_in view.pairs) view.log

-- a delivery, in the form that the entries of a list of records have
abbrev pub known : Delivery → Label × Option Content
known delivery = (delivery.0, Some delivery.1)

-- the deliveries of one sender
abbrev pub sent_by : ℕ → List Delivery → List Delivery
sent_by sender list = filter (λ delivery. delivery.0.sender == sender) list

-- In each list the numbers of each sender are 1, 2, 3, .. in order. For each sender, its deliveries
-- in one of two lists are a prefix of those in the other. Each list has fewer than 2^32 deliveries.
pub record Agree (of : ℕ → List Delivery) : Type 0 where
  pub numbers : (p s : ℕ) → map (λ delivery. delivery.0.seq) (sent_by s (of p)) ≡ numbers_from 1
      (length (sent_by s (of p)))
  pub one_begins : (p q s : ℕ) → OneBegins (sent_by s (of p)) (sent_by s (of q))
  pub short : (p : ℕ) → length (of p) < 2 ^ 32

-- what the node of this number has delivered
abbrev pub delivered_at : GroupView → ℕ → List Delivery
delivered_at group p = deliveries (view_of group p)

-- the event happened in every world that the group showed: it shows the world after it
abbrev pub Follows : GroupView → Event → GroupView → Type 0
Follows old event new = (w : World) → Shows old w → Shows new (step w event).1
