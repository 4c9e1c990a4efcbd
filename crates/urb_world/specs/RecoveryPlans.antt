-- How a group delivers everything that is stored: a list of events for each world, made by going
-- through it.
use Rattle.std.specs.Prelude.{Bool, List, None, Ok, Option, Some, [], flat_map, if◌then◌else◌}
use Rattle.std.specs.Prelude.{length, replicate, ℕ, ◌++◌, ◌∷◌}
use Rattle.urb_world.specs.Step.{Arrive, Commit, Event, Restart, Tick, run}
use Rattle.urb_world.specs.World.{World, stored}
use Rattle.urb_names.specs.CarriedPackets.{Carried}
use Rattle.urb_names.specs.Nodes.{nodes}
use Rattle.urb_node.specs.Part.{Down, Node, Ready, State, Storing}
use Rattle.urb_node.specs.Replies.{packets_in}
use Rattle.urb_node.specs.Steps.{next_position}
use Rattle.urb_stable.specs.Entries.{Entry}
use Rattle.urb_stable.specs.Records.{pend}

-- a plan: the events to happen in a world
abbrev pub Plan : Type 0
Plan = World → List Event

-- the world after these events
abbrev pub after : World → List Event → World
after w events = (run w events).1

-- one plan, and then the other in the world that the first leads to
abbrev pub both : Plan → Plan → Plan
both first second w = let events = first w in events ++ second (after w events)

-- a plan for each of these, one after the other
abbrev pub each : {A : Type 0} → (A → Plan) → List A → Plan
each plan [] w = []
each plan (x ∷ xs) w = let events = plan x w in events ++ each plan xs (after w events)

-- ---- one node

-- the receipt of the record that node p holds in this state, if it holds one
abbrev pub receipt_of : ℕ → Node → State → List Event
receipt_of p node Ready = []
receipt_of p node (Storing entry cause) = Commit p (next_position node) entry ∷ []
receipt_of p node (Down doubtful) = []

-- p's storage takes the record that p holds
abbrev pub stores : ℕ → Plan
stores p w = receipt_of p (w.node p) (w.node p).state

-- what the storage of a node that is down holds: its records, and the doubtful one if it kept that
abbrev pub image_with : Bool → List Entry → Option Entry → List Entry
image_with keeps_doubtful records None = records
image_with keeps_doubtful records (Some r) = if keeps_doubtful then records ++ r ∷ [] else records

-- Node p in this state becomes ready. It stores the record that it holds; a node that is down
-- restarts.
abbrev pub readied : Bool → ℕ → Node → State → List Event
readied keeps_doubtful p node Ready = []
readied keeps_doubtful p node (Storing entry cause) = Commit p (next_position node) entry ∷ []
readied keeps_doubtful p node (Down doubtful) =
    Restart p (image_with keeps_doubtful node.records doubtful) ∷ []

-- p comes back if it isn't ready, with its doubtful record if its storage kept that
abbrev pub comes_back : (ℕ → Bool) → ℕ → Plan
comes_back keeps_doubtful p w = readied (keeps_doubtful p) p (w.node p) (w.node p).state

-- ---- packets

-- a packet arrives at its target, whose storage takes what it drafts
abbrev pub carries : Carried → Plan
carries packet = both (λ w. Arrive packet.target (Ok packet) ∷ []) (stores packet.target)

-- as many ticks of p as it has pending names
abbrev pub ticks_of : ℕ → Plan
ticks_of p w = replicate (length (pend (stored w p))) (Tick p)

-- the packets of the replies to these events
abbrev pub packets_of : World → List Event → List Carried
packets_of w events = flat_map packets_in (run w events).0

-- p resends what it has pending, and each packet of this arrives
abbrev pub round_of : ℕ → Plan
round_of p w = both (ticks_of p) (each carries (packets_of w (ticks_of p w))) w

-- each node in turn does the same
abbrev pub rounds : Plan
rounds w = each round_of (nodes w.size.n) w

-- ---- everything

-- all nodes come back
abbrev pub all_back : (ℕ → Bool) → Plan
all_back keeps_doubtful w = each (comes_back keeps_doubtful) (nodes w.size.n) w

-- All nodes come back. In a first round each message comes to every node. In a second round each
-- node hears from all others that they have it.
abbrev pub recovery : (ℕ → Bool) → Plan
recovery keeps_doubtful = both (all_back keeps_doubtful) (both rounds rounds)
