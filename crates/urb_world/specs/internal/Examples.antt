-- Words of the worked examples: records, images and packets.
use Rattle.std.specs.Prelude.{Bool, List, None, Option, Some, false, true, replicate, ℕ, ◌∷◌, []}
use Rattle.std.specs.Prelude.{◌≡◌}
use Rattle.std.specs.Prelude.{zero, suc, map}
use Rattle.urb_world.specs.MemoryStores.{in_memory}
use Rattle.urb_world.specs.World.{World, image_of, started}
use Rattle.urb_world.specs.Scenes.{flags_of}
use Rattle.urb_world.specs.Step.{Event, run}
use Rattle.urb_world.specs.internal.Scripts.{Accepts, Drafts, Line, LineAnswer, message, store}
use Rattle.urb_world.specs.internal.Scripts.{submit}
use Rattle.urb_world.specs.internal.Scripts.{◌⇒◌}
use Rattle.urb_names.specs.CarriedPackets.{Carried}
use Rattle.urb_names.specs.Names.{name}
use Rattle.urb_names.specs.LabelsAndContents.{Content, Label, Limits}
use Rattle.urb_names.specs.Nodes.{numbers_from}
use Rattle.urb_names.specs.declared.refusal.Rule.{Rule}
use Rattle.urb_node.specs.NodeViews.{NodeView}
use Rattle.urb_node.specs.Part.{Node, Ready, State}
use Rattle.urb_node.specs.Replies.{Reply, Stored}
use Rattle.urb_stable.specs.Entries.{Entry}
use Rattle.urb_stable.specs.Fitting.{first_misfit}
use Rattle.urb_stable.specs.MemoryStores.{Memory}
use Rattle.urb_stable.specs.declared.fitting.Misfit.{Misfit}
use Rattle.urb_stable.specs.declared.record.Record.TheVariants.{Pend, PendCert}
use Rattle.urb_stable.specs.declared.stable.Stable.{Ghosts}

-- a record of a pair with no payload, whose message is that of client 7 with the name's number
abbrev pub pending : ℕ → ℕ → Entry
pending sender number = Pend (name sender number) (message 7 number "")

-- the same, certified
abbrev pub certified : ℕ → ℕ → Entry
certified sender number = PendCert (name sender number) (message 7 number "")

-- two messages of node 1, certified
abbrev pub two_of_one : List Entry
two_of_one = certified 1 1 ∷ certified 1 2 ∷ []

-- images of three nodes that have all certified one message, and of further nodes
abbrev pub held_by_three : List (List Entry) → List (List Entry)
held_by_three more =
    (certified 1 1 ∷ []) ∷ (certified 1 1 ∷ []) ∷ (certified 1 1 ∷ []) ∷ more

-- a group of n nodes; each node may broadcast as many messages as the cap
abbrev pub limits : ℕ → ℕ → Limits
limits n cap = record { n = n; cap = cap }

-- the first misfit of images of n nodes under a cap, or None
abbrev pub Judged : ℕ → ℕ → List (List Entry) → Option Misfit → Type 0
Judged n cap images answer = first_misfit (limits n cap) (image_of images) ≡ answer

-- the record of this node and name breaks the rule
abbrev pub misfit : Rule → ℕ → ℕ → ℕ → Option Misfit
misfit rule node sender number =
    Some (record { rule = rule; node = node; name = name sender number })

-- a node in this state that has stored these records, and has counted and broadcast nothing
abbrev pub node_in : State → List Entry → Node
node_in state records = record
    { records = records; state = state; acks = []; heard = []; cursor = None; broadcast = [] }

-- a world all of whose nodes are this one
abbrev pub world_of : Node → World
world_of node = record (started (limits 1 10)) { node = λ p. node }

-- a node 1 with a certified message and a pending one, and what it has counted and heard
abbrev pub seen_node : Node
seen_node = record {
  records = certified 1 1 ∷ pending 1 2 ∷ [];
  state = Ready;
  acks = (name 1 1, 1) ∷ (name 1 2, 1) ∷ [];
  heard = (name 1 1, 2) ∷ [];
  cursor = Some (name 1 1);
  broadcast = message 7 1 "" ∷ message 7 2 "" ∷ [];
}

-- what this node holds in memory
abbrev pub seen_view : NodeView
seen_view = record {
  pairs = (name 1 1, message 7 1 "") ∷ (name 1 2, message 7 2 "") ∷ [];
  certified = name 1 1 ∷ [];
  log = name 1 1 ∷ [];
  count = 2;
  state = Ready;
  acks = (name 1 2, 1) ∷ [];
  heard = (name 1 1, 2) ∷ [];
  cursor = Some (name 1 1);
}

-- the ghost values of a store in memory, if a failure shut it
abbrev pub shut_by_failures : Ghosts Memory (Unit {0})
shut_by_failures = record (in_memory (Unit {0}))
    { is_honest = λ s. s.doubtful ≡ false; is_shut = λ s. s.doubtful ≡ true }

-- a message whose payload is `count` letters x
abbrev pub filled : ℕ → ℕ → ℕ → Content
filled client number count = record
    { client = client; number = number; payload = replicate count 120 }

-- a packet of version one from q to p
abbrev pub carried : ℕ → ℕ → ℕ → ℕ → Content → Carried
carried q p sender number m =
    record { source = q; target = p; name = name sender number; message = m; flags = None }

-- one of version two, with the flags of this number
abbrev pub flagged : ℕ → ℕ → ℕ → ℕ → ℕ → Content → Carried
flagged flags q p sender number m =
    record (carried q p sender number m) { flags = Some (flags_of flags) }

-- a packet of version two from q to p with node 1's first message, which is "a"
abbrev pub a_packet : ℕ → ℕ → ℕ → Carried
a_packet flags q p = flagged flags q p 1 1 (message 7 1 "a")

-- one with node 1's first message, which has no payload
abbrev pub empty_packet : ℕ → ℕ → ℕ → Carried
empty_packet flags q p = flagged flags q p 1 1 (message 7 1 "")

-- one with node 1's second message, which is "b"
abbrev pub b_packet : ℕ → ℕ → ℕ → Carried
b_packet flags q p = flagged flags q p 1 2 (message 7 2 "b")

-- the reply to the receipt of a record of node 1's first message: whether its submit is accepted,
-- what is sent, and how many names were released
abbrev pub stored : Bool → List Carried → ℕ → Reply
stored accepted sent released = Stored (record {
  accepted = accepted;
  name = name 1 1;
  sent = sent;
  released = released;
})

-- from this world on, each of these events gets the reply beside it
abbrev pub Replies : World → List (Event × Reply) → Type 0
Replies w rows = (run w (map (λ row. row.0) rows)).0 ≡ map (λ row. row.1) rows

-- node 1 of two submits `count` messages, from this number on, and stores each
abbrev pub stored_from : ℕ → ℕ → List (Line × LineAnswer)
stored_from first zero = []
stored_from first (suc count) =
    submit 1 (message 7 first "a") ⇒ Drafts (name 1 first) first ∷ store 1 ⇒ Accepts
    (name 1 first) 1 0 ∷ stored_from (suc first) count

-- to node 2: `count` names of node 1, from this number on
abbrev pub to_two : ℕ → ℕ → List (ℕ × Label)
to_two first count = map (λ number. (2, name 1 number)) (numbers_from first count)
