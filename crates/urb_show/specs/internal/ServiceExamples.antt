-- Words for the worked examples of the service: nodes, and services of two nodes.
use Rattle.std.specs.Prelude.{List, [], if◌then◌else◌, ◌==◌, ◌∷◌}
use Rattle.urb_group.specs.declared.state.State.TheVariants as state
use Rattle.urb_world.specs.internal.Scripts.{message}
use Rattle.urb_names.specs.LabelsAndContents.{Content, Label}
use Rattle.urb_show.specs.Service.{Node, Service}

-- the first message of client 7
abbrev pub m1 : Content
m1 = message 7 1 "a"

-- its second message
abbrev pub m2 : Content
m2 = message 7 2 "b"

-- a ready node
abbrev pub ready : List Content → List Label → Node
ready list log = record { list = list; log = log; state = state.Ready; asked = [] }

-- a node that writes, for a submit of these messages
abbrev pub storing : List Content → List Label → List Content → Node
storing list log asked =
    record { list = list; log = log; state = state.Storing; asked = asked }

-- a node that is down, with a submit of these messages that got no answer
abbrev pub down : List Content → List Label → List Content → Node
down list log asked = record { list = list; log = log; state = state.Down; asked = asked }

-- a service of two nodes that may accept two messages each
abbrev pub pair_of : Node → Node → Service
pair_of first second =
    record { size = record { n = 2; cap = 2 }; node = λ p. if p == 1 then first else second }

-- such a service after node 1 has accepted both messages and node 2 none
abbrev pub both : Service
both = pair_of (ready (m1 ∷ m2 ∷ []) []) (ready [] [])
