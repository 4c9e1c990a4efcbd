-- The states of a node, as a group reports them.
use Rattle.urb_node.specs.Part.{Down, Ready, State as NodeState, Storing}
use Rattle.urb_group.specs.declared.state.State.{State}
use Rattle.urb_group.specs.declared.state.State.TheVariants as state

-- what is reported of a node in this state
abbrev pub state_of : NodeState → State
state_of Ready = state.Ready
state_of (Storing entry cause) = state.Storing
state_of (Down doubtful) = state.Down
