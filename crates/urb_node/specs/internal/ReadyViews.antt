-- A ready node, as the code below the public calls sees it.
use Rattle.urb_node.specs.Part.{Ready}
use Rattle.urb_node.specs.NodeViews.{NodeView}
use Rattle.urb_node.specs.NodeMemories.{Memory, view_in}

-- what the memory of a ready node shows
abbrev pub ready_view : Memory → NodeView
ready_view a = view_in Ready a
