-- The desks and the requests of worked examples.
use Rattle.std.specs.Prelude.{Bool, List, [], false, true, ℕ, ◌∷◌}
use Rattle.urb_world.specs.Step.{Event, Restart, Tick}
use Rattle.urb_show.specs.internal.ReaderExamples.{knowing}
use Rattle.urb_show.specs.declared.status.Status.{Status}
use Rattle.urb_desk.specs.ClientDesks.{ClientDeskView}
use Rattle.urb_desk.specs.Desks.{DeskView}
use Rattle.urb_client.specs.Requests.{Ask, Asked}
use Rattle.urb_client.specs.declared.request.Control.TheVariants as control

-- the desk of node p, which has seen these events; its reader knows nothing yet
abbrev pub desk_of : ℕ → List Event → DeskView
desk_of p past = record { node = p; known = knowing [] [] []; past = past; has_lost = false }

-- the desk of node 1, which has seen no event
abbrev pub new_desk : DeskView
new_desk = desk_of 1 []

-- the same desk, once it has a witness that its worker or the House is gone
abbrev pub lost_desk : DeskView
lost_desk = record new_desk { has_lost = true }

-- the desk of node 1, once its reader and the desk have seen a tick of node 1
abbrev pub later_desk : DeskView
later_desk = record {
  node = 1;
  known = knowing [] [] (Tick 1 ∷ []);
  past = Tick 1 ∷ [];
  has_lost = false;
}

-- a client's desk at node 1; the client may crash the node, or may not
abbrev pub client_desk : Bool → ClientDeskView
client_desk may_crash = record { desk = new_desk; may_crash = may_crash }

-- the request for a node's status
abbrev pub ask_status : Asked
ask_status = Ask control.Status

-- the request to crash a node
abbrev pub ask_crash : Asked
ask_crash = Ask control.Crash

-- the request to restart a node
abbrev pub ask_restart : Asked
ask_restart = Ask control.Restart
