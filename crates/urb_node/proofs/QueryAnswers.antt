-- What a memory answers about a node's records is the definition's for every node that it shows.
use Rattle.urb_node.proofs.Common.{Bool, Content, Label, List, Memory, Option, ShowsIn, State}
use Rattle.urb_node.proofs.Common.{TellsNext, ap, are_rising, has_name, has_pair, length}
use Rattle.urb_node.proofs.Common.{message_of, next_number, own, sym, true, view_in, ℕ, ◌∙◌, ◌≡◌}
use Rattle.urb_node.specs.CallEffects.{CountsOwn, FindsMessage, Holds, IsCertified, TellsLog}
use Rattle.urb_node.proofs.ShownNodes.{shown-broadcast, shown-found}

-- a memory has a pair exactly if the pair is pending at each node that it shows
pub holds_says : (state : State) (a : Memory) (x : Label) (m : Content) (result : Bool)
    → result ≡ has_pair a.pairs x m → Holds (ShowsIn state a) x m result
holds_says state a x m result e node s = e ∙ s.pairs x m

-- the message that a memory has under a name is the one that each shown node has stored
pub message_says : (state : State) (a : Memory) (x : Label) (result : Option Content)
    → result ≡ message_of a.pairs x → FindsMessage (ShowsIn state a) x result
message_says state a x result e node s = e ∙ shown-found a.limits a.node (view_in state a) node s x

-- a memory has certified a name exactly if each node that it shows has
pub certified_says : (state : State) (a : Memory) (x : Label) (result : Bool)
    → result ≡ has_name a.certified x → IsCertified (ShowsIn state a) x result
certified_says state a x result e node s = e ∙ s.certified x

-- the log of a memory is the log of each node that it shows
pub log_says : (state : State) (a : Memory) (result : List Label) → result ≡ a.log
    → TellsLog (ShowsIn state a) result
log_says state a result e node s = e ∙ s.log

-- a memory has as many messages of its own node as each node that it shows has broadcast
pub own_says : (state : State) (a : Memory) (result : ℕ) → result ≡ length (own a.node a.pairs)
    → are_rising a.pairs ≡ true → CountsOwn (ShowsIn state a) result
own_says state a result e rise node s =
    e ∙ ap length (sym (shown-broadcast a.limits a.node (view_in state a) node s rise))

-- a client's next number in a memory is its next number at each node that it shows
pub next_says : (state : State) (a : Memory) (client result : ℕ)
    → result ≡ next_number client (own a.node a.pairs) → are_rising a.pairs ≡ true
    → TellsNext (ShowsIn state a) client result
next_says state a client result e rise node s =
    e
    ∙ ap (next_number client)
    (sym (shown-broadcast a.limits a.node (view_in state a) node s rise))
