-- What the checks of one record of a tail say. `before` are the tail's records before it. They and
-- the node's stored records would come before this record.
use Rattle.std.specs.Prelude.{Bool, List, Option, [], count_by, if◌then◌else◌, suc, true, ℕ}
use Rattle.std.specs.Prelude.{◌&&◌, ◌++◌, ◌==◌, ◌||◌, ◌∷◌, ◌≡◌}
use Rattle.urb_names.specs.LabelsAndContents.{Content, Label, Limits}
use Rattle.urb_names.specs.Names.{has_name}
use Rattle.urb_names.specs.Nodes.{majority_passes, nodes}
use Rattle.urb_names.specs.Pairs.{has_pair, message_of, own}
use Rattle.urb_stable.specs.Entries.{Entry}
use Rattle.urb_stable.specs.Fitting.{is_next_own, keeps_a, keeps_b, keeps_c, keeps_d}
use Rattle.urb_stable.specs.Records.{cert, pend}
use Rattle.urb_node.specs.Part.{Node}
use Rattle.urb_group.specs.GroupViews.{Shows}
use Rattle.urb_group.specs.PlaceViews.{shown}
use Rattle.urb_world.specs.World.{World, stored, updated}
use Rattle.urb_group.specs.declared.node_moves.Node.{Node as Place}
use Rattle.urb_group.specs.internal.PlaceInvariant.{ShowsAt}

-- ---- tests

-- whether the record keeps the four rules behind these records of node p
abbrev pub may_join : Limits → (ℕ → List Entry) → ℕ → List Entry → Entry → Bool
may_join size images p records r =
    keeps_a size records r
    && (keeps_b p records r
    && (keeps_c images p r && keeps_d size.n (updated images p (records ++ r ∷ [])) records r))

-- whether each record of the tail does, behind those before it
abbrev pub may_follow : Limits → (ℕ → List Entry) → ℕ → List Entry → List Entry → Bool
may_follow size images p records [] = true
may_follow size images p records (r ∷ tail) =
    may_join size images p records r && may_follow size images p (records ++ r ∷ []) tail

-- whether the node is p or holds the pair
abbrev pub would_hold : World → ℕ → Label → Content → ℕ → Bool
would_hold w p x m q = (q == p) || has_pair (pend (stored w q)) x m

-- how many of the messages are this client's
abbrev pub of_client : ℕ → List Content → ℕ
of_client client messages = count_by (λ m. m.client == client) messages

-- ---- answers about one node, for each node of a world that its place shows

-- the message that these records have under the name
abbrev pub FindsBehind : {A : Type 0} → Place A → List Entry → Label → Option Content → Type 0
FindsBehind place before x result =
    (n : Node) → ShowsAt place n → result ≡ message_of (pend (n.records ++ before)) x

-- whether these records certify the name
abbrev pub IsNamedBehind : {A : Type 0} → Place A → List Entry → Label → Bool → Type 0
IsNamedBehind place before x result =
    (n : Node) → ShowsAt place n → result ≡ has_name (cert (n.records ++ before)) x

-- how many messages of this client the node has broadcast
abbrev pub CountsClient : {A : Type 0} → Place A → ℕ → ℕ → Type 0
CountsClient place client result =
    (n : Node) → ShowsAt place n → result ≡ of_client client n.broadcast

-- whether the pair is node p's next one
abbrev pub IsNextBehind : {A : Type 0} → Place A → ℕ → List Entry → Label → Content → Bool → Type 0
IsNextBehind place p before x m result =
    (n : Node) → ShowsAt place n
    → result ≡ is_next_own (own p (pend (n.records ++ before))) x m

-- whether the record keeps rule A
abbrev pub KeepsA : {A : Type 0} → Limits → Place A → List Entry → Entry → Bool → Type 0
KeepsA size place before r result =
    (n : Node) → ShowsAt place n → result ≡ keeps_a size (n.records ++ before) r

-- whether it keeps rule B
abbrev pub KeepsB : {A : Type 0} → ℕ → Place A → List Entry → Entry → Bool → Type 0
KeepsB p place before r result =
    (n : Node) → ShowsAt place n → result ≡ keeps_b p (n.records ++ before) r

-- ---- answers about all nodes, for each world that their places show

-- whether the sender of the name holds the pair
abbrev pub SenderHolds : {A : Type 0} → Limits → List (Place A) → Label → Content → Bool → Type 0
SenderHolds size places x m result =
    (w : World) → Shows (shown size places) w → result ≡ has_pair (pend (stored w x.sender)) x m

-- whether the node in this place would hold the pair if node p did
abbrev pub WouldHold : {A : Type 0} → Limits → List (Place A) → ℕ → ℕ → Label → Content → Bool
    → Type 0
WouldHold size places p place x m result =
    (w : World) → Shows (shown size places) w → result ≡ would_hold w p x m (suc place)

-- 1 if it would, or else 0
abbrev pub CountsHolder : {A : Type 0} → Limits → List (Place A) → ℕ → ℕ → Label → Content → ℕ
    → Type 0
CountsHolder size places p place x m result =
    (w : World) → Shows (shown size places) w
    → result ≡ (if would_hold w p x m (suc place) then 1 else 0)

-- how many nodes would hold the pair if node p did
abbrev pub CountsHolders : {A : Type 0} → Limits → List (Place A) → ℕ → Label → Content → ℕ → Type 0
CountsHolders size places p x m result =
    (w : World) → Shows (shown size places) w
    → result ≡ count_by (would_hold w p x m) (nodes size.n)

-- whether these would be a majority
abbrev pub WouldPass : {A : Type 0} → Limits → List (Place A) → ℕ → Label → Content → Bool → Type 0
WouldPass size places p x m result =
    (w : World) → Shows (shown size places) w
    → result ≡ majority_passes size.n (would_hold w p x m)

-- whether a record of node p keeps rule C
abbrev pub KeepsC : {A : Type 0} → Limits → List (Place A) → ℕ → Entry → Bool → Type 0
KeepsC size places p r result =
    (w : World) → Shows (shown size places) w → result ≡ keeps_c (stored w) p r

-- whether it keeps rule D
abbrev pub KeepsD : {A : Type 0} → Limits → List (Place A) → ℕ → List Entry → Entry → Bool → Type 0
KeepsD size places p before r result =
    (w : World) → Shows (shown size places) w
    → result
    ≡ keeps_d size.n (updated (stored w) p ((stored w p ++ before) ++ r ∷ []))
    (stored w p ++ before) r

-- whether it keeps all four
abbrev pub Joins : {A : Type 0} → Limits → List (Place A) → ℕ → List Entry → Entry → Bool → Type 0
Joins size places p before r result =
    (w : World) → Shows (shown size places) w
    → result ≡ may_join size (stored w) p (stored w p ++ before) r
