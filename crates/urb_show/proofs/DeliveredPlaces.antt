-- What the nodes have delivered at a place of the history, and at each later place.
use Rattle.urb_show.proofs.Common.{AreDeliveredBy, Content, Delivery, Event, GroupView}
use Rattle.urb_show.proofs.Common.{HaveDelivered, IsLedTo, IsPrefix, IsSound, Label, List, Lists}
use Rattle.urb_show.proofs.Common.{Option, Shows, World, [], after, after-append, ap, delivered_at}
use Rattle.urb_show.proofs.Common.{deliveries-known, entries, entry_of, in_log, known, list_at}
use Rattle.urb_show.proofs.Common.{lists_in, map, refl, run, run-kept, sound-kept, stored, subst}
use Rattle.urb_show.proofs.Common.{suc, sym, ◌∙◌, ◌∷◌, ◌≡◌}
use Rattle.urb_world.proofs.safety.RunsOfKeptWorlds.{kept-grow}
use Rattle.urb_show.proofs.AgreeingLists.{begins_at, map_prefix}
use Rattle.urb_show.proofs.GroupLists.{list_in}
use Rattle.urb_show.proofs.ListBeginnings.{begins_self}
use Rattle.urb_show.proofs.PastEvents.{led_by_none}
use Rattle.urb_show.proofs.Prefixes.{prefix_trans}
use Rattle.urb_show.specs.Lists.{Begins}

as_known : (list : List Delivery) → map in_log (map entry_of list) ≡ map known list
as_known [] = refl
as_known (d ∷ list) = ap (λ (ds : List (Label × Option Content)). known d ∷ ds) (as_known list)

-- prefixes of a group's lists are delivered in each world that the group shows
pub group_delivered : (group : GroupView) (w : World) (lists : Lists) → IsSound group
    → Shows group w → Begins lists (lists_in group) → HaveDelivered w lists
group_delivered group w lists sound shows begins place =
    subst (λ (es : List (Label × Option Content)).
    IsPrefix (map in_log (list_at lists place)) es)
    (ap (map in_log) (list_in group place)
    ∙ (as_known (delivered_at group (suc place))
    ∙ deliveries-known group w (suc place) sound shows))
    (map_prefix in_log _ _ (begins_at lists (lists_in group) place begins))

-- what a group has delivered, it has delivered by the events that led to it
pub led_delivered : (opened group : GroupView) (past : List Event) (lists : Lists)
    → IsLedTo opened past group → IsSound group → Begins lists (lists_in group)
    → AreDeliveredBy opened past lists
led_delivered opened group past lists leads sound begins w shows =
    group_delivered group (after w past) lists sound (leads w shows) begins

-- what is delivered at a place is delivered at each later place
pub delivered_later : (opened : GroupView) (past later : List Event) (lists : Lists)
    → IsSound opened → IsPrefix past later → AreDeliveredBy opened past lists
    → AreDeliveredBy opened later lists
delivered_later opened past later lists sound begins delivered w shows place =
    let v = after w past in
    let grown =
    kept-grow v (after v begins.0) begins.0 (run v begins.0).0
    (run-kept w past (sound-kept opened w sound shows)) refl (suc place) in
    let same : after w later ≡ after v begins.0 =
    ap (after w) (sym begins.1) ∙ after-append w past begins.0 in
    subst (λ (u : World).
    IsPrefix (map in_log (list_at lists place)) (entries (stored u (suc place)))) (sym same)
    (prefix_trans _ _ _ (delivered w shows place) grown)

-- what is delivered at the opening
pub opened_delivered : (opened group : GroupView) (past : List Event) (base : Lists) → past ≡ []
    → group ≡ opened → lists_in group ≡ base → IsSound group → AreDeliveredBy opened past base
opened_delivered opened group past base none same lists sound =
    led_delivered opened group past base (led_by_none opened group past none same) sound
    (subst (λ (l : Lists). Begins base l) (sym lists) (begins_self base))
