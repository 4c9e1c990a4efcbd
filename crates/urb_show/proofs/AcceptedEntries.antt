-- What a node has stored at one place of the history is what every page shows at any other.
use Rattle.urb_show.proofs.Common.{AreDeliveredBy, Contains, Content, Event, GroupView}
use Rattle.urb_show.proofs.Common.{HaveDelivered, IsPrefix, IsSound, Label, List, Lists, OneBegins}
use Rattle.urb_show.proofs.Common.{Option, Shows, Some, World, [], after, after-append, ap, arith}
use Rattle.urb_show.proofs.Common.{entries, has_pair, has_pair-found, in_log, list_at, log, map}
use Rattle.urb_show.proofs.Common.{message_of, pend, pend-append, refl, run, run-kept, sound-kept}
use Rattle.urb_show.proofs.Common.{stored, subst, suc, sym, true, zero, ℕ, ⊎_elim, ◌∙◌, ◌∷◌, ◌≡◌}
use Rattle.urb_world.proofs.safety.SafeWorlds.{one_message}
use Rattle.urb_world.proofs.steps.Growth.{run-goes_on}
use Rattle.urb_world.specs.Acceptance.{HasStored}
use Rattle.urb_world.specs.RunInvariant.{IsKept}
use Rattle.urb_names.proofs.FoundPairs.{has_pair-left}
use Rattle.urb_stable.specs.Entries.{Entry as Record}
use Rattle.urb_show.proofs.AgreeingPages.{in_map, in_prefix}
use Rattle.urb_show.specs.declared.entry.Entry.{Entry}

-- the entries of a log have the messages that the records hold
found_in : (records : List Record) (xs : List Label) (y : Label) (o : Option Content)
    → Contains {X = Label × Option Content} (map (λ x. (x, message_of (pend records) x)) xs) (y, o)
    → message_of (pend records) y ≡ o
found_in records [] y o h = (let low = h.1 in absurd (omega (arith, low)))
found_in records (x ∷ xs) y o (zero, low, is) =
    let e : x ≡ y = ap (λ (k : Label × Option Content). k.0) is in
    let f : message_of (pend records) x ≡ o = ap (λ (k : Label × Option Content). k.1) is in
    subst (λ (z : Label). message_of (pend records) z ≡ o) e f
found_in records (x ∷ xs) y o (suc k, low, is) =
    found_in records xs y o (k, omega (arith, low), is)

-- an entry of lists that a world has delivered is stored there
entry_stored : (w : World) (lists : Lists) (q : ℕ) (e : Entry) → HaveDelivered w lists
    → Contains (list_at lists q) e
    → has_pair (pend (stored w (suc q))) e.name e.message ≡ true
entry_stored w lists q e delivered h =
    let records = stored w (suc q) in
    let told : Contains (map in_log (list_at lists q)) (in_log e) =
    in_map in_log (list_at lists q) e h.0 h.1 h.2 in
    let there : Contains (entries records) (in_log e) =
    in_prefix (map in_log (list_at lists q)) (entries records) (in_log e) (delivered q) told in
    has_pair-found (pend records) e.name e.message
    (found_in records (log records) e.name (Some e.message) there)

pair_grows : (xs ys : List Record) (x : Label) (m : Content) → IsPrefix xs ys
    → has_pair (pend xs) x m ≡ true → has_pair (pend ys) x m ≡ true
pair_grows xs ys x m b h =
    subst (λ (es : List Record). has_pair (pend es) x m ≡ true) b.1
    (subst (λ (ps : List (Label × Content)). has_pair ps x m ≡ true)
    (sym (pend-append xs b.0)) (has_pair-left (pend xs) (pend b.0) x m h))

-- what is stored at a place is stored at each later place
pub stored_later : (w : World) (past later : List Event) (p : ℕ) (x : Label) (m : Content)
    → IsPrefix past later → has_pair (pend (stored (after w past) p)) x m ≡ true
    → has_pair (pend (stored (after w later) p)) x m ≡ true
stored_later w past later p x m begins h =
    let v = after w past in
    let same : after w later ≡ after v begins.0 =
    ap (after w) (sym begins.1) ∙ after-append w past begins.0 in
    let goes = run-goes_on v (after v begins.0) begins.0 (run v begins.0).0 refl in
    subst (λ (u : World). has_pair (pend (stored u p)) x m ≡ true) (sym same)
    (pair_grows (stored v p) (stored (after v begins.0) p) x m (goes.records p) h)

-- a message that was stored under a name is the one of each entry with this name
pub accepted_everywhere : (opened : GroupView) (past later : List Event) (p q : ℕ) (x : Label)
    (m : Content) (lists : Lists) (e : Entry) → IsSound opened → OneBegins past later
    → ((w : World) → Shows opened w → HasStored (after w past) p x m)
    → AreDeliveredBy opened later lists → Contains (list_at lists q) e → e.name ≡ x
    → e.message ≡ m
accepted_everywhere opened past later p q x m lists e sound one accepted delivered h name =
    ⊎_elim
    (λ (t : IsPrefix past later).
    one_message (after sound.world later) (run-kept sound.world later kept).nodes (suc q) p x
    e.message m there (stored_later sound.world past later p x m t here))
    (λ (t : IsPrefix later past).
    one_message (after sound.world past) (run-kept sound.world past kept).nodes (suc q) p x
    e.message m (stored_later sound.world later past (suc q) x e.message t there) here)
    one
  where
    kept : IsKept sound.world
    kept = sound-kept opened sound.world sound sound.shows

    here : has_pair (pend (stored (after sound.world past) p)) x m ≡ true
    here = (accepted sound.world sound.shows).1

    there : has_pair (pend (stored (after sound.world later) (suc q))) x e.message ≡ true
    there =
        subst (λ (y : Label).
        has_pair (pend (stored (after sound.world later) (suc q))) y e.message ≡ true)
        name
        (entry_stored (after sound.world later) lists q e (delivered sound.world sound.shows) h)
