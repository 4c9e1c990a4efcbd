-- Acts of lists of events, one list after another. Events that proceed quietly don't disturb.
use Rattle.urb_world.proofs.Common.{Act, Adds, Arrive, Arrives, Breaks, Carried, Commit, Crash}
use Rattle.urb_world.proofs.Common.{Down, Entry, Event, Fail, IsHarmless, IsUndisturbed, List, Node}
use Rattle.urb_world.proofs.Common.{None, Ready, Refused, Reply, Restart, Some, State, Storing}
use Rattle.urb_world.proofs.Common.{Submit, Tick, World, [], act_of, acts_of, after, ap}
use Rattle.urb_world.proofs.Common.{append_assoc, at_node, commits, cond_both, disturbance, is_node}
use Rattle.urb_world.proofs.Common.{next_position, packets_in, refl, restarts, run, same_record}
use Rattle.urb_world.proofs.Common.{says, step, subst, sym, world_after, ℕ, ◌&&◌, ◌++◌, ◌==◌, ◌∙◌}
use Rattle.urb_world.proofs.Common.{◌∷◌, ◌≡◌}
use Rattle.urb_world.proofs.recovery.EventPlans.{after-none}
use Rattle.urb_world.proofs.rounds.ProceedingEvents.{IsQuiet, ProceedsQuietly, acts-more, acts-none}
use Rattle.urb_world.specs.RecoveredWorlds.{Goes}
use Rattle.urb_world.specs.RecoveryPlans.{packets_of}
use Rattle.urb_world.specs.Rounds.{Ticks as Ticking}
use Rattle.urb_world.proofs.rounds.ActCases.{act-cases}
use Rattle.urb_names.specs.declared.refusal.Refusal.TheVariants as refusal

-- ---- acts of lists behind one another

-- two lists of events count as the acts of the first, followed by those of the second
pub acts-append : (w : World) (xs ys : List Event)
    → acts_of w (xs ++ ys) ≡ acts_of w xs ++ acts_of (after w xs) ys
unfolding step run
acts-append w [] ys =
    ap (λ (v : World). acts_of v ys) (sym (after-none w))
    ∙ ap (λ (ls : List Act). ls ++ acts_of (after w []) ys) (sym (acts-none w))
acts-append w (event ∷ xs) ys =
    acts-more w event (xs ++ ys)
    ∙ (ap (λ (ls : List Act). act_of event (step w event).0 ++ ls)
    (acts-append (step w event).1 xs ys)
    ∙ (sym (append_assoc (act_of event (step w event).0) (acts_of (step w event).1 xs)
    (acts_of (after (step w event).1 xs) ys))
    ∙ ap (λ (ls : List Act). ls ++ acts_of (after w (event ∷ xs)) ys) (sym (acts-more w event xs))))

-- two lists of events send the packets of the first, followed by those of the second
pub packets-append : (w : World) (xs ys : List Event)
    → packets_of w (xs ++ ys) ≡ packets_of w xs ++ packets_of (after w xs) ys
unfolding run
packets-append w [] ys = refl
packets-append w (event ∷ xs) ys =
    ap (λ (ps : List Carried). packets_in (step w event).0 ++ ps)
    (packets-append (step w event).1 xs ys)
    ∙ sym (append_assoc (packets_in (step w event).0) (packets_of (step w event).1 xs)
    (packets_of (after (step w event).1 xs) ys))

-- ---- events that proceed quietly don't disturb

undisturbed-append : (ls bs : List Act) → IsUndisturbed ls → IsUndisturbed bs
    → IsUndisturbed (ls ++ bs)
undisturbed-append [] bs h k = k
undisturbed-append (Ticking p packets ∷ ls) bs h k = undisturbed-append ls bs h k
undisturbed-append (Arrives packet answers ∷ ls) bs h k = undisturbed-append ls bs h k
undisturbed-append (Adds ∷ ls) bs h k = absurd h
undisturbed-append (Breaks ∷ ls) bs h k = absurd h

abbrev Gentle : Reply × Node → Type 0
Gentle outcome = IsUndisturbed (disturbance outcome.0)

commit-gentle : (n p position : ℕ) (entry : Entry) (node : Node) (s : State)
    → Gentle (commits n p position entry node s)
commit-gentle n p position entry node Ready = tt
commit-gentle n p position entry node (Storing held cause) =
    cond_both ((position == next_position node) && same_record entry held) _ _ Gentle (λ _. tt)
    (λ _. tt)
commit-gentle n p position entry node (Down doubtful) = tt

restart-gentle : (p : ℕ) (image : List Entry) (node : Node) (s : State)
    → Gentle (restarts p image node s)
restart-gentle p image node Ready = tt
restart-gentle p image node (Storing held cause) = tt
restart-gentle p image node (Down None) =
    cond_both (says image node.records) _ _ Gentle (λ _. tt) (λ _. tt)
restart-gentle p image node (Down (Some d)) =
    cond_both (says image node.records) _ _ Gentle (λ _. tt)
    (λ _. cond_both (says image (node.records ++ d ∷ [])) _ _ Gentle (λ _. tt) (λ _. tt))

gentle-world : (w : World) (p : ℕ) (outcome : Reply × Node) → Gentle outcome
    → IsUndisturbed (disturbance (at_node w p outcome).0)
gentle-world w p outcome h =
    cond_both (is_node w.size.n p) (world_after w p outcome) (Refused refusal.BadNode, w)
    (λ (o : Reply × World). IsUndisturbed (disturbance o.0)) (λ _. h) (λ _. tt)

quiet-calm : (w : World) (event : Event) → IsQuiet event
    → IsUndisturbed (act_of event (step w event).0)
unfolding step
quiet-calm w (Arrive p bytes) q =
    act-cases IsUndisturbed (Arrive p bytes) _ (λ _. tt) (λ o. absurd (o.1 bytes refl))
    (λ o. absurd (o.1 bytes refl))
    (λ _ _ _ _. tt) (λ _ _ _. tt)
quiet-calm w (Tick p) q =
    act-cases IsUndisturbed (Tick p) _ (λ _. tt) (λ o. absurd (o.2 refl)) (λ o. absurd (o.2 refl))
    (λ _ _ _ _. tt) (λ _ _ _. tt)
quiet-calm w (Commit p position entry) q =
    gentle-world w p _ (commit-gentle w.size.n p position entry (w.node p) (w.node p).state)
quiet-calm w (Restart p image) q =
    gentle-world w p _ (restart-gentle p image (w.node p) (w.node p).state)
quiet-calm w event q = absurd q

-- events that proceed quietly count as no failure and no new message
pub proceeds-calm : (events : List Event) (w : World) → ProceedsQuietly w events
    → IsUndisturbed (acts_of w events)
proceeds-calm [] w h = subst IsUndisturbed (sym (acts-none w)) tt
proceeds-calm (event ∷ events) w h =
    subst IsUndisturbed (sym (acts-more w event events))
    (undisturbed-append (act_of event (step w event).0) (acts_of (step w event).1 events)
    (quiet-calm w event h.0) (proceeds-calm events (step w event).1 h.2))

harmless-quiet : (w : World) (event : Event) → IsHarmless w event → IsQuiet event
harmless-quiet w (Submit p m) h = h
harmless-quiet w (Fail p) h = h
harmless-quiet w (Crash p) h = h
harmless-quiet w event h = tt

-- harmless events that aren't refused proceed quietly
pub goes-quietly : (events : List Event) (w : World) → Goes w events → ProceedsQuietly w events
goes-quietly [] w h = tt
goes-quietly (event ∷ events) w h =
    (harmless-quiet w event h.0, h.1, goes-quietly events (step w event).1 h.2)
