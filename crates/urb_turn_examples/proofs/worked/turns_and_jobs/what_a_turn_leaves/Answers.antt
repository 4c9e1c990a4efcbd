-- A status leaves the group that it found. A gap ahead of a new node may not follow.
use Rattle.std.proofs.Common.{List, None, Some, [], arith, inl, inr, length, refl, subst, sym, ℕ}
use Rattle.std.proofs.Common.{◌∙◌, ◌-◌, ◌∷◌, ◌≡◌}
use Rattle.std.proofs.lemmas.Bool.{false≢true}
use Rattle.urb_group.specs.GroupViews.{Shows}
use Rattle.urb_group.specs.declared.reply.Reply.TheVariants as reply
use Rattle.urb_names.specs.LabelsAndContents.{Limits}
use Rattle.urb_node.specs.Part.{State, Storing}
use Rattle.urb_show.specs.Houses.{HouseView}
use Rattle.urb_show.specs.Pasts.{IsLedTo}
use Rattle.urb_stable.specs.Entries.{Entry}
use Rattle.urb_stable.specs.MemoryStores.{empty_memory}
use Rattle.urb_turn.specs.NodeStores.{MayHaveTail}
use Rattle.urb_turn.specs.Settlings.{NothingNew}
use Rattle.urb_turn.specs.Turns.{Ends, Stores}
use Rattle.urb_turn.specs.WholeTurns.{IsTurn}
use Rattle.urb_turn.specs.declared.job.Job.TheVariants as job
use Rattle.urb_turn.specs.declared.turn_stages.Stage.{Stage}
use Rattle.urb_turn.specs.declared.turn_stages.Stage.TheVariants as stage
use Rattle.urb_turn.specs.internal.TurnExamples.{ahead_of, at_the_opening, ended, four, memory}
use Rattle.urb_turn_examples.specs.internal.TurnWords.{storing_status, with_a_gap}
use Rattle.urb_world.specs.RunInvariant.{StateKept}
use Rattle.urb_world.specs.Step.{run}
use Rattle.urb_world.specs.StoresAhead.{MayFollow}
use Rattle.urb_world.specs.World.{World, stored}
use Rattle.urb_world.specs.internal.Examples.{limits, pending}
use Rattle.urb_turn_examples.proofs.worked.turns_and_jobs.what_a_turn_leaves.Goals as goal

-- the turn of a status
abbrev Asks : Type 0
Asks =
    IsTurn memory with_a_gap (job.Status 1) empty_memory empty_memory
    (record (ended (job.Status 1) (reply.Up 1) 0)
    { status = Some storing_status; loans = Some at_the_opening })

-- it leaves the House as it found it
as-found : (t : Asks) → t.left ≡ t.lent_again
as-found t =
    let asking : t.new ≡ stage.Asking =
    (subst (λ (it : Stage). Stores memory empty_memory it empty_memory t.new) t.begins.1
    t.stores).1 in
    (subst (λ (it : Stage). Ends t.lent_again (job.Status 1) it t.left (reply.Up 1)
    (Some storing_status) NothingNew (0 - t.events)) asking t.finishes).0

-- a list without a length is empty
no-record : (records : List Entry) → 0 ≡ length records → records ≡ []
no-record [] e = refl
no-record (r ∷ records) e = absurd (omega (arith, e))

-- no node without records holds a draft of its second message, if it keeps the rules
no-gap-held : (size : Limits) (images : ℕ → List Entry) (records : List Entry) (st : State)
    → 0 ≡ length records → Storing (pending 1 2) None ≡ st
    → StateKept size images 1 records st → ⊥
no-gap-held size images records st count is kept =
    let held : StateKept size images 1 records (Storing (pending 1 2) None) =
    subst (λ (it : State). StateKept size images 1 records it) (sym is) kept in
    false≢true (subst (λ (it : List Entry).
    StateKept size images 1 it (Storing (pending 1 2) None)) (no-record records count) held).0.b

pub returns-clause-no_group_with_a_gap : goal.returns-clause-no_group_with_a_gap
unfolding run
returns-clause-no_group_with_a_gap c w shows h =
    let t = h.turn in
    let u = h.sound.world in
    let found : Shows t.lent_again.group w =
    subst (λ past. IsLedTo with_a_gap past t.lent_again.group) (sym t.loans.last_is.lent_at)
    t.leads_again w shows in
    let kept : Shows t.lent_again.group u =
    subst (λ (house : HouseView). Shows house.group u) (as-found t) h.sound.shows in
    no-gap-held u.size (stored u) (u.node 1).records (u.node 1).state
    ((shows.nodes 1).count ∙ (sym (found.nodes 1).count ∙ (kept.nodes 1).count))
    ((shows.nodes 1).state ∙ (sym (found.nodes 1).state ∙ (kept.nodes 1).state))
    (h.sound.kept.nodes 1).state

some-none : {A : Type 0} (x : A) (xs : List A) → x ∷ xs ≡ [] → ⊥
some-none x xs e = cc

-- the second pair can't follow nothing
no-second : (tail : List Entry) → pending 1 2 ∷ [] ≡ tail
    → MayFollow (limits 4 10) (stored four) 1 [] tail → ⊥
no-second tail e may =
    false≢true (subst (λ (t : List Entry). MayFollow (limits 4 10) (stored four) 1 [] t) (sym e)
    may).0.b

no-gap-ahead : MayHaveTail (ahead_of [] (pending 1 2 ∷ [])) four 1 empty_memory → ⊥
no-gap-ahead (inl none) = some-none (pending 1 2) [] none
no-gap-ahead (inr h) = no-second h.tail h.all h.may

pub returns-clause-no_store_with_a_gap_ahead : goal.returns-clause-no_store_with_a_gap_ahead
unfolding run
returns-clause-no_store_with_a_gap_ahead c h = no-gap-ahead (h.tail tt)
