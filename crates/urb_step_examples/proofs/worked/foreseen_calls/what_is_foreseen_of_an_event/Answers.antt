-- In a new world a tick drafts nothing, and a submit drafts a record.
use Rattle.std.proofs.Common.{List, None, [], ap, arith, inl, inr, length, refl, subst, sym, ℕ}
use Rattle.std.proofs.Common.{◌++◌, ◌∙◌, ◌∷◌, ◌≡◌}
use Rattle.urb_foresight.specs.ForeseenDrafts.{Drafts, IsOnceStored, IsUnforeseeable}
use Rattle.urb_foresight.specs.internal.ForesightExamples.{four_nodes}
use Rattle.urb_group.specs.GroupViews.{Shows}
use Rattle.urb_names.specs.CarriedPackets.{Carried}
use Rattle.urb_names.specs.LabelsAndContents.{Content, Limits}
use Rattle.urb_names.specs.Pairs.{own}
use Rattle.urb_node.specs.Part.{Node, Ready, State}
use Rattle.urb_node.specs.Replies.{Reply}
use Rattle.urb_node.specs.Steps.{drafts, submits}
use Rattle.urb_stable.specs.Entries.{Entry}
use Rattle.urb_stable.specs.Records.{pend}
use Rattle.urb_step_examples.specs.internal.GroupExamples.{new_group}
use Rattle.urb_world.proofs.steps.Runs.{reached-keeps}
use Rattle.urb_world.specs.Step.{IsReached, Submit, Tick, step}
use Rattle.urb_world.specs.World.{World, stored}
use Rattle.urb_world.specs.internal.Examples.{limits, pending}
use Rattle.urb_world.specs.internal.Scripts.{message}
use Rattle.urb_step_examples.proofs.worked.foreseen_calls.what_is_foreseen_of_an_event.Goals as goal

-- a new world is so once no records are stored
the-same : IsOnceStored four_nodes 1 [] four_nodes
the-same = record {
  size = refl;
  ready = refl;
  may = tt;
  behind = refl;
  others = λ q apart. ([], refl);
  heard = λ x m q apart new counted h. h;
}

-- what a tick of a ready node does isn't unforeseeable
foreseeable : Shows (new_group 4) four_nodes → IsUnforeseeable (new_group 4) 1 [] (Tick 1) → ⊥
foreseeable shows (inl full) = let none : 0 ≡ 16 = full in absurd (omega (arith, none))
foreseeable shows (inr (inl down)) = down four_nodes shows (refl, refl)
foreseeable shows (inr (inr (inl hangs))) = hangs
foreseeable shows (inr (inr (inr says))) = says

-- a ready node that has broadcast nothing drafts its first record
drafts-first : (node : Node) (st : State) (told : List Content) → Ready ≡ st → [] ≡ told
    → submits (limits 4 10) 1 (message 7 1 "") (record node { state = st; broadcast = told })
    ≡ drafts (record node { state = st; broadcast = told }) (pending 1 1) None
drafts-first node st told a b =
    subst (λ (it : State). submits (limits 4 10) 1 (message 7 1 "")
    (record node { state = it; broadcast = told })
    ≡ drafts (record node { state = it; broadcast = told }) (pending 1 1) None) a
    (subst (λ (it : List Content). submits (limits 4 10) 1 (message 7 1 "")
    (record node { state = Ready; broadcast = it })
    ≡ drafts (record node { state = Ready; broadcast = it }) (pending 1 1) None) b refl)

-- so does its world
submit-drafts : (size : Limits) (node : ℕ → Node) (sent : List Carried) → limits 4 10 ≡ size
    → Ready ≡ (node 1).state → [] ≡ (node 1).broadcast
    → Drafts 1 (Submit 1 (message 7 1 "")) (pending 1 1)
    (record { size = size; node = node; sent = sent })
unfolding step
submit-drafts size node sent a ready none =
    let e = drafts-first (node 1) (node 1).state (node 1).broadcast ready none in
    subst (λ (it : Limits). Drafts 1 (Submit 1 (message 7 1 "")) (pending 1 1)
    (record { size = it; node = node; sent = sent })) a
    (record {
      told = ap (λ (outcome : Reply × Node). outcome.0) e;
      cause = None;
      held = ap (λ (outcome : Reply × Node). outcome.1.state) e;
    })

-- a list without a length is empty
no-record : (records : List Entry) → 0 ≡ length records → records ≡ []
no-record [] e = refl
no-record (r ∷ records) e = absurd (omega (arith, e))

-- node 1 has broadcast nothing in a world of a run in which it has stored nothing
broadcasts-none : (v : World) → IsReached v → stored v 1 ≡ [] → [] ≡ (v.node 1).broadcast
broadcasts-none v reached none =
    let told = ((reached-keeps v reached).0.nodes 1).broadcast in
    sym (subst (λ (records : List Entry). (v.node 1).broadcast ≡ own 1 (pend records)) none told)

pub returns-clause-a_draft : goal.returns-clause-a_draft
returns-clause-a_draft c = (
  pending 1 1,
  refl,
  λ w v shows before reached once.
      let none : stored v 1 ≡ [] = once.behind ∙ ap (λ (records : List Entry). records ++ [])
      (no-record (stored w 1) (shows.nodes 1).count) in
      submit-drafts v.size v.node v.sent (shows.size ∙ sym once.size) (sym once.ready)
      (broadcasts-none v reached none),
)

pub returns-clause-no_draft_of_a_tick : goal.returns-clause-no_draft_of_a_tick
unfolding step
returns-clause-no_draft_of_a_tick c shows reached h =
    let told = (h.2 four_nodes four_nodes shows reached reached the-same).told in absurd (cc)

pub returns-clause-a_draft_of_a_submit : goal.returns-clause-a_draft_of_a_submit
unfolding step
returns-clause-a_draft_of_a_submit c shows reached h =
    let ready = h.1 four_nodes four_nodes shows reached reached the-same in absurd (cc)

pub returns-clause-not_unsure_of_a_tick : goal.returns-clause-not_unsure_of_a_tick
returns-clause-not_unsure_of_a_tick c shows reached h = foreseeable shows h.1
