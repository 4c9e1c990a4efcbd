-- What is foreseen of two submits at a new node, for the worked examples.
use Rattle.urb_turn.proofs.Common.{Entry, Event, List, None, Option, Shows, ShowsNode}
use Rattle.urb_turn.proofs.Common.{World, [], ap, arith, four, inl, inr}
use Rattle.urb_turn.proofs.Common.{length, limits, new_four, no_view, opened_node, pending, refl, run}
use Rattle.urb_turn.proofs.Common.{step, subst, suc, sym, true, view_of, zero, ℕ, ◌++◌, ◌<◌}
use Rattle.urb_turn.proofs.Common.{◌∙◌, ◌∷◌, ◌≡◌, ◌≢◌}
use Rattle.std.specs.Prelude.{IsTrue}
use Rattle.urb_foresight.proofs.ForeseenCalls.{submit-foreseen}
use Rattle.urb_foresight.specs.ForeseenDrafts.{Drafts, Foresees, ForeseesCalls}
use Rattle.urb_foresight.specs.ForeseenDrafts.{IsOnceStored, IsReadyNode, IsUnforeseeable, OnceStored}
use Rattle.urb_foresight.specs.declared.foreseen.Foreseen.{Foreseen}
use Rattle.urb_foresight.specs.declared.foreseen.Foreseen.TheVariants as foreseen
use Rattle.urb_foresight.specs.internal.ReachedWorlds.{InEach}
use Rattle.urb_group.specs.TailQuestions.{TellsTail}
use Rattle.urb_names.specs.LabelsAndContents.{Content, Label, Limits}
use Rattle.urb_names.specs.Nodes.{is_node}
use Rattle.urb_names.specs.Pairs.{has_pair, own}
use Rattle.urb_node.specs.Part.{Node, Ready, Storing}
use Rattle.urb_node.specs.declared.cause.Cause.{Cause}
use Rattle.urb_stable.specs.Records.{pend}
use Rattle.urb_turn.proofs.NewTails.{pending-short}
use Rattle.urb_turn.specs.KeptTails.{MayHold}
use Rattle.urb_turn.specs.internal.TurnExamples.{two_submits}
use Rattle.std.proofs.Common.{ne_eqb}
use Rattle.urb_world.proofs.steps.DraftsInSteps.{step-elsewhere}
use Rattle.urb_world.specs.Step.{Commit, IsReached, Of_new, Submit}
use Rattle.urb_world.specs.StoresAhead.{MayFollow}
use Rattle.urb_world.specs.World.{stored}
use Rattle.urb_world.specs.internal.Scripts.{message}

-- ---- a new node

new_node : (p : ℕ) → ShowsNode (limits 4 10) p no_view (opened_node p [])
new_node p = record {
  pairs = λ x m. refl;
  certified = λ x. refl;
  log = refl;
  count = refl;
  state = refl;
  cursor = refl;
  acks = λ x q e. refl;
  heard = λ x q. refl;
  rules = tt;
  broadcast = refl;
}

-- a new group shows a new world
shows_new : Shows new_four four
shows_new = record { size = refl; nodes = at }
  where
    at : (p : ℕ) → ShowsNode (limits 4 10) p (view_of new_four p) (opened_node p [])
    at zero = new_node zero
    at (suc before) = new_node (suc before)

-- a list without elements is empty
empty : {A : Type 0} (xs : List A) → 0 ≡ length xs → xs ≡ []
empty [] e = refl
empty (x ∷ xs) e = absurd (omega (arith, e))

-- node 1 has stored nothing in the worlds that a new group shows
stored-none : (w : World) → Shows new_four w → stored w 1 ≡ []
stored-none w shows = empty (stored w 1) (shows.nodes 1).count

-- it is ready there
there : InEach new_four (IsReadyNode 1)
there w shows = (
  subst (λ (l : Limits). IsTrue (is_node l.n 1)) shows.size refl,
  sym (shows.nodes 1).state,
)

-- it has no message of its own there
own-none : InEach new_four (λ w. 0 ≡ length (w.node 1).broadcast)
own-none w shows =
    sym (ap length ((shows.nodes 1).broadcast
    ∙ ap (λ (rs : List Entry). own 1 (pend rs)) (stored-none w shows)))

-- ---- the records of two submits

-- the first record may come first
may-first : (images : ℕ → List Entry) → MayFollow (limits 4 10) images 1 [] (pending 1 1 ∷ [])
may-first images = (record { a = refl; b = refl; c = refl; d = refl }, tt)

-- both may follow nothing
may-both : (images : ℕ → List Entry)
    → MayFollow (limits 4 10) images 1 [] (pending 1 1 ∷ pending 1 2 ∷ [])
may-both images = (
  record { a = refl; b = refl; c = refl; d = refl },
  (record { a = refl; b = refl; c = refl; d = refl }, tt),
)

-- records that may follow nothing may follow what node 1 has stored
follows : (tail : List Entry)
    → ((images : ℕ → List Entry) → MayFollow (limits 4 10) images 1 [] tail) → (w : World)
    → Shows new_four w → MayFollow w.size (stored w) 1 (stored w 1) tail
follows tail may w shows =
    subst (λ (rs : List Entry). MayFollow w.size (stored w) 1 rs tail) (sym (stored-none w shows))
    (subst (λ (l : Limits). MayFollow l (stored w) 1 [] tail) shows.size (may (stored w)))

-- so the group tells
tells : (tail : List Entry)
    → ((images : ℕ → List Entry) → MayFollow (limits 4 10) images 1 [] tail)
    → TellsTail new_four 1 tail true
tells tail may w shows = (λ _. ((there w shows).0, follows tail may w shows), λ _. refl)

-- the first record is foreseen of the first submit
first-foreseen : OnceStored new_four 1 [] (Drafts 1 (Submit 1 (message 7 1 "")) (pending 1 1))
first-foreseen =
    submit-foreseen new_four 1 [] there (message 7 1 "") 0 0 own-none refl (pending 1 1) refl
    (omega arith) (tells (pending 1 1 ∷ []) may-first)

-- the second one is foreseen behind it
second-foreseen : OnceStored new_four 1 (pending 1 1 ∷ [])
    (Drafts 1 (Submit 1 (message 7 2 "")) (pending 1 2))
second-foreseen =
    submit-foreseen new_four 1 (pending 1 1 ∷ []) there (message 7 2 "") 0 1 own-none refl
    (pending 1 2) refl (omega arith) (tells (pending 1 1 ∷ pending 1 2 ∷ []) may-both)

-- a draft isn't unsure
draft-sure : ◌≡◌ {A = Foreseen} foreseen.Draft foreseen.Unsure → ⊥
draft-sure e = cc

-- both records are foreseen of the two submits
pub both-foreseen : ForeseesCalls new_four 1 two_submits [] (pending 1 1 ∷ pending 1 2 ∷ []) None
both-foreseen =
    inr (
      foreseen.Draft,
      pending 1 1 ∷ [],
      draft-sure,
      (pending 1 1, refl, first-foreseen),
      inr (
        foreseen.Draft,
        pending 1 1 ∷ pending 1 2 ∷ [],
        draft-sure,
        (pending 1 2, refl, second-foreseen),
        (refl, refl),
      ),
    )

-- a store may hold them ahead
pub both-held : MayHold new_four 1 (pending 1 1 ∷ pending 1 2 ∷ [])
both-held = record {
  ready = λ w shows. (there w shows).1;
  may = follows (pending 1 1 ∷ pending 1 2 ∷ []) may-both;
  short = pending-short (1 ∷ 2 ∷ []);
}

-- ---- nothing else is foreseen of them

reached-four : IsReached four
unfolding run
reached-four =
    record { start = four; is_start = Of_new (limits 4 10); events = []; replies = []; ran = refl }

once-four : IsOnceStored four 1 [] four
once-four = record {
  size = refl;
  ready = refl;
  may = tt;
  behind = refl;
  others = λ q apart. ([], refl);
  heard = λ x m q apart new counted h. h;
}

-- the world once node 1 has stored the first record
abbrev stored_one : World
stored_one = (step (step four (Submit 1 (message 7 1 ""))).1 (Commit 1 1 (pending 1 1))).1

reached-one : IsReached stored_one
unfolding run
reached-one = record {
  start = four;
  is_start = Of_new (limits 4 10);
  events = Submit 1 (message 7 1 "") ∷ Commit 1 1 (pending 1 1) ∷ [];
  replies = (run four (Submit 1 (message 7 1 "") ∷ Commit 1 1 (pending 1 1) ∷ [])).0;
  ran = refl;
}

-- no other node holds a pair then
none-elsewhere : (x : Label) (m : Content) (q : ℕ) → q ≢ 1
    → has_pair (pend (stored stored_one q)) x m ≡ true → has_pair (pend (stored four q)) x m ≡ true
none-elsewhere x m q apart h =
    subst (λ (n : Node). has_pair (pend n.records) x m ≡ true)
    (step-elsewhere (step four (Submit 1 (message 7 1 ""))).1 (Commit 1 1 (pending 1 1)) q
    (ne_eqb q 1 apart) ∙ step-elsewhere four (Submit 1 (message 7 1 "")) q (ne_eqb q 1 apart)) h

once-one : IsOnceStored four 1 (pending 1 1 ∷ []) stored_one
unfolding step
once-one = record {
  size = refl;
  ready = refl;
  may = may-first (stored four);
  behind = refl;
  others = λ q apart. (stored stored_one q, refl);
  heard = λ x m q apart new counted h. none-elsewhere x m q apart h;
}

-- a node that stores isn't ready
storing-ready : (r : Entry) (o : Option Cause) → Storing r o ≡ Ready → ⊥
storing-ready r o e = cc

-- it stores one record
storing-same : (r s : Entry) (o t : Option Cause) → Storing r o ≡ Storing s t → r ≡ s
storing-same r s o t e = cc

-- a record that an event drafts is foreseen, and no other
drafted-is : (old between : List Entry) (v : World) (event : Event) (r : Entry)
    → IsOnceStored four 1 old v → IsReached v → ((step v event).1.node 1).state ≡ Storing r None
    → (told : Foreseen) → told ≢ foreseen.Unsure → Foresees new_four 1 old event told between
    → between ≡ old ++ r ∷ []
drafted-is old between v event r once reached held foreseen.Draft sure (s, e, drafts) =
    let d = drafts four v shows_new reached-four reached once in
    e ∙ ap (λ (t : Entry). old ++ t ∷ []) (sym (storing-same r s None d.cause (sym held ∙ d.held)))
drafted-is old between v event r once reached held foreseen.NoDraft sure (e, none) =
    absurd (storing-ready r None
    (sym held ∙ none four v shows_new reached-four reached once))
drafted-is old between v event r once reached held foreseen.Unsure sure h = absurd (sure refl)

-- a submit is never left unsure at a new node
foreseeable : (old : List Entry) (m : Content) → length old < 16
    → IsUnforeseeable new_four 1 old (Submit 1 m) → ⊥
foreseeable old m few (inl full) = absurd (omega (arith, few, full))
foreseeable old m few (inr (inl never)) = never four shows_new (there four shows_new)
foreseeable old m few (inr (inr (inl h))) = h
foreseeable old m few (inr (inr (inr h))) = h

first-held : ((step four (Submit 1 (message 7 1 ""))).1.node 1).state ≡ Storing (pending 1 1) None
unfolding step
first-held = refl

second-held : ((step stored_one (Submit 1 (message 7 2 ""))).1.node 1).state
    ≡ Storing (pending 1 2) None
unfolding step
second-held = refl

-- only the first record is foreseen of the first submit alone
pub one-alone : (records : List Entry)
    → ForeseesCalls new_four 1 (Submit 1 (message 7 1 "") ∷ []) [] records None
    → records ≡ pending 1 1 ∷ []
one-alone records (inl (same, ends)) =
    absurd (foreseeable [] (message 7 1 "") (omega arith) ends)
one-alone records (inr (told, between, sure, here, rest)) =
    rest.0 ∙ drafted-is [] between four (Submit 1 (message 7 1 "")) (pending 1 1) once-four
    reached-four first-held told sure here

-- just both records are foreseen of the two submits
pub both-alone : (records : List Entry) → ForeseesCalls new_four 1 two_submits [] records None
    → records ≡ pending 1 1 ∷ pending 1 2 ∷ []
both-alone records (inl (same, ends)) =
    absurd (foreseeable [] (message 7 1 "") (omega arith) ends)
both-alone records (inr (told, between, sure, here, rest)) =
    second records (subst (λ (rs : List Entry).
    ForeseesCalls new_four 1 (Submit 1 (message 7 2 "") ∷ []) rs records None)
    (drafted-is [] between four (Submit 1 (message 7 1 "")) (pending 1 1) once-four reached-four
    first-held told sure here) rest)
  where
    second : (records : List Entry)
        → ForeseesCalls new_four 1 (Submit 1 (message 7 2 "") ∷ []) (pending 1 1 ∷ []) records None
        → records ≡ pending 1 1 ∷ pending 1 2 ∷ []
    second records (inl (same, ends)) =
        absurd (foreseeable (pending 1 1 ∷ []) (message 7 2 "") (omega arith) ends)
    second records (inr (told, between, sure, here, rest)) =
        rest.0 ∙ drafted-is (pending 1 1 ∷ []) between stored_one (Submit 1 (message 7 2 ""))
        (pending 1 2) once-one reached-one second-held told sure here
