-- A submit is accepted only when its message is stored.
use Rattle.urb_world.proofs.Common.{Accepted, Bool, Cause, Cert, Commit, Content, Done, Down, Entry}
use Rattle.urb_world.proofs.Common.{Label, List, Node, NodesKept, Option, Pend, PendCert, Ready}
use Rattle.urb_world.proofs.Common.{Refused, Reply, Same, Some, State, Stored, Storing, Submit}
use Rattle.urb_world.proofs.Common.{World, [], and_from, and_parts, ap, commits, cond, cond_both}
use Rattle.urb_world.proofs.Common.{done, eqb-true, false, false≢true, find, first_name, has_pair}
use Rattle.urb_world.proofs.Common.{has_pair-found, has_pair-head, is_node, is_numbered}
use Rattle.urb_world.proofs.Common.{keeps_record, kept-numbered, message_of, name, name_of}
use Rattle.urb_world.proofs.Common.{next_position, pend, pend-append, position_or_len, refl}
use Rattle.urb_world.proofs.Common.{same_message-true, same_record, slice_get, step, submits-cases}
use Rattle.urb_world.proofs.Common.{subst, suc, sym, true, world_after, ℕ, ◌&&◌, ◌==◌, ◌∙◌, ◌∷◌}
use Rattle.urb_world.proofs.Common.{◌≡◌}
use Rattle.std.proofs.lemmas.List.Folds.{find_at}
use Rattle.urb_world.proofs.steps.OneNodeStep.{updated-at}
use Rattle.urb_world.specs.Acceptance.{HasStored, StoresOwn}
use Rattle.urb_world.specs.World.{stored}
use Rattle.urb_names.proofs.FoundPairs.{has_pair-right}
use Rattle.urb_node.specs.Steps.{is_accepted}
use Rattle.urb_node.proofs.RestartReplies.{same_record-true}
use Rattle.urb_node.proofs.SubmitCases.{IsAgain}
use Rattle.urb_world.proofs.steps.StepCases.{step-cases}
use Rattle.urb_names.specs.declared.refusal.Refusal.TheVariants as refusal

-- what is found passes the test
found-passes : {X : Type 0} (test : X → Bool) (xs : List X) (a : X) → find test xs ≡ Some a
    → test a ≡ true
found-passes test [] a e = cc
found-passes {X} test (x ∷ xs) a e = at (found-passes test xs a) (test x) refl e
  where
    at : (find test xs ≡ Some a → test a ≡ true) → (b : Bool) → test x ≡ b
        → cond b (Some x) (find test xs) ≡ Some a → test a ≡ true
    at ih true f g = (let h : x ≡ a = cc in subst (λ (y : X). test y ≡ true) h f)
    at ih false f g = ih g

module _ (w : World) (kept : NodesKept w) (p : ℕ) (m : Content) (x : Label) where
  abbrev node : Node
  node = w.node p

  abbrev test : Content → Bool
  test = is_numbered m.client m.number

  -- if the outcome accepts x, the message is stored under it
  abbrev OnlyStored : Reply × Node → Type 0
  OnlyStored outcome = outcome.0 ≡ Same (Accepted x) → HasStored w p x m

  -- it was accepted before: what was found then is stored
  again : (first : Content) → IsAgain m first node
      → OnlyStored (Same (Accepted (first_name p m node)), node)
  again first a = here
    where
      place : ℕ
      place = position_or_len test node.broadcast

      found : message_of (pend node.records) (name p (suc place)) ≡ Some first
      found =
          kept-numbered w.size (stored w) p node.records (kept p).kept place
          ∙ (ap (λ ms. slice_get ms place) (sym (kept p).broadcast)
          ∙ (sym (find_at test node.broadcast) ∙ a.found))

      here : Same (Accepted (name p (suc place))) ≡ Same (Accepted x) → HasStored w p x m
      here f =
          let named : name p (suc place) ≡ x = cc in
          let told : first ≡ m =
          same_message-true first m (and_from (test first) _
          (found-passes test node.broadcast first a.found) a.same) in
          subst (λ (y : Label). HasStored w p y m) named (
            refl,
            subst (λ (o : Content).
                has_pair (pend node.records) (name p (suc place)) o ≡ true) told
                (has_pair-found (pend node.records) (name p (suc place)) first found),
          )

  -- if a submit is accepted at once, its message was stored before, as the node's own and under
  -- that name
  pub accepted-stored : (step w (Submit p m)).0 ≡ Same (Accepted x) → HasStored w p x m
  accepted-stored =
      step-cases (λ o. o.0 ≡ Same (Accepted x) → HasStored w p x m) w (Submit p m) (λ _ f. cc)
      (λ _. submits-cases OnlyStored w.size p m node (λ _ f. cc) again (λ _ _ f. cc) (λ _ _ f. cc))

-- ---- a store

module _ (w : World) (p position : ℕ) (entry : Entry) (told : Done) where
  -- if the outcome stores an own record, its message is stored under the name in the reply
  abbrev OnlyOwn : Reply × World → Type 0
  OnlyOwn outcome =
      outcome.0 ≡ Stored told → told.accepted ≡ true → StoresOwn outcome.1 p entry told

  -- an own record's pair is stored with it
  pair-stored : (held : Entry) (cause : Option Cause) → entry ≡ held → is_accepted p held ≡ true
      → (m : Content) × (has_pair (pend (entry ∷ [])) (name_of held) m ≡ true)
      × HasStored (world_after w p (
        Stored (done w.size.n p held cause (w.node p)),
        keeps_record p held cause (w.node p),
      )).1 p (name_of held) m
  pair-stored held cause e own_is = over held refl e own_is
    where
      after : World
      after =
          (world_after w p (
            Stored (done w.size.n p held cause (w.node p)),
            keeps_record p held cause (w.node p),
          )).1

      there : (x : Label) (m : Content) → has_pair (pend (held ∷ [])) x m ≡ true
          → has_pair (pend (stored after p)) x m ≡ true
      there x m h =
          subst (λ (n : Node). has_pair (pend n.records) x m ≡ true)
          (sym (updated-at w.node p (keeps_record p held cause (w.node p))))
          (subst (λ (ps : List (Label × Content)). has_pair ps x m ≡ true)
          (sym (pend-append (stored w p) (held ∷ [])))
          (has_pair-right (pend (stored w p)) (pend (held ∷ [])) x m h))

      -- the message of the record that is held and was stored
      its_own : (x : Label) (m : Content) → has_pair (pend (held ∷ [])) x m ≡ true → entry ≡ held
          → (x.sender == p) ≡ true
          → (m : Content) × (has_pair (pend (entry ∷ [])) x m ≡ true) × HasStored after p x m
      its_own x m has g a = (
        m,
        subst (λ (t : Entry). has_pair (pend (t ∷ [])) x m ≡ true) (sym g) has,
        (eqb-true x.sender p a, there x m has),
      )

      over : (r : Entry) → held ≡ r → entry ≡ held → is_accepted p r ≡ true
          → (m : Content) × (has_pair (pend (entry ∷ [])) (name_of r) m ≡ true)
          × HasStored after p (name_of r) m
      over (Pend x m) f =
          its_own x m (subst (λ (t : Entry). has_pair (pend (t ∷ [])) x m ≡ true) (sym f)
          (has_pair-head (x, m) []))
      over (PendCert x m) f =
          its_own x m (subst (λ (t : Entry). has_pair (pend (t ∷ [])) x m ≡ true) (sym f)
          (has_pair-head (x, m) []))
      over (Cert x) f = λ g a. absurd (false≢true a)

  by_state : (s : State) → OnlyOwn
      (world_after w p (commits w.size.n p position entry (w.node p) s))
  by_state Ready = λ f a. cc
  by_state (Down doubtful) = λ f a. cc
  by_state (Storing held cause) =
      cond_both ((position == next_position (w.node p)) && same_record entry held) _ _
      (λ (o : Reply × Node). OnlyOwn (world_after w p o))
      (λ taken f a. here taken f a) (λ _ f a. cc)
    where
      here : ((position == next_position (w.node p)) && same_record entry held) ≡ true
          → Stored (done w.size.n p held cause (w.node p)) ≡ Stored told → told.accepted ≡ true
          → StoresOwn (world_after w p (
            Stored (done w.size.n p held cause (w.node p)),
            keeps_record p held cause (w.node p),
          )).1 p entry told
      here taken f a =
          let g : done w.size.n p held cause (w.node p) ≡ told = cc in
          let e : entry ≡ held =
          same_record-true entry held (and_parts (position == next_position (w.node p))
          (same_record entry held) taken).1 in
          subst (λ (d : Done). StoresOwn
          (world_after w p (
            Stored (done w.size.n p held cause (w.node p)),
            keeps_record p held cause (w.node p),
          )).1 p entry d) g
          (pair-stored held cause e (ap (λ (d : Done). d.accepted) g ∙ a))

  -- if a receipt accepts a message, the node has stored it as its own, under the name in the reply
  pub committed-stored : (step w (Commit p position entry)).0 ≡ Stored told → told.accepted ≡ true
      → StoresOwn (step w (Commit p position entry)).1 p entry told
  unfolding step
  committed-stored =
      cond_both (is_node w.size.n p)
      (world_after w p (commits w.size.n p position entry (w.node p) (w.node p).state))
      (Refused refusal.BadNode, w) OnlyOwn
      (λ _. by_state (w.node p).state) (λ _ f a. cc)
