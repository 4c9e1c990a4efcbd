-- Lists of events that proceed: none of them is a failure, and none is refused. Every unbroken list
-- proceeds once the events that count for nothing and leave the world as it is are left out.
use Rattle.urb_world.proofs.Common.{Act, Adds, Arrive, Arrives, Breaks, Carried, Content, Crash}
use Rattle.urb_world.proofs.Common.{Down, Drafted, Err, Event, Fail, IsDone, IsUnbroken}
use Rattle.urb_world.proofs.Common.{IsUndisturbed, Limits, List, Node, Ok, Ready, Refusal, Refused}
use Rattle.urb_world.proofs.Common.{Reply, State, Storing, Submit, WentDown, World, [], act_of}
use Rattle.urb_world.proofs.Common.{acts_of, after, ap, append-nil, ap₂, at_node, cond_both}
use Rattle.urb_world.proofs.Common.{crashes, disturbance, fails, inl, inr, is_down, is_node}
use Rattle.urb_world.proofs.Common.{packets_in, refl, run, step, submits, submits-cases, subst, sym}
use Rattle.urb_world.proofs.Common.{world_after, ℕ, ⊎_elim, ◌++◌, ◌∙◌, ◌∷◌, ◌≡◌, ◌⊎◌}
use Rattle.urb_world.proofs.safety.Refusals.{refused-stays, same_nodes}
use Rattle.urb_world.specs.Rounds.{Ticks}
use Rattle.urb_names.specs.declared.refusal.Refusal.TheVariants as refusal

-- no crash and no failed store
abbrev pub IsNoFailure : Event → Type 0
IsNoFailure (Fail p) = ⊥
IsNoFailure (Crash p) = ⊥
IsNoFailure event = Unit {0}

-- no submit, no crash and no failed store
abbrev pub IsQuiet : Event → Type 0
IsQuiet (Submit p m) = ⊥
IsQuiet (Fail p) = ⊥
IsQuiet (Crash p) = ⊥
IsQuiet event = Unit {0}

-- an event that is no submit, no crash and no failed store is no failure
pub quiet-no_failure : (event : Event) → IsQuiet event → IsNoFailure event
quiet-no_failure (Fail p) h = h
quiet-no_failure (Crash p) h = h
quiet-no_failure event h = tt

-- each of these events, one after the other, is no failure and isn't refused
abbrev pub Proceeds : World → List Event → Type 0
Proceeds w [] = Unit {0}
Proceeds w (event ∷ events) =
    IsNoFailure event × IsDone (step w event).0 × Proceeds (step w event).1 events

-- each of these events, one after the other, is quiet and isn't refused
abbrev pub ProceedsQuietly : World → List Event → Type 0
ProceedsQuietly w [] = Unit {0}
ProceedsQuietly w (event ∷ events) =
    IsQuiet event × IsDone (step w event).0 × ProceedsQuietly (step w event).1 events

-- events that proceed quietly proceed
pub quietly-proceeds : (events : List Event) (w : World) → ProceedsQuietly w events
    → Proceeds w events
quietly-proceeds [] w h = tt
quietly-proceeds (event ∷ events) w h =
    (quiet-no_failure event h.0, h.1, quietly-proceeds events (step w event).1 h.2)

-- no events count as no acts
pub acts-none : (w : World) → acts_of w [] ≡ []
unfolding run
acts-none w = refl

-- an event and those behind it count as its own acts, followed by theirs
pub acts-more : (w : World) (event : Event) (events : List Event)
    → acts_of w (event ∷ events) ≡ act_of event (step w event).0 ++ acts_of (step w event).1 events
unfolding run
acts-more w event events = refl

-- an event and those behind it lead to the world to which these lead from the event's step
pub after-more : (w : World) (event : Event) (events : List Event)
    → after w (event ∷ events) ≡ after (step w event).1 events
unfolding run
after-more w event events = refl

-- ---- acts behind one another

unbroken-first : (xs ys : List Act) → IsUnbroken (xs ++ ys) → IsUnbroken xs
unbroken-first [] ys h = tt
unbroken-first (Breaks ∷ xs) ys h = absurd h
unbroken-first (act ∷ xs) ys h = unbroken-first xs ys h

unbroken-rest : (xs ys : List Act) → IsUnbroken (xs ++ ys) → IsUnbroken ys
unbroken-rest [] ys h = h
unbroken-rest (Breaks ∷ xs) ys h = absurd h
unbroken-rest (act ∷ xs) ys h = unbroken-rest xs ys h

undisturbed-first : (xs ys : List Act) → IsUndisturbed (xs ++ ys) → IsUndisturbed xs
undisturbed-first [] ys h = tt
undisturbed-first (Adds ∷ xs) ys h = absurd h
undisturbed-first (Breaks ∷ xs) ys h = absurd h
undisturbed-first (act ∷ xs) ys h = undisturbed-first xs ys h

undisturbed-rest : (xs ys : List Act) → IsUndisturbed (xs ++ ys) → IsUndisturbed ys
undisturbed-rest [] ys h = h
undisturbed-rest (Adds ∷ xs) ys h = absurd h
undisturbed-rest (Breaks ∷ xs) ys h = absurd h
undisturbed-rest (act ∷ xs) ys h = undisturbed-rest xs ys h

-- what is undisturbed is unbroken
pub undisturbed-unbroken : (acts : List Act) → IsUndisturbed acts → IsUnbroken acts
undisturbed-unbroken [] h = tt
undisturbed-unbroken (Adds ∷ acts) h = absurd h
undisturbed-unbroken (Breaks ∷ acts) h = h
undisturbed-unbroken (Ticks p packets ∷ acts) h = undisturbed-unbroken acts h
undisturbed-unbroken (Arrives packet answers ∷ acts) h = undisturbed-unbroken acts h

-- ---- one event

-- the event counts for nothing, and leaves the world as it is
record Idle (w : World) (event : Event) (o : Reply × World) : Type 0 where
  same : o.1 ≡ w
  nothing : act_of event o.0 ≡ []

nothing-refused : (event : Event) (r : Refusal) → act_of event (Refused r) ≡ []
nothing-refused (Arrive p (Err fault)) r = refl
nothing-refused (Arrive p (Ok packet)) r = refl
nothing-refused event r = refl

refused-idle : (w : World) (event : Event) (r : Refusal) → (step w event).0 ≡ Refused r
    → Idle w event (step w event)
refused-idle w event r e = record
    { same = refused-stays w event r e; nothing = ap (act_of event) e ∙ nothing-refused event r }

done-or-refused : (reply : Reply) → IsDone reply ⊎ ((r : Refusal) × (reply ≡ Refused r))
done-or-refused (Refused r) = inr (r, refl)
done-or-refused reply = inl tt

-- ---- a submit, a failed store and a crash

module _ (Are : List Act → Type 0) where
  -- if the reply counts as such acts, the node stays, nothing is sent, and it counts for nothing
  abbrev Still : Node → Reply × Node → Type 0
  Still node outcome =
      Are (disturbance outcome.0) → (outcome.1 ≡ node) × (packets_in outcome.0 ≡ [])
      × (disturbance outcome.0 ≡ [])

  still-world : (w : World) (p : ℕ) (outcome : Reply × Node) → Still (w.node p) outcome
      → Are (disturbance (at_node w p outcome).0)
      → ((at_node w p outcome).1 ≡ w) × (disturbance (at_node w p outcome).0 ≡ [])
  still-world w p outcome h =
      cond_both (is_node w.size.n p) (world_after w p outcome) (Refused refusal.BadNode, w)
      (λ (o : Reply × World). Are (disturbance o.0) → (o.1 ≡ w) × (disturbance o.0 ≡ []))
      (λ _ u. (
        ap₂ (λ (f : ℕ → Node) (packets : List Carried).
            record { size = w.size; node = f; sent = packets })
            (same_nodes w.node p outcome.1 (h u).0)
            (ap (λ (packets : List Carried). w.sent ++ packets) (h u).1 ∙ append-nil w.sent),
        (h u).2,
      ))
      (λ _ u. (refl, refl))

submit-still : (size : Limits) (p : ℕ) (m : Content) (node : Node)
    → Still IsUndisturbed node (submits size p m node)
submit-still size p m node =
    submits-cases (Still IsUndisturbed node) size p m node (λ r h. (refl, refl, refl))
    (λ first a h. (refl, refl, refl)) (λ new one h. absurd h) (λ new one h. absurd h)

fail-still : (p : ℕ) (node : Node) (s : State) → Still IsUnbroken node (fails p node s)
fail-still p node Ready h = (refl, refl, refl)
fail-still p node (Storing held cause) h = absurd h
fail-still p node (Down doubtful) h = (refl, refl, refl)

crash-still : (p : ℕ) (node : Node) → Still IsUnbroken node (crashes p node)
crash-still p node =
    cond_both (is_down node.state) _ _ (Still IsUnbroken node) (λ _ h. (refl, refl, refl))
    (λ _ h. absurd h)

-- a reply that is no failure counts for nothing, or a message was drafted
none-or-drafted : (reply : Reply) → IsUnbroken (disturbance reply)
    → IsUndisturbed (disturbance reply)
    ⊎ (IsDone reply × (IsUndisturbed (disturbance reply) → ⊥))
none-or-drafted (Drafted x position) h = inr (tt, λ u. u)
none-or-drafted (WentDown p) h = absurd h
none-or-drafted reply h = inl tt

-- ---- any event

-- The event is no failure, and it isn't refused. If nothing disturbs, it is quiet.
record Moves (event : Event) (reply : Reply) : Type 0 where
  sound : IsNoFailure event
  done : IsDone reply
  quiet : IsUndisturbed (act_of event reply) → IsQuiet event

quiet-moves : (w : World) (event : Event) → IsQuiet event
    → Idle w event (step w event) ⊎ Moves event (step w event).0
quiet-moves w event q =
    ⊎_elim (λ d. inr (record {
      sound = quiet-no_failure event q;
      done = d;
      quiet =
          λ _. q;
    }))
    (λ r. inl (refused-idle w event r.0 r.1))
    (done-or-refused (step w event).0)

-- an event that is no failure is idle, or it moves
idle-or-moves : (w : World) (event : Event) → IsUnbroken (act_of event (step w event).0)
    → Idle w event (step w event) ⊎ Moves event (step w event).0
unfolding step
idle-or-moves w (Submit p m) u =
    ⊎_elim (λ none. let s = still-world IsUndisturbed w p (submits w.size p m (w.node p))
    (submit-still w.size p m (w.node p)) none in inl (record { same = s.0; nothing = s.1 }))
    (λ drafted. inr (record {
      sound = tt;
      done = drafted.0;
      quiet =
          λ h. drafted.1 h;
    }))
    (none-or-drafted (step w (Submit p m)).0 u)
idle-or-moves w (Fail p) u =
    let s = still-world IsUnbroken w p (fails p (w.node p) (w.node p).state)
    (fail-still p (w.node p) (w.node p).state) u in inl (record { same = s.0; nothing = s.1 })
idle-or-moves w (Crash p) u =
    let s = still-world IsUnbroken w p (crashes p (w.node p)) (crash-still p (w.node p)) u in
    inl (record { same = s.0; nothing = s.1 })
idle-or-moves w event u = quiet-moves w event tt

-- ---- whole lists

-- The events of these that proceed: they lead to the same world, and count for the same. If nothing
-- disturbs, they proceed quietly.
pub record Proceeding (w : World) (events : List Event) : Type 0 where
  -- the events that are left
  pub list : List Event
  -- they proceed
  pub proceeds : Proceeds w list
  -- they lead to the same world
  pub leads : after w list ≡ after w events
  -- they count as the same acts
  pub acts : acts_of w list ≡ acts_of w events
  -- if nothing disturbs, they proceed quietly
  pub quietly : IsUndisturbed (acts_of w events) → ProceedsQuietly w list

-- with one more event in front
one-more : (w : World) (event : Event) (events : List Event)
    → IsUnbroken (act_of event (step w event).0) → Proceeding (step w event).1 events
    → Proceeding w (event ∷ events)
one-more w event events u rest = ⊎_elim idle moves (idle-or-moves w event u)
  where
    parts : IsUndisturbed (acts_of w (event ∷ events))
        → IsUndisturbed (act_of event (step w event).0 ++ acts_of (step w event).1 events)
    parts h = subst IsUndisturbed (acts-more w event events) h

    idle : Idle w event (step w event) → Proceeding w (event ∷ events)
    idle i =
        let r = subst (λ (v : World). Proceeding v events) i.same rest in
        record {
          list = r.list;
          proceeds = r.proceeds;
          leads =
              r.leads ∙ (ap (λ (v : World). after v events) (sym i.same)
              ∙ sym (after-more w event events));
          acts = r.acts ∙ (ap (λ (v : World). acts_of v events) (sym i.same)
              ∙ (ap (λ (xs : List Act). xs ++ acts_of (step w event).1 events) (sym i.nothing)
              ∙ sym (acts-more w event events)));
          quietly =
              λ h. r.quietly (subst (λ (v : World). IsUndisturbed (acts_of v events)) i.same
              (undisturbed-rest (act_of event (step w event).0)
              (acts_of (step w event).1 events) (parts h)));
        }

    moves : Moves event (step w event).0 → Proceeding w (event ∷ events)
    moves m =
        record {
          list = event ∷ rest.list;
          proceeds = (m.sound, m.done, rest.proceeds);
          leads = after-more w event rest.list ∙ (rest.leads ∙ sym (after-more w event events));
          acts =
              acts-more w event rest.list ∙ (ap
              (λ (xs : List Act). act_of event (step w event).0 ++ xs) rest.acts
              ∙ sym (acts-more w event events));
          quietly = λ h. (
            m.quiet (undisturbed-first (act_of event (step w event).0)
                (acts_of (step w event).1 events) (parts h)),
            m.done,
            rest.quietly (undisturbed-rest (act_of event (step w event).0)
                (acts_of (step w event).1 events) (parts h)),
          );
        }

-- for events without a failure, there are events that proceed to the same world, with the same acts
pub proceeding : (events : List Event) (w : World) → IsUnbroken (acts_of w events)
    → Proceeding w events
proceeding [] w u =
    record { list = []; proceeds = tt; leads = refl; acts = refl; quietly = λ _. tt }
proceeding (event ∷ events) w u =
    let both = subst IsUnbroken (acts-more w event events) u in
    one-more w event events (unbroken-first (act_of event (step w event).0)
    (acts_of (step w event).1 events) both)
    (proceeding events (step w event).1
    (unbroken-rest (act_of event (step w event).0) (acts_of (step w event).1 events) both))
