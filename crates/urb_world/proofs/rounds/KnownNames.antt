-- No name is new if nothing is submitted: every name that a node knows, also by the record that it
-- holds, its sender knew already.
use Rattle.urb_world.proofs.Common.{Arrive, Carried, Cert, Commit, Content, Down, Entry, Err, Event}
use Rattle.urb_world.proofs.Common.{IsDone, Label, Limits, List, Node, Ok, Pend, PendCert, Ready}
use Rattle.urb_world.proofs.Common.{Restart, State, StateKept, Storing, Tick, World, [], after, ap}
use Rattle.urb_world.proofs.Common.{append-nil, cases_Bool, commits, cond-false, eqb-true, false}
use Rattle.urb_world.proofs.Common.{has_pair, if◌then◌else◌, is_down, is_node, is_some, keeps_c}
use Rattle.urb_world.proofs.Common.{message_of, pend, pend-append, resends, restarts, run, step}
use Rattle.urb_world.proofs.Common.{subst, sym, true, updated, ℕ, ⊎_elim, ◌++◌, ◌==◌, ◌∙◌, ◌∷◌, ◌≡◌}
use Rattle.urb_world.proofs.steps.DraftsInSteps.{event_node, step-elsewhere, step-size}
use Rattle.urb_world.proofs.rounds.LastingCounts.{Arrived, arrive-done, at-node-done, commit-whole}
use Rattle.urb_world.proofs.rounds.LastingCounts.{node-is, restart-not, took}
use Rattle.urb_world.proofs.rounds.WholeNodes.{whole, whole-knows}
use Rattle.urb_world.proofs.recovery.ContinuedWorlds.{Sound, known-sender, knows-pair, run-sound}
use Rattle.urb_world.proofs.rounds.ProceedingEvents.{IsQuiet, ProceedsQuietly, quiet-no_failure}
use Rattle.urb_world.proofs.recovery.CountedArrivals.{knows, only-joined, settled}
use Rattle.urb_world.proofs.rounds.UpNodes.{step-hears, tick-node}
use Rattle.urb_world.proofs.steps.ConfirmedPackets.{borne-pair}
use Rattle.urb_world.specs.World.{stored}

-- ---- what nodes hold, their senders hold

module _ (w : World) (sound : Sound w) (p : ℕ) (x : Label) where
  -- the sender knows the name, with the record that it holds
  abbrev SenderKnows : Type 0
  SenderKnows = knows (whole x.sender (w.node x.sender)).records x ≡ true

  there : knows (stored w p) x ≡ true → SenderKnows
  there h =
      whole-knows x.sender (w.node x.sender) (w.node x.sender).state x (known-sender w sound p x h)

  module _ (other : (x.sender == p) ≡ false) where
    by_pair : (y : Label) (o : Content) (records : List Entry) → y ≡ x
        → (if y.sender == p then true else has_pair
        (pend (updated (stored w) p records y.sender)) y o) ≡ true → SenderKnows
    by_pair y o records e c =
        whole-knows x.sender (w.node x.sender) (w.node x.sender).state x
        (knows-pair (stored w x.sender) x o
        (subst (λ (rs : List Entry). has_pair (pend rs) x o ≡ true)
        (cond-false (x.sender == p) records (stored w x.sender) other)
        (sym (cond-false (x.sender == p) true
        (has_pair (pend (updated (stored w) p records x.sender)) x o) other)
        ∙ subst (λ (v : Label). (if v.sender == p then true else has_pair
        (pend (updated (stored w) p records v.sender)) v o) ≡ true) e c)))

    by_record : (r : Entry) → knows (stored w p ++ r ∷ []) x ≡ true
        → keeps_c (updated (stored w) p (stored w p ++ r ∷ [])) p r ≡ true → SenderKnows
    by_record (Cert y) k c =
        there (subst (λ (ps : List (Label × Content)). is_some (message_of ps x) ≡ true)
        (pend-append (stored w p) (Cert y ∷ []) ∙ append-nil (pend (stored w p))) k)
    by_record (Pend y o) k c =
        ⊎_elim there (λ e. by_pair y o (stored w p ++ Pend y o ∷ []) e c)
        (only-joined (pend (stored w p)) y x o
        (subst (λ (ps : List (Label × Content)). is_some (message_of ps x) ≡ true)
        (pend-append (stored w p) (Pend y o ∷ [])) k))
    by_record (PendCert y o) k c =
        ⊎_elim there (λ e. by_pair y o (stored w p ++ PendCert y o ∷ []) e c)
        (only-joined (pend (stored w p)) y x o
        (subst (λ (ps : List (Label × Content)). is_some (message_of ps x) ≡ true)
        (pend-append (stored w p) (PendCert y o ∷ [])) k))

    by_state : (s : State) → StateKept w.size (stored w) p (stored w p) s
        → knows (settled p (w.node p) s).records x ≡ true → SenderKnows
    by_state Ready h k = there k
    by_state (Down doubtful) h k = there k
    by_state (Storing r cause) h k = by_record r k h.0.c

  -- if a node knows a name, also by the record that it holds, the name's sender knows it
  pub whole-sender : knows (whole p (w.node p)).records x ≡ true → SenderKnows
  whole-sender k =
      ⊎_elim (λ e. subst (λ (i : ℕ). knows (whole i (w.node i)).records x ≡ true)
      (sym (eqb-true x.sender p e)) k)
      (λ other. by_state other (w.node p).state (sound.kept.nodes p).state k)
      (cases_Bool (x.sender == p))

-- ---- no name is new

module _ (Known : Label → Type 0) where
  -- each node is up, and the names that it knows, also by the record that it holds, are among these
  pub record Names (u : World) : Type 0 where
    -- the world is sound
    pub sound : Sound u
    -- each node is up
    pub up : (p : ℕ) → is_node u.size.n p ≡ true → is_down (u.node p).state ≡ false
    -- each name that a node knows, also by the record that it holds, is among these
    pub only : (p : ℕ) → is_node u.size.n p ≡ true → (x : Label)
        → knows (whole p (u.node p)).records x ≡ true → Known x

  cursor-only : (p : ℕ) (node : Node) (c : _) (s : State) (x : Label)
      → knows (settled p (record node { cursor = c }) s).records x ≡ true
      → knows (settled p node s).records x ≡ true
  cursor-only p node c (Storing entry cause) x h = h
  cursor-only p node c s x h = h

  arrive-only : (u : World) → Names u → (p : ℕ) (packet : Carried)
      → IsDone (step u (Arrive p (Ok packet))).0 → is_node u.size.n p ≡ true
      → (x : Label) → knows (whole p ((step u (Arrive p (Ok packet))).1.node p)).records x ≡ true
      → Known x
  arrive-only u n p packet d is x k =
      ⊎_elim (λ e. n.only p is x (subst (λ (node : Node). knows node.records x ≡ true)
      (sym (ap (settled p (u.node p)) arrived.ready)) e))
      (λ e. subst Known e (n.only packet.source arrived.source packet.name
      (whole-knows packet.source (u.node packet.source) (u.node packet.source).state packet.name
      (knows-pair (stored u packet.source) packet.name packet.message
      (borne-pair (stored u packet.source) packet arrived.truth)))))
      ((took u n.sound p packet d).settles.only x
      (subst (λ (new : Node). knows (whole p new).records x ≡ true)
      (node-is u n.sound p packet d) k))
    where
      arrived : Arrived u p packet (step u (Arrive p (Ok packet)))
      arrived = arrive-done u p packet d

  here-only : (u : World) → Names u → (event : Event) → IsQuiet event → IsDone (step u event).0
      → is_node u.size.n (event_node event) ≡ true
      → (x : Label) → knows (whole (event_node event)
      ((step u event).1.node (event_node event))).records x ≡ true → Known x
  unfolding step
  here-only u n (Arrive p (Err fault)) h d is x k = absurd d
  here-only u n (Arrive p (Ok packet)) h d is x k = arrive-only u n p packet d is x k
  here-only u n (Tick p) h d is x k =
      n.only p is x
      (cursor-only p (u.node p) (resends u.size.n p (u.node p)).1.cursor (u.node p).state x
      (subst (λ (new : Node). knows (whole p new).records x ≡ true) (tick-node u p d) k))
  here-only u n (Commit p position entry) h d is x k =
      at-node-done u p (commits u.size.n p position entry (u.node p) (u.node p).state)
      (λ (new : Node). knows (whole p new).records x ≡ true → Known x)
      (λ e l. n.only p is x (subst (λ (node : Node). knows node.records x ≡ true)
      (commit-whole u.size.n p position entry (u.node p) e) l)) d k
  here-only u n (Restart p image) h d is x k =
      at-node-done u p (restarts p image (u.node p) (u.node p).state)
      (λ (new : Node). knows (whole p new).records x ≡ true → Known x)
      (λ e. absurd (restart-not p image (u.node p) (u.node p).state (n.up p is) e)) d k
  here-only u n event h d is x k = absurd h

  step-names : (u : World) → Names u → (event : Event) → IsQuiet event → IsDone (step u event).0
      → Names (step u event).1
  unfolding run
  step-names u n event h d = record {
    sound = run-sound u (event ∷ []) n.sound;
    up =
        λ p is. (step-hears u event p (quiet-no_failure event h) d (n.up p (back p is))).up;
    only =
        λ p is. only p (back p is);
  }
    where
      back : (p : ℕ) → is_node (step u event).1.size.n p ≡ true → is_node u.size.n p ≡ true
      back p is = subst (λ (size : Limits). is_node size.n p ≡ true) (step-size u event) is

      only : (p : ℕ) → is_node u.size.n p ≡ true → (x : Label)
          → knows (whole p ((step u event).1.node p)).records x ≡ true → Known x
      only p is x k =
          ⊎_elim
          (λ f. let same : p ≡ event_node event = eqb-true p (event_node event) f in
          here-only u n event h d (subst (λ (i : ℕ). is_node u.size.n i ≡ true) same is) x
          (subst (λ (i : ℕ). knows (whole i ((step u event).1.node i)).records x ≡ true)
          same k))
          (λ f. n.only p is x (subst (λ (node : Node). knows (whole p node).records x ≡ true)
          (step-elsewhere u event p f) k)) (cases_Bool (p == event_node event))

  -- events that proceed quietly bring nodes that are up no names but these
  pub run-names : (events : List Event) (u : World) → Names u → ProceedsQuietly u events
      → Names (after u events)
  unfolding run
  run-names [] u n goes = n
  run-names (event ∷ events) u n goes =
      run-names events (step u event).1 (step-names u n event goes.0 goes.1) goes.2
