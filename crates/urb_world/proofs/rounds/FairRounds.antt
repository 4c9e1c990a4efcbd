-- The laws of rounds. Two busy rounds deliver what was stored before them. Two rounds in which
-- nothing is submitted deliver everything, because no name is new.
use Rattle.urb_world.proofs.Common.{Act, AllDelivered, AllUp, AreUp, Bool, Event, HasDeliveredHeld}
use Rattle.urb_world.proofs.Common.{IsBusyRound, IsBusyRoundAmong, IsNotStranded, IsReached}
use Rattle.urb_world.proofs.Common.{IsRound, IsRoundAmong, IsUnbroken, IsUndisturbed, Label, Limits}
use Rattle.urb_world.proofs.Common.{List, Ready, World, acts_of, after, and_parts, arith, cert}
use Rattle.urb_world.proofs.Common.{has_name, is_node, ltb-true, majority_passes, nat_lt, subst}
use Rattle.urb_world.proofs.Common.{suc, sym, true, ℕ, ◌∙◌, ◌≡◌}
use Rattle.urb_world.proofs.recovery.FullDelivery.{all-majority, reached-sound}
use Rattle.urb_world.proofs.recovery.CertifiedNames.{AllCertified, certified-delivered}
use Rattle.urb_world.proofs.recovery.CountedArrivals.{knows}
use Rattle.urb_world.proofs.recovery.NodeLists.{sender-node}
use Rattle.urb_world.proofs.recovery.ContinuedWorlds.{Sound, known-sender, run-sound}
use Rattle.urb_world.proofs.rounds.BusyRounds.{certified-at, held-delivered, round-busy}
use Rattle.urb_world.proofs.rounds.BusyRounds.{stored-messages, stored-names}
use Rattle.urb_world.proofs.rounds.KnownNames.{Names, run-names, whole-sender}
use Rattle.urb_world.proofs.rounds.ProceedingEvents.{Proceeding, Proceeds, ProceedsQuietly}
use Rattle.urb_world.proofs.rounds.ProceedingEvents.{proceeding, quietly-proceeds}
use Rattle.urb_world.proofs.rounds.ProceedingEvents.{undisturbed-unbroken}
use Rattle.urb_world.proofs.rounds.LastingCounts.{run-size}
use Rattle.urb_world.proofs.rounds.WholeNodes.{whole, whole-knows}
use Rattle.urb_world.specs.Rounds.{HasDeliveredStored, HaveDeliveredHeld, ReadyHaveDelivered}
use Rattle.urb_world.specs.World.{stored}

-- ---- all nodes

-- all nodes are a majority
nodes-majority : (w : World) (q : ℕ) → is_node w.size.n q ≡ true
    → majority_passes w.size.n (is_node w.size.n) ≡ true
nodes-majority w q is =
    all-majority w.size.n (is_node w.size.n)
    (let parts = and_parts (nat_lt 0 q) (nat_lt q (suc w.size.n)) is in let low =
    ltb-true 0 q parts.0 in let high = ltb-true q (suc w.size.n) parts.1 in
    omega (arith, low, high))
    (λ p at. at)

module _ (w : World) (sound : Sound w) (free : IsNotStranded w) (up : AllUp w)
    (first : List Event) (goes_first : ProceedsQuietly w first)
    (one : IsRoundAmong (is_node w.size.n) (acts_of w first) (after w first))
    (second : List Event) (goes_second : ProceedsQuietly (after w first) second)
    (two : IsRoundAmong (is_node w.size.n) (acts_of (after w first) second)
    (after (after w first) second)) where
  abbrev end : World
  end = after (after w first) second

  abbrev Known : Label → Type 0
  Known x = knows (whole x.sender (w.node x.sender)).records x ≡ true

  ends : Sound end
  ends = run-sound (after w first) second (run-sound w first sound)

  same-size : end.size ≡ w.size
  same-size = run-size second (after w first) ∙ run-size first w

  back : (p : ℕ) → is_node end.size.n p ≡ true → is_node w.size.n p ≡ true
  back p is = subst (λ (size : Limits). is_node size.n p ≡ true) same-size is

  old-names : Names Known end
  old-names =
      run-names Known second (after w first)
      (run-names Known first w (record
      { sound = sound; up = up; only = λ p is x k. whole-sender w sound p x k }) goes_first)
      goes_second

  -- every name that a node knows is certified at every node
  known-certified : (s q : ℕ) → is_node end.size.n s ≡ true → is_node end.size.n q ≡ true
      → (x : Label) → knows (stored end s) x ≡ true → has_name (cert (stored end q)) x ≡ true
  known-certified s q _ is x k =
      certified-at (is_node w.size.n) w sound free most (λ p at. (at, up p at)) first
      (quietly-proceeds first w goes_first)
      (round-busy (is_node w.size.n) (acts_of w first) (after w first) one) second
      (quietly-proceeds second (after w first) goes_second)
      (round-busy (is_node w.size.n) (acts_of (after w first) second) end two) x.sender q
      (back x.sender sender) (back q is) (two.settled q (back q is)) x
      (old-names.only x.sender sender x
      (whole-knows x.sender (end.node x.sender) (end.node x.sender).state x
      (known-sender end ends s x k)))
    where
      sender : is_node end.size.n x.sender ≡ true
      sender = sender-node end ends s x k

      most : majority_passes w.size.n (is_node w.size.n) ≡ true
      most = nodes-majority w q (back q is)

  all-certified : AllCertified end
  all-certified = record {
    sound = ends;
    ready = λ p is. two.settled p (back p is);
    certified =
        known-certified;
  }

-- ---- the laws

-- rounds of lists of events, of which some may be refused
module _ (Round : List Act → World → Type 0)
    (unbroken : (acts : List Act) (end : World) → Round acts end → IsUnbroken acts) where
  module _ (w : World) (events : List Event) (round : Round (acts_of w events) (after w events))
    where
      rest : Proceeding w events
      rest = proceeding events w (unbroken (acts_of w events) (after w events) round)

      round-rest : Round (acts_of w rest.list) (after w rest.list)
      round-rest =
          subst (λ (v : World). Round (acts_of w rest.list) v) (sym rest.leads)
          (subst (λ (list : List Act). Round list (after w events)) (sym rest.acts) round)

  -- If a statement holds after any two rounds whose events all proceed, it holds after any two
  -- rounds.
  both : (w : World) (first second : List Event)
      → Round (acts_of w first) (after w first)
      → Round (acts_of (after w first) second) (after (after w first) second)
      → (P : World → Type 0)
      → ((xs : List Event) → Proceeds w xs
      → (IsUndisturbed (acts_of w first) → ProceedsQuietly w xs)
      → Round (acts_of w xs) (after w xs)
      → (ys : List Event) → Proceeds (after w xs) ys
      → (IsUndisturbed (acts_of (after w first) second) → ProceedsQuietly (after w xs) ys)
      → Round (acts_of (after w xs) ys) (after (after w xs) ys)
      → P (after (after w xs) ys)) → P (after (after w first) second)
  both w first second one two P h =
      subst P b.leads
      (subst (λ (u : World). P (after u b.list)) a.leads
      (h a.list a.proceeds a.quietly (round-rest w first one) b.list
      (subst (λ (u : World). Proceeds u b.list) (sym a.leads) b.proceeds)
      (λ calm. subst (λ (u : World). ProceedsQuietly u b.list) (sym a.leads) (b.quietly calm))
      (subst (λ (u : World). Round (acts_of u b.list) (after u b.list)) (sym a.leads)
      (round-rest (after w first) second two))))
    where
      a : Proceeding w first
      a = rest w first one

      b : Proceeding (after w first) second
      b = rest (after w first) second two

-- two busy rounds among some nodes
module _ (among : ℕ → Bool) (w : World) (first second : List Event) (reached : IsReached w)
    (free : IsNotStranded w) (most : majority_passes w.size.n among ≡ true) (up : AreUp among w)
    (one : IsBusyRoundAmong among (acts_of w first) (after w first))
    (two : IsBusyRoundAmong among (acts_of (after w first) second) (after (after w first) second))
  where
    abbrev last : World
    last = after (after w first) second

    -- after two busy rounds among a majority, each of its ready nodes has delivered, for each
    -- sender, the first messages that they had stored
    pub busy-among : (q : ℕ) → among q ≡ true → (last.node q).state ≡ Ready
        → HasDeliveredHeld among w last q
    busy-among q to =
        both (λ acts z. IsBusyRoundAmong among acts z) (λ acts z round. round.unbroken) w first second
        one two (λ z. (z.node q).state ≡ Ready → HasDeliveredHeld among w z q)
        (λ xs goes _ a ys onward _ b ready. held-delivered among w (reached-sound w reached) free
        most up xs goes a ys onward b q to ready)

    busy-stored : (q : ℕ) → among q ≡ true → (last.node q).state ≡ Ready
        → ((s : ℕ) → is_node w.size.n s ≡ true → among s ≡ true) → HasDeliveredStored w last q
    busy-stored q to =
        both (λ acts z. IsBusyRoundAmong among acts z) (λ acts z round. round.unbroken) w first second
        one two (λ z. (z.node q).state ≡ Ready
        → ((s : ℕ) → is_node w.size.n s ≡ true → among s ≡ true) → HasDeliveredStored w z q)
        (λ xs goes _ a ys onward _ b ready all. record {
          names =
              λ s is. stored-names among w (reached-sound w reached) free most up xs goes a ys
              onward b q to ready s (all s is);
          messages =
              λ s is. stored-messages among w (reached-sound w reached) free most up xs goes a ys
              onward b q to ready s (all s is);
        })

-- after two busy rounds of all nodes, each ready node has delivered all messages that were stored
-- before
pub two-busy-rounds : (w : World) (first second : List Event) → IsReached w → IsNotStranded w
    → AllUp w → IsBusyRound w first → IsBusyRound (after w first) second
    → ReadyHaveDelivered w (after (after w first) second)
two-busy-rounds w first second reached free up one two q is ready =
    busy-stored (is_node w.size.n) w first second reached free (nodes-majority w q is)
    (λ p at. (at, up p at)) one
    (subst (λ (size : Limits). IsBusyRoundAmong (is_node size.n) (acts_of (after w first) second)
    (after (after w first) second)) (run-size first w) two)
    q is ready (λ s at. at)

-- after two rounds among a majority, each of its nodes has delivered, for each sender, the first
-- messages that they had stored
pub two-among : (among : ℕ → Bool) (w : World) (first second : List Event) → IsReached w
    → IsNotStranded w → majority_passes w.size.n among ≡ true → AreUp among w
    → IsRoundAmong among (acts_of w first) (after w first)
    → IsRoundAmong among (acts_of (after w first) second) (after (after w first) second)
    → HaveDeliveredHeld among w (after (after w first) second)
two-among among w first second reached free most up one two q to =
    busy-among among w first second reached free most up
    (round-busy among (acts_of w first) (after w first) one)
    (round-busy among (acts_of (after w first) second) (after (after w first) second) two)
    q to (two.settled q to)

-- after two rounds of all nodes, each node has certified each name that some node knows
pub two-rounds-certify : (w : World) (first second : List Event) → IsReached w → IsNotStranded w
    → AllUp w → IsRound w first → IsRound (after w first) second
    → AllCertified (after (after w first) second)
two-rounds-certify w first second reached free up one two =
    both (λ acts z. IsRoundAmong (is_node w.size.n) acts z)
    (λ acts z round. undisturbed-unbroken acts round.undisturbed) w first second one here
    AllCertified
    (λ xs _ calm a ys _ gentle b. all-certified w (reached-sound w reached) free up xs
    (calm one.undisturbed) a ys (gentle two.undisturbed) b)
  where
    here : IsRoundAmong (is_node w.size.n) (acts_of (after w first) second)
        (after (after w first) second)
    here =
        subst (λ (size : Limits). IsRoundAmong (is_node size.n) (acts_of (after w first) second)
        (after (after w first) second)) (run-size first w) two

-- after two rounds of all nodes, each node has delivered all messages that storages took
pub two-rounds : (w : World) (first second : List Event) → IsReached w → IsNotStranded w → AllUp w
    → IsRound w first → IsRound (after w first) second → AllDelivered (after (after w first) second)
two-rounds w first second reached free up one two =
    certified-delivered (after (after w first) second)
    (two-rounds-certify w first second reached free up one two)
