-- A round of one node. Each other node then knows what it knew, and has counted it for each name or
-- certified the name.
use Rattle.urb_world.proofs.Common.{AllByRecursion, AllIn, Carried, Content, IsFrom, Label, Limits}
use Rattle.urb_world.proofs.Common.{List, Node, Ready, Some, World, acked, after, all-from, ap}
use Rattle.urb_world.proofs.Common.{arith, bears_out, carries, cases_Bool, cert, each, eqb-true}
use Rattle.urb_world.proofs.Common.{false, false≢true, has_name, has_pair, in_due, in_itself}
use Rattle.urb_world.proofs.Common.{in_rising, inl, inr, is_node, is_some, kept-held, length, nodes}
use Rattle.urb_world.proofs.Common.{pend, refl, rising, round_of, rounds, run, slice_get, subst}
use Rattle.urb_world.proofs.Common.{sym, true, ℕ, ⊎_elim, ◌++◌, ◌==◌, ◌∙◌, ◌≡◌, ◌≤◌, ◌⊎◌}
use Rattle.urb_world.proofs.recovery.CarriedPackets.{Carriable, IsToldBy, all-carried, moved-each}
use Rattle.urb_world.proofs.ticks.DuePairs.{due-few, due-rises, in-due}
use Rattle.urb_world.proofs.steps.Growth.{run-goes_on}
use Rattle.urb_world.proofs.recovery.ContinuedWorlds.{Calm, CountsAt, Onward, known-pair}
use Rattle.urb_world.proofs.recovery.ContinuedWorlds.{known-sender, known-stays, knows-pair}
use Rattle.urb_world.proofs.recovery.ContinuedWorlds.{node-stays, onward-further, onward-still}
use Rattle.urb_world.proofs.recovery.ContinuedWorlds.{run-sound, truth-stays}
use Rattle.urb_world.proofs.recovery.EventPlans.{Course, Reaches, reaches-append, reaches-each}
use Rattle.urb_world.proofs.recovery.EventPlans.{reaches-weaker}
use Rattle.urb_world.proofs.recovery.CountedArrivals.{Counts, certified-counts, knows}
use Rattle.urb_world.proofs.ticks.Membership.{IsIn, all-in, in-all, in-place, in-right}
use Rattle.urb_world.proofs.recovery.TickPackets.{Ticks, due_pairs, resent_packets, tick_events}
use Rattle.urb_world.proofs.recovery.TickPackets.{ticks-go}
use Rattle.urb_world.proofs.steps.ConfirmedPackets.{to_borne}
use Rattle.urb_world.proofs.ticks.TickCoverage.{all-turn, cursor_after, in-turns, turns}
use Rattle.urb_world.specs.RecoveryPlans.{packets_of}
use Rattle.urb_world.specs.World.{stored}
use Rattle.urb_world.proofs.recovery.NodeLists.{ToNode, in-nodes, in-others, nodes-in, packet-in}
use Rattle.urb_world.proofs.recovery.NodeLists.{packet_to, resent-to_nodes, sender-node}

-- ---- the ticks

module _ (w : World) (calm : Calm w) (p : ℕ) (is : is_node w.size.n p ≡ true) (count : ℕ) where
  -- p can tick this often, and it sends its due pairs in their turn
  pub ticks : Ticks p count (w.node p) w
  ticks = ticks-go p count (w.node p) w refl (calm.ready p is) is

  abbrev pub v : World
  v = after w (tick_events p count)

  abbrev pub packets : List Carried
  packets = packets_of w (tick_events p count)

  abbrev due : List (Label × Content)
  due = due_pairs w.size.n p (w.node p)

  abbrev sent_pairs : List (Label × Content)
  sent_pairs = turns count (w.node p).cursor due

  ticked-each : (P : ℕ → Node → Type 0)
      → P p (record (w.node p) { cursor = cursor_after count (w.node p).cursor due })
      → ((q : ℕ) → P q (w.node q)) → (q : ℕ) → P q (v.node q)
  ticked-each =
      moved-each w p (record (w.node p) { cursor = cursor_after count (w.node p).cursor due })
      v ticks.moved

  -- the world after the ticks goes on from the world before
  pub onward-ticks : Onward w v
  onward-ticks =
      record {
        size = ticks.moved.size;
        records =
            (run-goes_on w v (tick_events p count) (run w (tick_events p count)).0 refl).records;
        counts =
            λ q x z h. subst (λ (size : Limits).
            Counts size.n (v.node q).records (v.node q).acks x z) (sym ticks.moved.size)
            (ticked-each (λ i node. CountsAt w i x z → Counts w.size.n node.records node.acks x z)
            (λ k. k) (λ i k. k) q h);
        sent = ticks.moved.sent;
        only =
            λ q x. ticked-each (λ i node. knows node.records x ≡ true
            → knows (stored w x.sender) x ≡ true) (λ h. known-sender w calm.sound p x h)
            (λ i h. known-sender w calm.sound i x h) q;
      }

  -- all nodes are ready after the ticks
  pub calm-ticks : Calm v
  calm-ticks =
      record {
        sound = run-sound w (tick_events p count) calm.sound;
        ready =
            λ q here. ticked-each (λ i node. is_node w.size.n i ≡ true → node.state ≡ Ready)
            (λ _. calm.ready p is) (λ i. calm.ready i) q
            (subst (λ (size : Limits). is_node size.n q ≡ true) ticks.moved.size here);
      }

  pairs-stored : AllIn (pend (stored w p)) sent_pairs
  pairs-stored =
      in-turns (pend (stored w p)) count (w.node p).cursor due
      (in_due (pend (stored w p)) w.size.n p (w.node p).heard (rising (pend (stored w p)))
      (in_rising (pend (stored w p)) (pend (stored w p)) (in_itself (pend (stored w p)))))

  -- each packet of the ticks may be carried
  pub may-carry : AllByRecursion (Carriable v) packets
  may-carry = all-in (Carriable v) packets one
    where
      one : (packet : Carried) → IsIn packet packets → Carriable v packet
      one packet h =
          record {
            source =
                node-stays w v onward-ticks packet.source
                (subst (λ (i : ℕ). is_node w.size.n i ≡ true) (sym from.source) is);
            target =
                node-stays w v onward-ticks packet.target
                (in-all (ToNode w.size.n) packet (resent_packets w.size.n p (w.node p) sent_pairs)
                (resent-to_nodes w.size.n p (w.node p) sent_pairs) stands);
            sender =
                node-stays w v onward-ticks packet.name.sender
                (sender-node w calm.sound p packet.name
                (knows-pair (stored w p) packet.name packet.message from.pair));
            truth =
                truth-stays w v onward-ticks packet
                (subst (λ (i : ℕ). bears i) (sym from.source)
                (to_borne (stored w p) packet from.pair from.certificate));
            sent =
                subst (λ (all : List Carried). (i : ℕ) × (slice_get all i ≡ Some packet))
                (sym ticks.sent) (in-place packet (w.sent ++ packets)
                (in-right packet w.sent packets h));
          }
        where
          stands : IsIn packet (resent_packets w.size.n p (w.node p) sent_pairs)
          stands = subst (IsIn packet) ticks.packets h

          from : IsFrom p (pend (stored w p)) (cert (stored w p)) packet
          from =
              in-all (IsFrom p (pend (stored w p)) (cert (stored w p))) packet
              (resent_packets w.size.n p (w.node p) sent_pairs)
              (all-from w.size.n p (pend (stored w p)) (cert (stored w p))
              (w.node p).heard sent_pairs pairs-stored) stands

          bears : ℕ → Type 0
          bears i = bears_out (stored w i) packet ≡ true

  -- ---- what the others hear

  -- if q's certificate of a name was heard, the name is certified at q
  module _ (q : ℕ) (x : Label) (heard : acked (w.node p).heard x q ≡ true) where
    certified-there : has_name (cert (stored w q)) x ≡ true
    certified-there = (calm.sound.live.nodes p).heard x q heard

    heard-known : knows (stored w q) x ≡ true
    heard-known =
        let held =
        kept-held w.size (stored w) q (stored w q)
        (calm.sound.kept.nodes q).kept x certified-there in
        ap is_some held.1

    heard-counts : CountsAt w q x p
    heard-counts = certified-counts w.size.n (stored w q) (w.node q).acks x p certified-there

  -- a name whose certificate was not heard from q is sent to q
  module _ (q : ℕ) (x : Label) (m : Content) (there : is_node w.size.n q ≡ true)
      (other : (q == p) ≡ false) (unheard : acked (w.node p).heard x q ≡ false)
      (held : has_pair (pend (stored w p)) x m ≡ true)
      (many : length (pend (stored w p)) ≤ count) where
    has-turn : IsIn (x, m) sent_pairs
    has-turn =
        all-turn due (due-rises w.size (stored w) p (stored w p)
        (calm.sound.kept.nodes p).kept w.size.n p (w.node p).heard) count (w.node p).cursor
        (x, m)
        (let few = due-few w.size.n p (w.node p).heard (pend (stored w p)) in
        omega (arith, few, many))
        (in-due w.size.n p q (w.node p).heard (pend (stored w p)) x m
        (in-others w.size.n p q there other) unheard held)

    was-sent : IsIn (packet_to w p q x m) packets
    was-sent =
        subst (IsIn (packet_to w p q x m)) (sym ticks.packets)
        (packet-in w p q x m other unheard there sent_pairs has-turn)

    told-others : (u : World) → AllByRecursion (λ packet. IsToldBy packet u) packets
        → (knows (stored u q) x ≡ true) × CountsAt u q x p
    told-others u told =
        let one = in-all (λ c. IsToldBy c u) (packet_to w p q x m) packets told was-sent in
        (one.known, one.counted)

-- ---- the round

-- a round of p ticks as often as it has pending names
abbrev count_of : World → ℕ → ℕ
count_of w p = length (pend (stored w p))

-- these are the names that each node is to send
module _ (K : ℕ → Label → Type 0) where
  -- p is a node, and knows its names
  pub record KnowsNames (p : ℕ) (w : World) : Type 0 where
    -- p is a node of the group
    pub node : is_node w.size.n p ≡ true
    -- p knows each of its names
    pub names : (x : Label) → K p x → knows (stored w p) x ≡ true

  -- every node knows them, and every other node has counted p for each name or certified it
  pub record HasTold (p : ℕ) (v : World) : Type 0 where
    -- every node knows each of p's names
    pub known : (q : ℕ) → is_node v.size.n q ≡ true → (x : Label) → K p x
        → knows (stored v q) x ≡ true
    -- every other node has counted p for each of these names, or certified the name
    pub counted : (q : ℕ) → is_node v.size.n q ≡ true → (q == p) ≡ false → (x : Label) → K p x
        → CountsAt v q x p

  round-reaches : (p : ℕ) (w : World) → Calm w → KnowsNames p w
      → Reaches (λ u. Calm u × Onward w u × HasTold p u) w (round_of p w)
  round-reaches p w calm h =
      reaches-append (λ u. Unit {0}) _ w (tick_events p (count_of w p))
      (each carries (packets w calm p h.node (count_of w p)) (v w calm p h.node (count_of w p)))
      (record { goes = (ticks w calm p h.node (count_of w p)).goes; leads = tt })
      (λ _. reaches-weaker _ _ (v w calm p h.node (count_of w p))
      (each carries (packets w calm p h.node (count_of w p)) (v w calm p h.node (count_of w p)))
      after-round
      (all-carried (packets w calm p h.node (count_of w p)) (v w calm p h.node (count_of w p))
      (calm-ticks w calm p h.node (count_of w p)) (may-carry w calm p h.node (count_of w p))))
    where
      after-round : (u : World) → Calm u × Onward (v w calm p h.node (count_of w p)) u
          × AllByRecursion (λ packet. IsToldBy packet u) (packets w calm p h.node (count_of w p))
          → Calm u × Onward w u × HasTold p u
      after-round u r = (
        r.0,
        onward,
        record {
          known =
              λ q is x k. (at q is x k (cases_Bool (q == p))).0;
          counted =
              λ q is other x k. (at q is x k (inr other)).1 other;
        },
      )
        where
          onward : Onward w u
          onward =
              onward-further w (v w calm p h.node (count_of w p)) u
              (onward-ticks w calm p h.node (count_of w p)) r.1

          at : (q : ℕ) → is_node u.size.n q ≡ true → (x : Label) → K p x
              → ((q == p) ≡ true) ⊎ ((q == p) ≡ false)
              → (knows (stored u q) x ≡ true) × ((q == p) ≡ false → CountsAt u q x p)
          at q is x k (inl same) = (
            known-stays w u onward q x (subst (λ (i : ℕ). knows (stored w i) x ≡ true)
                (sym (eqb-true q p same)) (h.names x k)),
            λ other. absurd (false≢true (sym other ∙ same)),
          )
          at q is x k (inr other) =
              ⊎_elim by_heard unheard (cases_Bool (acked (w.node p).heard x q))
            where
              there : is_node w.size.n q ≡ true
              there = subst (λ (size : Limits). is_node size.n q ≡ true) onward.size is

              by_heard : acked (w.node p).heard x q ≡ true
                  → (knows (stored u q) x ≡ true) × ((q == p) ≡ false → CountsAt u q x p)
              by_heard e = (
                known-stays w u onward q x (heard-known w calm p h.node (count_of w p) q x e),
                λ _. onward.counts q x p (heard-counts w calm p h.node (count_of w p) q x e),
              )

              unheard : acked (w.node p).heard x q ≡ false
                  → (knows (stored u q) x ≡ true) × ((q == p) ≡ false → CountsAt u q x p)
              unheard e =
                  let pair = known-pair (stored w p) x (h.names x k) in
                  let told =
                  told-others w calm p h.node (count_of w p) q x pair.0 there other e pair.1
                  (omega arith) u r.2 in
                  (told.0, λ _. told.1)

  knows-stays : (p : ℕ) (v w : World) → Onward v w → KnowsNames p v → KnowsNames p w
  knows-stays p v w o h = record
      { node = node-stays v w o p h.node; names = λ x k. known-stays v w o p x (h.names x k) }

  told-stays : (p : ℕ) (v w : World) → Onward v w → HasTold p v → HasTold p w
  told-stays p v w o h =
      record {
        known = λ q is x k. known-stays v w o q x (h.known q (back q is) x k);
        counted = λ q is other x k. o.counts q x p (h.counted q (back q is) other x k);
      }
    where
      back : (q : ℕ) → is_node w.size.n q ≡ true → is_node v.size.n q ≡ true
      back q is = subst (λ (size : Limits). is_node size.n q ≡ true) o.size is

  telling : Course round_of Calm Onward (λ p w. KnowsNames p w) (λ p w. HasTold p w)
  telling = record {
    one = λ p w calm h. round-reaches p w calm h;
    still = onward-still;
    further =
        onward-further;
    before = knows-stays;
    after = told-stays;
  }

  -- rounds of all nodes: each sends its names to all others
  pub rounds-reach : (w : World) → Calm w
      → ((p : ℕ) → is_node w.size.n p ≡ true → (x : Label) → K p x → knows (stored w p) x ≡ true)
      → Reaches (λ u. Calm u × Onward w u × ((p : ℕ) → is_node w.size.n p ≡ true → HasTold p u)) w
      (rounds w)
  rounds-reach w calm h =
      reaches-weaker _ _ w (rounds w)
      (λ u r. (
        r.0,
        r.1,
        λ p is. in-all (λ i. HasTold i u) p (nodes w.size.n) r.2
            (in-nodes w.size.n p is),
      ))
      (reaches-each round_of Calm Onward (λ p v. KnowsNames p v) (λ p v. HasTold p v) telling
      (nodes w.size.n) w calm
      (all-in (λ p. KnowsNames p w) (nodes w.size.n)
      (λ p k. record { node = nodes-in w.size.n p k; names = h p (nodes-in w.size.n p k) })))
