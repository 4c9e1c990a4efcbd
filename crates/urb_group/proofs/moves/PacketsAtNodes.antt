-- A packet that comes to a node of a group: whether it is truthful, and what it leads to.
use Rattle.urb_group.proofs.Common.{AreEnds, Arrive, ArrivesAt, Bool, Carried, Content, Err}
use Rattle.urb_group.proofs.Common.{FindsMessage, GroupView, IsGroup, IsRefused, Label, Limits}
use Rattle.urb_group.proofs.Common.{List, MayArrive, NodeView, None, Ok, Refusal, Refused, Result}
use Rattle.urb_group.proofs.Common.{Shows, ShowsAt, Some, Taken, Takes, World, and_parts, ap, arith}
use Rattle.urb_group.proofs.Common.{arrives_as, at_node, cert, cond, cond-true, false, has_name}
use Rattle.urb_group.proofs.Common.{has_pair, has_pair-found, is_for_node, is_node, map, memory_in}
use Rattle.urb_group.proofs.Common.{no_view, not, pend, refl, set, shown, slice_get, slice_index_or}
use Rattle.urb_group.proofs.Common.{stored, subst, suc, sym, true, truthful, view_at, view_of, ℕ}
use Rattle.urb_group.proofs.Common.{◌&&◌, ◌<◌, ◌||◌, ◌∙◌, ◌≡◌, ◌≤◌}
use Rattle.std.proofs.Common.{MatchBool}
use Rattle.urb_names.specs.CarriedPackets.{says_certified}
use Rattle.urb_names.specs.declared.refusal.PacketFault.{PacketFault}
use Rattle.urb_stable.proofs.OwnRules.{own-unique}
use Rattle.urb_node.specs.Replies.{Reply}
use Rattle.urb_group.specs.internal.PlaceCalls.{MayReach}
use Rattle.urb_group.specs.internal.PacketTargets.{HoldsPair, IsAsCertified, TellsTruth}
use Rattle.urb_world.specs.Step.{is_for, step}
use Rattle.urb_world.specs.World.{bears_out}
use Rattle.urb_group.specs.declared.node_moves.Node.{Node as Place}
use Rattle.urb_group.proofs.shown.SoundConditions.{arrival-meets}
use Rattle.urb_group.proofs.moves.GroupMoves.{takes}
use Rattle.urb_group.proofs.shown.NodeMoves.{place_shows}
use Rattle.urb_group.proofs.shown.ReplacedElements.{read_mapped}
use Rattle.urb_world.proofs.steps.ConfirmedPackets.{borne-pair}
use Rattle.urb_names.specs.declared.refusal.Refusal.TheVariants as refusal
use Rattle.urb_group.specs.declared.node_moves.Node.TheVariants as place

-- ---- what a node has stored

same_some : (m o : Content) → Some m ≡ Some o → m ≡ o
same_some m o e = cc

-- a node that has a message under the packet's name holds the packet's pair exactly if the messages
-- are equal
pub some_pair : {A : Type 0} (node : Place A) (packet : Carried) (m : Content) (result : Bool)
    → FindsMessage (ShowsAt node) packet.name (Some m)
    → MatchBool result (m ≡ packet.message) (¬ (m ≡ packet.message))
    → HoldsPair node packet result
some_pair node packet m result finds same n s =
    at result (has_pair ps packet.name packet.message) refl same
  where
    ps : List (Label × Content)
    ps = pend n.records

    at : (result b : Bool) → has_pair (pend n.records) packet.name packet.message ≡ b
        → MatchBool result (m ≡ packet.message) (¬ (m ≡ packet.message))
        → result ≡ has_pair (pend n.records) packet.name packet.message
    at true b e h =
        sym (has_pair-found (pend n.records) packet.name packet.message
        (sym (finds n s) ∙ ap Some h))
    at false false e h = sym e
    at false true e h =
        absurd (h (same_some m packet.message
        (finds n s ∙ own-unique (memory_in node).limits
        (memory_in node).node n.records s.rules packet.name packet.message e)))

-- a node that has no message under the packet's name doesn't hold the packet's pair
pub no_pair_held : {A : Type 0} (node : Place A) (packet : Carried)
    → FindsMessage (ShowsAt node) packet.name None → HoldsPair node packet false
no_pair_held node packet finds n s = at (has_pair (pend n.records) packet.name packet.message) refl
  where
    nothing : None ≡ Some packet.message → ⊥
    nothing e = cc

    at : (b : Bool) → has_pair (pend n.records) packet.name packet.message ≡ b
        → false ≡ has_pair (pend n.records) packet.name packet.message
    at false e = sym e
    at true e =
        absurd (nothing (finds n s ∙ own-unique (memory_in node).limits
        (memory_in node).node n.records s.rules packet.name packet.message e))

-- a stored pair and a stored certificate together confirm the packet
pub both_true : {A : Type 0} (node : Place A) (packet : Carried) (b : Bool)
    → HoldsPair node packet true → IsAsCertified node packet b → TellsTruth node packet b
both_true node packet b pair certified n s =
    certified n s ∙ ap (λ (c : Bool). c
    && (not (says_certified packet.flags) || has_name (cert n.records) packet.name)) (pair n s)

-- without a stored pair nothing confirms the packet
pub no_truth : {A : Type 0} (node : Place A) (packet : Carried) → HoldsPair node packet false
    → TellsTruth node packet false
no_truth node packet pair n s =
    ap (λ (c : Bool). c
    && (not (says_certified packet.flags) || has_name (cert n.records) packet.name)) (pair n s)

-- ---- refused before it reaches the node

-- bytes that are no packet are refused with the fault that they have
pub arrive-fault : (group : GroupView) (p : ℕ) (bytes : Result Carried PacketFault)
    (fault : PacketFault) → Err fault ≡ bytes
    → IsRefused group (Arrive p bytes) (refusal.Packet fault) group
unfolding step
arrive-fault group p bytes fault e = (
  λ w s. subst (λ (b : Result Carried PacketFault).
      (step w (Arrive p b)).0 ≡ Refused (refusal.Packet fault)) e (at w),
  refl,
)
  where
    at : (w : World) → (step w (Arrive p (Err fault))).0 ≡ Refused (refusal.Packet fault)
    at w = refl

elsewhere : (a b : Bool) (x : Reply × World) (w : World) → (a && b) ≡ false
    → (cond a (cond b x (Refused refusal.BadNode, w)) (Refused refusal.BadNode, w)).0
    ≡ Refused refusal.BadNode
elsewhere true true x w e = absurd cc
elsewhere true false x w e = refl
elsewhere false b x w e = refl

-- a packet that is not for the node is refused as BadNode
pub arrive-elsewhere : {A : Type 0} (size : Limits) (places : List (Place A)) (p : ℕ)
    (bytes : Result Carried PacketFault) (packet : Carried) → Ok packet ≡ bytes
    → is_for_node size.n p packet ≡ false
    → IsRefused (shown size places) (Arrive p bytes) refusal.BadNode (shown size places)
unfolding step
arrive-elsewhere size places p bytes packet e h = (
  λ w s. subst (λ (b : Result Carried PacketFault).
      (step w (Arrive p b)).0 ≡ Refused refusal.BadNode) e
      (at w (subst (λ (l : Limits). is_for_node l.n p packet ≡ false) s.size h)),
  refl,
)
  where
    at : (w : World) → is_for_node w.size.n p packet ≡ false
        → (step w (Arrive p (Ok packet))).0 ≡ Refused refusal.BadNode
    at w h = elsewhere (is_for w p packet) (is_node w.size.n p) _ w h

-- ---- at the node

arrive-step : (w : World) (p : ℕ) (packet : Carried) (b : Bool) → is_for w p packet ≡ true
    → b ≡ truthful w packet → step w (Arrive p (Ok packet)) ≡ at_node w p
    (arrives_as packet b w.size p (w.node p))
unfolding step
arrive-step w p packet b h e =
    cond-true (is_for w p packet) _ _ h
    ∙ ap (λ (c : Bool). at_node w p (arrives_as packet c w.size p (w.node p))) (sym e)

module _ {A : Type 0} {size : Limits} {places : List (Place A)} (group : IsGroup size places)
    {p i source : ℕ} {packet : Carried} {b : Bool} {from : Place A}
    (ends : AreEnds size.n p packet (source, i)) (was : slice_get places source ≡ Some from)
    (tells : TellsTruth from packet b) where
  -- the test is that of each world
  truth_is : (w : World) → Shows (shown size places) w → b ≡ truthful w packet
  truth_is w s =
      tells (w.node (suc source)) (place_shows size places group source from from was w s)
      ∙ ap (λ (q : ℕ). bears_out (w.node q).records packet) (sym ends.source.0)

  -- a truthful packet may come to the node
  pub may_reach : (node : Place A) → slice_get places i ≡ Some node → MayReach node packet b
  may_reach node at =
      over node (group.placed.each i node at).limits (group.placed.each i node at).number
      (read_mapped view_at places i node no_view at)
    where
      w : World
      w = group.sound.world

      over : (node : Place A) → (memory_in node).limits ≡ size → (memory_in node).node ≡ suc i
          → slice_index_or (map view_at places) i no_view ≡ view_at node → MayReach node packet b
      over (place.Storing h) l k v = tt
      over (place.Down f) l k v = tt
      over (place.Ready a) l k v = λ t.
          let held : has_pair (view_of (shown size places) packet.source).pairs packet.name
          packet.message ≡ true =
          (group.sound.shows.nodes packet.source).pairs packet.name packet.message
          ∙ borne-pair (stored w packet.source) packet
          (sym (truth_is w group.sound.shows) ∙ t) in
          let meets : MayArrive size (suc i)
          (view_of (shown size places) (suc i)).pairs packet.name packet.message =
          arrival-meets (shown size places) group.sound
          (suc i) packet.source packet.name packet.message held in
          let low : source < size.n = ends.source.1 in
          record {
            target = ends.target.0 ∙ (ends.target.1 ∙ sym k);
            source =
                subst (λ (s : Limits). packet.source ≤ s.n) (sym l)
                (subst (λ (q : ℕ). q ≤ size.n) (sym ends.source.0) (omega (arith, low)));
            pair =
                subst (λ (s : Limits). MayArrive s a.node a.pairs packet.name packet.message)
                (sym l)
                (subst (λ (q : ℕ). MayArrive size q a.pairs packet.name packet.message) (sym k)
                (subst (λ (view : NodeView). MayArrive size
                (suc i) view.pairs packet.name packet.message) v meets));
          }

  -- a packet that moves its target's place moves the group, which stays sound
  pub arrive-moved : {new : List (Place A)} {node : Place A} (moved : Place A)
      (bytes : Result Carried PacketFault) → Ok packet ≡ bytes → slice_get places i ≡ Some node
      → new ≡ set places i moved → (result : Result (Taken A) Refusal)
      → ArrivesAt node packet b (moved, result)
      → Takes (shown size places) p (Arrive p bytes) result (shown size new) × IsGroup size new
  arrive-moved {new = new} moved bytes e at back result h =
      subst (λ (read : Result Carried PacketFault).
      Takes (shown size places) p (Arrive p read) result (shown size new) × IsGroup size new) e
      (takes group ends.target.1 moved at back (Arrive p (Ok packet))
      (arrives_as packet b) is result h)
    where
      is : (w : World) → Shows (shown size places) w
          → step w (Arrive p (Ok packet)) ≡ at_node w p (arrives_as packet b w.size p (w.node p))
      is w s =
          arrive-step w p packet b
          (and_parts (is_for w p packet) (is_node w.size.n p)
          (subst (λ (l : Limits). is_for_node l.n p packet ≡ true) s.size ends.is_for)).0
          (truth_is w s)
