-- Worlds in which all nodes are ready, and how one such world goes on from another.
use Rattle.urb_world.proofs.Common.{Begins, Carried, Content, Entry, Event, IsKept, Label, List}
use Rattle.urb_world.proofs.Common.{None, Option, Ready, Some, WasSent, World, after, ap, has_pair}
use Rattle.urb_world.proofs.Common.{has_pair-found, is_node, is_some, message_of, message_of-more}
use Rattle.urb_world.proofs.Common.{no_pair, pend, pend-append, refl, slice_get, some_found, subst}
use Rattle.urb_world.proofs.Common.{sym, true, truthful, ℕ, ◌∙◌, ◌≡◌}
use Rattle.urb_world.proofs.steps.DraftedRecords.{to_sender}
use Rattle.urb_world.proofs.steps.Growth.{begins-itself, begins-trans, certificate-begins}
use Rattle.urb_world.proofs.steps.Growth.{pair-begins}
use Rattle.urb_world.proofs.hearing.LiveWorlds.{WorldLive, run-live}
use Rattle.urb_world.proofs.steps.Runs.{all_kept, run-kept}
use Rattle.urb_world.proofs.recovery.CountedArrivals.{Counts, knows}
use Rattle.urb_world.proofs.steps.ConfirmedPackets.{borne-certificate, borne-pair, to_borne}
use Rattle.urb_world.specs.World.{stored}
use Rattle.urb_names.proofs.Places.{get_stays}

-- what every world of a run keeps
pub record Sound (w : World) : Type 0 where
  -- the world keeps the rules and the limit on payloads
  pub kept : IsKept w
  -- each node of the world is live
  pub live : WorldLive w

-- a sound world is sound after any events
pub run-sound : (w : World) (events : List Event) → Sound w → Sound (after w events)
run-sound w events s = record { kept = run-kept w events s.kept; live = run-live w events s.live }

-- such a world, all of whose nodes are ready
pub record Calm (w : World) : Type 0 where
  -- the world is sound
  pub sound : Sound w
  -- each node is ready
  pub ready : (p : ℕ) → is_node w.size.n p ≡ true → (w.node p).state ≡ Ready

-- node p has counted z for the name, or has certified it
abbrev pub CountsAt : World → ℕ → Label → ℕ → Type 0
CountsAt w p x z = Counts w.size.n (w.node p).records (w.node p).acks x z

-- The second world goes on from the first: more is stored, counted and sent, and no name is new.
pub record Onward (w v : World) : Type 0 where
  -- the limits stay
  pub size : v.size ≡ w.size
  -- each node's records only grow at their end
  pub records : (p : ℕ) → Begins (stored w p) (stored v p)
  -- each node that was counted for a name still is, or the name is certified
  pub counts : (p : ℕ) (x : Label) (z : ℕ) → CountsAt w p x z → CountsAt v p x z
  -- each packet that was sent stays among those sent
  pub sent : Begins w.sent v.sent
  -- a name that a node knows was known to the name's sender before
  pub only : (p : ℕ) (x : Label) → knows (stored v p) x ≡ true → knows (stored w x.sender) x ≡ true

-- if a pair of a name is stored, the name is known
pub knows-pair : (records : List Entry) (x : Label) (m : Content)
    → has_pair (pend records) x m ≡ true → knows records x ≡ true
knows-pair records x m k = at (message_of (pend records) x) refl
  where
    at : (o : Option Content) → message_of (pend records) x ≡ o → is_some o ≡ true
    at (Some o) e = refl
    at None e = absurd (no_pair (pend records) x m e k)

-- if a name is known, a pair of it is stored
pub known-pair : (records : List Entry) (x : Label) → knows records x ≡ true
    → (m : Content) × (has_pair (pend records) x m ≡ true)
known-pair records x h =
    let found = some_found (message_of (pend records) x) h in
    (found.0, has_pair-found (pend records) x found.0 found.1)

-- what is known is known to its sender
pub known-sender : (w : World) → Sound w → (p : ℕ) (x : Label) → knows (stored w p) x ≡ true
    → knows (stored w x.sender) x ≡ true
known-sender w s p x h =
    let pair = known-pair (stored w p) x h in
    knows-pair (stored w x.sender) x pair.0
    (to_sender w.size (stored w) (all_kept w s.kept.nodes) p x pair.0 pair.1)

-- a world whose nodes are ready goes on from itself
pub onward-still : (w : World) → Calm w → Onward w w
onward-still w c = record {
  size = refl;
  records = λ p. begins-itself (stored w p);
  counts =
      λ p x z h. h;
  sent = begins-itself w.sent;
  only = known-sender w c.sound;
}

-- a world that goes on from a second, which goes on from a first, goes on from the first
pub onward-further : (u v w : World) → Onward u v → Onward v w → Onward u w
onward-further u v w a b =
    record {
      size = b.size ∙ a.size;
      records =
          λ p. begins-trans (stored u p) (stored v p) (stored w p) (a.records p) (b.records p);
      counts = λ p x z h. b.counts p x z (a.counts p x z h);
      sent = begins-trans u.sent v.sent w.sent a.sent b.sent;
      only = λ p x h. a.only x.sender x (b.only p x h);
    }

-- ---- what stays

-- a message that is found in a prefix of some records is found in all of them
pub found-begins : (xs ys : List Entry) → Begins xs ys → (x : Label) (m : Content)
    → message_of (pend xs) x ≡ Some m → message_of (pend ys) x ≡ Some m
found-begins xs ys b x m e =
    subst (λ (zs : List Entry). message_of (pend zs) x ≡ Some m) b.1
    (subst (λ (ps : List (Label × Content)). message_of ps x ≡ Some m) (sym (pend-append xs b.0))
    (message_of-more (pend xs) (pend b.0) x m e))

get-begins : {A : Type 0} (xs ys : List A) → Begins xs ys → (i : ℕ) (a : A)
    → slice_get xs i ≡ Some a → slice_get ys i ≡ Some a
get-begins xs ys b i a e =
    subst (λ (zs : List _). slice_get zs i ≡ Some a) b.1 (get_stays xs b.0 i a e)

module _ (v w : World) (o : Onward v w) where
  -- a truthful packet stays truthful
  pub truth-stays : (packet : Carried) → truthful v packet ≡ true → truthful w packet ≡ true
  truth-stays packet t =
      let more = o.records packet.source in
      to_borne (stored w packet.source) packet
      (pair-begins (stored v packet.source) (stored w packet.source) more packet.name packet.message
      (borne-pair (stored v packet.source) packet t))
      (λ e. certificate-begins (stored v packet.source) (stored w packet.source) more packet.name
      (borne-certificate (stored v packet.source) packet t e))

  -- a node of the group stays one
  pub node-stays : (p : ℕ) → is_node v.size.n p ≡ true → is_node w.size.n p ≡ true
  node-stays p h = subst (λ (size : _). is_node size.n p ≡ true) (sym o.size) h

  -- a name that a node knows stays known there
  pub known-stays : (p : ℕ) (x : Label) → knows (stored v p) x ≡ true → knows (stored w p) x ≡ true
  known-stays p x h =
      let found = some_found (message_of (pend (stored v p)) x) h in
      ap is_some (found-begins (stored v p) (stored w p) (o.records p) x found.0 found.1)

  -- a packet that was sent stays among those sent
  pub sent-stays : (packet : Carried) → WasSent v packet → WasSent w packet
  sent-stays packet h = (h.0, get-begins v.sent w.sent o.sent h.0 packet h.1)
