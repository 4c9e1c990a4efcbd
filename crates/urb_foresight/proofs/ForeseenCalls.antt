-- What is foreseen of a call in each world of a run, once the records before it are stored.
use Rattle.std.proofs.Common.{Bool, Err, IfOk, List, None, Ok, Some, [], ap, ap₂, arith, cond}
use Rattle.std.proofs.Common.{eqb-true, false, inl, inr, is_some, length, ltb-true, refl, subst, suc}
use Rattle.std.proofs.Common.{sym, true, ℕ, ◌++◌, ◌+◌, ◌<◌, ◌==◌, ◌∙◌, ◌∷◌, ◌≡◌, ◌≢◌, ◌≤◌, Result}
use Rattle.std.proofs.lemmas.Bool.{and_left, and_parts, false≢true}
use Rattle.urb_names.proofs.FoundPairs.{has_pair-found, some_found}
use Rattle.urb_names.specs.Acknowledgements.{acked}
use Rattle.urb_names.specs.CarriedPackets.{Carried}
use Rattle.urb_names.specs.LabelsAndContents.{Content, Limits}
use Rattle.urb_names.specs.Names.{name}
use Rattle.urb_names.specs.Nodes.{is_majority, is_node}
use Rattle.urb_names.specs.Pairs.{message_of, own}
use Rattle.urb_names.specs.declared.limits.TheConstants.{MAX_PAYLOAD}
use Rattle.urb_names.specs.declared.refusal.PacketFault.{PacketFault}
use Rattle.urb_node.proofs.SubmitCases.{next_name}
use Rattle.urb_node.specs.Part.{Node, Ready}
use Rattle.urb_node.specs.Steps.{is_down}
use Rattle.urb_stable.specs.Entries.{Entry}
use Rattle.urb_stable.specs.Fitting.{in_range}
use Rattle.urb_stable.specs.Records.{pend}
use Rattle.urb_stable.specs.declared.record.Record.TheVariants.{Cert}
use Rattle.urb_world.proofs.recovery.FullDelivery.{reached-sound}
use Rattle.urb_world.proofs.steps.Runs.{reached-keeps}
use Rattle.urb_world.specs.RunInvariant.{MayJoin, NodesKept}
use Rattle.urb_world.specs.Step.{Arrive, IsReached, Submit, is_for}
use Rattle.urb_world.specs.World.{World, stored, truthful}
use Rattle.urb_group.specs.GroupCalls.{CountsOwn}
use Rattle.urb_group.specs.GroupViews.{GroupView, Shows}
use Rattle.urb_group.specs.TailQuestions.{TellsTail}
use Rattle.urb_foresight.proofs.CountedRecords.{count-both, own_count}
use Rattle.urb_foresight.proofs.FollowingRecords.{joins, joins-not, then-here, then-kept}
use Rattle.urb_foresight.proofs.FollowingRecords.{world_then}
use Rattle.urb_foresight.proofs.ForeseenArrivals.{arrival-drafts, arrival-drafts-none}
use Rattle.urb_foresight.proofs.ForeseenArrivals.{arrival-same}
use Rattle.urb_foresight.proofs.ForeseenArrivals.{certificate-drafts, no-packet, not-taken}
use Rattle.urb_foresight.proofs.ForeseenSubmits.{alone-is, next_own, submit-drafts}
use Rattle.urb_foresight.proofs.ForeseenSubmits.{submit-drafts-none, submit-not-new, submit-same}
use Rattle.urb_foresight.proofs.HeldPackets.{for-later, not-truthful, taken-from, taken-later}
use Rattle.urb_foresight.proofs.HeldPackets.{taken-then}
use Rattle.urb_foresight.specs.ForeseenDrafts.{Drafts, DraftsNone, Foresees, IsOnceStored}
use Rattle.urb_foresight.specs.ForeseenDrafts.{HangsOnCounts, IsReadyNode, OnceStored, SaysMore}
use Rattle.urb_foresight.specs.declared.foreseen.Foreseen.{Foreseen}
use Rattle.urb_foresight.specs.declared.foreseen.Foreseen.TheVariants as foreseen
use Rattle.urb_foresight.specs.internal.ReachedWorlds.{ForeseesCertificate, InEach, InKept}
use Rattle.urb_foresight.specs.internal.ReachedWorlds.{is_borne_out, is_taken, pair_record}

-- the rules hold in a world of a run
nodes-kept : (v : World) → IsReached v → NodesKept v
nodes-kept v reached = (reached-keeps v reached).0.nodes

-- two records of pairs are the same if their names, messages and certificates are
pub same-record : (b c : Bool) (p i j : ℕ) (o m : Content) → b ≡ c → i ≡ j → o ≡ m
    → pair_record b (record { sender = p; seq = i }) o ≡ pair_record c (name p j) m
same-record b c p i j o m e f h =
    ap₂ (λ (d : Bool) (k : ℕ). pair_record d (name p k) o) e f ∙ ap (pair_record c (name p j)) h

module _ (group : GroupView) (p : ℕ) (old : List Entry) (there : InEach group (IsReadyNode p)) where
  -- the count that a group tells of its node is that of the node's own messages
  pub count-told : (count : ℕ) → CountsOwn group p (Some count)
      → InEach group (λ w. count ≡ length (w.node p).broadcast)
  count-told count told w shows =
      at (is_node w.size.n p) (there w shows).0 (length (w.node p).broadcast) (told w shows)
    where
      at : (b : Bool) → b ≡ true → (k : ℕ) → Some count ≡ cond b (Some k) None → count ≡ k
      at true e k h = cc
      at false e k h = absurd (false≢true e)

  -- the limits stay
  size-is : (w v : World) → Shows group w → IsOnceStored w p old v → group.size.n ≡ v.size.n
  size-is w v shows once = ap (λ (l : Limits). l.n) (shows.size ∙ sym once.size)

  -- the node is one of the group's in the later world too
  node-is : (w v : World) → Shows group w → IsOnceStored w p old v → is_node v.size.n p ≡ true
  node-is w v shows once =
      subst (λ (l : Limits). is_node l.n p ≡ true) (sym once.size) (there w shows).0

  -- the node is ready in the first world too, with its part of the later one
  then-ready : (w v : World) → IsOnceStored w p old v → ((world_then w p v).node p).state ≡ Ready
  then-ready w v once = ap (λ (n : Node). n.state) (then-here p old w v once) ∙ once.ready

  -- ---- submits

  module _ (m : Content) where
    -- how many messages of its own the node has in the later world
    own-is : (count counted : ℕ) → InEach group (λ w. count ≡ length (w.node p).broadcast)
        → counted ≡ length (own p (pend old)) → (w v : World) → Shows group w → IsReached v
        → IsOnceStored w p old v → count + counted ≡ length (v.node p).broadcast
    own-is count counted is more w v shows reached once =
        let before = is w shows ∙ ap length (shows.nodes p).broadcast in
        let after = ap length (nodes-kept v reached p).broadcast
        ∙ (ap (own_count p) once.behind ∙ count-both p (stored w p) old) in
        omega (arith, before, more, after)

    -- a submit of a message with number 0 drafts nothing
    pub not-numbered : m.number ≡ 0 → OnceStored group p old (DraftsNone p (Submit p m))
    not-numbered none w v shows before reached once =
        submit-not-new v p m (nodes-kept v reached) once.ready (λ new.
        let e : m.number ≡ suc _ = eqb-true m.number _ new.number in
        omega (arith, e, none))

    -- a submit of a payload that is too long drafts nothing
    pub too-long : MAX_PAYLOAD < length m.payload
        → OnceStored group p old (DraftsNone p (Submit p m))
    too-long long w v shows before reached once =
        submit-not-new v p m (nodes-kept v reached) once.ready
        (λ new. omega (arith, long, new.short))

    -- a submit at a node that has as many messages as it may have drafts nothing
    pub full-node : (count : ℕ) → InEach group (λ w. count ≡ length (w.node p).broadcast)
        → group.size.cap ≤ count → OnceStored group p old (DraftsNone p (Submit p m))
    full-node count is full w v shows before reached once =
        submit-not-new v p m (nodes-kept v reached) once.ready (λ new.
        let room : length (v.node p).broadcast < v.size.cap = ltb-true _ _ new.room in
        let all = own-is count (length (own p (pend old))) is refl w v shows reached once in
        let cap = ap (λ (l : Limits). l.cap) (shows.size ∙ sym once.size) in
        omega (arith, room, all, cap, full))

    module _ (count counted : ℕ) (is : InEach group (λ w. count ≡ length (w.node p).broadcast))
        (more : counted ≡ length (own p (pend old))) (r : Entry)
        (record_is : r ≡ pair_record (is_majority 1 group.size.n)
        (name p (suc (count + counted))) m) where
      -- the record is the node's next own one in the later world too
      own-record : (w v : World) → (shows : Shows group w) → (reached : IsReached v)
          → (once : IsOnceStored w p old v)
          → r ≡ next_own v p m (nodes-kept v reached) once.ready
      own-record w v shows reached once =
          record_is
          ∙ ap₂ (λ (b : Bool) (k : ℕ). pair_record b (name p (suc k)) m)
          (ap (is_majority 1) (size-is w v shows once)
          ∙ sym (alone-is v.size.n p (node-is w v shows once)))
          (own-is count counted is more w v shows reached once)

      -- a submit drafts the node's next own record if that may follow
      pub submit-foreseen : length m.payload ≤ MAX_PAYLOAD → TellsTail group p (old ++ r ∷ []) true
          → OnceStored group p old (Drafts p (Submit p m) r)
      submit-foreseen short tells w v shows before reached once =
          let e = own-record w v shows reached once in
          let kept = nodes-kept v reached in
          subst (λ (s : Entry). Drafts p (Submit p m) s v) (sym e)
          (submit-drafts v p m kept once.ready
          (subst (λ (s : Entry). MayJoin v.size (stored v) p (stored v p) s) e
          (joins p old w v once group shows r tells)) (node-is w v shows once) short)

      -- a submit drafts nothing if the node's next own record may not follow
      pub submit-unforeseen : TellsTail group p (old ++ r ∷ []) false
          → OnceStored group p old (DraftsNone p (Submit p m))
      submit-unforeseen tells w v shows before reached once =
          let e = own-record w v shows reached once in
          let kept = nodes-kept v reached in
          let was = then-kept p old w v once (nodes-kept w before) kept in
          let ready = then-ready w v once in
          let here = then-here p old w v once in
          let same = ap (λ (n : Node). pair_record (v.size.n == 1) (next_name p n) m) (sym here) in
          submit-same (world_then w p v) v p m refl here (node-is w v shows once)
          (submit-drafts-none (world_then w p v) p m was ready (λ join.
          joins-not p old w v once group shows r (there w shows).0 tells
          (subst (λ (s : Entry). MayJoin v.size (stored (world_then w p v)) p
          (stored (world_then w p v) p) s) (sym (e ∙ same)) join)))

  -- ---- arrivals

  -- bytes that are no packet draft nothing
  pub unparsed : (fault : PacketFault) (bytes : Result Carried PacketFault) → Err fault ≡ bytes
      → OnceStored group p old (DraftsNone p (Arrive p bytes))
  unparsed fault bytes e w v shows before reached once =
      subst (λ (r : Result Carried PacketFault). DraftsNone p (Arrive p r) v) e
      (no-packet v p fault once.ready)

  -- what is foreseen of a packet is foreseen of its bytes
  pub of-bytes : (packet : Carried) (bytes : Result Carried PacketFault) → Ok packet ≡ bytes
      → (told : Foreseen) (new : List Entry) → Foresees group p old (Arrive p (Ok packet)) told new
      → Foresees group p old (Arrive p bytes) told new
  of-bytes packet bytes e told new h =
      subst (λ (r : Result Carried PacketFault). Foresees group p old (Arrive p r) told new) e h

  module _ (packet : Carried) where
    -- a packet that isn't for this node drafts nothing
    pub not-meant : InEach group (λ w. false ≡ is_for w p packet)
        → OnceStored group p old (DraftsNone p (Arrive p (Ok packet)))
    not-meant never w v shows before reached once =
        not-taken v p packet once.ready
        (and_left (is_for v p packet) (truthful v packet)
        (for-later w v p packet once.size ∙ sym (never w shows)))

    -- a packet for this node that its source doesn't bear out says more than is stored
    pub says-more : InEach group (λ w. true ≡ is_for w p packet)
        → InKept group (λ w. false ≡ is_borne_out w packet)
        → SaysMore group p (Arrive p (Ok packet))
    says-more meant never w shows reached = (
      sym (meant w shows),
      not-truthful w p packet (meant w shows) (never w shows (reached-keeps w reached).0),
    )

    -- one that its source bears out is taken
    pub takes-it : InEach group (λ w. true ≡ is_for w p packet)
        → InKept group (λ w. true ≡ is_borne_out w packet)
        → InKept group (λ w. true ≡ is_taken w p packet)
    takes-it meant borne w shows kept =
        taken-from w p packet (meant w shows) (borne w shows kept)

  module _ (packet : Carried) (apart : packet.source ≢ packet.target) where
    module _ (taken : InKept group (λ w. true ≡ is_taken w p packet)) (two : Bool)
        (two_is : two ≡ is_majority 2 group.size.n) where
      -- the packet is taken in the later world too
      still-taken : (w v : World) → Shows group w → IsReached w → IsOnceStored w p old v
          → is_taken v p packet ≡ true
      still-taken w v shows before once =
          taken-later w v p old packet once apart (taken w shows (reached-keeps w before).0)

      -- two nodes are a majority in the later world exactly if they are one now
      enough : (w v : World) → Shows group w → IsOnceStored w p old v
          → two ≡ is_majority 2 v.size.n
      enough w v shows once = two_is ∙ ap (is_majority 2) (size-is w v shows once)

      -- the record of the packet's pair
      abbrev the-pair : Entry
      the-pair = pair_record two packet.name packet.message

      -- it is the same record in the later world
      pair-is : (w v : World) → Shows group w → IsOnceStored w p old v
          → the-pair ≡ pair_record (is_majority 2 v.size.n) packet.name packet.message
      pair-is w v shows once =
          ap (λ (b : Bool). pair_record b packet.name packet.message) (enough w v shows once)

      -- an arrival drafts the packet's pair if that may follow
      pair-foreseen : TellsTail group p (old ++ pair_record two packet.name packet.message ∷ [])
          true → OnceStored group p old (Drafts p (Arrive p (Ok packet))
          (pair_record two packet.name packet.message))
      pair-foreseen tells w v shows before reached once =
          let e = pair-is w v shows once in
          subst (λ (s : Entry). Drafts p (Arrive p (Ok packet)) s v) (sym e)
          (arrival-drafts v p packet (nodes-kept v reached) once.ready (node-is w v shows once)
          (still-taken w v shows before once) apart
          (subst (λ (s : Entry). MayJoin v.size (stored v) p (stored v p) s) e
          (joins p old w v once group shows the-pair tells)))

      -- an arrival drafts nothing if neither the pair nor a certificate may follow
      neither-foreseen : TellsTail group p
          (old ++ pair_record two packet.name packet.message ∷ []) false
          → TellsTail group p (old ++ Cert packet.name ∷ []) false
          → OnceStored group p old (DraftsNone p (Arrive p (Ok packet)))
      neither-foreseen tells also w v shows before reached once =
          let e = pair-is w v shows once in
          let kept = nodes-kept v reached in
          let was = then-kept p old w v once (nodes-kept w before) kept in
          let ready = then-ready w v once in
          let first = taken w shows (reached-keeps w before).0 in
          let both = taken-then w v p old packet once apart first in
          arrival-same (world_then w p v) v p packet refl (then-here p old w v once) once.ready both
          (still-taken w v shows before once) (node-is w v shows once)
          (arrival-drafts-none (world_then w p v) p packet was ready (node-is w v shows once) both
          apart
          (λ join. joins-not p old w v once group shows the-pair (there w shows).0 tells
          (subst (λ (s : Entry). MayJoin v.size (stored (world_then w p v)) p
          (stored (world_then w p v) p) s) (sym e) join))
          (joins-not p old w v once group shows (Cert packet.name) (there w shows).0 also))

      -- an arrival drafts a certificate if that may follow, and two nodes are a majority
      certificate-foreseen : two ≡ true → TellsTail group p (old ++ Cert packet.name ∷ []) true
          → OnceStored group p old (Drafts p (Arrive p (Ok packet)) (Cert packet.name))
      certificate-foreseen some tells w v shows before reached once =
          let join = joins p old w v once group shows (Cert packet.name) tells in
          certificate-drafts v p packet (nodes-kept v reached) once.ready (node-is w v shows once)
          (still-taken w v shows before once) apart (sym (enough w v shows once) ∙ some)
          (counted v reached once.ready join) join
        where
          counted : (v : World) → IsReached v → (v.node p).state ≡ Ready
              → MayJoin v.size (stored v) p (stored v p) (Cert packet.name)
              → acked (v.node p).acks packet.name p ≡ true
          counted v reached ready join =
              let found =
              some_found (message_of (pend (stored v p)) packet.name)
              (and_parts (is_some (message_of (pend (stored v p)) packet.name)) _
              (and_parts (in_range v.size packet.name) _ join.a).1).0 in
              ((reached-sound v reached).live.nodes p).counts (ap is_down ready) packet.name found.0
              (has_pair-found (pend (stored v p)) packet.name found.0 found.1)

      -- a draft of the pair is foreseen if it may follow
      pub pair-answers : (bytes : Result Carried PacketFault) → Ok packet ≡ bytes → (r : Entry)
          → r ≡ pair_record two packet.name packet.message
          → TellsTail group p (old ++ r ∷ []) true → (new : List Entry) → new ≡ old ++ r ∷ []
          → Foresees group p old (Arrive p bytes) foreseen.Draft new
      pair-answers bytes e r same tells new added =
          of-bytes packet bytes e foreseen.Draft new (
            the-pair,
            added ∙ ap (λ (s : Entry). old ++ s ∷ []) same,
            pair-foreseen
                (subst (λ (s : Entry). TellsTail group p (old ++ s ∷ []) true) same tells),
          )

      -- of a pair that may not follow, what is foreseen of its name is foreseen of the packet
      certificate-answers : (told : Foreseen) (new : List Entry)
          → TellsTail group p (old ++ pair_record two packet.name packet.message ∷ []) false
          → ForeseesCertificate group p old packet.name two told new
          → Foresees group p old (Arrive p (Ok packet)) told new
      certificate-answers foreseen.Draft new never h =
          (Cert packet.name, h.2, certificate-foreseen h.0 h.1)
      certificate-answers foreseen.NoDraft new never h = (h.1, neither-foreseen never h.0)
      certificate-answers foreseen.Unsure new never h = (h.2, inr (inr (inl hangs)))
        where
          hangs : HangsOnCounts group p old (Arrive p (Ok packet))
          hangs w shows = (
            ap (λ (l : Limits). is_majority 2 l.n) (sym shows.size) ∙ (sym two_is ∙ h.0),
            ((h.1 w shows).0 refl).1,
          )

      -- what is foreseen of a name is so of the packet's bytes, unless memory is refused
      pub arrival-answers : {E : Type 0} → (bytes : Result Carried PacketFault) → Ok packet ≡ bytes
          → (r : Entry) → r ≡ pair_record two packet.name packet.message
          → TellsTail group p (old ++ r ∷ []) false → (result : Result Foreseen E)
          → (between new : List Entry) → between ≡ old
          → IfOk result (λ told. ForeseesCertificate group p between packet.name two told new)
          → IfOk result (λ told. Foresees group p old (Arrive p bytes) told new)
      arrival-answers bytes e r same never (Err refused) between new unchanged h = tt
      arrival-answers bytes e r same never (Ok told) between new unchanged h =
          of-bytes packet bytes e told new
          (certificate-answers told new
          (subst (λ (s : Entry). TellsTail group p (old ++ s ∷ []) false) same never)
          (subst (λ (rs : List Entry). ForeseesCertificate group p rs packet.name two told new)
          unchanged h))
