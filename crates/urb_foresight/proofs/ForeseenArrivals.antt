-- An arrival drafts the packet's pair, if that may join. If only a certificate of it may join, and
-- two nodes are a majority, it drafts the certificate. Otherwise it drafts nothing, or the counted
-- nodes decide.
use Rattle.std.proofs.Common.{Bool, Err, List, None, Ok, Option, Some, ap, ap₂, arith, eq-eqb, cond}
use Rattle.std.proofs.Common.{eqb-true, false, length, inl, inr, is_none, is_some, ltb-true, nat_lt}
use Rattle.std.proofs.Common.{not, refl, subst, suc, sym, true, ℕ, ⊎_elim, ◌&&◌, ◌==◌, ◌||◌, ◌∙◌}
use Rattle.std.proofs.Common.{◌∷◌, ◌≡◌, ◌≢◌, ◌≤◌, ◌<◌, ◌⊎◌}
use Rattle.std.proofs.lemmas.Bool.{and_from, and_parts, cond-false, cond-true, cond_both}
use Rattle.std.proofs.lemmas.Bool.{false≢true, or_cases, or_left, or_right}
use Rattle.urb_names.proofs.FoundPairs.{none_found}
use Rattle.urb_names.proofs.SameNames.{majority_grows, same_name-same}
use Rattle.urb_names.specs.Acknowledgements.{acked, with_ack}
use Rattle.urb_names.specs.CarriedPackets.{Carried, says_certified}
use Rattle.urb_names.specs.LabelsAndContents.{Content, Label, Limits}
use Rattle.urb_names.specs.Names.{has_name, same_name}
use Rattle.urb_names.specs.Nodes.{is_majority, is_node, majority_passes}
use Rattle.urb_names.specs.Pairs.{message_of}
use Rattle.urb_names.specs.declared.flags.Flags.{Flags}
use Rattle.urb_names.specs.declared.refusal.PacketFault.{PacketFault}
use Rattle.urb_node.proofs.ArrivalOutcomes.{two-majority}
use Rattle.urb_node.specs.Part.{Node, Ready, packet_from}
use Rattle.urb_node.specs.Replies.{Reply}
use Rattle.urb_node.specs.Steps.{answers, arrives, counts, drafts, hears, is_down, is_storing}
use Rattle.urb_node.specs.Steps.{takes}
use Rattle.urb_node.specs.declared.cause.Cause.{Cause}
use Rattle.urb_stable.specs.Entries.{Entry}
use Rattle.urb_stable.specs.Fitting.{in_range, keeps_a}
use Rattle.urb_stable.specs.Records.{cert, pend}
use Rattle.urb_stable.specs.declared.record.Record.TheVariants.{Cert, Pend, PendCert}
use Rattle.urb_world.proofs.steps.ArrivalCases.{any-heard}
use Rattle.urb_world.proofs.steps.OneNodeStep.{updated-at}
use Rattle.urb_world.proofs.steps.StepCases.{packet-cases}
use Rattle.urb_world.specs.RunInvariant.{MayJoin, NodesKept}
use Rattle.urb_world.specs.Step.{Arrive, is_for, packet_arrives, step, world_after}
use Rattle.urb_world.specs.World.{World, stored, truthful}
use Rattle.urb_foresight.proofs.DraftedEvents.{IsReadyOr, drafts-is, drafts-none}
use Rattle.urb_foresight.specs.ForeseenDrafts.{Drafts, DraftsNone}
use Rattle.urb_foresight.specs.internal.ReachedWorlds.{is_taken, pair_record}

-- ---- acknowledgements

-- the new node is counted, and those that were
acked-either : (acks : List (Label × ℕ)) (x : Label) (q : ℕ) (z : ℕ)
    → (acked acks x z ≡ true) ⊎ ((z == q) ≡ true) → acked (with_ack acks x q) x z ≡ true
acked-either acks x q z h =
    cond_both (acked acks x q) acks ((x, q) ∷ acks) (λ a. acked a x z ≡ true)
    (λ k. ⊎_elim (λ e. e)
    (λ e. subst (λ (i : ℕ). acked acks x i ≡ true) (sym (eqb-true z q e)) k) h)
    (λ _. ⊎_elim (λ e. or_right (same_name x x && (q == z)) (acked acks x z) e)
    (λ e. or_left (same_name x x && (q == z)) (acked acks x z)
    (and_from (same_name x x) (q == z) (same_name-same x)
    (eq-eqb q z (sym (eqb-true z q e))))) h)

-- ---- packets that aren't taken

-- bytes that are no packet draft nothing
pub no-packet : (v : World) (p : ℕ) (fault : PacketFault) → (v.node p).state ≡ Ready
    → DraftsNone p (Arrive p (Err fault)) v
unfolding step
no-packet v p fault ready = ready

module _ (v : World) (p : ℕ) (packet : Carried) (ready : (v.node p).state ≡ Ready) where
  -- a packet that isn't taken drafts nothing
  pub not-taken : is_taken v p packet ≡ false → DraftsNone p (Arrive p (Ok packet)) v
  unfolding step
  not-taken never =
      cond_both (is_for v p packet) _ _ IsStill
      (λ f. cond_both (is_node v.size.n p) _ _ IsStill (λ _. here f) (λ _. ready)) (λ _. ready)
    where
      IsStill : Reply × World → Type 0
      IsStill o = (o.1.node p).state ≡ Ready

      refused : is_for v p packet ≡ true → (packet_arrives v p packet).1.state ≡ Ready
      refused f =
          packet-cases (λ (o : Reply × Node). o.1.state ≡ Ready) v p packet (λ r. ready)
          (λ _ t. absurd (false≢true (sym never
          ∙ and_from (is_for v p packet) (truthful v packet) f t)))

      here : is_for v p packet ≡ true → IsStill (world_after v p (packet_arrives v p packet))
      here f =
          ap (λ (n : Node). n.state) (updated-at v.node p (packet_arrives v p packet).1)
          ∙ refused f

  -- a packet that is taken arrives
  arrives-at : is_taken v p packet ≡ true → is_node v.size.n p ≡ true
      → step v (Arrive p (Ok packet)) ≡ world_after v p (arrives v.size p packet.source packet.name
      packet.message packet.flags (v.node p))
  unfolding step
  arrives-at taken is =
      cond-true (is_for v p packet) _ _ parts.0
      ∙ (cond-true (is_node v.size.n p) _ _ is
      ∙ ap (world_after v p)
      (cond-false (is_down (v.node p).state) _ _ (ap is_down ready)
      ∙ (cond-false (is_storing (v.node p).state) _ _ (ap is_storing ready)
      ∙ cond-false (not (truthful v packet)) _ _ (ap not parts.1))))
    where
      parts : (is_for v p packet ≡ true) × (truthful v packet ≡ true)
      parts = and_parts (is_for v p packet) (truthful v packet) taken

-- ---- packets that are taken

module _ (v : World) (p : ℕ) (packet : Carried) (kept : NodesKept v)
    (ready : (v.node p).state ≡ Ready) (is : is_node v.size.n p ≡ true)
    (taken : is_taken v p packet ≡ true) (apart : packet.source ≢ packet.target) where
  -- the node that sent the packet
  abbrev source : ℕ
  source = packet.source

  -- the node's part before the arrival
  abbrev node : Node
  node = v.node p

  -- the packet, as the cause of a draft
  abbrev cause : Option Cause
  cause = Some (packet_from source (says_certified packet.flags))

  -- the record of the packet's pair
  abbrev pub its_pair : Entry
  its_pair = pair_record (is_majority 2 v.size.n) packet.name packet.message

  -- the source is a node, and the packet is for node p
  goes : (is_node v.size.n source ≡ true) × ((packet.target == p) ≡ true)
  goes =
      let parts = and_parts (is_for v p packet) (truthful v packet) taken in
      let ends =
      and_parts (is_node v.size.n source && is_node v.size.n packet.name.sender)
      (packet.target == p) parts.0 in
      ((and_parts (is_node v.size.n source) (is_node v.size.n packet.name.sender) ends.0).0, ends.1)

  -- a node's number is at least one
  low : (q : ℕ) → is_node v.size.n q ≡ true → 1 ≤ q
  low q h =
      let l : 0 < q = ltb-true 0 q (and_parts (nat_lt 0 q) (nat_lt q (suc v.size.n)) h).0 in
      omega arith

  -- a node's number is at most the group's size
  high : (q : ℕ) → is_node v.size.n q ≡ true → q ≤ v.size.n
  high q h =
      let l : q < suc v.size.n =
      ltb-true q (suc v.size.n) (and_parts (nat_lt 0 q) (nat_lt q (suc v.size.n)) h).1 in
      omega arith

  -- node p and the source are a majority exactly if two nodes are
  two : majority_passes v.size.n (λ z. (z == p) || (z == source)) ≡ is_majority 2 v.size.n
  two =
      two-majority v.size.n p source
      (λ e. apart (sym e ∙ sym (eqb-true packet.target p goes.1))) (low p is) (high p is)
      (low source goes.0) (high source goes.0)

  -- ---- a new name

  -- a node that takes a new pair drafts its record
  takes-is : takes v.size p source packet.name packet.message packet.flags node
      ≡ drafts node its_pair cause
  takes-is = ap Drafted_if two ∙ at (is_majority 2 v.size.n)
    where
      Drafted_if : Bool → Reply × Node
      Drafted_if b =
          cond b (drafts node (PendCert packet.name packet.message) cause)
          (drafts node (Pend packet.name packet.message) cause)

      at : (b : Bool)
          → Drafted_if b ≡ drafts node (pair_record b packet.name packet.message) cause
      at true = refl
      at false = refl

  -- the packet's pair is drafted if its name is new
  new-drafts : message_of (pend node.records) packet.name ≡ None
      → Drafts p (Arrive p (Ok packet)) its_pair v
  new-drafts none =
      drafts-is v p (Arrive p (Ok packet)) its_pair cause node
      (arrives-at v p packet ready taken is
      ∙ ap (world_after v p)
      (cond-true (is_none (message_of (pend node.records) packet.name)) _ _ (ap is_none none)
      ∙ takes-is)) refl

  -- the name of a pair that may join is new
  pair-new : (b : Bool)
      → keeps_a v.size (stored v p) (pair_record b packet.name packet.message) ≡ true
      → message_of (pend node.records) packet.name ≡ None
  pair-new true h =
      none_found (message_of (pend node.records) packet.name)
      (and_parts (in_range v.size packet.name) _ h).1
  pair-new false h =
      none_found (message_of (pend node.records) packet.name)
      (and_parts (in_range v.size packet.name) _ h).1

  -- an arrival drafts the packet's pair if that may join
  pub arrival-drafts : MayJoin v.size (stored v) p (stored v p) its_pair
      → Drafts p (Arrive p (Ok packet)) its_pair v
  arrival-drafts join = new-drafts (pair-new (is_majority 2 v.size.n) join.a)

  -- ---- a pending name

  -- the node's part once it has heard what the flags say
  abbrev told : Node
  told = hears source packet.name packet.flags node

  -- it has the same acknowledgements
  told-acks : told.acks ≡ node.acks
  told-acks =
      cond_both (says_certified packet.flags) _ _ (λ (n : Node). n.acks ≡ node.acks) (λ _. refl)
      (λ _. refl)

  -- it has the same records
  told-records : told.records ≡ node.records
  told-records =
      cond_both (says_certified packet.flags) _ _ (λ (n : Node). n.records ≡ node.records)
      (λ _. refl) (λ _. refl)

  -- the node and the source are enough
  module _ (enough : is_majority 2 v.size.n ≡ true)
      (counted : acked node.acks packet.name p ≡ true) where
    -- those who acknowledged the name are a majority, with the source
    most : majority_passes v.size.n (acked (with_ack told.acks packet.name source) packet.name)
        ≡ true
    most =
        majority_grows v.size.n (λ z. (z == p) || (z == source))
        (acked (with_ack told.acks packet.name source) packet.name) each (two ∙ enough)
      where
        each : (z : ℕ) → ((z == p) || (z == source)) ≡ true
            → acked (with_ack told.acks packet.name source) packet.name z ≡ true
        each z h =
            acked-either told.acks packet.name source z
            (⊎_elim
            (λ e. inl (subst (λ (i : ℕ). acked told.acks packet.name i ≡ true)
            (sym (eqb-true z p e))
            (subst (λ (a : List (Label × ℕ)). acked a packet.name p ≡ true) (sym told-acks)
            counted)))
            (λ e. inr e) (or_cases (z == p) (z == source) h))

    -- an arrival drafts a certificate if that may join, and two nodes are a majority
    pub certificate-drafts : MayJoin v.size (stored v) p (stored v p) (Cert packet.name)
        → Drafts p (Arrive p (Ok packet)) (Cert packet.name) v
    certificate-drafts join =
        drafts-is v p (Arrive p (Ok packet)) (Cert packet.name) cause
        (record told { acks = with_ack told.acks packet.name source })
        (arrives-at v p packet ready taken is
        ∙ ap (world_after v p)
        (cond-false (is_none (message_of (pend node.records) packet.name)) _ _ (known _ facts.0)
        ∙ (cond-true (not (has_name (cert node.records) packet.name)) _ _ facts.1
        ∙ cond-true (majority_passes v.size.n
        (acked (with_ack told.acks packet.name source) packet.name)) _ _ most)))
        (ap (λ (rs : List Entry). suc (length rs)) told-records)
      where
        facts : (is_some (message_of (pend node.records) packet.name) ≡ true)
            × (not (has_name (cert node.records) packet.name) ≡ true)
        facts =
            and_parts (is_some (message_of (pend node.records) packet.name)) _
            (and_parts (in_range v.size packet.name) _ join.a).1

        known : (o : Option Content) → is_some o ≡ true → is_none o ≡ false
        known None e = absurd (false≢true e)
        known (Some m) e = refl

  -- ---- nothing is drafted

  -- the outcome is a ready node, or a draft of the pair or of its certificate
  abbrev Stays : Reply × Node → Type 0
  Stays o = IsReadyOr its_pair (Cert packet.name) (stored v p) o.1

  -- a node that has heard the flags is still ready
  told-ready : told.state ≡ Ready
  told-ready =
      any-heard (λ (n : Node). n.state ≡ Ready) source packet.name packet.flags node
      (λ heard. ready)

  -- a new name has such an outcome
  takes-stays : Stays (takes v.size p source packet.name packet.message packet.flags node)
  takes-stays =
      subst Stays (sym takes-is)
      (inr (inl (record { cause = cause; state = refl; stays = refl })))

  -- so has a name that is pending and not certified
  counts-stays : Stays (counts v.size source packet.name packet.flags told)
  counts-stays =
      cond_both (majority_passes v.size.n
      (acked (with_ack told.acks packet.name source) packet.name)) _ _ Stays
      (λ _. inr (inr (record { cause = cause; state = refl; stays = told-records })))
      (λ _. cond_both (acked told.acks packet.name source) _ _ Stays (λ _. inl told-ready)
      (λ _. inl told-ready))

  -- so has a certified name
  answers-stays : (flags : Option Flags)
      → Stays (answers p source packet.name packet.message flags told)
  answers-stays None = inl told-ready
  answers-stays (Some f) =
      cond_both f.heard _ _ Stays (λ _. inl told-ready) (λ _. inl told-ready)

  -- so has each packet
  arrives-stays : Stays (arrives v.size p source packet.name packet.message packet.flags node)
  arrives-stays =
      cond_both (is_none (message_of (pend node.records) packet.name)) _ _ Stays
      (λ _. takes-stays)
      (λ _. cond_both (not (has_name (cert node.records) packet.name)) _ _ Stays
      (λ _. counts-stays) (λ _. answers-stays packet.flags))

  -- an arrival drafts nothing if neither the pair nor a certificate may join
  pub arrival-drafts-none : (MayJoin v.size (stored v) p (stored v p) its_pair → ⊥)
      → (MayJoin v.size (stored v) p (stored v p) (Cert packet.name) → ⊥)
      → DraftsNone p (Arrive p (Ok packet)) v
  arrival-drafts-none never also =
      drafts-none v (Arrive p (Ok packet)) kept ready its_pair (Cert packet.name)
      (packet-cases Stays v p packet (λ r. inl ready) (λ _ t. arrives-stays)) never also

-- the node after the arrival of a packet that is taken
arrival-after : (v : World) (p : ℕ) (packet : Carried) → (v.node p).state ≡ Ready
    → is_taken v p packet ≡ true → is_node v.size.n p ≡ true
    → (step v (Arrive p (Ok packet))).1.node p ≡ (arrives v.size p packet.source packet.name
    packet.message packet.flags (v.node p)).1
arrival-after v p packet ready taken is =
    ap (λ (o : Reply × World). o.1.node p) (arrives-at v p packet ready taken is)
    ∙ updated-at v.node p
    (arrives v.size p packet.source packet.name packet.message packet.flags (v.node p)).1

-- two worlds with the same limits and the same node do the same with a packet that both take
pub arrival-same : (u v : World) (p : ℕ) (packet : Carried) → u.size ≡ v.size
    → u.node p ≡ v.node p → (v.node p).state ≡ Ready → is_taken u p packet ≡ true
    → is_taken v p packet ≡ true → is_node v.size.n p ≡ true
    → DraftsNone p (Arrive p (Ok packet)) u → DraftsNone p (Arrive p (Ok packet)) v
arrival-same u v p packet size same ready first second is none =
    ap (λ (n : Node). n.state)
    (arrival-after v p packet ready second is
    ∙ (ap₂ (λ (l : Limits) (n : Node). (arrives l p packet.source packet.name packet.message
    packet.flags n).1) (sym size) (sym same)
    ∙ sym (arrival-after u p packet (ap (λ (n : Node). n.state) same ∙ ready) first
    (subst (λ (l : Limits). is_node l.n p ≡ true) (sym size) is))))
    ∙ none
