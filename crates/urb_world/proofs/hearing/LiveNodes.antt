-- What a node has heard is true, and the node counts itself. Each part of a step keeps this.
use Rattle.urb_world.proofs.Common.{Cause, Cert, Content, Down, Entry, Flags, Label, Limits, List}
use Rattle.urb_world.proofs.Common.{Node, None, Option, Pend, PendCert, Ready, Reply, Some, State}
use Rattle.urb_world.proofs.Common.{Storing, [], acked, acks_after, answers, append-nil, arrives}
use Rattle.urb_world.proofs.Common.{cert, cond_both, counts, doubt, drafts, false, false≢true}
use Rattle.urb_world.proofs.Common.{has_name, has_pair, has_pair-last, heard_after, heard_of, hears}
use Rattle.urb_world.proofs.Common.{is_down, is_none, keeps_record, majority_passes, message_of}
use Rattle.urb_world.proofs.Common.{name_of, not, opened_node, packet_from, pend, pend-append}
use Rattle.urb_world.proofs.Common.{says_certified, subst, sym, true, with_ack, with_cause}
use Rattle.urb_world.proofs.Common.{with_heard, ℕ, ⊎_elim, ◌++◌, ◌==◌, ◌||◌, ◌∙◌, ◌∷◌, ◌≡◌}
use Rattle.urb_world.proofs.hearing.CountedNodes.{acked-cases, acked-itself, acked-stays}
use Rattle.urb_world.proofs.hearing.CountedNodes.{cause-stays, heard-cases, itself-acked}

-- each certificate that was heard is stored at the node that it was heard of
abbrev pub HeardTrue : (ℕ → List Entry) → List (Label × ℕ) → Type 0
HeardTrue images heard =
    (x : Label) (q : ℕ) → acked heard x q ≡ true → has_name (cert (images q)) x ≡ true

-- so is the certificate that came with the packet that caused a draft
abbrev pub CauseTrue : (ℕ → List Entry) → Label → Option Cause → Type 0
CauseTrue images x None = Unit {0}
CauseTrue images x (Some cause) =
    cause.certified ≡ true → has_name (cert (images cause.source)) x ≡ true

abbrev pub DraftTrue : (ℕ → List Entry) → State → Type 0
DraftTrue images Ready = Unit {0}
DraftTrue images (Storing r cause) = CauseTrue images (name_of r) cause
DraftTrue images (Down doubtful) = Unit {0}

-- the record, if there is one, is a certificate too
abbrev pub IsWhole : Option Entry → Type 0
IsWhole (Some (Pend x m)) = ⊥
IsWhole doubtful = Unit {0}

-- What a node has heard is true. While it is up, it counts itself for each pair. If it is alone, it
-- holds no pair without its certificate.
pub record NodeLive (n : ℕ) (images : ℕ → List Entry) (p : ℕ) (node : Node) : Type 0 where
  -- each certificate that the node has heard is stored at the node that it is of
  pub heard : HeardTrue images node.heard
  -- so is the certificate that came with the packet that caused its draft
  pub draft : DraftTrue images node.state
  -- a node that is up has counted itself for each pair that it has stored
  pub counts : is_down node.state ≡ false → (x : Label) (m : Content)
      → has_pair (pend node.records) x m ≡ true → acked node.acks x p ≡ true
  -- if the node is alone, it holds or doubts no pair without its certificate
  pub whole : n ≡ 1 → IsWhole (doubt node.state)

abbrev pub LeadsLive : ℕ → (ℕ → List Entry) → ℕ → Reply × Node → Type 0
LeadsLive n images p outcome = NodeLive n images p outcome.1

-- ---- images that grow

draft-grows : (old new : ℕ → List Entry)
    → ((q : ℕ) (x : Label) → has_name (cert (old q)) x ≡ true → has_name (cert (new q)) x ≡ true)
    → (s : State) → DraftTrue old s → DraftTrue new s
draft-grows old new g Ready h = tt
draft-grows old new g (Storing r None) h = tt
draft-grows old new g (Storing r (Some cause)) h = λ e. g cause.source (name_of r) (h e)
draft-grows old new g (Down doubtful) h = tt

-- a live node stays live if nodes store more certificates
pub live-grows : (n : ℕ) (old new : ℕ → List Entry) (p : ℕ) (node : Node)
    → ((q : ℕ) (x : Label) → has_name (cert (old q)) x ≡ true → has_name (cert (new q)) x ≡ true)
    → NodeLive n old p node → NodeLive n new p node
live-grows n old new p node g h =
    record {
      heard = λ x q e. g q x (h.heard x q e);
      draft =
          draft-grows old new g node.state h.draft;
      counts = h.counts;
      whole = h.whole;
    }

-- a node that was just opened is live
pub live-opened : (n : ℕ) (images : ℕ → List Entry) (p : ℕ) (records : List Entry)
    → NodeLive n images p (opened_node p records)
live-opened n images p records =
    record {
      heard = λ x q e. absurd (false≢true e);
      draft = tt;
      counts =
          λ _ x m h. itself-acked p (pend records) x m h;
      whole = λ _. tt;
    }

module _ (size : Limits) (images : ℕ → List Entry) (p : ℕ) where
  -- ---- a submit

  -- a live node that is up stays live when it drafts a record, if the certificate that its cause
  -- reports is stored
  pub live-drafts : (node : Node) (r : Entry) (cause : Option Cause) → NodeLive size.n images p node
      → is_down node.state ≡ false → CauseTrue images (name_of r) cause
      → (size.n ≡ 1 → IsWhole (Some r))
      → LeadsLive size.n images p (drafts node r cause)
  live-drafts node r cause h up c w =
      record { heard = h.heard; draft = c; counts = λ _. h.counts up; whole = w }

  -- ---- an arrival

  module _ (q : ℕ) (x : Label) (flags : Option Flags)
      (told : says_certified flags ≡ true → has_name (cert (images q)) x ≡ true) where
    cause_true : CauseTrue images x (Some (packet_from q (says_certified flags)))
    cause_true = told

    live-told : (node : Node) (acks heard : List (Label × ℕ)) → NodeLive size.n images p node
        → ((y : Label) (z : ℕ) → acked node.acks y z ≡ true → acked acks y z ≡ true)
        → HeardTrue images heard
        → NodeLive size.n images p (record node { acks = acks; heard = heard })
    live-told node acks heard h more t =
        record {
          heard = t;
          draft = h.draft;
          counts =
              λ up y m k. more y p (h.counts up y m k);
          whole = h.whole;
        }

    live-hears : (node : Node) → NodeLive size.n images p node
        → NodeLive size.n images p (hears q x flags node)
    live-hears node h =
        cond_both (says_certified flags) _ _ (NodeLive size.n images p)
        (λ e. live-told node node.acks (with_ack node.heard x q) h (λ y z k. k) (more e))
        (λ _. h)
      where
        more : says_certified flags ≡ true → HeardTrue images (with_ack node.heard x q)
        more e y z k =
            ⊎_elim (λ f. h.heard y z f) (λ f.
            subst (λ (i : ℕ). has_name (cert (images i)) y ≡ true) f.1
            (subst (λ (v : Label). has_name (cert (images q)) v ≡ true) f.0 (told e)))
            (acked-cases node.heard x q y z k)

    live-counts : (node : Node) → NodeLive size.n images p node → is_down node.state ≡ false
        → LeadsLive size.n images p (counts size q x flags node)
    live-counts node h up =
        cond_both (majority_passes size.n (acked (with_ack node.acks x q) x)) _ _
        (LeadsLive size.n images p) (λ _.
        live-drafts _ (Cert x) _ counted up cause_true (λ _. tt))
        (λ _. cond_both (acked node.acks x q) _ _ (LeadsLive size.n images p) (λ _. counted)
        (λ _. counted))
      where
        counted : NodeLive size.n images p (record node { acks = with_ack node.acks x q })
        counted =
            live-told node (with_ack node.acks x q) node.heard h
            (λ y z k. acked-stays node.acks x q y z k) h.heard

    live-answers : (m : Content) (flags : Option Flags) (node : Node)
        → NodeLive size.n images p node → LeadsLive size.n images p (answers p q x m flags node)
    live-answers m None node h = h
    live-answers m (Some f) node h =
        cond_both f.heard _ _ (LeadsLive size.n images p) (λ _. h) (λ _. h)

    -- a live node that is up stays live when a packet arrives, if the certificate that it reports
    -- is stored
    pub live-arrives : (m : Content) (node : Node) → NodeLive size.n images p node
        → is_down node.state ≡ false → (size.n ≡ 1
        → majority_passes size.n (λ z. (z == p) || (z == q)) ≡ true)
        → LeadsLive size.n images p (arrives size p q x m flags node)
    live-arrives m node h up alone =
        cond_both (is_none (message_of (pend node.records) x)) _ _ (LeadsLive size.n images p)
        (λ _. cond_both (majority_passes size.n (λ z. (z == p) || (z == q))) _ _
        (LeadsLive size.n images p) (λ _.
        live-drafts node (PendCert x m) _ h up cause_true (λ _. tt))
        (λ few. live-drafts node (Pend x m) _ h up cause_true
        (λ e. absurd (false≢true (sym few ∙ alone e)))))
        (λ _. cond_both (not (has_name (cert node.records) x)) _ _ (LeadsLive size.n images p)
        (λ _. live-counts (hears q x flags node) (live-hears node h) (up_told node up))
        (λ _. live-answers m flags (hears q x flags node) (live-hears node h)))
      where
        up_told : (node : Node) → is_down node.state ≡ false
            → is_down (hears q x flags node).state ≡ false
        up_told node up =
            cond_both (says_certified flags) _ _ (λ (told : Node). is_down told.state ≡ false)
            (λ _. up) (λ _. up)

  -- ---- a record is stored

  heard-with : (x : Label) (cause : Option Cause) (heard : List (Label × ℕ))
      → HeardTrue images heard → CauseTrue images x cause
      → HeardTrue images (with_heard heard x (heard_of cause))
  heard-with x None heard h c = h
  heard-with x (Some cause) heard h c =
      cond_both cause.certified (Some cause.source) None
      (λ node. HeardTrue images (with_heard heard x node))
      (λ e y z k. ⊎_elim (λ f. h y z f)
      (λ f. let same : cause.source ≡ z = from_some f.1 in
      subst (λ (i : ℕ). has_name (cert (images i)) y ≡ true) same
      (subst (λ (v : Label). has_name (cert (images cause.source)) v ≡ true) f.0 (c e)))
      (heard-cases heard x (Some cause.source) y z k))
      (λ _. h)
    where
      from_some : {i j : ℕ} → Some i ≡ Some j → i ≡ j
      from_some e = cc

  heard-stored : (r : Entry) (cause : Option Cause) (heard : List (Label × ℕ))
      → HeardTrue images heard → CauseTrue images (name_of r) cause
      → HeardTrue images (heard_after r cause heard)
  heard-stored (Cert x) cause heard h c = h
  heard-stored (Pend x m) cause heard h c = heard-with x cause heard h c
  heard-stored (PendCert x m) cause heard h c = heard-with x cause heard h c

  -- the node is counted for each pair that is then stored
  counts-stored : (records : List Entry) (r : Entry) (cause : Option Cause)
      (acks : List (Label × ℕ)) → ((x : Label) (m : Content) → has_pair (pend records) x m ≡ true
      → acked acks x p ≡ true)
      → (x : Label) (m : Content) → has_pair (pend (records ++ r ∷ [])) x m ≡ true
      → acked (acks_after p r cause acks) x p ≡ true
  counts-stored records r cause acks h x m k =
      at r (subst (λ (ps : List (Label × Content)). has_pair ps x m ≡ true)
      (pend-append records (r ∷ [])) k)
    where
      joined : (y : Label) (o : Content) → has_pair (pend records ++ (y, o) ∷ []) x m ≡ true
          → acked (with_cause (with_ack acks y p) y cause) x p ≡ true
      joined y o e =
          ⊎_elim (λ f. cause-stays (with_ack acks y p) y cause x p
          (acked-stays acks y p x p (h x m f)))
          (λ f. cause-stays (with_ack acks y p) y cause x p
          (subst (λ (v : Label). acked (with_ack acks y p) v p ≡ true) f.0
          (acked-itself acks y p)))
          (has_pair-last (pend records) y x o m e)

      at : (r : Entry) → has_pair (pend records ++ pend (r ∷ [])) x m ≡ true
          → acked (acks_after p r cause acks) x p ≡ true
      at (Pend y o) e = joined y o e
      at (PendCert y o) e = joined y o e
      at (Cert y) e =
          h x m (subst (λ (ps : List (Label × Content)). has_pair ps x m ≡ true)
          (append-nil (pend records)) e)

  -- a live node that is up stays live when its record is stored, if the certificate that its cause
  -- reports is stored
  pub live-stored : (r : Entry) (cause : Option Cause) (node : Node) → NodeLive size.n images p node
      → is_down node.state ≡ false → CauseTrue images (name_of r) cause
      → NodeLive size.n images p (keeps_record p r cause node)
  live-stored r cause node h up c =
      record {
        heard = heard-stored r cause node.heard h.heard c;
        draft = tt;
        counts =
            λ _. counts-stored node.records r cause node.acks (h.counts up);
        whole = λ _. tt;
      }

  -- ---- a node that goes down, and comes up

  -- a live node stays live when it goes down
  pub live-down : (node : Node) → NodeLive size.n images p node
      → NodeLive size.n images p (record node
      { state = Down (doubt node.state); acks = []; heard = [] })
  live-down node h = record {
    heard = λ x q e. absurd (false≢true e);
    draft = tt;
    counts =
        λ e. absurd (false≢true (sym e));
    whole = h.whole;
  }

  -- a node that has just restarted is live
  pub live-up : (records : List Entry) (messages : List Content)
      → NodeLive size.n images p (record (opened_node p records) { broadcast = messages })
  live-up records messages =
      let o = live-opened size.n images p records in
      record { heard = o.heard; draft = tt; counts = o.counts; whole = λ _. tt }
