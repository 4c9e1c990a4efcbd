-- What a user sees of one node's part of each event.
use Rattle.urb_show.proofs.Common.{Answer, Bool, Content, Does, Down, Join, Label, Limits, List}
use Rattle.urb_show.proofs.Common.{None, Option, Ready, Reply, Service, Some, Storing, [], ap, ap₂}
use Rattle.urb_show.proofs.Common.{bytes_eq, cond, cond-true, doubt, eq-eqb, eqb-true, false, find}
use Rattle.urb_show.proofs.Common.{has_name, inl, inr, is_none, length, listed, log, map}
use Rattle.urb_show.proofs.Common.{message_of, name, nat_lt, not, own, pend, refl, shown_node}
use Rattle.urb_show.proofs.Common.{submit_answer, submits, subst, suc, sym, true, write_of, ℕ, ◌&&◌}
use Rattle.urb_show.proofs.Common.{◌++◌, ◌==◌, ◌||◌, ◌∙◌, ◌∷◌, ◌≡◌}
use Rattle.std.proofs.Common.{append-nil}
use Rattle.std.proofs.lemmas.Bool.{and_parts, cond_both}
use Rattle.urb_world.proofs.steps.ArrivalCases.{any-heard, told_node}
use Rattle.urb_group.specs.ReportedStates.{state_of}
use Rattle.urb_names.specs.Acknowledgements.{acked, with_ack}
use Rattle.urb_names.specs.CarriedPackets.{says_certified}
use Rattle.urb_names.specs.Nodes.{majority_passes}
use Rattle.urb_names.specs.Pairs.{is_numbered, next_number}
use Rattle.urb_names.specs.declared.flags.Flags.{Flags}
use Rattle.urb_names.specs.declared.limits.TheConstants.{MAX_PAYLOAD}
use Rattle.urb_node.specs.Part.{Node as Part, State as PartState, packet_from}
use Rattle.urb_node.specs.Steps.{answers, arrives, broadcast_after, commits, counts, crashes}
use Rattle.urb_node.specs.Steps.{drafts, fails, is_accepted, next_position, restarts, same_record}
use Rattle.urb_node.specs.Steps.{says, submits_by_number, ticks}
use Rattle.urb_node.specs.declared.cause.Cause.{Cause}
use Rattle.urb_show.specs.Answers.{answer_by, answer_to}
use Rattle.urb_show.specs.ShownServices.{fail_of, finish_of, refusal_in}
use Rattle.urb_stable.specs.Entries.{Entry, name_of}
use Rattle.urb_stable.specs.Fitting.{is_in_turn, is_next_own}
use Rattle.urb_stable.specs.Records.{cert}
use Rattle.urb_stable.specs.declared.record.Record.TheVariants.{Cert, Pend, PendCert}
use Rattle.urb_group.specs.declared.state.State.TheVariants as state
use Rattle.urb_show.specs.Service as seen

-- a node with these fields
abbrev part : List Entry → PartState → List (Label × ℕ) → List (Label × ℕ) → Option Label
    → List Content → Part
part records held acks heard cursor broadcast = record {
  records = records;
  state = held;
  acks = acks;
  heard = heard;
  cursor = cursor;
  broadcast = broadcast;
}

-- a ready node, as a user sees it
abbrev pub ready_with : List Content → List Label → seen.Node
ready_with list names = record { list = list; log = names; state = state.Ready; asked = [] }

-- a node that writes, as a user sees it
abbrev writing : Part → List Content → seen.Node
writing node asked = record {
  list = node.broadcast;
  log = log node.records;
  state = state.Storing;
  asked = asked;
}

-- ---- a submit

module _ (s : Service) (p : ℕ) (m : Content) where
  -- the node after a submit with this answer
  abbrev After : Answer → seen.Node → seen.Node → Type 0
  After None a b = b ≡ record a { state = state.Storing; asked = m ∷ [] }
  After (Some told) a b = b ≡ a

  -- the outcome has this answer, and the node that a user sees after it
  abbrev Fits : Part → Reply × Part → Answer → Type 0
  Fits node o told = (told ≡ submit_answer o.0) × After told (shown_node p node) (shown_node p o.1)

  both : (node : Part) (b : Bool) (o q : Reply × Part) (told other : Answer)
      → (b ≡ true → Fits node o told) → (b ≡ false → Fits node q other)
      → Fits node (cond b o q) (cond b told other)
  both node true o q told other h k = h refl
  both node false o q told other h k = k refl

  own_one : (node : Part) → writing node (cond (p == p) (m ∷ []) []) ≡ writing node (m ∷ [])
  own_one node = ap (writing node) (cond-true (p == p) (m ∷ []) [] (eq-eqb p p refl))

  drafted : (node : Part) → Fits node (cond (s.size.n == 1)
      (drafts node (PendCert (name p (suc (length node.broadcast))) m) None)
      (drafts node (Pend (name p (suc (length node.broadcast))) m) None)) None
  drafted node =
      cond_both (s.size.n == 1) _ _ (λ (o : Reply × Part). Fits node o None)
      (λ _. (refl, own_one node)) (λ _. (refl, own_one node))

  by_number : (node : Part) (o : Option Content)
      → Fits node (submits_by_number s.size p m o node) (answer_by s.size node.broadcast m o)
  by_number node None =
      both node (not (m.number == next_number m.client node.broadcast)) _ _ _ _
      (λ _. (refl, refl))
      (λ _. both node (not (nat_lt (length node.broadcast) s.size.cap)) _ _ _ _
      (λ _. (refl, refl)) (λ _. drafted node))
  by_number node (Some first) =
      both node (bytes_eq first.payload m.payload) _ _ _ _ (λ _. (refl, refl))
      (λ _. (refl, refl))

  fits : (records : List Entry) (held : PartState) (acks heard : List (Label × ℕ))
      (cursor : Option Label) (broadcast : List Content)
      → Fits (part records held acks heard cursor broadcast)
      (submits s.size p m (part records held acks heard cursor broadcast))
      (answer_to s.size broadcast (state_of held) m)
  fits records Ready acks heard cursor broadcast =
      both (part records Ready acks heard cursor broadcast)
      (nat_lt MAX_PAYLOAD (length m.payload)) _ _ _ _ (λ _. (refl, refl))
      (λ _. by_number (part records Ready acks heard cursor broadcast)
      (find (is_numbered m.client m.number) broadcast))
  fits records (Storing entry cause) acks heard cursor broadcast = (refl, refl)
  fits records (Down doubtful) acks heard cursor broadcast = (refl, refl)

  does : (a b : seen.Node) (told : Answer) → answer_to s.size a.list a.state m ≡ told
      → After told a b → Does s (seen.Submit m told) a b
  does a b None e h = (e, h)
  does a b (Some told) e h = (e, h)

  -- a user sees a submit at a node, with the same answer
  pub submit-seen : (node : Part)
      → Does s (seen.Submit m (submit_answer (submits s.size p m node).0)) (shown_node p node)
      (shown_node p (submits s.size p m node).1)
  submit-seen node =
      let f = fits node.records node.state node.acks node.heard node.cursor node.broadcast in
      subst (λ (told : Answer). Does s (seen.Submit m told) (shown_node p node)
      (shown_node p (submits s.size p m node).1)) f.0
      (does (shown_node p node) (shown_node p (submits s.size p m node).1)
      (answer_to s.size node.broadcast (state_of node.state) m) refl f.1)

-- ---- a crash, a failed store and a tick

-- a user sees a crash of a node, with the same answer
pub crash-seen : (s : Service) (p : ℕ) (node : Part)
    → Does s (seen.Crash (refusal_in (crashes p node).0)) (shown_node p node)
    (shown_node p (crashes p node).1)
crash-seen s p node =
    at node.records node.state node.acks node.heard node.cursor node.broadcast
  where
    at : (records : List Entry) (held : PartState) (acks heard : List (Label × ℕ))
        (cursor : Option Label) (broadcast : List Content)
        → Does s (seen.Crash
        (refusal_in (crashes p (part records held acks heard cursor broadcast)).0))
        (shown_node p (part records held acks heard cursor broadcast))
        (shown_node p (crashes p (part records held acks heard cursor broadcast)).1)
    at records Ready acks heard cursor broadcast = (refl, refl)
    at records (Storing entry cause) acks heard cursor broadcast = (refl, refl)
    at records (Down doubtful) acks heard cursor broadcast = (refl, refl)

-- a user sees that a store failed
pub fail-seen : (s : Service) (p : ℕ) (node : Part)
    → Does s (fail_of (fails p node node.state).0) (shown_node p node)
    (shown_node p (fails p node node.state).1)
fail-seen s p node =
    at node.records node.state node.acks node.heard node.cursor node.broadcast
  where
    at : (records : List Entry) (held : PartState) (acks heard : List (Label × ℕ))
        (cursor : Option Label) (broadcast : List Content)
        → Does s (fail_of (fails p (part records held acks heard cursor broadcast) held).0)
        (shown_node p (part records held acks heard cursor broadcast))
        (shown_node p (fails p (part records held acks heard cursor broadcast) held).1)
    at records Ready acks heard cursor broadcast = refl
    at records (Storing entry cause) acks heard cursor broadcast = (refl, refl)
    at records (Down doubtful) acks heard cursor broadcast = refl

-- a user sees nothing of a tick
pub tick-seen : (s : Service) (n p : ℕ) (node : Part)
    → Does s seen.Rest (shown_node p node) (shown_node p (ticks n p node).1)
tick-seen s n p node =
    at node.records node.state node.acks node.heard node.cursor node.broadcast
  where
    at : (records : List Entry) (held : PartState) (acks heard : List (Label × ℕ))
        (cursor : Option Label) (broadcast : List Content)
        → Does s seen.Rest (shown_node p (part records held acks heard cursor broadcast))
        (shown_node p (ticks n p (part records held acks heard cursor broadcast)).1)
    at records Ready acks heard cursor broadcast = refl
    at records (Storing entry cause) acks heard cursor broadcast = refl
    at records (Down doubtful) acks heard cursor broadcast = refl

-- ---- a stored record

-- what the node has broadcast once a record is stored
pub broadcast-own : (p : ℕ) (r : Entry) (ms : List Content)
    → broadcast_after p r ms ≡ ms ++ own p (pend (r ∷ []))
broadcast-own p (Pend x m) ms = at (x.sender == p)
  where
    at : (b : Bool) → cond b (ms ++ m ∷ []) ms ≡ ms ++ cond b (m ∷ []) []
    at true = refl
    at false = sym (append-nil ms)
broadcast-own p (PendCert x m) ms = at (x.sender == p)
  where
    at : (b : Bool) → cond b (ms ++ m ∷ []) ms ≡ ms ++ cond b (m ∷ []) []
    at true = refl
    at false = sym (append-nil ms)
broadcast-own p (Cert x) ms = sym (append-nil ms)

-- the number of an own record that comes in its turn
turn-number : (p : ℕ) (ms : List Content) (r : Entry) → is_in_turn p ms r ≡ true
    → cond (is_accepted p r) ((name_of r).seq ∷ []) []
    ≡ map (λ m. suc (length ms)) (own p (pend (r ∷ [])))
turn-number p ms (Pend x m) h = at (x.sender == p) h
  where
    at : (b : Bool) → cond b (is_next_own ms x m) true ≡ true
        → cond b (x.seq ∷ []) [] ≡ map (λ o. suc (length ms)) (cond b (m ∷ []) [])
    at true h =
        ap (λ (n : ℕ). n ∷ []) (eqb-true x.seq (suc (length ms))
        (and_parts (x.seq == suc (length ms)) _ h).0)
    at false h = refl
turn-number p ms (PendCert x m) h = at (x.sender == p) h
  where
    at : (b : Bool) → cond b (is_next_own ms x m) true ≡ true
        → cond b (x.seq ∷ []) [] ≡ map (λ o. suc (length ms)) (cond b (m ∷ []) [])
    at true h =
        ap (λ (n : ℕ). n ∷ []) (eqb-true x.seq (suc (length ms))
        (and_parts (x.seq == suc (length ms)) _ h).0)
    at false h = refl
turn-number p ms (Cert x) h = refl

-- the log after an event is the log before it, and names that join it
abbrev pub Grown : Service → Part → Part → Type 0
Grown s node after =
    (joined : List Label) × Join s (log node.records) joined
    × (log after.records ≡ log node.records ++ joined)

-- a record that the node holds comes in its turn
abbrev pub InTurn : ℕ → List Content → PartState → Type 0
InTurn p broadcast Ready = Unit {0}
InTurn p broadcast (Storing held cause) = is_in_turn p broadcast held ≡ true
InTurn p broadcast (Down doubtful) = Unit {0}

-- a user sees that a record is stored: the answer to an open submit, and what joins the log
pub commit-seen : (s : Service) (p n position : ℕ) (entry : Entry) (node : Part)
    → InTurn p node.broadcast node.state
    → Grown s node (commits n p position entry node node.state).1
    → Does s (finish_of (commits n p position entry node node.state).0) (shown_node p node)
    (shown_node p (commits n p position entry node node.state).1)
commit-seen s p n position entry node =
    at node.records node.state node.acks node.heard node.cursor node.broadcast
  where
    at : (records : List Entry) (held : PartState) (acks heard : List (Label × ℕ))
        (cursor : Option Label) (broadcast : List Content) → InTurn p broadcast held
        → Grown s (part records held acks heard cursor broadcast)
        (commits n p position entry (part records held acks heard cursor broadcast) held).1
        → Does s (finish_of
        (commits n p position entry (part records held acks heard cursor broadcast) held).0)
        (shown_node p (part records held acks heard cursor broadcast))
        (shown_node p
        (commits n p position entry (part records held acks heard cursor broadcast) held).1)
    at records Ready acks heard cursor broadcast turn = λ grown. refl
    at records (Down doubtful) acks heard cursor broadcast turn = λ grown. refl
    at records (Storing held cause) acks heard cursor broadcast turn =
        cond_both ((position == next_position
        (part records (Storing held cause) acks heard cursor broadcast)) && same_record entry held)
        _ _ (λ (o : Reply × Part).
        Grown s (part records (Storing held cause) acks heard cursor broadcast) o.1
        → Does s (finish_of o.0)
        (shown_node p (part records (Storing held cause) acks heard cursor broadcast))
        (shown_node p o.1))
        (λ _ grown. (
          refl,
          turn-number p broadcast held turn,
          (grown.0, grown.1, ap₂ ready_with (broadcast-own p held broadcast) grown.2),
        ))
        (λ _ grown. refl)

-- ---- a restart

-- a user sees a restart of a node, with the same answer
pub restart-seen : (s : Service) (p : ℕ) (image : List Entry) (node : Part)
    → Grown s node (restarts p image node node.state).1
    → Does s (seen.Restart (refusal_in (restarts p image node node.state).0)) (shown_node p node)
    (shown_node p (restarts p image node node.state).1)
restart-seen s p image node =
    at node.records node.state node.acks node.heard node.cursor node.broadcast
  where
    same : (records : List Entry) (broadcast : List Content)
        → ready_with broadcast (log records) ≡ ready_with (broadcast ++ []) (log records ++ [])
    same records broadcast =
        ap₂ ready_with (sym (append-nil broadcast)) (sym (append-nil (log records)))

    at : (records : List Entry) (held : PartState) (acks heard : List (Label × ℕ))
        (cursor : Option Label) (broadcast : List Content)
        → Grown s (part records held acks heard cursor broadcast)
        (restarts p image (part records held acks heard cursor broadcast) held).1
        → Does s (seen.Restart (refusal_in
        (restarts p image (part records held acks heard cursor broadcast) held).0))
        (shown_node p (part records held acks heard cursor broadcast))
        (shown_node p
        (restarts p image (part records held acks heard cursor broadcast) held).1)
    at records Ready acks heard cursor broadcast = λ grown. (refl, refl)
    at records (Storing entry cause) acks heard cursor broadcast = λ grown. (refl, refl)
    at records (Down None) acks heard cursor broadcast =
        cond_both (says image records) _ _ (λ (o : Reply × Part).
        Grown s (part records (Down None) acks heard cursor broadcast) o.1
        → Does s (seen.Restart (refusal_in o.0))
        (shown_node p (part records (Down None) acks heard cursor broadcast))
        (shown_node p o.1))
        (λ _ grown. (refl, inl ([], tt, same records broadcast)))
        (λ _ grown. (refl, refl))
    at records (Down (Some r)) acks heard cursor broadcast =
        cond_both (says image records) _ _ (λ (o : Reply × Part).
        Grown s (part records (Down (Some r)) acks heard cursor broadcast) o.1
        → Does s (seen.Restart (refusal_in o.0))
        (shown_node p (part records (Down (Some r)) acks heard cursor broadcast))
        (shown_node p o.1))
        (λ _ grown. (refl, inl ([], tt, same records broadcast)))
        (λ _. cond_both (says image (records ++ r ∷ [])) _ _ (λ (o : Reply × Part).
        Grown s (part records (Down (Some r)) acks heard cursor broadcast) o.1
        → Does s (seen.Restart (refusal_in o.0))
        (shown_node p (part records (Down (Some r)) acks heard cursor broadcast))
        (shown_node p o.1))
        (λ _ grown. (
          refl,
          inr (grown.0, grown.1, ap₂ ready_with (broadcast-own p r broadcast) grown.2),
        ))
        (λ _ grown. (refl, refl)))

-- ---- an arrival

module _ (s : Service) (size : Limits) (p q : ℕ) (x : Label) (m : Content) (flags : Option Flags)
    (node : Part) (ready : node.state ≡ Ready) where
  -- a user sees the outcome as a write, or sees nothing
  abbrev Seen : Reply × Part → Type 0
  Seen o = Does s (write_of o.0) (shown_node p node) (shown_node p o.1)

  writes : (r : Entry) (cause : Option Cause) (acks heard : List (Label × ℕ))
      → own p (pend (r ∷ [])) ≡ [] → Seen (drafts (told_node node acks heard) r cause)
  writes r cause acks heard none = (
    ap state_of ready,
    ap (writing node) (none ∙ sym (ap (λ (t : PartState). own p (pend (listed (doubt t)))) ready)),
  )

  other : (x.sender == p) ≡ false → own p ((x, m) ∷ []) ≡ []
  other e = ap (λ (b : Bool). cond b (m ∷ []) []) e

  counted : (heard : List (Label × ℕ))
      → Seen (counts size q x flags (record node { heard = heard }))
  counted heard =
      cond_both (majority_passes size.n (acked (with_ack node.acks x q) x)) _ _ Seen
      (λ _. writes (Cert x) (Some (packet_from q (says_certified flags)))
      (with_ack node.acks x q) heard refl)
      (λ _. cond_both (acked node.acks x q) _ _ Seen (λ _. refl) (λ _. refl))

  answered : (f : Option Flags) (heard : List (Label × ℕ))
      → Seen (answers p q x m f (record node { heard = heard }))
  answered None heard = refl
  answered (Some f) heard = cond_both f.heard _ _ Seen (λ _. refl) (λ _. refl)

  -- a user sees an arrival at a ready node as the begin of a write, or sees nothing, if no new pair
  -- is the node's own
  pub arrive-seen : (is_none (message_of (pend node.records) x) ≡ true → (x.sender == p) ≡ false)
      → Seen (arrives size p q x m flags node)
  arrive-seen foreign =
      cond_both (is_none (message_of (pend node.records) x)) _ _ Seen
      (λ none. cond_both (majority_passes size.n (λ z. (z == p) || (z == q))) _ _ Seen
      (λ _. writes (PendCert x m) (Some (packet_from q (says_certified flags))) node.acks
      node.heard (other (foreign none)))
      (λ _. writes (Pend x m) (Some (packet_from q (says_certified flags))) node.acks node.heard
      (other (foreign none))))
      (λ _. cond_both (not (has_name (cert node.records) x)) _ _ Seen
      (λ _. any-heard (λ told. Seen (counts size q x flags told)) q x flags node counted)
      (λ _. any-heard (λ told. Seen (answers p q x m flags told)) q x flags node (answered flags)))
