-- Which nodes hold a pair, whether one has certified it, and whether a packet is taken.
use Rattle.std.proofs.Common.{Bool, List, None, Option, Some, [], ap, ap₂, arith, cond, count_by}
use Rattle.std.proofs.Common.{lt-ltb, nat_lt, ◌<◌, eqb-true, false, is_some, not, refl, subst, suc}
use Rattle.std.proofs.Common.{sym, true, ℕ, ◌&&◌, ◌++◌, ◌+◌, ◌-◌, ◌==◌, ◌∙◌, ◌∷◌, ◌≡◌, ◌≢◌, ◌≤◌}
use Rattle.std.proofs.Math.Bool.{and_assoc}
use Rattle.std.proofs.lemmas.Bool.{and_from, and_left, and_parts, and_right, false≢true, not-true}
use Rattle.std.proofs.lemmas.List.Sums.{sum_by-append, sum_by-cons}
use Rattle.std.specs.Bool.{MatchBool}
use Rattle.urb_names.proofs.FoundPairs.{has_pair-found, no_pair}
use Rattle.urb_names.proofs.Places.{numbers_more}
use Rattle.urb_names.proofs.TruthValues.{both_ways}
use Rattle.urb_names.specs.CarriedPackets.{Carried}
use Rattle.urb_names.specs.LabelsAndContents.{Content, Label, Limits}
use Rattle.urb_names.specs.Nodes.{is_majority, is_node, majority_passes, numbers_from}
use Rattle.urb_names.specs.Pairs.{has_pair, message_of}
use Rattle.urb_stable.proofs.KeptRules.{kept-held, kept-range, kept-unique}
use Rattle.urb_stable.proofs.OwnRules.{own-unique}
use Rattle.urb_stable.specs.Entries.{Entry}
use Rattle.urb_stable.specs.Fitting.{in_range, known_held}
use Rattle.urb_stable.specs.Records.{pend}
use Rattle.urb_stable.specs.declared.record.Record.TheVariants.{Cert}
use Rattle.urb_world.proofs.steps.ConfirmedPackets.{borne-certificate, borne-pair, to_borne}
use Rattle.urb_world.proofs.steps.Growth.{certificate-begins, pair-begins}
use Rattle.urb_world.specs.RunInvariant.{IsKept, MayJoin}
use Rattle.urb_world.specs.Step.{is_for}
use Rattle.urb_world.specs.World.{World, bears_out, stored, truthful, updated}
use Rattle.urb_group.specs.GroupViews.{GroupView, Shows}
use Rattle.urb_group.specs.TailQuestions.{TellsTail}
use Rattle.urb_group.specs.declared.state.State.{State}
use Rattle.urb_foresight.proofs.FollowingRecords.{certificate-held, then-elsewhere, world_then}
use Rattle.urb_foresight.specs.ForeseenDrafts.{IsOnceStored}
use Rattle.urb_foresight.specs.internal.ReachedWorlds.{has_certificate, holders, holds, is_as_told}
use Rattle.urb_foresight.specs.internal.ReachedWorlds.{is_borne_out, is_taken}

-- ---- one node

module _ (group : GroupView) (w : World) (shows : Shows group w) (q : ℕ) (x : Label) where
  -- what the group tells of the name at node q
  abbrev pub told : Option Content
  told = cond (is_node w.size.n q) (message_of (pend (stored w q)) x) None

  -- it has stored the message that the group tells
  found-both : (b : Bool) (m : Content)
      → Some m ≡ cond b (message_of (pend (stored w q)) x) None
      → (b ≡ true) × (message_of (pend (stored w q)) x ≡ Some m)
  found-both true m e = (refl, sym e)
  found-both false m e = cc

  -- a node holds a pair exactly if the message that the group tells is the pair's
  pub holds-same : (b : Bool) (held m : Content) → Some held ≡ told
      → MatchBool b (held ≡ m) (¬ (held ≡ m)) → b ≡ holds w q x m
  holds-same true held m e same =
      let parts = found-both (is_node w.size.n q) held e in
      sym (and_from (is_node w.size.n q) (has_pair (pend (stored w q)) x m) parts.0
      (subst (λ (o : Content). has_pair (pend (stored w q)) x o ≡ true) same
      (has_pair-found (pend (stored w q)) x held parts.1)))
  holds-same false held m e other =
      let parts = found-both (is_node w.size.n q) held e in
      sym (and_right (is_node w.size.n q) (has_pair (pend (stored w q)) x m)
      (other_pair (has_pair (pend (stored w q)) x m) refl parts.1))
    where
      other_pair : (b : Bool) → has_pair (pend (stored w q)) x m ≡ b
          → message_of (pend (stored w q)) x ≡ Some held → b ≡ false
      other_pair false h f = refl
      other_pair true h f =
          let same : Some held ≡ Some m =
          sym f ∙ own-unique w.size q (stored w q) (shows.nodes q).rules x m h in
          let it : held ≡ m = cc in
          absurd (other it)

  -- if the group tells no message of a name at a node, the node holds no pair of it
  pub holds-none : (m : Content) → None ≡ told → false ≡ holds w q x m
  holds-none m e = at (is_node w.size.n q) (has_pair (pend (stored w q)) x m) e refl
    where
      at : (a b : Bool) → None ≡ cond a (message_of (pend (stored w q)) x) None
          → has_pair (pend (stored w q)) x m ≡ b → false ≡ (a && b)
      at false b e h = refl
      at true false e h = refl
      at true true e h = absurd (no_pair (pend (stored w q)) x m (sym e) h)

-- ---- all nodes

-- one more node is counted
pub counted-on : (test : ℕ → Bool) (number count one k : ℕ) → 1 ≤ number → k ≡ number
    → ◌≡◌ {A = ℕ} one (cond (test k) 1 0) → count ≡ count_by test (numbers_from 1 (number - 1))
    → count + one ≡ count_by test (numbers_from 1 (number + 1 - 1))
counted-on test number count one k low same e h =
    let here : 1 + (number - 1) ≡ k = omega (arith, low, same) in
    let next : number + 1 - 1 ≡ suc (number - 1) = omega (arith, low) in
    let all = ap (λ (j : ℕ). count_by test (numbers_from 1 j)) next
    ∙ (ap (count_by test) (numbers_more 1 (number - 1))
    ∙ sum_by-append (λ (q : ℕ). cond (test q) 1 0) (numbers_from 1 (number - 1))
    ((1 + (number - 1)) ∷ [])) in
    let last = sum_by-cons (λ (q : ℕ). cond (test q) 1 0) (1 + (number - 1)) [] in
    let same_one : ◌≡◌ {A = ℕ} one (cond (test (1 + (number - 1))) 1 0) =
    e ∙ ap (λ (j : ℕ). cond (test j) 1 0) (sym here) in
    omega (arith, all, last, same_one, h)

-- the numbers from 1 to the group's size are nodes
pub is-node-of : (group : GroupView) (w : World) → Shows group w → (n i k : ℕ) → k ≡ i
    → n ≡ group.size.n → 1 ≤ i → i < n + 1 → is_node w.size.n k ≡ true
is-node-of group w shows n i k same size low high =
    let all = size ∙ ap (λ (l : Limits). l.n) shows.size in
    and_from (nat_lt 0 k) (nat_lt k (suc w.size.n)) (lt-ltb 0 k (omega (arith, same, low)))
    (lt-ltb k (suc w.size.n) (omega (arith, same, high, all)))

-- a node of the group counts as one if it holds the pair
pub holder-is : (w : World) (q : ℕ) (x : Label) (m : Content) (b : Bool) (one : ℕ)
    → is_node w.size.n q ≡ true → one ≡ cond b 1 0 → b ≡ holds w q x m
    → one ≡ cond (has_pair (pend (stored w q)) x m) 1 0
holder-is w q x m b one is e h =
    e ∙ ap (λ (c : Bool). cond c 1 0)
    (h ∙ ap (λ (c : Bool). c && has_pair (pend (stored w q)) x m) is)

-- ---- certificates

module _ (group : GroupView) (w : World) (shows : Shows group w) (kept : IsKept w) (q : ℕ)
    (x : Label) (m : Content) (held : holds w q x m ≡ true) where
  -- the group has the node, and the node has stored the pair
  parts : (is_node w.size.n q ≡ true) × (has_pair (pend (stored w q)) x m ≡ true)
  parts = and_parts (is_node w.size.n q) (has_pair (pend (stored w q)) x m) held

  -- it has stored this message under the name
  found : message_of (pend (stored w q)) x ≡ Some m
  found = kept-unique w.size (stored w) q (stored w q) (kept.nodes q).kept x m parts.1

  -- a certificate that may follow isn't stored
  pub not-certified : TellsTail group q (Cert x ∷ []) true → false ≡ has_certificate w q x
  not-certified tells =
      sym (not-true (has_certificate w q x)
      (and_parts (is_some (message_of (pend (stored w q)) x)) _
      (and_parts (in_range w.size x) _ ((tells w shows).0 refl).1.0.a).1).1)

  -- a certificate of a pair that a majority holds may join if it isn't stored
  join : is_majority (holders w x m) w.size.n ≡ true → has_certificate w q x ≡ false
      → MayJoin w.size (stored w) q (stored w q) (Cert x)
  join most new =
      record {
        a =
            and_from (in_range w.size x) _
            (kept-range w.size (stored w) q (stored w q) (kept.nodes q).kept x m parts.1)
            (and_from (is_some (message_of (pend (stored w q)) x)) _ (ap is_some found)
            (ap not new));
        b = refl;
        c = refl;
        d =
            ap (known_held w.size.n (updated (stored w) q (stored w q ++ Cert x ∷ [])) x) found
            ∙ certificate-held w.size (stored w) q (stored w q) x (Some m) found most;
      }

  -- a certificate that may not follow is stored exactly if a majority holds its pair
  pub certified-if : (count : ℕ) → count ≡ holders w x m → TellsTail group q (Cert x ∷ []) false
      → is_majority count w.size.n ≡ has_certificate w q x
  certified-if count e tells =
      ap (λ (k : ℕ). is_majority k w.size.n) e
      ∙ both_ways (is_majority (holders w x m) w.size.n) (has_certificate w q x)
      (λ most. to most (has_certificate w q x) refl) from
    where
      to : is_majority (holders w x m) w.size.n ≡ true → (b : Bool) → has_certificate w q x ≡ b
          → b ≡ true
      to most true f = refl
      to most false f =
          absurd (false≢true ((tells w shows).1 (parts.0, (join most f, tt))))

      from : has_certificate w q x ≡ true → is_majority (holders w x m) w.size.n ≡ true
      from f =
          let h = kept-held w.size (stored w) q (stored w q) (kept.nodes q).kept x f in
          let both : Some h.0 ≡ Some m = sym h.1 ∙ found in
          let same : h.0 ≡ m = cc in
          subst (λ (o : Content). majority_passes w.size.n (λ z. has_pair (pend (stored w z)) x o)
          ≡ true) same h.2

-- ---- packets

-- a group has a node exactly if it tells the node's state
pub node-told : (b : Bool) (state : State) (o : Option State) → o ≡ cond b (Some state) None
    → is_some o ≡ b
node-told true state o e = ap is_some e
node-told false state o e = ap is_some e

module _ (w : World) (p : ℕ) (packet : Carried) where
  -- a packet with another target isn't for this node
  pub not-target : (packet.target == p) ≡ false → false ≡ is_for w p packet
  not-target e =
      sym (and_right (is_node w.size.n packet.source && is_node w.size.n packet.name.sender)
      (packet.target == p) e)

  -- a packet of a source that the group doesn't have isn't for a node of the group
  pub not-source : false ≡ is_node w.size.n packet.source → false ≡ is_for w p packet
  not-source e =
      sym (and_left (is_node w.size.n packet.source && is_node w.size.n packet.name.sender)
      (packet.target == p)
      (and_left (is_node w.size.n packet.source) (is_node w.size.n packet.name.sender) (sym e)))

  -- another packet is for its target exactly if the group has its name's sender
  pub for-target : (b : Bool) → (packet.target == p) ≡ true → true ≡ is_node w.size.n packet.source
      → b ≡ is_node w.size.n packet.name.sender → b ≡ is_for w p packet
  for-target b here source e =
      e
      ∙ (sym (and-true (is_node w.size.n packet.name.sender))
      ∙ ap₂ (λ (s t : Bool). (s && is_node w.size.n packet.name.sender) && t) source (sym here))
    where
      and-true : (c : Bool) → (c && true) ≡ c
      and-true true = refl
      and-true false = refl

  -- the group has the source of a packet that is for its node
  source-is : true ≡ is_for w p packet → is_node w.size.n packet.source ≡ true
  source-is meant =
      (and_parts (is_node w.size.n packet.source) (is_node w.size.n packet.name.sender)
      (and_parts (is_node w.size.n packet.source && is_node w.size.n packet.name.sender)
      (packet.target == p) (sym meant)).0).0

  -- a packet that is for a node is taken if its source bears it out
  pub taken-from : true ≡ is_for w p packet → true ≡ is_borne_out w packet
      → true ≡ is_taken w p packet
  taken-from meant borne =
      sym (and_from (is_for w p packet) (truthful w packet) (sym meant)
      (and_parts (is_node w.size.n packet.source) (truthful w packet) (sym borne)).1)

  -- otherwise it says more than its source has stored
  pub not-truthful : true ≡ is_for w p packet → false ≡ is_borne_out w packet
      → truthful w packet ≡ false
  not-truthful meant never =
      at (is_node w.size.n packet.source) (truthful w packet) (source-is meant) never
    where
      at : (a b : Bool) → a ≡ true → false ≡ (a && b) → b ≡ false
      at true b e f = sym f
      at false b e f = absurd (false≢true e)

-- two answers about a packet's source tell whether the source bears it out
pub borne-out-if : (w : World) (packet : Carried) (a b : Bool)
    → a ≡ holds w packet.source packet.name packet.message → b ≡ is_as_told w packet
    → (a && b) ≡ is_borne_out w packet
borne-out-if w packet a b h k =
    ap₂ (λ (s t : Bool). s && t) h k
    ∙ and_assoc (is_node w.size.n packet.source)
    (has_pair (pend (stored w packet.source)) packet.name packet.message) (is_as_told w packet)

-- the limits say whether a packet is for a node
pub for-later : (w v : World) (p : ℕ) (packet : Carried) → v.size ≡ w.size
    → is_for v p packet ≡ is_for w p packet
for-later w v p packet size =
    ap (λ (l : Limits). (is_node l.n packet.source && is_node l.n packet.name.sender)
    && (packet.target == p)) size

-- ---- packets later on

module _ (w v : World) (p : ℕ) (records : List Entry) (packet : Carried)
    (once : IsOnceStored w p records v) (apart : packet.source ≢ packet.target)
    (taken : true ≡ is_taken w p packet) where
  -- the packet is for node p, and its source has stored what it says
  both : (is_for w p packet ≡ true) × (truthful w packet ≡ true)
  both = and_parts (is_for w p packet) (truthful w packet) (sym taken)

  -- its source is another node
  other : packet.source ≢ p
  other e =
      apart (e ∙ sym (eqb-true packet.target p
      (and_parts (is_node w.size.n packet.source && is_node w.size.n packet.name.sender)
      (packet.target == p) both.0).1))

  -- a packet that was taken is taken once nodes have stored more
  pub taken-later : is_taken v p packet ≡ true
  taken-later =
      let begins = once.others packet.source other in
      and_from (is_for v p packet) (truthful v packet)
      (for-later w v p packet once.size ∙ both.0)
      (to_borne (stored v packet.source) packet
      (pair-begins (stored w packet.source) (stored v packet.source) begins packet.name
      packet.message (borne-pair (stored w packet.source) packet both.1))
      (λ e. certificate-begins (stored w packet.source) (stored v packet.source) begins packet.name
      (borne-certificate (stored w packet.source) packet both.1 e)))

  -- it is taken as well in the first world with node p's part of the second one
  pub taken-then : is_taken (world_then w p v) p packet ≡ true
  taken-then =
      and_from (is_for (world_then w p v) p packet) (truthful (world_then w p v) packet)
      (for-later w (world_then w p v) p packet once.size ∙ both.0)
      (ap (λ (rs : List Entry). bears_out rs packet)
      (then-elsewhere p records w v once packet.source other) ∙ both.1)
