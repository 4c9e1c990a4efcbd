-- What one world of a group keeps, each world that the group shows keeps. A step keeps a group
-- sound.
use Rattle.urb_group.proofs.Common.{Bool, Cert, Content, Down, Entry, Event, GroupView, Grows}
use Rattle.urb_group.proofs.Common.{IsKept, IsSound, KeepsOwn, Kept, Label, Limits, List, MayJoin}
use Rattle.urb_group.proofs.Common.{Node, NodeKept, NodeShort, None, Pend, PendCert, Ready, Rules}
use Rattle.urb_group.proofs.Common.{Shows, Some, Storing, World, [], ap, ap₂, cert, cond, doubt}
use Rattle.urb_group.proofs.Common.{false, has_name, has_pair, has_pair-left, held_by_majority}
use Rattle.urb_group.proofs.Common.{in_range, is_next_own, is_none, is_some, known_held, message_of}
use Rattle.urb_group.proofs.Common.{name, not, own, pend, pend-append, refl, step-keeps, stored}
use Rattle.urb_group.proofs.Common.{subst, suc, sym, true, updated, ℕ, ⊎_elim, ◌&&◌, ◌++◌, ◌==◌}
use Rattle.urb_group.proofs.Common.{◌∙◌, ◌∷◌, ◌≡◌}
use Rattle.urb_world.proofs.steps.OneNodeStep.{caused-grows}
use Rattle.urb_world.proofs.steps.ShortPayloads.{step-short}
use Rattle.urb_world.specs.RunInvariant.{DoubtShort, StateKept}
use Rattle.urb_world.specs.Step.{step}
use Rattle.urb_names.proofs.FoundPairs.{Unique, has_pair-cases, has_pair-right, same_found}
use Rattle.urb_names.proofs.Places.{same_at_each}
use Rattle.urb_names.specs.Acknowledgements.{acked}
use Rattle.urb_node.specs.Part.{State}
use Rattle.urb_stable.proofs.KeptRules.{kept-held, kept-known, kept-numbered, kept-unique}
use Rattle.urb_stable.proofs.KeptRules.{majority_held-grows, rules-grow}
use Rattle.urb_stable.proofs.OwnRules.{to_kept}

-- the two don't differ in what a group holds in memory
pub record Alike (size : Limits) (p : ℕ) (a b : Node) : Type 0 where
  -- both have the same pending pairs
  pub pairs : (x : Label) (m : Content)
      → has_pair (pend a.records) x m ≡ has_pair (pend b.records) x m
  -- both have certified the same names
  pub certified : (x : Label) → has_name (cert a.records) x ≡ has_name (cert b.records) x
  -- both are in the same state
  pub state : a.state ≡ b.state
  -- both have counted the same nodes for each name that is not certified
  pub acks : (x : Label) (q : ℕ) → has_name (cert b.records) x ≡ false
      → acked a.acks x q ≡ acked b.acks x q
  -- the second node's records keep the rules that concern its own image alone
  pub rules : KeepsOwn size p [] b.records
  -- the second node's broadcasts are its own pending messages
  pub broadcast : b.broadcast ≡ own p (pend b.records)

module _ (size : Limits) (node new : ℕ → Node) (alike : (p : ℕ) → Alike size p (node p) (new p))
    (kept : (p : ℕ) → NodeKept size (λ q. (node q).records) p (node p)) where
  abbrev old_images : ℕ → List Entry
  old_images q = (node q).records

  abbrev new_images : ℕ → List Entry
  new_images q = (new q).records

  grows : Grows old_images new_images
  grows q x m h = sym ((alike q).pairs x m) ∙ h

  back : (q : ℕ) (x : Label) (m : Content) → has_pair (pend (new_images q)) x m ≡ true
      → has_pair (pend (old_images q)) x m ≡ true
  back q x m h = (alike q).pairs x m ∙ h

  old_unique : (p : ℕ) → Unique (pend (old_images p))
  old_unique p = kept-unique size old_images p (old_images p) (kept p).kept

  new-kept : (p : ℕ) → Kept size new_images p [] (new_images p)
  new-kept p =
      to_kept size new_images p (new_images p) known held [] (new_images p) refl (alike p).rules
    where
      known : (x : Label) (m : Content) → has_pair (pend (new_images p)) x m ≡ true
          → (x.sender == p) ≡ false → has_pair (pend (new_images x.sender)) x m ≡ true
      known x m h e =
          grows x.sender x m (kept-known size old_images p (old_images p) (kept p).kept x m
          (back p x m h) e)

      held : (x : Label) (m : Content) → has_name (cert (new_images p)) x ≡ true
          → has_pair (pend (new_images p)) x m ≡ true
          → held_by_majority size.n new_images x m ≡ true
      held x m c h =
          let k =
          kept-held size old_images p (old_images p) (kept p).kept x
          ((alike p).certified x ∙ c) in
          let e : Some k.0 ≡ Some m = sym k.1 ∙ old_unique p x m (back p x m h) in
          let f : k.0 ≡ m = cc in
          majority_held-grows size.n old_images new_images x m grows
          (subst (λ (v : Content). held_by_majority size.n old_images x v ≡ true) f k.2)

  found-same : (p : ℕ) (x : Label)
      → message_of (pend (old_images p)) x ≡ message_of (pend (new_images p)) x
  found-same p =
      same_found (pend (old_images p)) (pend (new_images p)) (alike p).pairs (old_unique p)
      (kept-unique size new_images p (new_images p) (new-kept p))

  own-same : (p : ℕ) → own p (pend (old_images p)) ≡ own p (pend (new_images p))
  own-same p =
      same_at_each _ _ (λ j. sym (kept-numbered size old_images p (old_images p) (kept p).kept j)
      ∙ (found-same p (name p (suc j))
      ∙ kept-numbered size new_images p (new_images p) (new-kept p) j))

  joined-grows : (p : ℕ) (r : Entry)
      → Grows (updated old_images p (old_images p ++ r ∷ []))
      (updated new_images p (new_images p ++ r ∷ []))
  joined-grows p r q x m = at (q == p)
    where
      at : (b : Bool) → has_pair (pend (cond b (old_images p ++ r ∷ []) (old_images q))) x m ≡ true
          → has_pair (pend (cond b (new_images p ++ r ∷ []) (new_images q))) x m ≡ true
      at false h = grows q x m h
      at true h =
          subst (λ (ps : List (Label × Content)). has_pair ps x m ≡ true)
          (sym (pend-append (new_images p) (r ∷ [])))
          (⊎_elim (λ e. has_pair-left (pend (new_images p)) (pend (r ∷ [])) x m (grows p x m e))
          (λ e. has_pair-right (pend (new_images p)) (pend (r ∷ [])) x m e)
          (has_pair-cases (pend (old_images p)) (pend (r ∷ [])) x m
          (subst (λ (ps : List (Label × Content)). has_pair ps x m ≡ true)
          (pend-append (old_images p) (r ∷ [])) h)))

  joins : (p : ℕ) (r : Entry) → MayJoin size old_images p (old_images p) r
      → MayJoin size new_images p (new_images p) r
  joins p r h =
      over r (rules-grow size (updated old_images p (old_images p ++ r ∷ []))
      (updated new_images p (new_images p ++ r ∷ [])) p (old_images p) r (joined-grows p r) h)
    where
      over : (r : Entry) → Rules size (updated new_images p (new_images p ++ r ∷ [])) p
          (old_images p) r → MayJoin size new_images p (new_images p) r
      over (Pend x m) h =
          record {
            a = ap (λ o. in_range size x && is_none o) (sym (found-same p x)) ∙ h.a;
            b = ap (λ ms. cond (x.sender == p) (is_next_own ms x m) true) (sym (own-same p)) ∙ h.b;
            c = h.c;
            d = refl;
          }
      over (PendCert x m) h =
          record {
            a = ap (λ o. in_range size x && is_none o) (sym (found-same p x)) ∙ h.a;
            b = ap (λ ms. cond (x.sender == p) (is_next_own ms x m) true) (sym (own-same p)) ∙ h.b;
            c = h.c;
            d = h.d;
          }
      over (Cert x) h =
          record {
            a =
                ap₂ (λ o b. in_range size x && (is_some o && not b)) (sym (found-same p x))
                (sym ((alike p).certified x)) ∙ h.a;
            b = refl;
            c = refl;
            d =
                ap (known_held size.n (updated new_images p (new_images p ++ Cert x ∷ [])) x)
                (sym (found-same p x)) ∙ h.d;
          }

  state-same : (p : ℕ) (s : State) → StateKept size old_images p (old_images p) s
      → StateKept size new_images p (new_images p) s
  state-same p Ready h = tt
  state-same p (Storing r cause) h =
      (joins p r h.0, caused-grows old_images new_images r cause grows h.1)
  state-same p (Down None) h = tt
  state-same p (Down (Some r)) h = joins p r h

  alike-kept : (p : ℕ) → NodeKept size new_images p (new p)
  alike-kept p =
      record {
        kept = new-kept p;
        state =
            subst (λ (s : State). StateKept size new_images p (new_images p) s) (alike p).state
            (state-same p (node p).state (kept p).state);
        acks = λ x q c h.
            let k = (kept p).acks x q ((alike p).certified x ∙ c) ((alike p).acks x q c ∙ h) in
            (k.0, sym (found-same p x) ∙ k.1, grows q x k.0 k.2);
        broadcast = (alike p).broadcast;
      }

-- ---- payloads

-- if the payloads of the one node are within the limit, so are those of the other
alike-short : (size : Limits) (p : ℕ) (old new : Node) → Alike size p old new → NodeShort old
    → NodeShort new
alike-short size p old new alike short =
    record {
      stored = λ x m h. short.stored x m (alike.pairs x m ∙ h);
      doubtful = subst (λ (s : State). DoubtShort (doubt s)) alike.state short.doubtful;
    }

-- ---- shown by one group

shown-alike : (group : GroupView) (old new : World) → Shows group old → Shows group new → (p : ℕ)
    → Alike old.size p (old.node p) (new.node p)
shown-alike group old new s t p =
    let a = s.nodes p in
    let b = t.nodes p in
    record {
      pairs = λ x m. sym (a.pairs x m) ∙ b.pairs x m;
      certified = λ x. sym (a.certified x) ∙ b.certified x;
      state = sym a.state ∙ b.state;
      acks = λ x q c. sym (a.acks x q (sym (a.certified x) ∙ (b.certified x ∙ c))) ∙ b.acks x q c;
      rules =
          subst (λ (size : Limits). KeepsOwn size p [] (stored new p))
          (sym (sym s.size ∙ t.size)) b.rules;
      broadcast = b.broadcast;
    }

shown-kept : (group : GroupView) (old new : World) → Shows group old → Shows group new → IsKept old
    → IsKept new
shown-kept group old new s t kept =
    record {
      nodes =
          λ p. subst (λ (size : Limits). NodeKept size (stored new) p (new.node p))
          (sym s.size ∙ t.size) (alike-kept old.size old.node new.node alike kept.nodes p);
      short = λ p. alike-short old.size p (old.node p) (new.node p) (alike p) (kept.short p);
    }
  where
    alike : (p : ℕ) → Alike old.size p (old.node p) (new.node p)
    alike = shown-alike group old new s t

-- a sound group keeps the rules and the limits in every world that it shows
pub sound-kept : (group : GroupView) (w : World) → IsSound group → Shows group w → IsKept w
sound-kept group w s t = shown-kept group s.world w s.shows t s.kept

-- a step keeps it sound
pub sound-step : (old new : GroupView) (event : Event) → IsSound old
    → ((w : World) → Shows old w → Shows new (step w event).1) → IsSound new
sound-step old new event s shows =
    record {
      world = (step s.world event).1;
      shows = shows s.world s.shows;
      kept = record {
        nodes = (step-keeps s.world event s.kept.nodes).nodes;
        short =
            step-short s.world event s.kept.short;
      };
    }
