-- What is stored, broadcast and delivered only grows at its end.
use Rattle.urb_world.proofs.Common.{Begins, Cert, Content, Entry, Event, GoesOn, Label, List, Node}
use Rattle.urb_world.proofs.Common.{Pend, PendCert, Reply, Run, World, [], any_left, ap, append-nil}
use Rattle.urb_world.proofs.Common.{append_assoc, broadcast_after, cert, cert-append, cond_both}
use Rattle.urb_world.proofs.Common.{filter, has_name, has_pair, has_pair-left, log, not, pend}
use Rattle.urb_world.proofs.Common.{pend-append, refl, reverse, run, step, subst, sym, true, ℕ}
use Rattle.urb_world.proofs.Common.{◌++◌, ◌==◌, ◌∙◌, ◌∷◌, ◌≡◌}
use Rattle.std.proofs.lemmas.List.{reverse-append}
use Rattle.urb_world.proofs.steps.ArrivalCases.{arrive-cases}
use Rattle.urb_world.proofs.steps.ConfirmedPackets.{borne-certificate, borne-pair, to_borne}
use Rattle.urb_world.specs.World.{stored}
use Rattle.urb_names.specs.Release.{beginning, released}
use Rattle.urb_world.proofs.steps.StepCases.{OutcomeCases, node_of, outcome-cases, step-nodes}
use Rattle.urb_world.specs.EventEffects.{event_node}

-- a list is a prefix of itself
pub begins-itself : {A : Type 0} (xs : List A) → Begins xs xs
begins-itself xs = ([], append-nil xs)

-- a prefix of a prefix of a list is a prefix of that list
pub begins-trans : {A : Type 0} (xs ys zs : List A) → Begins xs ys → Begins ys zs → Begins xs zs
begins-trans xs ys zs h k =
    (h.0 ++ k.0, sym (append_assoc xs h.0 k.0) ∙ (ap (λ ws. ws ++ k.0) h.1 ∙ k.1))

-- a list is a prefix of itself with one more element at its end
pub begins-push : {A : Type 0} (xs : List A) (x : A) → Begins xs (xs ++ x ∷ [])
begins-push xs x = (x ∷ [], refl)

-- ---- logs

released-behind : (newer older : List Label) → Begins (released older) (released (newer ++ older))
released-behind [] older = begins-itself (released older)
released-behind (x ∷ newer) older =
    begins-trans (released older) (released (newer ++ older)) (released (x ∷ (newer ++ older)))
    (released-behind newer older) (
      filter (λ y. not (has_name (released (newer ++ older)) y))
          (beginning x.sender (x ∷ (newer ++ older))),
      refl,
    )

-- the log of a prefix of some records is a prefix of the log of all of them
pub log-begins : (xs ys : List Entry) → Begins xs ys → Begins (log xs) (log ys)
log-begins xs ys h =
    subst (λ (zs : List Entry). Begins (log xs) (log zs)) h.1
    (subst (λ (certificates : List Label). Begins (log xs) (released certificates))
    (sym (ap reverse (cert-append xs h.0) ∙ reverse-append (cert xs) (cert h.0)))
    (released-behind (reverse (cert h.0)) (reverse (cert xs))))

-- a pair that is pending in a prefix of some records is pending in all of them
pub pair-begins : (xs ys : List Entry) → Begins xs ys → (x : Label) (m : Content)
    → has_pair (pend xs) x m ≡ true → has_pair (pend ys) x m ≡ true
pair-begins xs ys h x m k =
    subst (λ (zs : List Entry). has_pair (pend zs) x m ≡ true) h.1
    (subst (λ (ps : List (Label × Content)). has_pair ps x m ≡ true) (sym (pend-append xs h.0))
    (has_pair-left (pend xs) (pend h.0) x m k))

-- a name that is certified in a prefix of some records is certified in all of them
pub certificate-begins : (xs ys : List Entry) → Begins xs ys → (x : Label)
    → has_name (cert xs) x ≡ true → has_name (cert ys) x ≡ true
certificate-begins xs ys h x k =
    subst (λ (zs : List Entry). has_name (cert zs) x ≡ true) h.1
    (subst (λ (names : List Label). has_name names x ≡ true) (sym (cert-append xs h.0))
    (any_left _ (cert xs) (cert h.0) k))

-- ---- one node

pub record Extends (old new : Node) : Type 0 where
  -- the old records are a prefix of the new ones
  pub records : Begins old.records new.records
  -- the old broadcasts are a prefix of the new ones
  pub broadcast : Begins old.broadcast new.broadcast

-- an outcome with the same records and broadcasts
stays : (node new : Node) → node.records ≡ new.records → node.broadcast ≡ new.broadcast
    → Extends node new
stays node new e f = record {
  records = ([], append-nil node.records ∙ e);
  broadcast =
      ([], append-nil node.broadcast ∙ f);
}

abbrev Goes : Node → Reply × Node → Type 0
Goes node outcome = Extends node outcome.1

more_broadcast : (p : ℕ) (r : Entry) (messages : List Content)
    → Begins messages (broadcast_after p r messages)
more_broadcast p (Pend x m) messages =
    cond_both (x.sender == p) _ _ (Begins messages) (λ _. begins-push messages m)
    (λ _. begins-itself messages)
more_broadcast p (PendCert x m) messages =
    cond_both (x.sender == p) _ _ (Begins messages) (λ _. begins-push messages m)
    (λ _. begins-itself messages)
more_broadcast p (Cert x) messages = begins-itself messages

-- ---- the world

goes_on : (old new : World) → ((p : ℕ) → Extends (old.node p) (new.node p)) → GoesOn old new
goes_on old new h =
    record {
      records = λ p. (h p).records;
      broadcast = λ p. (h p).broadcast;
      delivered = λ p. log-begins (stored old p) (stored new p) (h p).records;
      truth = λ packet t.
          let more = (h packet.source).records in
          to_borne (stored new packet.source) packet
          (pair-begins (stored old packet.source)
          (stored new packet.source) more packet.name packet.message
          (borne-pair (stored old packet.source) packet t))
          (λ e. certificate-begins (stored old packet.source)
          (stored new packet.source) more packet.name
          (borne-certificate (stored old packet.source) packet t e));
    }

extends-itself : (node : Node) → Extends node node
extends-itself node = stays node node refl refl

step-extends : (w : World) (event : Event) (q : ℕ) → Extends (w.node q) ((step w event).1.node q)
step-extends w event =
    step-nodes (λ q n. Extends (w.node q) n) w event (λ q. extends-itself (w.node q))
    (outcome-cases (Goes node) w event cases)
  where
    node : Node
    node = node_of w event

    cases : OutcomeCases (Goes node) w event
    cases =
        record {
          refused = λ r. stays node _ refl refl;
          again = λ x ready. stays node _ refl refl;
          alone = λ m new e. stays node _ refl refl;
          among = λ m new e. stays node _ refl refl;
          arrived = λ packet e ready t.
              arrive-cases (Goes node) w.size
              (event_node event) packet.source packet.name packet.message packet.flags node
              (λ cause. stays node _ refl refl) (λ cause. stays node _ refl refl)
              (λ acks heard cause. stays node _ refl refl)
              (λ acks heard told. stays node _ refl refl);
          ticked = λ e ready. stays node _ refl refl;
          stored =
              λ position entry held cause e f.
              record {
                records = begins-push node.records held;
                broadcast =
                    more_broadcast (event_node event) held node.broadcast;
              };
          down = λ e up. stays node _ refl refl;
          up = λ image doubtful e f. stays node _ refl refl;
          joined =
              λ image r e f. record {
                records = begins-push node.records r;
                broadcast =
                    more_broadcast (event_node event) r node.broadcast;
              };
        }

-- an event adds only at the end of what each node stores, broadcasts and delivers, and truthful
-- packets stay truthful
pub step-goes_on : (w : World) (event : Event) → GoesOn w (step w event).1
step-goes_on w event = goes_on w (step w event).1 (step-extends w event)

run-extends : (w : World) (events : List Event) (q : ℕ)
    → Extends (w.node q) ((run w events).1.node q)
unfolding run
run-extends w [] q = extends-itself (w.node q)
run-extends w (event ∷ events) q =
    let one = step-extends w event q in
    let rest = run-extends (step w event).1 events q in
    record {
      records =
          begins-trans (w.node q).records
          ((step w event).1.node q).records _ one.records rest.records;
      broadcast =
          begins-trans (w.node q).broadcast
          ((step w event).1.node q).broadcast _ one.broadcast rest.broadcast;
    }

-- a run adds only at the end of what each node stores, broadcasts and delivers, and truthful
-- packets stay truthful
pub run-goes_on : (old new : World) (events : List Event) (replies : List Reply)
    → Run old events replies new → GoesOn old new
run-goes_on old new events replies r =
    subst (λ (v : List Reply × World). GoesOn old v.1) r
    (goes_on old (run old events).1 (run-extends old events))
