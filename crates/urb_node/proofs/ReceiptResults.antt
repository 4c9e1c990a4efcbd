-- A receipt of the held draft: after it, the layers hold what the definition says.
use Rattle.urb_node.proofs.Common.{Carried, Cause, Cert, Confirms, Done, Entry, Held, Holding}
use Rattle.urb_node.proofs.Common.{IsDelivery, IsDrafted, IsHeld, IsNextHeld, IsPendingSet, Label}
use Rattle.urb_node.proofs.Common.{List, Memory, None, Ok, Option, Pend, PendCert, ShowsReady}
use Rattle.urb_node.proofs.Common.{and_parts, ap, arith, cases_Bool, commits, false, false≢true}
use Rattle.urb_node.proofs.Common.{has_name, in_range, is_accepted, is_none, is_some, length}
use Rattle.urb_node.proofs.Common.{memory_of, message_of, name_of, not, subst, suc, sym, true}
use Rattle.urb_node.proofs.Common.{with_record, ℕ, ⊎_elim, ◌&&◌, ◌+◌, ◌-◌, ◌∙◌, ◌≡◌}
use Rattle.std.proofs.lemmas.Bool.{not-true}
use Rattle.urb_names.proofs.FoundPairs.{none_found}
use Rattle.urb_stable.specs.PlacedRecords.{Placed}
use Rattle.urb_node.specs.Replies.{Stored}
use Rattle.urb_node.specs.NodeMemories.{draft_of}
use Rattle.urb_node.proofs.RecordOutcomes.{IsFirst, IsReleased, commit-says, same_limits, told_of}

-- a certified name is pending, so a name that is not pending is not certified
pub first_held : {A : Type 0} (h : Held A) (r : Entry) → IsHeld h → IsNextHeld h r
    → IsFirst (memory_of h) r
first_held h (Pend x m) k next = tt
first_held h (PendCert x m) k next =
    ⊎_elim (λ e. absurd (false≢true (sym (gone (none_found _ free)) ∙ k.pending x e))) (λ e. e)
    (cases_Bool (has_name h.acks.certified x))
  where
    free : is_none (message_of h.pending.pairs x) ≡ true
    free = (and_parts (in_range h.config x) (is_none (message_of h.pending.pairs x)) next.new).1

    gone : message_of h.pending.pairs x ≡ None → is_some (message_of h.pending.pairs x) ≡ false
    gone e = ap is_some e
first_held h (Cert x) k next =
    let parts =
    and_parts (in_range h.config x)
    (is_some (message_of h.pending.pairs x) && not (has_name h.acks.certified x)) next.new in
    not-true (has_name h.acks.certified x)
    (and_parts (is_some (message_of h.pending.pairs x))
    (not (has_name h.acks.certified x)) parts.1).1

-- a certificate is next only for a pending name
pub certified_pending : {A : Type 0} (h : Held A) (x : Label) → IsNextHeld h (Cert x)
    → is_some (message_of h.pending.pairs x) ≡ true
certified_pending h x next =
    let parts =
    and_parts (in_range h.config x)
    (is_some (message_of h.pending.pairs x) && not (has_name h.acks.certified x)) next.new in
    (and_parts (is_some (message_of h.pending.pairs x))
    (not (has_name h.acks.certified x)) parts.1).0

-- the log that the layers keep is the release of the certificates that they keep
pub released_held : {A : Type 0} (h : Held A) → IsHeld h → IsDelivery h.fifo
    → IsReleased (memory_of h)
released_held h k d =
    record {
      certificates = d.released.0;
      log = d.released.1.log;
      certified = λ x. sym (d.released.1.certified x) ∙ ap (λ names. has_name names x) k.certified;
    }

-- a receipt of the held draft has the definition's result once the record has joined the memory
pub confirm-leads : {A : Type 0} (held : Held A) (entry : Entry) (cause : Option Cause)
    (packets : List Carried) (receipt : Placed) (new : Memory) (told : Done)
    → IsDrafted held entry cause packets → IsPendingSet held.pending → IsDelivery held.fifo
    → receipt ≡ record { node = held.node; pos = held.stored + 1; entry = entry }
    → new ≡ with_record (memory_of held) entry cause
    → told.accepted ≡ is_accepted held.node entry → told.name ≡ name_of entry → told.sent ≡ packets
    → length new.log ≡ length held.fifo.log + told.released
    → Confirms (record { memory = memory_of held; entry = entry; cause = cause }) receipt
    (Ok (new, told))
confirm-leads held entry cause packets receipt new told drafted pending delivery is after accepted
    named sent released = (
      draft,
      (
        ap (λ (a : Memory). a.limits) after ∙ (same_limits (memory_of held) entry cause).0,
        ap (λ (a : Memory). a.node) after ∙ (same_limits (memory_of held) entry cause).1,
      ),
      λ node s.
          let says =
          commit-says h node s pending.rising drafted.next
          (released_held held drafted.held delivery)
          (first_held held entry drafted.held drafted.next) in
          subst (λ (p : Placed). ((commits h.memory.limits.n h.memory.node p.pos p.entry node
          node.state).0 ≡ Stored told) × ShowsReady new
          (commits h.memory.limits.n h.memory.node p.pos p.entry node node.state).1) (sym draft) (
            says.0 ∙ ap Stored (sym told_is),
            subst (λ (a : Memory). ShowsReady a
                (commits h.memory.limits.n h.memory.node
                (suc h.memory.count) h.entry node node.state).1) (sym after) says.1,
          ),
    )
  where
    h : Holding
    h = record { memory = memory_of held; entry = entry; cause = cause }

    one : (n : ℕ) → n + 1 ≡ suc n
    one n = omega arith

    draft : receipt ≡ draft_of h
    draft =
        is ∙ ap (λ (k : ℕ). record { node = held.node; pos = k; entry = entry }) (one held.stored)

    less : (a b c : ℕ) → a ≡ b + c → c ≡ a - b
    less a b c e = omega (arith, e)

    grown : told.released ≡ length
        (with_record (memory_of held) entry cause).log - length held.fifo.log
    grown =
        less (length new.log) (length held.fifo.log) told.released released
        ∙ ap (λ (a : Memory). length a.log - length held.fifo.log) after

    told_is : told ≡ told_of h
    told_is =
        λ i. record {
          accepted = accepted i;
          name = named i;
          sent =
              (sent ∙ drafted.sends) i;
          released = grown i;
        }
