-- What a desk said to be accepted is what desks read.
use Rattle.urb_desk.proofs.Common.{Contains, Content, DeskView, Event, GroupView, HasAccepted}
use Rattle.urb_desk.proofs.Common.{IsPrefix, List, inl, name, prefix_trans, subst, sym, ℕ, ⊎_elim}
use Rattle.urb_desk.proofs.Common.{◌-◌, ◌≡◌}
use Rattle.urb_names.specs.ListPrefixes.{OneBegins}
use Rattle.urb_show.proofs.AcceptedEntries.{accepted_everywhere}
use Rattle.urb_show.proofs.AgreeingLists.{either_prefix}
use Rattle.urb_show.specs.DeliveredLists.{AreDeliveredBy}
use Rattle.urb_show.specs.Lists.{list_at}
use Rattle.urb_show.specs.declared.entry.Entry.{Entry}
use Rattle.urb_desk.specs.Desks.{Looks}

-- of a prefix of the one history and another history, one is a prefix of the other
one_within : (past history other : List Event) → IsPrefix past history → OneBegins history other
    → OneBegins past other
one_within past history other within one =
    ⊎_elim (λ (t : IsPrefix history other). inl (prefix_trans past history other within t))
    (λ (t : IsPrefix other history). either_prefix past other history within t) one

-- an entry under a name that was accepted has the message that was accepted
pub accepted_read : (opened : GroupView) (seen history : List Event) (p : ℕ) (m : Content) (seq : ℕ)
    (before after : DeskView) (e : Entry) → HasAccepted opened seen history p m seq
    → Looks opened before after → OneBegins history after.past
    → Contains (list_at after.known.seen (before.node - 1)) e → e.name ≡ name p seq
    → e.message ≡ m
accepted_read opened seen history p m seq before after e accepted looked one there is =
    accepted_everywhere opened accepted.past after.past p (before.node - 1) (name p seq) m
    after.known.seen e accepted.sound
    (one_within accepted.past history after.past accepted.within one) accepted.stored
    (subst (λ (l : List Event). AreDeliveredBy opened l after.known.seen) (sym looked.place)
    looked.takes.delivered) there is
