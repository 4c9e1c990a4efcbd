use Rattle.urb_pending.proofs.Common.{Label, ap, entry_lt, false≢true, placed, refl, rules, ◌==◌}
use Rattle.urb_pending.proofs.Common.{◌∙◌, ◌≡◌}
use Rattle.urb_pending.proofs.PreservedFields.{IsGiven, kept_with, placed_pair, roomier}
use Rattle.urb_pending.proofs.PreservedFields.{roomier_same}
use Rattle.urb_pending.proofs.PairSearches.{value_is}
use Rattle.urb_pending.proofs.pending.Pending.add.Goals as goal

pub invariant_of-self : goal.invariant_of-self
invariant_of-self g c =
    roomier c.self.inside c.make_room_if.new.self c.self.invariant c.make_room_if.ensures.given
    c.make_room_if.ensures.kept

pub insert-requires : goal.insert-requires
insert-requires g c =
    let asked = rw (← c.self.view_is) at c.requires in
    record { absent = value_is c.self.inside.windows.entries c.args.name ∙ asked.absent }

pub invariant_of-self-in_err-insert : goal.invariant_of-self-in_err-insert
invariant_of-self-in_err-insert g c =
    roomier_same c.self.inside c.make_room_if.new.self c.self.invariant c.make_room_if.ensures.given
    c.make_room_if.ensures.kept c.insert.new.self c.in_err-insert.ensures.err.1

pub invariant_of-self-2 : goal.invariant_of-self-2
invariant_of-self-2 g c =
    let asked = rw (← c.self.view_is) at c.requires in
    let entries : c.insert.new.self.entries ≡ placed entry_lt c.self.inside.windows.entries
    (c.args.name, c.args.message) = search rules in
    let own : c.eq-own.result ≡ (c.args.name.sender == c.self.inside.node) = search rules in
    let seq : c.name-2.inside.seq ≡ c.args.name.seq = ap (λ (y : Label). y.seq) c.name-2.view_is in
    let given : IsGiven (c.args.name.sender == c.self.inside.node)
    c.args.message.client c.args.name.seq c.make_room_if.new.self c.add_if.new.self =
    rw (own, c.client-client.ensures, seq) at c.add_if.ensures in
    kept_with c.self.inside c.args.name c.args.message c.insert.new.self c.make_room_if.new.self
    c.add_if.new.self c.self.invariant c.recall.ensures asked.absent asked.sender asked.cap
    asked.own entries
    c.make_room_if.ensures.given given

pub returns-clause-ok : goal.returns-clause-ok
returns-clause-ok g c =
    let entries : c.insert.new.self.entries ≡ placed entry_lt c.self.inside.windows.entries
    (c.args.name, c.args.message) = search rules in
    rw (
      ← c.self.view_is,
      entries
          ∙ placed_pair c.args.name c.args.message c.self.inside.windows.entries,
    ) refl

pub returns-in_err-insert-clause-reserved : goal.returns-in_err-insert-clause-reserved
returns-in_err-insert-clause-reserved g c = λ here.
    let room =
    c.self.invariant.room c.args.name c.args.message.client
    (ap (λ s. s.reserved) c.self.view_is ∙ here) in
    absurd (false≢true (c.in_err-insert.ensures.reserved room.under))
