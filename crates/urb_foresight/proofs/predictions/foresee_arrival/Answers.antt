use Rattle.std.proofs.Common.{ap, ap₂, inr, refl, rules, ◌∙◌, ◌≡◌}
use Rattle.urb_names.specs.Nodes.{is_majority}
use Rattle.urb_names.specs.PacketGrammar.{packet_of}
use Rattle.urb_foresight.proofs.ForeseenCalls.{arrival-answers, not-meant, of-bytes}
use Rattle.urb_foresight.proofs.ForeseenCalls.{pair-answers, says-more, takes-it, unparsed}
use Rattle.urb_foresight.specs.declared.foreseen.Foreseen.TheVariants as foreseen
use Rattle.urb_foresight.specs.internal.ReachedWorlds.{pair_record}
use Rattle.urb_foresight.proofs.predictions.foresee_arrival.Goals as goal

pub returns-in_default-clause-foreseen : goal.returns-in_default-clause-foreseen
returns-in_default-clause-foreseen g c = (
  refl,
  unparsed c.args.group.now c.args.node c.args.foresight.now c.requires.ready
      c.in_default.field-0 (packet_of c.args.bytes.now) c.in_default.ensures.exact,
)

pub returns-then-not-is_meant_for-clause-foreseen :
    goal.returns-then-not-is_meant_for-clause-foreseen
returns-then-not-is_meant_for-clause-foreseen g c =
    of-bytes c.args.group.now c.args.node c.args.foresight.now c.requires.ready c.in-Ok.packet
    (packet_of c.args.bytes.now) c.in-Ok.ensures.exact foreseen.NoDraft c.args.foresight.now (
      refl,
      not-meant c.args.group.now c.args.node c.args.foresight.now c.requires.ready
          c.in-Ok.packet (rw c.if-not-is_meant_for.true at c.is_meant_for.ensures),
    )

pub returns-in_default-find_taken-clause-foreseen :
    goal.returns-in_default-find_taken-clause-foreseen
returns-in_default-find_taken-clause-foreseen g c =
    of-bytes c.args.group.now c.args.node c.args.foresight.now c.requires.ready c.in-Ok.packet
    (packet_of c.args.bytes.now) c.in-Ok.ensures.exact foreseen.Unsure c.args.foresight.now (
      refl,
      inr (inr (inr (says-more c.args.group.now c.args.node c.args.foresight.now
          c.requires.ready c.in-Ok.packet (rw c.if-not-is_meant_for.false at c.is_meant_for.ensures)
          c.in_default-find_taken.ensures.taken))),
    )

pub returns-then-may-clause-foreseen : goal.returns-then-may-clause-foreseen
returns-then-may-clause-foreseen g c =
    let size : c.n.result ≡ c.args.group.now.size.n = search rules in
    pair-answers c.args.group.now c.args.node c.args.foresight.now c.requires.ready c.in-Ok.packet
    c.in-Ok.ensures.found.0.apart
    (takes-it c.args.group.now c.args.node c.args.foresight.now c.requires.ready c.in-Ok.packet
    (rw c.if-not-is_meant_for.false at c.is_meant_for.ensures) c.in-Some.ensures.taken)
    c.is_majority-are_two_enough.result
    (c.is_majority-are_two_enough.ensures ∙ ap (is_majority 2) size) (packet_of c.args.bytes.now)
    c.in-Ok.ensures.exact c.record_pair-pair.result
    (c.record_pair-pair.ensures
    ∙ ap₂ (pair_record c.is_majority-are_two_enough.result) c.name-name.ensures
    (c.in_ok-shared.ensures ∙ c.in-Some.ensures.same c.in-Some.message refl))
    (rw c.if-may.true at c.in_ok-may.ensures.may) c.add.new.self
    (rw c.if-may.true at c.in_ok-may.ensures.added)

pub returns-clause-foreseen : goal.returns-clause-foreseen
returns-clause-foreseen g c =
    let size : c.n.result ≡ c.args.group.now.size.n = search rules in
    arrival-answers c.args.group.now c.args.node c.args.foresight.now c.requires.ready
    c.in-Ok.packet c.in-Ok.ensures.found.0.apart
    (takes-it c.args.group.now c.args.node c.args.foresight.now c.requires.ready c.in-Ok.packet
    (rw c.if-not-is_meant_for.false at c.is_meant_for.ensures) c.in-Some.ensures.taken)
    c.is_majority-are_two_enough.result
    (c.is_majority-are_two_enough.ensures ∙ ap (is_majority 2) size) (packet_of c.args.bytes.now)
    c.in-Ok.ensures.exact c.record_pair-pair.result
    (c.record_pair-pair.ensures
    ∙ ap₂ (pair_record c.is_majority-are_two_enough.result) c.name-name.ensures
    (c.in_ok-shared.ensures ∙ c.in-Some.ensures.same c.in-Some.message refl))
    (rw c.if-may.false at c.in_ok-may.ensures.may) c.foresee_certificate.result c.add.new.self
    c.foresee_certificate.new.foresight (rw c.if-may.false at c.in_ok-may.ensures.added)
    (rw c.name-name.ensures at c.foresee_certificate.ensures.foreseen)
