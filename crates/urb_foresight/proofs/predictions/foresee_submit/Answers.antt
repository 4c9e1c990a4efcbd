use Rattle.std.proofs.Common.{ap, arith, refl, rules, suc, ◌+◌, ◌≡◌, ◌∙◌}
use Rattle.urb_names.specs.Nodes.{is_majority}
use Rattle.urb_foresight.proofs.ForeseenCalls.{count-told, full-node, not-numbered, same-record}
use Rattle.urb_foresight.proofs.ForeseenCalls.{submit-foreseen, submit-unforeseen, too-long}
use Rattle.urb_foresight.proofs.predictions.foresee_submit.Goals as goal

pub returns-then-number-eq0-clause-foreseen : goal.returns-then-number-eq0-clause-foreseen
returns-then-number-eq0-clause-foreseen g c = (
  refl,
  not-numbered c.args.group.now c.args.node c.args.foresight.now c.requires.ready
      (record { client = c.args.client; number = c.args.number; payload = c.args.payload.now })
      c.if-number-eq0.true,
)

pub returns-then-bytes-gt-MAX_PAYLOAD-clause-foreseen :
    goal.returns-then-bytes-gt-MAX_PAYLOAD-clause-foreseen
returns-then-bytes-gt-MAX_PAYLOAD-clause-foreseen g c = (
  refl,
  too-long c.args.group.now c.args.node c.args.foresight.now c.requires.ready
      (record { client = c.args.client; number = c.args.number; payload = c.args.payload.now })
      (rw c.as_slice-bytes.ensures at c.if-bytes-gt-MAX_PAYLOAD.true),
)

pub returns-then-stored-cap-clause-foreseen : goal.returns-then-stored-cap-clause-foreseen
returns-then-stored-cap-clause-foreseen g c =
    let cap : c.cap-cap.result ≡ c.args.group.now.size.cap = search rules in (
      refl,
      full-node c.args.group.now c.args.node c.args.foresight.now c.requires.ready
          (record { client = c.args.client; number = c.args.number; payload = c.args.payload.now })
          c.in-Some.stored
          (count-told c.args.group.now c.args.node c.args.foresight.now c.requires.ready
          c.in-Some.stored (rw c.in-Some.is at c.own_len.ensures))
          (omega (arith, cap, c.if-stored-cap.true)),
    )

pub returns-then-may-clause-foreseen : goal.returns-then-may-clause-foreseen
returns-then-may-clause-foreseen g c =
    let size : c.n.result ≡ c.args.group.now.size.n = search rules in (
      c.record_pair-entry.result,
      rw c.if-may.true at c.in_ok-may.ensures.added,
      submit-foreseen c.args.group.now c.args.node c.args.foresight.now c.requires.ready
          (record { client = c.args.client; number = c.args.number; payload = c.args.payload.now })
          c.in-Some.stored c.count_own-counted.result
          (count-told c.args.group.now c.args.node c.args.foresight.now c.requires.ready
          c.in-Some.stored (rw c.in-Some.is at c.own_len.ensures))
          (rw c.records.ensures.value at c.count_own-counted.ensures.value)
          c.record_pair-entry.result
          (c.record_pair-entry.ensures
          ∙ same-record c.is_majority-is_certified.result
          (is_majority 1 c.args.group.now.size.n) c.args.node
          (c.in-Some.stored + c.count_own-counted.result + 1)
          (suc (c.in-Some.stored + c.count_own-counted.result)) c.in_ok-message.message
          (record { client = c.args.client; number = c.args.number; payload = c.args.payload.now })
          (c.is_majority-is_certified.ensures ∙ ap (is_majority 1) size) (omega arith)
          c.in_ok-message.ensures)
          (rw c.as_slice-bytes.ensures at c.if-bytes-gt-MAX_PAYLOAD.false)
          (rw c.if-may.true at c.in_ok-may.ensures.may),
    )

pub returns-clause-foreseen : goal.returns-clause-foreseen
returns-clause-foreseen g c =
    let size : c.n.result ≡ c.args.group.now.size.n = search rules in (
      rw c.if-may.false at c.in_ok-may.ensures.added,
      submit-unforeseen c.args.group.now c.args.node c.args.foresight.now c.requires.ready
          (record { client = c.args.client; number = c.args.number; payload = c.args.payload.now })
          c.in-Some.stored c.count_own-counted.result
          (count-told c.args.group.now c.args.node c.args.foresight.now c.requires.ready
          c.in-Some.stored (rw c.in-Some.is at c.own_len.ensures))
          (rw c.records.ensures.value at c.count_own-counted.ensures.value)
          c.record_pair-entry.result
          (c.record_pair-entry.ensures
          ∙ same-record c.is_majority-is_certified.result
          (is_majority 1 c.args.group.now.size.n) c.args.node
          (c.in-Some.stored + c.count_own-counted.result + 1)
          (suc (c.in-Some.stored + c.count_own-counted.result)) c.in_ok-message.message
          (record { client = c.args.client; number = c.args.number; payload = c.args.payload.now })
          (c.is_majority-is_certified.ensures ∙ ap (is_majority 1) size) (omega arith)
          c.in_ok-message.ensures)
          (rw c.if-may.false at c.in_ok-may.ensures.may),
    )
