use Rattle.std.proofs.Common.{List, [], arith, length, refl, subst, sym, ℕ, ◌∙◌, ◌∷◌, ◌≡◌}
use Rattle.urb_stable.specs.Entries.{Entry}
use Rattle.urb_node.proofs.ReadRecords.{HasRead, all-read, nothing-read, read-more, read-next}
use Rattle.urb_node.proofs.ready.Ready.open.Goals as goal

none_left : (records : List Entry) (n : ℕ) → n ≡ length records → n ≡ 0 → records ≡ []
none_left [] n e z = refl
none_left (r ∷ records) n e z = absurd (omega arith)

pub loop-record-init : goal.loop-record-init
loop-record-init g c =
    subst (λ (left : List Entry).
    HasRead c.args.config c.args.node c.args.records.items [] left c.ready.inside.held)
    (sym c.into_iter-record-iterator.ensures.into_iter_gives.0)
    (nothing-read c.args.config c.args.node c.args.records.items c.ready.inside.held
    c.ready.invariant (c.ready.view_is ∙ c.in_ok-ready.ensures.memory))

pub join_record-requires-clause-kept : goal.join_record-requires-clause-kept
join_record-requires-clause-kept g c = c.loop-record.invariant.held

pub join_record-requires-clause-next : goal.join_record-requires-clause-next
join_record-requires-clause-next g c =
    read-next c.args.config c.args.node c.args.records.items c.loop-record.yielded c.in-Some.record
    c.next.new.self.rest.items c.loop-record.held
    (subst (λ (left : List Entry).
    HasRead c.args.config c.args.node c.args.records.items c.loop-record.yielded left
    c.loop-record.held) c.in-Some.ensures.steps.0 c.loop-record.invariant)
    c.requires.rules c.recall.ensures

pub loop-record-preserved : goal.loop-record-preserved
loop-record-preserved g c =
    read-more c.args.config c.args.node c.args.records.items c.loop-record.yielded c.in-Some.record
    c.next.new.self.rest.items c.loop-record.held c.in_ok-held.held
    (subst (λ (left : List Entry).
    HasRead c.args.config c.args.node c.args.records.items c.loop-record.yielded left
    c.loop-record.held) c.in-Some.ensures.steps.0 c.loop-record.invariant)
    c.requires.rules c.recall.ensures c.recall-in-loop-record.ensures c.in_ok-held.ensures.0
    c.in_ok-held.ensures.1

pub invariant_of-result : goal.invariant_of-result
invariant_of-result g c = c.loop-record.invariant.held

pub returns : goal.returns
returns g c =
    all-read c.args.config c.args.node c.args.records.items c.loop-record.yielded
    c.loop-record.record-iterator.rest.items c.loop-record.held c.loop-record.invariant
    (none_left c.loop-record.record-iterator.rest.items c.loop-record.record-iterator.rest.len
    c.loop-record.record-iterator.rest.ok.0 c.in-None.ensures.steps.0)
