use Rattle.urb_sqlite.proofs.Common.{HasCleanDisk, IsHonestJournal, MAX_NODES, Some, ap, arith}
use Rattle.urb_sqlite.proofs.Common.{file_state, length, records_of, rules, slice_get, subst, suc}
use Rattle.urb_sqlite.proofs.Common.{sym, vec_len, ◌∙◌, ◌≡◌, ◌≤◌}
use Rattle.urb_sqlite.proofs.NodeJournals.{claimed, made_all, next_claim, one_more}
use Rattle.urb_sqlite.proofs.node_journals.open_nodes.Goals as goal

pub loop-init : goal.loop-init
loop-init g c = record {
  count = search rules;
  given = search rules;
  room = search rules;
  found = λ i journal there.
      absurd (let e = subst (λ them. slice_get them i ≡ Some journal) c.in-Ok.ensures.items there in
      cc);
}

pub unwrap-claim-requires : goal.unwrap-claim-requires
unwrap-claim-requires g c =
    next_claim c.take_next.result c.loop.claims c.take_next.new.self c.loop.counter c.n-n.result
    c.take_next.ensures c.loop.invariant.given c.loop-test.true
    (subst (λ n. n ≤ MAX_NODES) (sym c.n-n.ensures.value) c.n-n.ensures.range.1)

pub loop-preserved : goal.loop-preserved
loop-preserved g c =
    let is : c.take_next.result ≡ Some c.unwrap-claim.result = search rules in
    let next =
    claimed c.take_next.result c.unwrap-claim.result c.loop.claims c.take_next.new.self
    c.loop.counter c.take_next.ensures is c.loop.invariant.given in
    let node : c.unwrap-claim.result ≡ suc (length c.loop.journals.items) =
    next.0 ∙ sym (ap suc (sym c.loop.journals.ok.0 ∙ c.loop.invariant.count)) in
    record {
      count = omega (arith, c.push_reserved.ensures.len, c.loop.invariant.count);
      given = next.1;
      room = omega (arith, c.push_reserved.ensures.capacity, c.loop.invariant.room);
      found =
          one_more c.loop.journals.items c.push_reserved.new.self.items
          c.in-Ok-open_node_in.journal (λ j. HasCleanDisk (file_state j.conn))
          (λ j. IsHonestJournal (file_state j.conn)) (λ j. records_of (file_state j.conn).now)
          (g.D.NodeDisk.held)
          c.unwrap-claim.result c.push_reserved.ensures.items node c.loop.invariant.found
          c.in-Ok-open_node_in.ensures.found;
    }

pub returns-clause-count : goal.returns-clause-count
returns-clause-count g c =
    sym c.loop.journals.ok.0 ∙ made_all (vec_len c.loop.journals) c.loop.counter c.n-n.result
    c.args.config.n c.loop.invariant.count c.loop-test.false c.loop.auto.counter-end
    c.n-n.ensures.value
