use Rattle.urb_folder.proofs.Common.{OpensIn, Some, arith, inl, slice_get, subst, sym, ◌∙◌, ◌≡◌}
use Rattle.urb_folder.proofs.PlacesInOrder.{found_more}
use Rattle.urb_folder.proofs.parallel.prepare_places.Goals as goal

pub loop-init : goal.loop-init
loop-init g c = record {
  count = c.in-Ok.ensures.len;
  room = c.in-Ok.ensures.capacity;
  each = λ place it there.
      absurd (let e = subst (λ them. slice_get them place ≡ Some it) c.in-Ok.ensures.items there in
      cc);
  given = inl c.into_nodes-claims.ensures;
}

pub loop-preserved : goal.loop-preserved
loop-preserved g c =
    let next = c.claim_next.ensures c.loop.counter c.loop.invariant.given in
    record {
      count = omega (arith, c.push_reserved.ensures.len, c.loop.invariant.count);
      room = omega (arith, c.push_reserved.ensures.capacity, c.loop.invariant.room);
      each =
          found_more (OpensIn g.D.Disk g.D.NodeDisk.held) c.loop.found.items
          c.push_reserved.new.self.items c.claim_next.result c.loop.counter
          c.loop.invariant.each (sym c.loop.found.ok.0 ∙ c.loop.invariant.count)
          c.push_reserved.ensures.items next.0;
      given = next.1;
    }

pub returns-clause-each : goal.returns-clause-each
returns-clause-each g c = c.loop.invariant.each
