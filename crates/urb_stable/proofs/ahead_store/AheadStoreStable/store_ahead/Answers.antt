use Rattle.urb_stable.proofs.ahead_store.AheadStoreStable.store_ahead.Goals as goal

pub returns-else-left-eq0 : goal.returns-else-left-eq0
returns-else-left-eq0 g c =
    let k = c.refuse_hold.ensures c.args.records.now.items in
    record {
      placed = k.placed;
      still = k.still;
      certain = k.certain;
      trust = k.trust;
      counts = k.counts;
      holds = k.holds;
    }
