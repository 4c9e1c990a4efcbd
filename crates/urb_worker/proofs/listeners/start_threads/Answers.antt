use Rattle.std.proofs.Common.{Some, ap, arith, slice_get, sym, ◌+◌, ◌-◌, ◌∙◌, ◌≡◌}
use Rattle.urb_link.proofs.QueuesInOrder.{read_at}
use Rattle.urb_worker.proofs.listeners.start_threads.Goals as goal

pub listener_of-listener-requires-clause-node : goal.listener_of-listener-requires-clause-node
listener_of-listener-requires-clause-node g c =
    let here : c.index-queues-place.result ≡ c.loop-place.place + 1 =
    read_at c.args.queues.now c.loop-place.place c.index-queues-place.result c.requires.order
    c.loop-place-test.true c.index-queues-place.is in (
      omega (arith, here, c.loop-place-test.true, c.requires.room.1),
      omega (arith, here, c.loop-place-test.true, c.requires.room.1, c.requires.nodes.0),
    )

pub with-listening-requires-clause-next : goal.with-listening-requires-clause-next
with-listening-requires-clause-next g c =
    c.in-Some.ensures.node ∙ c.listener_of-listener.ensures.queue
    ∙ read_at c.args.queues.now c.loop-place.place c.index-queues-place.result c.requires.order
    c.loop-place-test.true c.index-queues-place.is
    ∙ ap (λ n. n + 1) (sym c.loop-place.invariant)

pub with-listening-requires-clause-station : goal.with-listening-requires-clause-station
with-listening-requires-clause-station g c =
    let here : c.index-queues-place.result ≡ c.loop-place.place + 1 =
    read_at c.args.queues.now c.loop-place.place c.index-queues-place.result c.requires.order
    c.loop-place-test.true c.index-queues-place.is in
    let last : c.loop-place.listening.last ≡ c.index-queues-place.result - 1 =
    omega (arith, here, c.loop-place.invariant) in
    ap (slice_get c.args.setting.now.stations.now) last
    ∙ c.listener_of-listener.ensures.station ∙ ap Some (sym c.in-Some.ensures.station)
