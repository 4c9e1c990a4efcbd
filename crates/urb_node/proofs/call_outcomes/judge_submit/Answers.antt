use Rattle.urb_node.proofs.Common.{Content, IsNext, MAX_PAYLOAD, ap, arith, is_majority, length}
use Rattle.urb_node.proofs.Common.{memory_of, name, own, subst, sym, ◌+◌, ◌<◌, ◌∙◌, ◌≤◌}
use Rattle.urb_node.proofs.HoldableDrafts.{pending_entry, submit-told, submitted-next}
use Rattle.urb_node.proofs.call_outcomes.judge_submit.Goals as goal

pub make_wanted-requires-clause-next : goal.make_wanted-requires-clause-next
make_wanted-requires-clause-next g c =
    let held = c.args.held.now in
    let m : Content = record {
      client = c.args.client;
      number = c.args.number;
      payload =
          c.args.payload.now;
    } in
    let own_len = c.own_len-own.ensures.value in
    let room : length (own held.pending.node held.pending.pairs) < held.config.cap =
    (let cap = c.cap.ensures.value in let below = c.if-own-cap.false in omega arith) in
    subst (λ (m : Content). IsNext held.config held.node held.pending.pairs held.acks.certified
    (pending_entry c.is_majority-is_certified.result
    (name held.node (c.own_len-own.result + 1)) m)) (sym c.in_ok-message.ensures)
    (submitted-next held.pending held.config held.node held.acks.certified
    (name held.node (c.own_len-own.result + 1))
    m c.is_majority-is_certified.result c.recall.ensures c.requires.kept.pending_limits
    c.requires.kept.pending_node
    c.requires.kept.node.1 room (ap (λ k. name held.node (k + 1)) own_len)
    (c.if-number-next.false ∙ c.client_next-next.ensures))

pub returns-clause-outcome : goal.returns-clause-outcome
returns-clause-outcome g c =
    let held = c.args.held.now in
    let m : Content = record {
      client = c.args.client;
      number = c.args.number;
      payload =
          c.args.payload.now;
    } in
    let own_len = c.own_len-own.ensures.value in
    let room : length (own held.pending.node held.pending.pairs) < held.config.cap =
    (let cap = c.cap.ensures.value in let below = c.if-own-cap.false in omega arith) in
    let short : length c.args.payload.now ≤ MAX_PAYLOAD =
    (let below = c.if-bytes-gt-MAX_PAYLOAD.false in let same = ap length c.as_slice-bytes.ensures
    in omega arith) in
    submit-told (memory_of held) held.pending.node m c.in_ok-make_wanted.field-0.entry
    c.in_ok-make_wanted.field-0.cause c.is_majority-is_certified.result
    (memory_of c.make_wanted.new.held) c.requires.kept.pending_node short
    (sym c.find.ensures ∙ c.in_default.is)
    (c.if-number-next.false ∙ c.client_next-next.ensures) room
    (c.is_majority-is_certified.ensures ∙ ap (λ n. is_majority 1 n) c.n.ensures.value)
    (c.in_ok-make_wanted.ensures.wanted.1
    ∙ (ap (λ (m : Content). pending_entry c.is_majority-is_certified.result
    (name held.node (c.own_len-own.result + 1)) m) c.in_ok-message.ensures
    ∙ ap (λ k. pending_entry c.is_majority-is_certified.result (name held.node (k + 1)) m)
    own_len))
    c.in_ok-make_wanted.ensures.wanted.2 c.make_wanted.ensures.same
