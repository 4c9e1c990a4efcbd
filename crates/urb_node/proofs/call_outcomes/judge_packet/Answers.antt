use Rattle.urb_node.proofs.Common.{Content, Finds, IsNext, Label, None, Outcome, ap, ap₂}
use Rattle.urb_node.proofs.Common.{counted_outcome, has_name, memory_of, message_of, not, rules}
use Rattle.urb_node.proofs.Common.{subst, sym, ◌∙◌, ◌≡◌}
use Rattle.urb_node.proofs.HoldableDrafts.{arrive-answers, arrive-counts, arrived-next}
use Rattle.urb_node.proofs.HoldableDrafts.{pending_entry, some-pending}
use Rattle.urb_node.proofs.call_outcomes.judge_packet.Goals as goal

pub make_wanted-requires-clause-next : goal.make_wanted-requires-clause-next
make_wanted-requires-clause-next g c =
    let held = c.args.held.now in
    let packet = c.args.packet.now in
    let fresh : message_of held.pending.pairs c.name-name.result ≡ None = search rules in
    let message : c.in_ok-message.message ≡ packet.message = c.in_ok-message.ensures in
    subst (λ (m : Content). IsNext held.config held.node held.pending.pairs held.acks.certified
    (pending_entry c.is_majority-is_certified.result c.name-name.result m)) (sym message)
    (subst (λ (x : Label). IsNext held.config held.node held.pending.pairs held.acks.certified
    (pending_entry c.is_majority-is_certified.result x packet.message))
    (sym c.name-name.ensures)
    (arrived-next held.config held.node held.pending.pairs held.acks.certified packet.name
    packet.message c.is_majority-is_certified.result c.requires.packet.pair
    (ap (message_of held.pending.pairs) (sym c.name-name.ensures) ∙ fresh)))

pub returns-then-certified-clause-outcome : goal.returns-then-certified-clause-outcome
returns-then-certified-clause-outcome g c =
    let held = c.args.held.now in
    let packet = c.args.packet.now in
    let old = memory_of held in
    let pending =
    some-pending _ c.message.result (message_of held.pending.pairs c.name-name.result)
    (c.is_none.ensures ∙ ap not c.if-is_none.false) c.message.ensures in
    let there =
    ap (has_name held.acks.certified) (sym c.name-name.ensures)
    ∙ (sym c.certified.ensures ∙ c.if-certified.true) in
    subst (λ (outcome : Outcome).
    Finds old outcome c.judge_certified.result (memory_of c.judge_certified.new.held))
    (sym (arrive-answers old packet.source packet.name packet.message pending.0 packet.flags
    (ap (message_of held.pending.pairs) (sym c.name-name.ensures) ∙ pending.1) there))
    c.judge_certified.ensures.outcome

pub returns-clause-outcome : goal.returns-clause-outcome
returns-clause-outcome g c =
    let held = c.args.held.now in
    let packet = c.args.packet.now in
    let old = memory_of held in
    let pending =
    some-pending _ c.message.result (message_of held.pending.pairs c.name-name.result)
    (c.is_none.ensures ∙ ap not c.if-is_none.false) c.message.ensures in
    let open_ =
    ap (has_name held.acks.certified) (sym c.name-name.ensures)
    ∙ (sym c.certified.ensures ∙ c.if-certified.false) in
    subst (λ (outcome : Outcome).
    Finds old outcome c.judge_uncertified.result (memory_of c.judge_uncertified.new.held))
    (sym (arrive-counts old packet.source packet.name packet.message pending.0 packet.flags
    (ap (message_of held.pending.pairs) (sym c.name-name.ensures) ∙ pending.1) open_
    ∙ (ap₂ (λ q x. counted_outcome old q x packet.flags) (sym c.source-source.ensures)
    (sym c.name-name.ensures) ∙ ap
    (counted_outcome old c.source-source.result c.name-name.result)
    (sym c.flags-flags.ensures))))
    c.judge_uncertified.ensures.outcome
