use Rattle.urb_node.proofs.Common.{AnswersFrom, AnswersOfStored, Err, LeadsTo, MayArrive, Memory}
use Rattle.urb_node.proofs.Common.{Node, Ok, ShowsReady, arrive_outcome, arrives, memory_of, subst}
use Rattle.urb_node.proofs.Common.{sym, ◌∙◌, ◌≡◌, ◌≤◌}
use Rattle.urb_node.proofs.OutcomeResults.{found-leads, refusal-leads}
use Rattle.urb_node.proofs.ArrivalOutcomes.{arrive-says}
use Rattle.urb_node.proofs.SentPackets.{answers-of_stored, arrived-from}
use Rattle.urb_node.proofs.ready.Ready.arrive.Goals as goal

pub returns-in-Ok-clause-event : goal.returns-in-Ok-clause-event
returns-in-Ok-clause-event g c =
    let p = c.args.packet in
    let old : Memory = memory_of c.self.inside.held in
    subst (λ (a : Memory). p.target ≡ a.node → p.source ≤ a.limits.n → (node : Node)
    → ShowsReady a node → LeadsTo
    (arrives a.limits a.node p.source p.name p.message p.flags node) a (Ok c.step_of.result))
    c.self.view_is
    (λ target source. subst (λ r. (node : Node) → ShowsReady old node
    → LeadsTo (arrives old.limits old.node p.source p.name p.message p.flags node) old (Ok r))
    (sym c.step_of.ensures)
    (λ node s.
    found-leads c.judge_packet.new.held
    (arrives old.limits old.node p.source p.name p.message p.flags node)
    (arrive_outcome old p.source p.name p.message p.flags) old
    (memory_of c.judge_packet.new.held) c.in-Ok.next
    (arrive-says old p.source p.name p.message p.flags node s
    (λ e. c.recall.ensures.apart (sym (target ∙ e)))
    c.self.invariant.node.0 c.self.invariant.node.1 c.recall.ensures.source.0 source)
    c.in-Ok.ensures.outcome c.in-Ok.ensures.same
    c.in-Ok.ensures.wanted)) c.requires.packet.target c.requires.packet.source

pub returns-in-Err-clause-event : goal.returns-in-Err-clause-event
returns-in-Err-clause-event g c =
    let p = c.args.packet in
    let old : Memory = memory_of c.self.inside.held in
    subst (λ (a : Memory). p.target ≡ a.node → p.source ≤ a.limits.n → (node : Node)
    → ShowsReady a node → LeadsTo {A = g.row.A.Denot}
    (arrives a.limits a.node p.source p.name p.message p.flags node) a
    (Err (memory_of c.judge_packet.new.held, c.in-Err.refusal))) c.self.view_is
    (λ target source node s.
    refusal-leads g.row.A.Denot (arrives old.limits old.node p.source p.name p.message p.flags node)
    (arrive_outcome old p.source p.name p.message p.flags) old
    (memory_of c.judge_packet.new.held) c.in-Err.refusal
    (arrive-says old p.source p.name p.message p.flags node s
    (λ e. c.recall.ensures.apart (sym (target ∙ e)))
    c.self.invariant.node.0 c.self.invariant.node.1 c.recall.ensures.source.0 source)
    c.in-Err.ensures.outcome) c.requires.packet.target c.requires.packet.source

pub returns-in-Ok-clause-memory : goal.returns-in-Ok-clause-memory
returns-in-Ok-clause-memory g c =
    let p = c.args.packet in
    let old : Memory = memory_of c.self.inside.held in
    subst (λ (a : Memory). MayArrive a.limits a.node a.pairs p.name p.message
    → AnswersFrom c.step_of.result) c.self.view_is
    (λ may. subst (λ r. AnswersFrom r) (sym c.step_of.ensures)
    (arrived-from old p.source p.name p.message p.flags
    (memory_of c.judge_packet.new.held)
    c.in-Ok.next may.same c.in-Ok.ensures.outcome)) c.requires.packet.pair

pub returns-in-Ok-clause-stored : goal.returns-in-Ok-clause-stored
returns-in-Ok-clause-stored g c =
    let p = c.args.packet in
    let old : Memory = memory_of c.self.inside.held in
    subst (λ (a : Memory). MayArrive a.limits a.node a.pairs p.name p.message
    → AnswersOfStored c.step_of.result) c.self.view_is
    (λ may. answers-of_stored c.step_of.result (subst (λ r. AnswersFrom r) (sym c.step_of.ensures)
    (arrived-from old p.source p.name p.message p.flags
    (memory_of c.judge_packet.new.held)
    c.in-Ok.next may.same c.in-Ok.ensures.outcome))) c.requires.packet.pair
