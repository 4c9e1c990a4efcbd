use Rattle.std.proofs.Common.{rules, ◌≡◌}
use Rattle.urb_majority.specs.AckOutcomes.{certifying as acks_certifying}
use Rattle.urb_fifo.specs.NewReleases.{certifying as fifo_certifying}
use Rattle.urb_node.proofs.JoinedLayers.{certificate-kept}
use Rattle.urb_node.proofs.storing.join_certificate.Goals as goal

pub returns-clause-kept : goal.returns-clause-kept
returns-clause-kept g c =
    let acks : c.certify.new.self ≡ acks_certifying c.args.held.now.acks c.args.name =
    search rules in
    let fifo : c.certify-2.new.self ≡ fifo_certifying c.args.held.now.fifo c.args.name =
    search rules in
    certificate-kept c.args.held.now c.certify.new.self c.certify-2.new.self c.args.name
    c.requires.kept c.requires.pending acks fifo
