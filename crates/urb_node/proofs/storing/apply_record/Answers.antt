use Rattle.urb_node.proofs.Common.{Cert, Entry, IsNextHeld, Memory, PendCert, ap, arith, false}
use Rattle.urb_node.proofs.Common.{has_name, is_some, memory_of, message_of, subst, sym, true, ◌≡◌}
use Rattle.urb_node.proofs.ReceiptResults.{certified_pending, first_held}
use Rattle.urb_node.proofs.JoinedLayers.{counted-kept, joined-pending}
use Rattle.urb_node.proofs.ImageComparisons.{next_range}
use Rattle.urb_node.proofs.HoldableDrafts.{one_more_fits}
use Rattle.urb_node.proofs.storing.apply_record.Goals as goal

pub join_pair-requires-clause-fits : goal.join_pair-requires-clause-fits
join_pair-requires-clause-fits g c =
    omega (arith, one_more_fits c.args.held c.requires.kept c.recall.ensures c.recall-2.ensures)

pub join_pair-requires-in-PendCert-clause-fits : goal.join_pair-requires-in-PendCert-clause-fits
join_pair-requires-in-PendCert-clause-fits g c =
    omega (arith, one_more_fits c.args.held c.requires.kept c.recall.ensures c.recall-2.ensures)

pub join_certificate-released-requires-clause-range :
    goal.join_certificate-released-requires-clause-range
join_certificate-released-requires-clause-range g c =
    let r : Entry = PendCert c.in-PendCert.name c.in-PendCert.message in
    let same : c.join_pair-in-PendCert.new.held.config ≡ c.args.held.config =
    ap (λ (a : Memory). a.limits) c.join_pair-in-PendCert.ensures.memory in
    rw same (next_range (memory_of c.args.held) r
    (subst (λ (e : Entry). IsNextHeld c.args.held e) c.in-PendCert.is c.requires.next))

pub join_certificate-released-requires-clause-pending :
    goal.join_certificate-released-requires-clause-pending
join_certificate-released-requires-clause-pending g c =
    subst (λ (a : Memory). is_some (message_of a.pairs c.in-PendCert.name) ≡ true)
    (sym c.join_pair-in-PendCert.ensures.memory)
    (joined-pending c.args.held.pending.pairs c.in-PendCert.name c.in-PendCert.message)

pub join_certificate-released-requires-in-Cert-clause-pending :
    goal.join_certificate-released-requires-in-Cert-clause-pending
join_certificate-released-requires-in-Cert-clause-pending g c =
    certified_pending c.args.held c.in-Cert.name
    (subst (λ (r : Entry). IsNextHeld c.args.held r) c.in-Cert.is c.requires.next)

pub overflow_add-held : goal.overflow_add-held
overflow_add-held g c =
    let same : c.join_certificate-released-in-Cert.new.held.stored ≡ c.args.held.stored =
    ap (λ (a : Memory). a.count) c.join_certificate-released-in-Cert.ensures.memory in
    omega (
      arith,
      one_more_fits c.args.held c.requires.kept c.recall.ensures c.recall-2.ensures,
      same,
    )

pub returns-in-Cert-clause-kept : goal.returns-in-Cert-clause-kept
returns-in-Cert-clause-kept g c =
    let open_ : has_name c.args.held.acks.certified c.in-Cert.name ≡ false =
    first_held c.args.held (Cert c.in-Cert.name) c.requires.kept
    (subst (λ (r : Entry). IsNextHeld c.args.held r) c.in-Cert.is c.requires.next) in
    counted-kept c.join_certificate-released-in-Cert.new.held
    c.join_certificate-released-in-Cert.ensures.kept
    (c.join_certificate-released-in-Cert.ensures.one_more open_)
