use Rattle.urb_stable.proofs.Common.{[], ap, cert, ◌∷◌}
use Rattle.urb_stable.proofs.EarlierFacts.{names-kept, names-more, one-name}
use Rattle.urb_stable.proofs.earlier_records.certify_next.Goals as goal

pub returns-in-Pend : goal.returns-in-Pend
returns-in-Pend g c =
    λ earlier h. names-kept earlier c.args.entry.now c.args.certified.now
    (ap (λ r. cert (r ∷ [])) c.in-Pend.is) h

pub returns-in_ok-insert-in-PendCert : goal.returns-in_ok-insert-in-PendCert
returns-in_ok-insert-in-PendCert g c =
    λ earlier h. names-more earlier c.args.entry.now _ c.args.certified.now _
    (one-name c.args.entry.now c.in-PendCert.name c.in-PendCert.is)
    (c.in_ok-insert-in-PendCert.ensures).updates h
