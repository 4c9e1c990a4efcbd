use Rattle.urb_stable.specs.internal.EarlierRecords.{HasTold}
use Rattle.urb_stable.proofs.earlier_records.facts_about_each.Given as goal

abbrev pub invariant-loop-place : goal.invariant-loop-place
invariant-loop-place g l = HasTold l.number l.image l.place l.pass
