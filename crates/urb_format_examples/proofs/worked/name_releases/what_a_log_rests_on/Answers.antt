-- A certified name has a number up to the cap.
use Rattle.std.proofs.Common.{arith, refl, ◌≤◌}
use Rattle.urb_names.specs.Names.{name}
use Rattle.urb_format_examples.proofs.worked.name_releases.what_a_log_rests_on.Goals as goal

-- eleven isn't up to ten
over-ten : 11 ≤ 10 → ⊥
over-ten h = omega (arith, h)

pub returns-clause-a_certificate_over_the_cap : goal.returns-clause-a_certificate_over_the_cap
returns-clause-a_certificate_over_the_cap c h = over-ten (h.within (name 1 11) refl).seq
