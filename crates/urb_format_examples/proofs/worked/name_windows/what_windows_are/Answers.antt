-- Each name of windows is within the limits of names.
use Rattle.std.proofs.Common.{arith, refl, ◌≤◌}
use Rattle.urb_names.specs.Names.{name}
use Rattle.urb_format_examples.proofs.worked.name_windows.what_windows_are.Goals as goal

-- eight isn't up to seven
over-seven : 8 ≤ 7 → ⊥
over-seven h = omega (arith, h)

pub returns-clause-of_sender_eight : goal.returns-clause-of_sender_eight
returns-clause-of_sender_eight c h = over-seven (h.labels (name 8 1) refl).sender.1
