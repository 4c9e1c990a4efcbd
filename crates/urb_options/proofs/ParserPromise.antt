-- What the parser promises about the program's command line.
use Rattle.urb_options.proofs.Common.{is_simple_and_free, refl, true, urbd_app, ◌≡◌}
use Rattle.clap.proofs.OnLiterals.{clap_on_literals}

-- for the program's command line, the parser says which faults it finds
pub urbd_app-free : is_simple_and_free urbd_app ≡ true
unfolding clap_on_literals
urbd_app-free = refl
