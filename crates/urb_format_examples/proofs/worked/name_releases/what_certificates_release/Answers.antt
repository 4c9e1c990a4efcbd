-- A certificate that the log doesn't rest on isn't among its certified names.
use Rattle.std.proofs.lemmas.Bool.{true≢false}
use Rattle.urb_names.specs.Names.{name}
use Rattle.urb_format_examples.proofs.worked.name_releases.what_certificates_release.Goals as goal

pub returns-clause-other_certificates : goal.returns-clause-other_certificates
returns-clause-other_certificates c h = true≢false (h.certified (name 1 2))
