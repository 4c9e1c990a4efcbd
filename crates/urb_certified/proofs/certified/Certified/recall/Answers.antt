use Rattle.urb_certified.proofs.Common.{all_names, name_lt, same_name, subst}
use Rattle.urb_certified.specs.Certificates.{IsCertificates}
use Rattle.urb_certified.proofs.RisingSets.{set_rises}
use Rattle.urb_certified.proofs.NameOrder.{names_in_order}
use Rattle.urb_certified.proofs.certified.Certified.recall.Goals as goal

pub returns : goal.returns
returns g c =
    subst IsCertificates c.self.view_is
    (set_rises name_lt same_name names_in_order
    (all_names c.self.inside.low c.self.inside.above.items))
