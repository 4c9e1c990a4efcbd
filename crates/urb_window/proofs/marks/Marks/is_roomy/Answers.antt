use Rattle.urb_window.proofs.Common.{MarkSet, ap, has_name, sym, ◌∙◌}
use Rattle.urb_window.proofs.NameSearches.{has_value}
use Rattle.urb_window.proofs.marks.Marks.is_roomy.Goals as goal

pub returns : goal.returns
returns g c =
    c.has_mask.ensures ∙ (sym (has_value c.self.inside.masks.entries c.args.name)
    ∙ ap (λ (s : MarkSet). has_name s.roomy c.args.name) c.self.view_is)
