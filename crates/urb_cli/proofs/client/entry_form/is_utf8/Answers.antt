use Rattle.std.proofs.Common.{◌∙◌}
use Rattle.urb_cli.proofs.TextTests.{utf8_found}
use Rattle.urb_cli.proofs.client.entry_form.is_utf8.Goals as goal

pub returns : goal.returns
returns c =
    c.is_ok.ensures.value
    ∙ utf8_found c.args.bytes.now c.from_utf8.result _ _ c.from_utf8.ensures.cases
