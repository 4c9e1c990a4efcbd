use Rattle.std.proofs.Common.{rules, ◌≤◌}
use Rattle.urb_certified.proofs.CertifiedParts.{all_left}
use Rattle.urb_certified.proofs.parts.drop_run.Goals as goal

pub returns-else-name-end : goal.returns-else-name-end
returns-else-name-end g c =
    let few : c.args.end ≤ c.args.name.seq = search rules in
    record {
      items = all_left c.args.name.sender c.args.name.seq c.args.end c.args.above.now.items
          c.requires.behind few;
    }
