use Rattle.urb_cli.proofs.Common.{drop, flat_map, ◌++◌, ◌≡◌}
use Rattle.urb_cli.specs.ClientOutput.{entry_line}
use Rattle.urb_cli.proofs.client.print.push_entries.Given as goal

-- what is pushed so far, and what is left
abbrev pub invariant-loop-entry : goal.invariant-loop-entry
invariant-loop-entry l =
    l.text.items ++ flat_map entry_line (drop l.entry-index l.entries) ≡ l.fn.text.items
    ++ flat_map entry_line l.entries
