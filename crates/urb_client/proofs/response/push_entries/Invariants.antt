use Rattle.urb_client.proofs.Common.{drop, entry_bytes, flat_map, ◌++◌, ◌≡◌}
use Rattle.urb_client.proofs.response.push_entries.Given as goal

-- what is pushed so far, and what is left
abbrev pub invariant-loop-entry : goal.invariant-loop-entry
invariant-loop-entry g l =
    l.body.items ++ flat_map entry_bytes (drop l.entry-index l.entries) ≡ l.fn.body.items
    ++ flat_map entry_bytes l.entries
