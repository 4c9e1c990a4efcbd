use Rattle.urb_cli.proofs.Common.{drop, flat_map, ◌++◌, ◌≡◌}
use Rattle.urb_cli.specs.EntryForms.{escaped_byte}
use Rattle.urb_cli.proofs.client.entry_form.push_escaped.Given as goal

-- what is pushed so far, and what is left
abbrev pub invariant-loop-byte : goal.invariant-loop-byte
invariant-loop-byte l =
    l.text.items ++ flat_map escaped_byte (drop l.byte-index l.bytes) ≡ l.fn.text.items
    ++ flat_map escaped_byte l.bytes
