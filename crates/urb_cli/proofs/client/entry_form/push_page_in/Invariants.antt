use Rattle.urb_cli.proofs.Common.{drop, flat_map, form_line, ◌++◌, ◌≡◌}
use Rattle.urb_cli.proofs.client.entry_form.push_page_in.Given as goal

-- what is pushed so far, and what is left
abbrev pub invariant-loop-entry : goal.invariant-loop-entry
invariant-loop-entry l =
    l.text.items ++ flat_map (form_line l.form) (drop l.entry-index l.page) ≡ l.fn.text.items
    ++ flat_map (form_line l.form) l.page
