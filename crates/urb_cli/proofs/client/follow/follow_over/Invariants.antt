use Rattle.urb_cli.proofs.Common.{Follows, List, Said, form_line, length, ℕ, ◌<◌, ◌≡◌}
use Rattle.urb_cli.proofs.client.follow.follow_over.Given as goal

-- the responses so far are printed, one in each turn
abbrev pub invariant-loop : goal.invariant-loop
invariant-loop g l = record {
  some : 0 < l.place;
  going : (answers : List Said) × (length answers ≡ l.counter)
      × Follows g.C.Caller.calls (form_line l.form) l.fn.caller l.from
      (g.W.Write.contents l.fn.writer) answers
      (record {
        caller = l.caller;
        place = l.place;
        output = g.W.Write.contents l.writer;
      });
}
