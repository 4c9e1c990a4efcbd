use Rattle.urb_cli.proofs.Common.{IsPublished, List, Steps, ℕ}
use Rattle.urb_cli.proofs.client.publish.publish_from.Given as goal

-- the texts so far are published
abbrev pub invariant-loop-number : goal.invariant-loop-number
invariant-loop-number g l =
    (done : List (List ℕ × ℕ))
    × Steps (IsPublished g.T.Texts.gives g.T.Texts.ends g.C.Caller.calls l.client)
    (record {
      texts = l.fn.texts;
      caller = l.fn.caller;
      number = l.first;
      output = g.W.Write.contents l.fn.writer;
    }) done
    (record {
      texts = l.texts;
      caller = l.caller;
      number = l.number;
      output = g.W.Write.contents l.writer;
    })
