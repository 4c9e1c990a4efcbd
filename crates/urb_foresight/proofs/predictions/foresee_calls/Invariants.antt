use Rattle.std.proofs.Common.{List, Option, [], length, map, ◌<◌}
use Rattle.std.proofs.Math.ListN.{drop}
use Rattle.urb_names.specs.declared.refusal.NoMemory.{NoMemory}
use Rattle.urb_stable.specs.Entries.{Entry}
use Rattle.urb_foresight.specs.ForeseenDrafts.{ForeseesCalls, MayBeNext, event_of}
use Rattle.urb_foresight.proofs.predictions.foresee_calls.Given as goal

-- What is foreseen of the calls that are left is foreseen of all.
abbrev pub invariant-loop-call : goal.invariant-loop-call
invariant-loop-call g l =
    record {
      left : (new : List Entry) (refused : Option NoMemory)
          → ForeseesCalls l.group l.node (map (event_of l.node) (drop l.call-index l.calls))
          l.foresight new refused
          → ForeseesCalls l.group l.node (map (event_of l.node) l.calls) [] new refused;
      may : 0 < length l.foresight → MayBeNext l.group l.node l.foresight;
    }
