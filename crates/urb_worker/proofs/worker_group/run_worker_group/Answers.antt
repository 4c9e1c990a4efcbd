use Rattle.std.proofs.Common.{Bool, false, rules, true}
use base.Shift.{Keyless}
use denote.Exit.{Last, if_kept, left, unseen}
use mir.Syntax.{of_param}
use Rattle.urb_worker.proofs.worker_group.run_worker_group.Goals as goal

-- the end of a value holds nothing of one thread, if nobody sees it
quiet : {D : Type 0} (kept : Bool) (x : D)
    (w : Last (if_kept kept (unseen {D = D}) (unseen {D = D})) x)
    → Keyless (left (if_kept kept (unseen {D = D}) (unseen {D = D})) x w)
quiet true x w = tt
quiet false x w = tt

pub scoped-requires : goal.scoped-requires
scoped-requires g c = record {
  at = λ _. (
    (c.requires.nodes.0, c.requires.nodes.1, c.requires.queues),
    (
      record {
        owned = c.type_bounds.send-K.owned;
        leaving = λ k x w. quiet (k (of_param 0)) x w;
      },
      record {
        owned = c.type_bounds.send-L.owned;
        leaving = λ k x w. quiet (k (of_param 1)) x w;
      },
      record {
        owned = c.type_bounds.send-S.owned;
        leaving = λ k x w. quiet (k (of_param 2)) x w;
      },
      search rules,
      search rules,
      search rules,
      search rules,
    ),
  );
}
