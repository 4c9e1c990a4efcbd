-- A store keeps the record that it was asked to keep, or none. No event of a draft happens in a
-- new group.
use Rattle.std.proofs.Common.{Err, List, Ok, [], arith, inl, inr, length, refl, ℕ, ◌∷◌, ◌≡◌}
use Rattle.std.proofs.lemmas.Bool.{false≢true}
use Rattle.std.proofs.lemmas.Grind.{common_steps}
use Rattle.std.specs.Prelude.{Result}
use Rattle.urb_names.specs.Names.{name}
use Rattle.urb_stable.specs.DeliveredLogs.{log}
use Rattle.urb_stable.specs.Entries.{Entry}
use Rattle.urb_stable.specs.StableStorage.{IsAppended}
use Rattle.urb_stable.specs.declared.stable.StoreFault.{StoreFault}
use Rattle.urb_node.specs.Replies.{Up}
use Rattle.urb_group.specs.GroupViews.{Shows}
use Rattle.urb_world.specs.Step.{step}
use Rattle.urb_world.specs.World.{World, started}
use Rattle.urb_world.specs.internal.Examples.{limits, pending}
use Rattle.urb_group.specs.ClusterCalls.{stored_as}
use Rattle.urb_group.specs.GroupCalls.{Steps}
use Rattle.urb_step_examples.specs.internal.GroupExamples.{first_draft, new_group, of_no_world}
use Rattle.urb_step_examples.proofs.worked.stored_drafts.what_a_store_keeps.Goals as goal

-- no node has delivered a name and stored no record
none : (records : List Entry) → 0 ≡ length records → name 1 1 ∷ [] ≡ log records → ⊥
none [] count delivered = absurd (cc)
none (r ∷ rs) count delivered = absurd (cc)

no-world : (n : ℕ) (w : World) → Shows (of_no_world n) w → ⊥
no-world n w shows = none (w.node 1).records (shows.nodes 1).count (shows.nodes 1).log

-- what a store answered to the first draft, if it then has another record for certain
another : (answer : Result (Unit {0}) StoreFault)
    → IsAppended [] (pending 1 2 ∷ []) (pending 1 1) answer → ⊥
another (Ok done) appended = let same = appended.stored in grind (arith, common_steps, same)
another (Err fault) appended = let same = appended.failed in absurd (cc)

-- no new group takes the event of a draft
untaken : (answer : Result (Unit {0}) StoreFault)
    → Shows (new_group 4) (started (limits 4 10))
    → Steps (new_group 4) (stored_as first_draft answer) (λ told. told ≡ Up 1) (new_group 4) → ⊥
unfolding step
untaken (Ok done) shows h = let told = (h (started (limits 4 10)) shows).told in absurd (cc)
untaken (Err fault) shows h = let told = (h (started (limits 4 10)) shows).told in absurd (cc)

pub returns-clause-the_draft : goal.returns-clause-the_draft
returns-clause-the_draft c =
    record {
      answer = Ok tt;
      keeps = record {
        answers = inl refl;
        placed = search;
        same = λ e. absurd (false≢true e);
        counted = search;
        appended = search;
        doubted = search;
        stop = λ honest clean records contents. inr contents;
        rest = search;
        counts = record { device = λ e. absurd (cc); grows = omega (arith) };
        trust = record {
          clean = λ is. is;
          honest = λ is. is;
          alive = λ honest clean. tt;
          shut = λ honest clean. inl tt;
        };
        ahead = search;
      };
      event = λ w shows. absurd (no-world 4 w shows);
    }

pub returns-clause-another_record : goal.returns-clause-another_record
returns-clause-another_record c h = another h.answer (h.keeps.appended tt)

pub returns-clause-another_record_in_four : goal.returns-clause-another_record_in_four
returns-clause-another_record_in_four c h = another h.answer (h.keeps.appended tt)

pub returns-clause-a_draft_that_nobody_holds : goal.returns-clause-a_draft_that_nobody_holds
returns-clause-a_draft_that_nobody_holds c shows h = untaken h.answer shows h.event

pub returns-clause-a_store_less : goal.returns-clause-a_store_less
returns-clause-a_store_less c h = let is = h.moves.is in absurd (cc)

pub returns-clause-a_draft_of_a_new_group : goal.returns-clause-a_draft_of_a_new_group
returns-clause-a_draft_of_a_new_group c shows h = untaken h.stored.answer shows h.stored.event
