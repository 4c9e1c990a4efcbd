-- Jobs that run at a worker, and jobs that it refuses.
use Rattle.urb_turn.proofs.Common.{Commit, Entry, Err, Event, HouseView, IsSound, IsTurnAt, Keeps}
use Rattle.urb_turn.proofs.Common.{List, None, Ok, Shows, ShowsNode, StoreFault, Submit, World, []}
use Rattle.urb_turn.proofs.Common.{arith, drafts_in_none, empty_memory, ended, false, first_of_one}
use Rattle.urb_turn.proofs.Common.{four, holding, house_of, house_of_four, house_of_none, inl, inr}
use Rattle.urb_turn.proofs.Common.{length, limits, log, memory, name, new-kept, new_four, no_view}
use Rattle.urb_turn.proofs.Common.{nothing_released, opened_node, pending, refl, shows_none, suc}
use Rattle.urb_turn.proofs.Common.{true, view_of, zero, ℕ, ◌∷◌, ◌≡◌}
use Rattle.urb_world.specs.World.{stored}
use Rattle.urb_group.specs.declared.reply.Reply.TheVariants as reply
use Rattle.urb_group.specs.declared.taken.Taken.TheVariants as taken
use Rattle.urb_turn.specs.declared.job.Job.TheVariants as job
use Rattle.urb_turn.specs.declared.turn_stages.Stage.TheVariants as stage
use Rattle.urb_turn.proofs.worked.whole_turns.jobs_that_workers_do.Goals as goal

new_node : (p : ℕ) → ShowsNode (limits 4 10) p no_view (opened_node p [])
new_node p = record {
  pairs = λ x m. refl;
  certified = λ x. refl;
  log = refl;
  count = refl;
  state = refl;
  cursor = refl;
  acks = λ x q e. refl;
  heard = λ x q. refl;
  rules = tt;
  broadcast = refl;
}

-- a new group shows a new world
shows_new : Shows new_four four
shows_new = record { size = refl; nodes = at }
  where
    at : (p : ℕ) → ShowsNode (limits 4 10) p (view_of new_four p) (opened_node p [])
    at zero = new_node zero
    at (suc before) = new_node (suc before)

no_name : (records : List Entry) → 0 ≡ length records → name 1 1 ∷ [] ≡ log records → ⊥
no_name [] count logged = cc
no_name (r ∷ records) count logged = omega (arith, count)

-- the group shows no world
no_world : (w : World) → Shows shows_none w → ⊥
no_world w shows = let node = shows.nodes 1 in no_name (stored w 1) node.count node.log

-- a new group shows a world that keeps the rules
sound : IsSound new_four
sound = record { world = four; shows = shows_new; kept = new-kept (limits 4 10) }

-- the events of the turn: the submit, and the receipt
abbrev submitted : Event
submitted = Submit 1 (record { client = 7; number = 1; payload = [] })

abbrev received : Event
received = Commit 1 1 (pending 1 1)

-- the House in which node 1 holds its draft, and the one in which its record is stored
abbrev drafted : HouseView
drafted = house_of drafts_in_none (submitted ∷ [])

abbrev ended-house : HouseView
ended-house = house_of_four (submitted ∷ received ∷ [])

kept : Keeps memory empty_memory first_of_one (Ok tt) holding
kept = record {
  answers = inl refl;
  placed = tt;
  same = λ out. absurd (false-true out);
  counted = λ honest. refl;
  appended = λ honest. record { stored = refl; failed = tt };
  doubted = record { clear = (refl, refl); doubtful = tt; doubt = tt };
  stop = λ honest clean records is. inr is;
  rest = λ honest records is. is;
  counts = record { device = λ e. absurd (ok-err _ _ e); grows = omega arith };
  trust = record {
    clean = λ clean. tt;
    honest = λ honest. tt;
    alive = λ honest clean. tt;
    shut = λ honest clean. inl tt;
  };
  ahead = refl;
}
  where
    false-true : false ≡ true → ⊥
    false-true e = cc

    ok-err : (done : Unit {0}) (it : StoreFault) → Ok done ≡ Err it → ⊥
    ok-err done it e = cc

stored_turn : IsTurnAt memory shows_none 1 (job.Submit 1 7 1 []) empty_memory holding
    (ended (job.Submit 1 7 1 []) (reply.Stored nothing_released) 2)
stored_turn = record {
  turn = record {
    lent = house_of_none [];
    given_back = drafted;
    lent_again = house_of_none (submitted ∷ []);
    left = ended-house;
    at = stage.Drafted first_of_one;
    new = stage.Kept first_of_one;
    events = 1;
    begins = (
      Ok (taken.Store first_of_one),
      (
        λ w shows. absurd (no_world w shows),
        refl,
        record { cause = None; state = refl; position = refl },
      ),
      record { published = refl; prepared = refl; events = refl; past = refl },
      refl,
      refl,
    );
    stores = (Ok first_of_one, refl, kept, refl);
    finishes = (
      Ok nothing_released,
      ended-house,
      λ w shows. absurd (no_world w shows),
      record { published = refl; prepared = refl; events = refl; past = refl },
      (refl, refl),
      refl,
      refl,
      refl,
    );
    leads = λ w shows. absurd (no_world w shows);
    leads_again = λ w shows. absurd (no_world w shows);
    loans = tt;
  };
  sound = sound;
  keeps = λ start shows. absurd (no_world start shows);
  leaves = λ start shows. absurd (no_world start shows);
}

pub returns-clause-a_submit_that_is_stored : goal.returns-clause-a_submit_that_is_stored
returns-clause-a_submit_that_is_stored c = stored_turn
