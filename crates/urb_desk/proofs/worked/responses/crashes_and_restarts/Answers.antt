-- A crash of a new node.
use Rattle.urb_desk.proofs.Common.{Carried, Crash, Down, Event, HasCrashed, HasRestarted, IsSound}
use Rattle.urb_desk.proofs.Common.{Limits, List, Node, None, Ready, Refused, Restart, Shows}
use Rattle.urb_desk.proofs.Common.{ShowsNode, Some, Up, WentDown, World, [], after, arith, comes_up}
use Rattle.urb_desk.proofs.Common.{crashes, doubt, four, goes_down, if◌then◌else◌, is_down, is_node}
use Rattle.urb_desk.proofs.Common.{length, limits, new-kept, new_four, no_view, opened_node, refl}
use Rattle.urb_desk.proofs.Common.{refuses, restarts, run, says, slice_get, step, subst, suc}
use Rattle.urb_desk.proofs.Common.{view_of, world_after, zero, ℕ, ◌∷◌, ◌≡◌, ◌≤◌}
use Rattle.urb_node.specs.Part.{State}
use Rattle.urb_stable.specs.Entries.{Entry}
use Rattle.urb_names.specs.declared.refusal.Refusal.TheVariants as refusal
use Rattle.urb_desk.proofs.worked.responses.crashes_and_restarts.Goals as goal

new_node : (p : ℕ) → ShowsNode (limits 4 10) p no_view (opened_node p [])
new_node p = record {
  pairs = λ x m. refl;
  certified = λ x. refl;
  log = refl;
  count = refl;
  state = refl;
  cursor = refl;
  acks = λ x q e. refl;
  heard = λ x q. refl;
  rules = tt;
  broadcast = refl;
}

-- a new group shows a new world
shows_new : Shows new_four four
shows_new = record { size = refl; nodes = at }
  where
    at : (p : ℕ) → ShowsNode (limits 4 10) p (view_of new_four p) (opened_node p [])
    at zero = new_node zero
    at (suc before) = new_node (suc before)

-- a new group shows a world that keeps the rules
sound : IsSound new_four
sound = record { world = four; shows = shows_new; kept = new-kept (limits 4 10) }

crash-told : (w : World) (size : Limits) (st : State) → limits 4 10 ≡ size → Ready ≡ st
    → (if is_node size.n 1 then world_after w 1 (if is_down st then refuses (w.node 1) refusal.Down
    else goes_down 1 (w.node 1)) else (Refused refusal.BadNode, w)).0 ≡ WentDown 1
crash-told w size st a b =
    subst (λ (it : Limits). (if is_node it.n 1 then world_after w 1 (if is_down st
    then refuses (w.node 1) refusal.Down else goes_down 1 (w.node 1))
    else (Refused refusal.BadNode, w)).0 ≡ WentDown 1) a
    (subst (λ (it : State). (world_after w 1 (if is_down it then refuses (w.node 1) refusal.Down
    else goes_down 1 (w.node 1))).0 ≡ WentDown 1) b refl)

crashed : HasCrashed new_four [] (Crash 1 ∷ []) 1
unfolding step run
crashed = record {
  sound = sound;
  place = 0;
  behind = omega arith;
  crash = record {
    stands = refl;
    told = λ w shows. crash-told w w.size (w.node 1).state shows.size (shows.nodes 1).state;
  };
}

-- a ready node without records goes down, and comes up again with an empty image
comes-back : (one : Node) → Ready ≡ one.state → [] ≡ one.records
    → (restarts 1 [] (crashes 1 one).1 (crashes 1 one).1.state).0 ≡ Up 1
comes-back one a b =
    subst (λ (st : State). (restarts 1 []
    (if is_down st then refuses one refusal.Down
    else (WentDown 1, record one { state = Down (doubt st); acks = []; heard = [] })).1
    (if is_down st then refuses one refusal.Down
    else (WentDown 1, record one { state = Down (doubt st); acks = []; heard = [] })).1.state).0
    ≡ Up 1) a
    (subst (λ (rs : List Entry). (if says [] rs then comes_up 1 rs one.broadcast
    else refuses (record one { state = Down None; acks = []; heard = [] }) refusal.BadImage).0
    ≡ Up 1) b refl)

told-up : (size : Limits) (node : ℕ → Node) (sent : List Carried) → limits 4 10 ≡ size
    → Ready ≡ (node 1).state → [] ≡ (node 1).records
    → (step (after (record { size = size; node = node; sent = sent }) (Crash 1 ∷ []))
    (Restart 1 [])).0 ≡ Up 1
unfolding step run
told-up size node sent a b c =
    subst (λ (it : Limits). (step (after (record { size = it; node = node; sent = sent })
    (Crash 1 ∷ [])) (Restart 1 [])).0 ≡ Up 1) a (comes-back (node 1) b c)

none : (records : List Entry) → 0 ≡ length records → [] ≡ records
none [] e = refl
none (r ∷ records) e = absurd (omega (arith, e))

restarted : HasRestarted new_four [] (Crash 1 ∷ Restart 1 [] ∷ []) 1
restarted = record {
  sound = sound;
  place = 1;
  behind = omega arith;
  image = [];
  restart = record {
    stands = refl;
    told = λ w shows. told-up w.size w.node w.sent shows.size (shows.nodes 1).state
        (none (w.node 1).records (shows.nodes 1).count);
  };
}

-- of two events none is at place 2 or behind it
too-late : (place : ℕ) (event : Event) → 2 ≤ place
    → slice_get (Crash 1 ∷ Restart 1 [] ∷ []) place ≡ Some event → ⊥
too-late zero event late stands = omega (arith, late)
too-late (suc zero) event late stands = omega (arith, late)
too-late (suc (suc place)) event late stands = cc

pub returns-clause-a_crash : goal.returns-clause-a_crash
returns-clause-a_crash c = crashed

pub returns-clause-a_restart : goal.returns-clause-a_restart
returns-clause-a_restart c = restarted

pub returns-clause-a_restart_before : goal.returns-clause-a_restart_before
returns-clause-a_restart_before c h = too-late h.place _ h.behind h.restart.stands
