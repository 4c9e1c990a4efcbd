-- The recovery of a group that has stored nothing has no events.
use Rattle.urb_world.proofs.Common.{AllDelivered, Bool, Content, Event, List, Plan, Ready, World}
use Rattle.urb_world.proofs.Common.{[], after, all_back, both, carries, comes_back, each, false}
use Rattle.urb_world.proofs.Common.{limits, message, name, node_in, nodes, recovery, refl, round_of}
use Rattle.urb_world.proofs.Common.{rounds, run, started, subst, sym, ℕ, ◌++◌, ◌∷◌, ◌≡◌}
use Rattle.urb_world.specs.RecoveredWorlds.{Delivers}
use Rattle.urb_world.specs.RecoveryPlans.{packets_of, ticks_of}
use Rattle.urb_world.proofs.worked.prospects.what_can_be_delivered.Goals as goal

-- plans without events, one after the other
both_none : (first second : Plan) (w : World) → first w ≡ [] → second w ≡ []
    → both first second w ≡ []
unfolding run
both_none first second w one other =
    subst (λ (events : List Event). events ++ second (after w events) ≡ []) (sym one) other

each_none : (plan : ℕ → Plan) (w : World) → ((p : ℕ) → plan p w ≡ []) → (ps : List ℕ)
    → each plan ps w ≡ []
unfolding run
each_none plan w none [] = refl
each_none plan w none (p ∷ ps) =
    subst (λ (events : List Event). events ++ each plan ps (after w events) ≡ []) (sym (none p))
    (each_none plan w none ps)

-- a group of four whose ready nodes have stored nothing, although they have taken these messages
abbrev quiet : List Content → World
quiet messages = record (started (limits 4 10))
    { node = λ p. record (node_in Ready []) { broadcast = messages } }

round_none : (messages : List Content) (p : ℕ) → round_of p (quiet messages) ≡ []
unfolding run
round_none messages p =
    both_none (ticks_of p) (each carries (packets_of (quiet messages) (ticks_of p (quiet messages))))
    (quiet messages) refl refl

rounds_none : (messages : List Content) → rounds (quiet messages) ≡ []
rounds_none messages = each_none round_of (quiet messages) (round_none messages) (nodes 4)

recovery_none : (keeps : ℕ → Bool) (messages : List Content)
    → recovery keeps (quiet messages) ≡ []
recovery_none keeps messages =
    both_none (all_back keeps) (both rounds rounds) (quiet messages)
    (each_none (comes_back keeps) (quiet messages) (λ p. refl) (nodes 4))
    (both_none rounds rounds (quiet messages) (rounds_none messages) (rounds_none messages))

-- no events deliver what a new group has, which is nothing
delivers : Delivers (quiet []) []
unfolding run
delivers = record {
  goes = tt;
  onward = record {
    records = λ p. ([], refl);
    broadcast = λ p. ([], refl);
    delivered = λ p. ([], refl);
    truth = λ packet is. is;
  };
  delivered = λ p is. record { ready = refl; names = λ s of. refl; messages = λ s of. refl };
}

pub returns-clause-all_of_a_new_group : goal.returns-clause-all_of_a_new_group
returns-clause-all_of_a_new_group c keeps =
    subst (λ (events : List Event). Delivers (quiet []) events) (sym (recovery_none keeps [])) delivers

none-some : {A : Type 0} (x : A) (xs : List A) → [] ≡ x ∷ xs → ⊥
none-some x xs e = cc

-- what no events can deliver
not_delivered : AllDelivered (after (quiet (message 7 1 "" ∷ [])) []) → ⊥
unfolding run
not_delivered all = none-some (name 1 1) [] ((all 1 refl).names 1 refl)

pub returns-clause-nothing_that_was_not_stored : goal.returns-clause-nothing_that_was_not_stored
returns-clause-nothing_that_was_not_stored c can =
    not_delivered (subst (λ (events : List Event). AllDelivered (after (quiet (message 7 1 "" ∷ [])) events))
    (recovery_none (λ p. false) (message 7 1 "" ∷ [])) (can (λ p. false)).delivered)
