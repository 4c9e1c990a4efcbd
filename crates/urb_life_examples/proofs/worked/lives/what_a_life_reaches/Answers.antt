-- A life reaches the world as the stores have it.
use Rattle.std.proofs.Common.{[], arith, inl, inr, length, refl, subst, suc, zero, ℕ, ⊎_elim}
use Rattle.std.proofs.Common.{IsTrue, ◌∷◌, ◌≤◌}
use Rattle.std.proofs.lemmas.Bool.{false≢true}
use Rattle.urb_names.proofs.OrderedPairs.{has_pair-first}
use Rattle.urb_names.specs.LabelsAndContents.{Content}
use Rattle.urb_names.specs.Names.{name}
use Rattle.urb_names.specs.Nodes.{is_node}
use Rattle.urb_names.specs.declared.limits.TheConstants.{MAX_PAYLOAD}
use Rattle.urb_stable.specs.Records.{pend}
use Rattle.urb_world.specs.RunInvariant.{AreShort}
use Rattle.urb_world.specs.StoresAhead.{IsOrStandsFor, MayFollow}
use Rattle.urb_world.specs.World.{started, stored}
use Rattle.urb_world.specs.internal.Examples.{limits, pending}
use Rattle.urb_world.specs.internal.Scripts.{message}
use Rattle.urb_daemon.specs.Lives.{Lives, Stays, Stores}
use Rattle.urb_life_examples.specs.internal.ExampleWorlds.{holding_one, without_packets}
use Rattle.urb_life_examples.proofs.worked.lives.what_a_life_reaches.Goals as goal

zero-short : 0 ≤ MAX_PAYLOAD
zero-short = omega (arith)

short-one : AreShort (pend (pending 1 1 ∷ []))
short-one x m e =
    ⊎_elim (λ f. subst (λ (v : Content). length v.payload ≤ MAX_PAYLOAD) f.1 zero-short)
    (λ f. absurd (false≢true f)) (has_pair-first (name 1 1, message 7 1 "") [] x m e)

-- node 1 of a new group may have its first message ahead
one-ahead : (n : ℕ) → IsTrue (is_node n 1)
    → MayFollow (limits n 10) (stored (started (limits n 10))) 1 [] (pending 1 1 ∷ [])
    → Lives (started (limits n 10)) (holding_one n)
one-ahead n is may =
    Stores (started (limits n 10)) (holding_one n) Stays (record { size = refl; nodes = nodes })
  where
    nodes : (p : ℕ) → IsOrStandsFor (started (limits n 10)) p ((holding_one n).node p)
    nodes zero = inl refl
    nodes (suc zero) = inr record {
      is = is;
      tail = pending 1 1 ∷ [];
      may = may;
      short = short-one;
      opened = refl;
    }
    nodes (suc (suc p)) = inl refl

pub returns-clause-where_it_begins : goal.returns-clause-where_it_begins
returns-clause-where_it_begins c w = Stays

pub returns-clause-its_packets_are_lost : goal.returns-clause-its_packets_are_lost
returns-clause-its_packets_are_lost c w =
    Stores w (without_packets w) Stays (record { size = refl; nodes = λ p. inl refl })

pub returns-clause-one_ahead_of_one : goal.returns-clause-one_ahead_of_one
returns-clause-one_ahead_of_one c = one-ahead 1 refl search

pub returns-clause-one_ahead_of_three : goal.returns-clause-one_ahead_of_three
returns-clause-one_ahead_of_three c = one-ahead 3 refl search

pub returns-clause-one_ahead_of_four : goal.returns-clause-one_ahead_of_four
returns-clause-one_ahead_of_four c = one-ahead 4 refl search

pub returns-clause-one_ahead_of_seven : goal.returns-clause-one_ahead_of_seven
returns-clause-one_ahead_of_seven c = one-ahead 7 refl search
