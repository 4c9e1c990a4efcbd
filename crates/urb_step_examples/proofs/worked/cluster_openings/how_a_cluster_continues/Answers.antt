-- A cluster over honest stores shows a world. It starts again with the same limits.
use Rattle.std.proofs.Common.{List, [], arith, inl, inr, length, refl, subst, sym, ℕ, ◌∷◌, ◌≡◌, ◌⊎◌}
use Rattle.urb_names.specs.Names.{name}
use Rattle.urb_stable.specs.DeliveredLogs.{log}
use Rattle.urb_stable.specs.Entries.{Entry}
use Rattle.urb_stable.specs.MemoryStores.{Memory, empty_memory}
use Rattle.urb_group.specs.GroupViews.{Shows}
use Rattle.urb_world.specs.World.{World, started, stored}
use Rattle.urb_world.specs.MemoryStores.{in_memory}
use Rattle.urb_world.specs.internal.Examples.{limits}
use Rattle.std.specs.List.{All}
use Rattle.urb_names.specs.declared.refusal.Refusal.TheVariants as refusal
use Rattle.urb_world.specs.StartLimits.{MayStartWith}
use Rattle.urb_step_examples.specs.internal.GroupExamples.{of_no_world}
use Rattle.urb_step_examples.proofs.worked.cluster_openings.how_a_cluster_continues.Goals as goal

-- no node has delivered a name and stored no record
none : (records : List Entry) → 0 ≡ length records → name 1 1 ∷ [] ≡ log records → ⊥
none [] count delivered = absurd (cc)
none (r ∷ rs) count delivered = absurd (cc)

no-world : (n : ℕ) (w : World) → Shows (of_no_world n) w → ⊥
no-world n w shows = none (w.node 1).records (shows.nodes 1).count (shows.nodes 1).log

-- no store is dishonest
all-none : (P : Memory → Type 0) → All P []
all-none P k store less = absurd (omega (arith, less))

may-start : MayStartWith (limits 3 10) (started (limits 3 10))
may-start = record { nodes = omega (arith); cap = inl (omega (arith)); majorities = inl refl }

-- busy is none of the two refusals
not-busy : (refusal.Busy ≡ refusal.NoMemory) ⊎ (refusal.Busy ≡ refusal.Device) → ⊥
not-busy (inl e) = absurd (cc)
not-busy (inr e) = absurd (cc)

pub returns-clause-anyhow_over_dishonest_stores : goal.returns-clause-anyhow_over_dishonest_stores
returns-clause-anyhow_over_dishonest_stores c honest =
    absurd (honest 0 empty_memory (omega (arith)))

pub returns-clause-not_as_a_group_of_no_world : goal.returns-clause-not_as_a_group_of_no_world
returns-clause-not_as_a_group_of_no_world c h = no-world 3 _ (h (all-none _)).opens

pub returns-clause-no_refusal_as_busy : goal.returns-clause-no_refusal_as_busy
returns-clause-no_refusal_as_busy c returned none h =
    not-busy (h.1 may-start
    (inl (subst (λ (stores : List Memory). All (in_memory (Unit {0})).is_honest stores)
    (sym none) (all-none _))))
