-- As many stores come back as were asked.
use Rattle.std.proofs.Common.{List, [], ◌++◌, ◌∷◌, ◌≡◌}
use Rattle.urb_stable.specs.Entries.{Entry}
use Rattle.urb_stable.specs.MemoryStores.{Memory, empty_memory}
use Rattle.urb_world.specs.MemoryStores.{in_memory}
use Rattle.urb_group.specs.StoreOpenings.{AllGive}
use Rattle.urb_step_examples.proofs.worked.cluster_openings.what_stores_give.Goals as goal

-- no list ends behind an entry and is empty
split : (earlier : List Memory) (before : Memory) (later : List Memory)
    → [] ≡ earlier ++ before ∷ later → ⊥
split [] before later e = absurd (cc)
split (first ∷ earlier) before later e = absurd (cc)

-- one store doesn't become two
two : (earlier : List Memory) (images : List (List Entry)) (gave later : List Memory)
    (before after : Memory) → AllGive (in_memory (Unit {0})) earlier images gave
    → empty_memory ∷ [] ≡ earlier ++ before ∷ later
    → empty_memory ∷ empty_memory ∷ [] ≡ gave ++ after ∷ later → ⊥
two [] [] [] later before after given were are =
    let rest : [] ≡ later = cc in let more : empty_memory ∷ [] ≡ later = cc in absurd (cc)
two [] [] (first ∷ gave) later before after given were are = absurd (given)
two [] (image ∷ images) gave later before after given were are = absurd (given)
two (first ∷ earlier) images gave later before after given were are =
    let rest : [] ≡ earlier ++ before ∷ later = cc in split earlier before later rest

pub returns-clause-no_store_more : goal.returns-clause-no_store_more
returns-clause-no_store_more c h =
    two h.earlier h.images h.gave h.later h.before h.after h.given h.were h.are

pub returns-clause-no_failure_of_no_store : goal.returns-clause-no_failure_of_no_store
returns-clause-no_failure_of_no_store c h = split h.earlier h.before h.later h.were

pub returns-clause-no_failure_that_takes_a_store : goal.returns-clause-no_failure_that_takes_a_store
returns-clause-no_failure_that_takes_a_store c h = split h.gave h.after h.later h.are
