use Rattle.urb_group.proofs.Common.{Breaks, Entry, Err, Failure, Option, Some, ap, is_out_of_place}
use Rattle.urb_group.proofs.Common.{length, subst, without_memory, ℕ, ◌+◌, ◌-◌, ◌^◌, ◌∙◌, ◌≡◌, ◌≤◌}
use Rattle.std.specs.Option.{OnSome}
use Rattle.urb_group.proofs.calls.ArmedStores.{breaks-so}
use Rattle.urb_stable.specs.MemoryStores.{Memory}
use Rattle.urb_stable.specs.declared.stable.StoreFault.TheVariants as fault
use Rattle.urb_group.proofs.stores.break_store.Goals as goal

pub returns : goal.returns
returns g c =
    let armed : Memory = c.arm.new.self in
    let after : Memory = c.store-answer.new.self in
    let failure : Failure = c.args.failure in
    let is_armed : armed.armed ≡ Some failure = ap (λ (m : Memory). m.armed) c.arm.ensures in
    subst (λ (m : Memory). Breaks
    (is_out_of_place m.doubtful (length m.certain + 1) c.args.draft.now.pos)
    failure m c.args.draft.now.entry after) c.arm.ensures
    (subst (λ (i : ℕ). Breaks (is_out_of_place armed.doubtful (length armed.certain + 1) i)
    failure armed c.args.draft.now.entry after) c.pos.ensures.value
    (subst (λ (e : Entry). Breaks
    (is_out_of_place armed.doubtful (length armed.certain + 1) c.pos.result)
    failure armed e after) c.entry.ensures
    (breaks-so (is_out_of_place armed.doubtful (length armed.certain + 1) c.pos.result)
    failure armed c.entry.result.now after c.store-answer.result
    c.store-answer.ensures.same
    (λ out e below. (c.store-answer.ensures.exact out).keeps_nothing (is_armed ∙ ap Some e) below)
    (λ out e below. (c.store-answer.ensures.exact out).keeps_it (is_armed ∙ ap Some e) below)
    (λ out above. subst (λ (o : Option Failure).
    OnSome o (2 ^ 64 - 1 ≤ armed.failures
    → (c.store-answer.result ≡ Err fault.NoMemory) × (after ≡ without_memory armed))) is_armed
    (c.store-answer.ensures.exact out).uncounted above))))
