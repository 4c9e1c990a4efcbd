use Rattle.urb_node.proofs.Common.{Content, Entry, ForSome, HasRoom, IsDrafted, IsNextHeld, Memory}
use Rattle.urb_node.proofs.Common.{Option, ap, refl, subst, sym, to_others, ℕ, ◌∙◌, ◌≤◌}
use Rattle.urb_node.proofs.HoldableDrafts.{made, pending_entry}
use Rattle.urb_node.proofs.call_outcomes.make_wanted.Goals as goal

pub make_room_for-requires-clause-next : goal.make_room_for-requires-clause-next
make_room_for-requires-clause-next g c =
    subst (λ (entry : Entry). IsNextHeld c.args.held.now entry)
    (sym c.pending_record-entry.ensures) c.requires.next

pub returns-clause-wanted : goal.returns-clause-wanted
returns-clause-wanted g c =
    let copied =
    ap (λ (m : Content). pending_entry c.args.is_certified c.args.name m)
    c.in_ok-share.ensures in
    let room =
    subst (λ (entry : Entry). HasRoom c.make_room_for.new.held entry)
    c.pending_record-entry.ensures c.in_ok-make_room_for.ensures.room in
    let caused =
    subst (λ (n : ℕ). ForSome c.args.cause (λ cause. (1 ≤ cause.source) × (cause.source ≤ n)))
    (ap (λ (a : Memory). a.limits.n) (sym c.make_room_for.ensures.same)) c.requires.caused in
    let sends =
    c.in_ok-packets.ensures ∙ ap (λ (heard : Option ℕ).
    to_others c.args.held.now.config.n c.args.held.now.node c.args.is_certified heard
    (c.args.name, c.args.message)) c.certified_source.ensures in
    let drafted =
    made c.args.held.now c.make_room_for.new.held c.args.name c.args.message c.args.is_certified
    c.args.cause c.in_ok-packets.packets c.make_room_for.ensures.kept caused
    c.make_room_for.ensures.same c.requires.next room sends in (
      (
        subst (λ (entry : Entry). IsDrafted c.make_room_for.new.held entry c.args.cause
            c.in_ok-packets.packets) (sym c.pending_record-entry.ensures) drafted,
        c.pending_record-copy.ensures ∙ (copied ∙ sym c.pending_record-entry.ensures),
      ),
      c.pending_record-entry.ensures,
      refl,
    )
