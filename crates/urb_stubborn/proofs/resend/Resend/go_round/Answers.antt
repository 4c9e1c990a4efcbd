use Rattle.urb_stubborn.proofs.Common.{Carried, IsWalked, Label, List, NAMES_PER_TICK, None, Option}
use Rattle.urb_stubborn.proofs.Common.{Resending, [], ap, between, due_pairs, false, is_some, not}
use Rattle.urb_stubborn.proofs.Common.{subst, sym, take, true, ◌∙◌, ◌≡◌}
use Rattle.urb_stubborn.proofs.PairsAfterCursor.{Pairs}
use Rattle.urb_stubborn.proofs.TickProgress.{if_ok_more, no_cursor, some_cursor, tick_around}
use Rattle.urb_stubborn.proofs.TickProgress.{tick_straight}
use Rattle.urb_stubborn.proofs.resend.Resend.go_round.Goals as goal

pub returns-then-is_none : goal.returns-then-is_none
returns-then-is_none g c =
    let r : Resending = c.args.self.now in
    let pairs : Pairs = c.args.pending.now.pairs in
    let names = c.args.certified.now.names in
    let same : c.self.inside.cursor ≡ r.cursor = ap (λ (s : Resending). s.cursor) c.self.view_is in
    let walked : IsWalked r names (take NAMES_PER_TICK (between r.cursor None (due_pairs r pairs)))
    (record { left = NAMES_PER_TICK; cursor = r.cursor })
    [] c.in_ok-turned.turned c.send.new.packets.items =
    subst (λ (old : List Carried).
    IsWalked r names (take NAMES_PER_TICK (between r.cursor None (due_pairs r pairs)))
    (record { left = NAMES_PER_TICK; cursor = r.cursor })
    old c.in_ok-turned.turned c.send.new.packets.items) c.requires
    (subst (λ (o : Option Label).
    IsWalked r names (take NAMES_PER_TICK (between o None (due_pairs r pairs)))
    (record { left = NAMES_PER_TICK; cursor = o })
    c.args.packets.now.items c.in_ok-turned.turned c.send.new.packets.items)
    same c.in_ok-turned.ensures) in
    let none : r.cursor ≡ None =
    no_cursor r.cursor (ap is_some (sym same) ∙ (c.is_none.ensures ∙ ap not c.if-is_none.true))
    in
    tick_straight r pairs names c.in_ok-turned.turned c.send.new.packets.items none walked

pub returns : goal.returns
returns g c =
    let r : Resending = c.args.self.now in
    let pairs : Pairs = c.args.pending.now.pairs in
    let names = c.args.certified.now.names in
    let same : c.self.inside.cursor ≡ r.cursor = ap (λ (s : Resending). s.cursor) c.self.view_is in
    let walked : IsWalked r names (take NAMES_PER_TICK (between r.cursor None (due_pairs r pairs)))
    (record { left = NAMES_PER_TICK; cursor = r.cursor })
    [] c.in_ok-turned.turned c.send.new.packets.items =
    subst (λ (old : List Carried).
    IsWalked r names (take NAMES_PER_TICK (between r.cursor None (due_pairs r pairs)))
    (record { left = NAMES_PER_TICK; cursor = r.cursor })
    old c.in_ok-turned.turned c.send.new.packets.items) c.requires
    (subst (λ (o : Option Label).
    IsWalked r names (take NAMES_PER_TICK (between o None (due_pairs r pairs)))
    (record { left = NAMES_PER_TICK; cursor = o })
    c.args.packets.now.items c.in_ok-turned.turned c.send.new.packets.items)
    same c.in_ok-turned.ensures) in
    let some =
    some_cursor r.cursor (ap is_some (sym same)
    ∙ (c.is_none.ensures ∙ ap not c.if-is_none.false)) in
    if_ok_more _ _ c.send-2.result
    (λ after two.
    tick_around r pairs names some.0 c.in_ok-turned.turned after c.send.new.packets.items
    c.send-2.new.packets.items some.1 walked
    (subst (λ (o : Option Label).
    IsWalked r names (take c.in_ok-turned.turned.left (between None o (due_pairs r pairs)))
    c.in_ok-turned.turned c.send.new.packets.items after c.send-2.new.packets.items) same two))
    c.send-2.ensures
