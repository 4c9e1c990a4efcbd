use Rattle.urb_stubborn.proofs.Common.{Bool, Resending, Some, [], acked, ap, arith, between}
use Rattle.urb_stubborn.proofs.Common.{due_pairs, false, filter, first_name, message_of, not}
use Rattle.urb_stubborn.proofs.Common.{option_map, others, packets_to, subst, sym, ◌++◌, ◌∙◌, ◌≡◌}
use Rattle.urb_stubborn.proofs.PairsAfterCursor.{Pairs}
use Rattle.urb_stubborn.proofs.TickProgress.{Walks, all_walked, begun, no_name, one_further, sends}
use Rattle.urb_stubborn.proofs.TickProgress.{some_behind, some_message, turn_over}
use Rattle.urb_stubborn.proofs.resend.Resend.send.Goals as goal

pub loop-left-init : goal.loop-left-init
loop-left-init g c =
    begun c.args.self.now c.args.certified.now.names
    (between c.args.walk.from c.args.walk.last (due_pairs c.args.self.now c.args.pending.now.pairs))
    c.args.walk.turn c.args.packets.now.items

pub returns-in_default : goal.returns-in_default
returns-in_default g c =
    let r = c.args.self.now in
    let names = c.args.certified.now.names in
    let all : Pairs = between c.args.walk.from c.args.walk.last (due_pairs r c.args.pending.now.pairs) in
    let rest : between c.loop-left.at c.args.walk.last (due_pairs r c.args.pending.now.pairs) ≡ [] =
    no_name _ (sym c.next_within.ensures ∙ c.in_default.is) in
    all_walked r names all c.args.walk.turn c.args.packets.now.items c.loop-left.left c.loop-left.cursor
    c.loop-left.packets.items
    (subst (λ (ps : Pairs). Walks r names all c.args.walk.turn c.args.packets.now.items c.loop-left.left
    ps c.loop-left.cursor c.loop-left.packets.items) rest c.loop-left.invariant)

pub unwrap-message-requires : goal.unwrap-message-requires
unwrap-message-requires g c =
    let name : first_name (between c.loop-left.at c.args.walk.last
    (due_pairs c.args.self.now c.args.pending.now.pairs)) ≡ Some c.in-Some.name =
    sym c.next_within.ensures ∙ c.in-Some.is in
    some_behind (λ m. m.now) c.message.result
    (rw c.message.ensures (some_message c.args.self.now c.args.pending.now.pairs c.loop-left.at
    c.args.walk.last c.in-Some.name c.recall.ensures.rising name))

pub loop-left-preserved : goal.loop-left-preserved
loop-left-preserved g c =
    let r = c.args.self.now in
    let names = c.args.certified.now.names in
    let pairs = c.args.pending.now.pairs in
    let x = c.in-Some.name in
    let a = c.self.inside in
    let all : Pairs = between c.args.walk.from c.args.walk.last (due_pairs r pairs) in
    let name : first_name (between c.loop-left.at c.args.walk.last (due_pairs r pairs)) ≡ Some x =
    sym c.next_within.ensures ∙ c.in-Some.is in
    let message : message_of pairs x ≡ Some c.unwrap-message.result.now =
    sym c.message.ensures ∙ ap (option_map (λ m. m.now)) c.unwrap-message.ensures in
    let pushed : c.push_to_unheard.new.packets.items ≡ c.loop-left.packets.items ++ sends r names
    (x, c.unwrap-message.result.now) =
    c.in_ok-push_to_unheard.ensures
    ∙ (ap (λ (b : Bool). c.loop-left.packets.items ++ packets_to a.node
    (λ q. record { certified = b; heard = false })
    (filter (λ q. not (acked a.heard.marks x q)) (others a.config.n a.node))
    (x, c.unwrap-message.result.now)) c.has-is_certified.ensures
    ∙ ap (λ (s : Resending). c.loop-left.packets.items ++ sends s names
    (x, c.unwrap-message.result.now)) c.self.view_is) in
    one_further r names pairs all c.args.walk.turn c.args.packets.now.items c.loop-left.left
    c.loop-left.at c.args.walk.last c.loop-left.cursor c.loop-left.packets.items
    c.push_to_unheard.new.packets.items x c.unwrap-message.result.now
    c.recall.ensures.rising c.loop-left-test.true name message pushed c.loop-left.invariant

pub returns : goal.returns
returns g c =
    let r = c.args.self.now in
    let names = c.args.certified.now.names in
    let all : Pairs = between c.args.walk.from c.args.walk.last (due_pairs r c.args.pending.now.pairs) in
    let none : c.loop-left.left ≡ 0 = omega (arith, c.loop-left-test.false) in
    turn_over r names all c.args.walk.turn c.args.packets.now.items c.loop-left.left _ c.loop-left.cursor
    c.loop-left.packets.items none c.loop-left.invariant
