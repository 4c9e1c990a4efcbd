use Rattle.urb_stubborn.proofs.Common.{Bool, Content, Flags, Label, Some, acked, ap, ap₂, arith}
use Rattle.urb_stubborn.proofs.Common.{false, filter, not, others, rules, sym, true, ℕ, ◌&&◌, ◌+◌}
use Rattle.urb_stubborn.proofs.Common.{◌-◌, ◌==◌, ◌∙◌, ◌≡◌}
use Rattle.urb_stubborn.proofs.SentPackets.{not_sent_to, packet, sent_to, some_grow}
use Rattle.urb_stubborn.proofs.outbox.push_to_unheard.Goals.{else-is_unheard}
use Rattle.urb_stubborn.proofs.outbox.push_to_unheard.Goals.{then-is_unheard+in_ok-share+in_ok-push}
use Rattle.urb_stubborn.proofs.outbox.push_to_unheard.Goals as goal

pub loop-number-preserved : goal.loop-number-preserved
loop-number-preserved g c =
    let p = c.args.sending.node in
    let i = c.loop-number.number in
    let flags : ℕ → Flags = λ q. record { certified = c.args.sending.certified; heard = false } in
    let pair : Label × Content = (c.args.sending.name, c.args.message.now) in
    let unheard : ℕ → Bool = λ q. not (acked c.args.heard.now.marks c.args.sending.name q) in
    let here : i + 1 - 1 ≡ i = omega arith in
    let target : c.unwrap-target.result ≡ i = search rules in
    let tested : c.is_unheard.result ≡ (not (i == p) && unheard i) =
    c.is_unheard.ensures ∙ ap (λ q. not (q == p) && unheard q) target in
    elim c.if-is_unheard.branch [
      | then-is_unheard+in_ok-share+in_ok-push w ↦
          let passes : (not (i == p) && unheard i) ≡ true = sym tested ∙ w.if-is_unheard.true in
          let sent : w.new-then-is_unheard.result ≡ packet p flags i pair =
          w.new-then-is_unheard.ensures
          ∙ ap₂ (λ t m. record {
            source = p;
            target = t;
            name = c.args.sending.name;
            message =
                m;
            flags = Some (record { certified = c.args.sending.certified; heard = false });
          })
          target w.in_ok-share.ensures in
          rw (w.packets-is, w.in_ok-push.ensures.items, sent)
          (sent_to (λ n. filter unheard (others n p)) (λ q. not (q == p) && unheard q)
          (some_grow unheard p) p flags pair i
          (i + 1 - 1) c.args.packets.now.items c.loop-number.packets.items here
          (omega arith) passes c.loop-number.invariant)
      | else-is_unheard w ↦
          let fails : (not (i == p) && unheard i) ≡ false = sym tested ∙ w.if-is_unheard.false in
          rw w.packets-is
          (not_sent_to (λ n. filter unheard (others n p)) (λ q. not (q == p) && unheard q)
          (some_grow unheard p) p flags pair i
          (i + 1 - 1) c.args.packets.now.items c.loop-number.packets.items here
          (omega arith) fails c.loop-number.invariant)
    ]
