use Rattle.urb_stubborn.proofs.Common.{Content, Flags, Label, Some, ap, ap₂, arith, eq-eqb}
use Rattle.urb_stubborn.proofs.Common.{is_heard_of, ne_eqb, not, others, rules, ℕ, ◌+◌, ◌-◌, ◌==◌}
use Rattle.urb_stubborn.proofs.Common.{◌∙◌, ◌≡◌, ◌≢◌}
use Rattle.urb_stubborn.proofs.SentPackets.{not_sent_to, others_grow, packet, sent_to}
use Rattle.urb_stubborn.proofs.outbox.push_to_others.Goals.{else-ne, then-ne+in_ok-share+in_ok-push}
use Rattle.urb_stubborn.proofs.outbox.push_to_others.Goals as goal

pub loop-number-preserved : goal.loop-number-preserved
loop-number-preserved g c =
    let p = c.args.sending.node in
    let i = c.loop-number.number in
    let flags : ℕ → Flags =
    λ q. record { certified = c.args.sending.certified; heard = is_heard_of c.args.heard q } in
    let pair : Label × Content = (c.args.sending.name, c.args.message.now) in
    let here : i + 1 - 1 ≡ i = omega arith in
    let target : c.unwrap-target.result ≡ i = search rules in
    elim c.if-ne.branch [
      | then-ne+in_ok-share+in_ok-push w ↦
          let other : i ≢ p = search rules in
          let told : w.is_heard_of.result ≡ is_heard_of c.args.heard i =
          w.is_heard_of.ensures ∙ ap (is_heard_of c.args.heard) target in
          let sent : w.new-then-ne.result ≡ packet p flags i pair =
          w.new-then-ne.ensures ∙ (ap (λ t.
          record {
            source = p;
            target = t;
            name = c.args.sending.name;
            message =
                w.in_ok-share.field-0;
            flags =
                Some (record { certified = c.args.sending.certified; heard = w.is_heard_of.result });
          }) target
          ∙ ap₂ (λ m b. record {
            source = p;
            target = i;
            name = c.args.sending.name;
            message = m;
            flags =
                Some (record { certified = c.args.sending.certified; heard = b });
          })
          w.in_ok-share.ensures told) in
          rw (w.packets-is, w.in_ok-push.ensures.items, sent)
          (sent_to (λ n. others n p) (λ q. not (q == p)) (others_grow p) p flags pair i
          (i + 1 - 1) c.args.packets.now.items c.loop-number.packets.items here (omega arith)
          (ap not (ne_eqb i p other)) c.loop-number.invariant)
      | else-ne w ↦
          let same : i ≡ p = search rules in
          rw w.packets-is
          (not_sent_to (λ n. others n p) (λ q. not (q == p)) (others_grow p) p flags pair i
          (i + 1 - 1) c.args.packets.now.items c.loop-number.packets.items here (omega arith)
          (ap not (eq-eqb i p same)) c.loop-number.invariant)
    ]
