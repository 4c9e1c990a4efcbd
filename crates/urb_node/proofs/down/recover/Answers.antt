use Rattle.urb_node.proofs.Common.{Err, Fallen, IsVerdict, Memory, Neither, None, Ok, Restarts, []}
use Rattle.urb_node.proofs.Common.{ap, ap₂, memory_of, rules, subst, sym, with_doubtful, ◌∙◌, ◌≡◌}
use Rattle.urb_node.specs.declared.image_verdict.Verdict.TheVariants.{Stored, WithDoubtful}
use Rattle.urb_node.proofs.ReceiptResults.{first_held, released_held}
use Rattle.urb_node.proofs.RestartResults.{neither-leads, short-leads, stored-leads}
use Rattle.urb_node.proofs.RestartResults.{with_doubtful-leads}
use Rattle.urb_names.specs.declared.refusal.Refusal.TheVariants as refusal
use Rattle.urb_node.proofs.down.recover.Goals as goal

pub returns-in-Stored : goal.returns-in-Stored
returns-in-Stored g c =
    let old : Memory = memory_of c.args.held in
    let is =
    c.bring_up.ensures ∙ ap (λ (a : Memory). record a { cursor = None })
    c.judge_restart.ensures.same in
    let image : c.deref.result.now ≡ c.args.image.items = search rules in
    let told =
    subst (λ items. IsVerdict items old c.args.doubt Stored) image
    (subst (IsVerdict c.deref.result.now old c.args.doubt)
    c.in-Stored.is c.in-Ok.ensures.verdict) in
    subst (λ (a : Memory). Restarts
    (record { memory = old; doubt = c.args.doubt }) c.args.image.items (Ok a)) (sym is)
    (stored-leads old c.args.doubt c.args.image.items c.judge_restart.new.held.acks.counted
    c.requires.unheard told c.in-Ok.ensures.counted)

pub returns-in-WithDoubtful : goal.returns-in-WithDoubtful
returns-in-WithDoubtful g c =
    let old : Memory = memory_of c.args.held in
    let is =
    c.bring_up-in-WithDoubtful.ensures
    ∙ (ap (λ (a : Memory). record a { cursor = None }) c.join_doubtful.ensures.memory
    ∙ ap (λ (a : Memory). record (with_doubtful a c.args.doubt) { cursor = None })
    c.judge_restart.ensures.same) in
    let image : c.deref.result.now ≡ c.args.image.items = search rules in
    let told =
    subst (λ items. IsVerdict items old c.args.doubt WithDoubtful) image
    (subst (IsVerdict c.deref.result.now old c.args.doubt)
    c.in-WithDoubtful.is c.in-Ok.ensures.verdict) in
    subst (λ (a : Memory). Restarts
    (record { memory = old; doubt = c.args.doubt }) c.args.image.items (Ok a)) (sym is)
    (with_doubtful-leads old c.args.doubt c.args.image.items c.judge_restart.new.held.acks.counted
    c.recall.ensures.rising c.requires.doubtful
    (released_held c.args.held c.requires.held c.recall-2.ensures)
    (λ r e. first_held c.args.held r c.requires.held (c.requires.doubtful r e))
    c.requires.unheard told.0 told.1 c.in-Ok.ensures.counted)

pub returns-in-Neither : goal.returns-in-Neither
returns-in-Neither g c =
    let old : Memory = memory_of c.args.held in
    let image : c.deref.result.now ≡ c.args.image.items = search rules in
    let is =
    c.take_down.ensures
    ∙ (ap (λ (a : Memory). record
    { memory = record a { acks = []; heard = [] }; doubt = c.args.doubt })
    c.judge_restart.ensures.same
    ∙ ap₂ (λ acks heard. record {
      memory = record old { acks = acks; heard = heard };
      doubt =
          c.args.doubt;
    }) (sym c.requires.uncounted) (sym c.requires.unheard)) in
    let told =
    subst (λ items. IsVerdict items old c.args.doubt Neither) image
    (subst (IsVerdict c.deref.result.now old c.args.doubt)
    c.in-Neither.is c.in-Ok.ensures.verdict) in
    subst (λ (f : Fallen). Restarts
    (record { memory = old; doubt = c.args.doubt }) c.args.image.items
    (Err (f, refusal.BadImage))) (sym is)
    (neither-leads old c.args.doubt c.args.image.items c.recall.ensures.rising c.requires.doubtful
    (released_held c.args.held c.requires.held c.recall-2.ensures)
    (λ r e. first_held c.args.held r c.requires.held (c.requires.doubtful r e)) told.0 told.1)

pub returns-in-Err : goal.returns-in-Err
returns-in-Err g c =
    let old : Memory = memory_of c.args.held in
    let is =
    c.take_down-in-Err.ensures
    ∙ (ap (λ (a : Memory). record
    { memory = record a { acks = []; heard = [] }; doubt = c.args.doubt })
    c.judge_restart.ensures.same
    ∙ ap₂ (λ acks heard. record {
      memory = record old { acks = acks; heard = heard };
      doubt =
          c.args.doubt;
    }) (sym c.requires.uncounted) (sym c.requires.unheard)) in
    subst (λ (f : Fallen). Restarts
    (record { memory = old; doubt = c.args.doubt }) c.args.image.items
    (Err (f, refusal.NoMemory))) (sym is) (short-leads old c.args.doubt c.args.image.items)
