use Rattle.urb_folder.proofs.Common.{Gives, length, list_in, rules, slice_index_or, subst, ◌≡◌}
use Rattle.urb_folder.proofs.AnswerLists.{all_answered}
use Rattle.urb_folder.proofs.images.ask_all.Goals as goal

pub returns : goal.returns
returns g c =
    let same : length c.args.askings.now ≡ length c.for_each_mut.new.s = search rules in
    all_answered g.S.Stable (λ it. it.store)
    (λ it. it.answer) c.args.askings.now c.for_each_mut.new.s same (λ i d less.
    let at = (c.for_each_mut.ensures i d less).1 in
    subst (λ after. Gives g.S.Stable (slice_index_or c.args.askings.now i d).store
    (list_in after.answer) after.store) at.left
    (subst (λ before. Gives g.S.Stable before.store
    (list_in at.after_call.now.answer) at.after_call.now.store) at.argument_is at.call))
