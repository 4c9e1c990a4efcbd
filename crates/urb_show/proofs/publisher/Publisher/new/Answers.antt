use Rattle.urb_show.proofs.Common.{Addition, Agree, List, [], ap, applied_to, fold, issue_of}
use Rattle.urb_show.proofs.Common.{lists_of, subst, sym, ◌∙◌, ◌≡◌}
use Rattle.urb_show.proofs.Prefixes.{prefix_empty}
use Rattle.urb_show.proofs.TimelyAdditions.{all_timely_none}
use Rattle.urb_show.specs.internal.Operations.{state_of}
use Rattle.urb_show.proofs.publisher.Publisher.new.Goals as goal

pub invariant_of-result : goal.invariant_of-result
invariant_of-result g c =
    let base = g.K.HouseName.base in
    let known : c.copy-known.result ≡ [] = c.copy-known.ensures ∙ c.requires.empty in
    let queued : c.copy-queued.result ≡ [] = c.copy-queued.ensures ∙ c.requires.empty in
    let shown : c.copy-shown.result ≡ [] = c.copy-shown.ensures ∙ c.requires.empty in (
      prefix_empty _ _ shown queued,
      subst (λ (l : List Addition). Agree (lists_of base l)) (sym c.requires.empty)
          c.requires.agree,
      c.requires.empty ∙ sym queued,
      (
        c.requires.writer.0
            ∙ ap (issue_of g.K.HouseName.book g.K.HouseName.history base) (sym shown),
        ap (fold applied_to (state_of (issue_of g.K.HouseName.book g.K.HouseName.history base
            c.copy-shown.result))) c.requires.writer.1
            ∙ ap (λ (l : List Addition).
            state_of (issue_of g.K.HouseName.book g.K.HouseName.history base l))
            (shown ∙ sym queued),
      ),
      prefix_empty _ _ c.requires.empty known,
      c.requires.sound,
      all_timely_none (record {
        book = g.K.HouseName.book;
        history = g.K.HouseName.history;
        origin = g.K.HouseName.origin;
        base = base;
      }) _ c.requires.empty c.requires.delivered,
    )
