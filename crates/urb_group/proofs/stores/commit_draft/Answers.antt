use Rattle.urb_group.proofs.Common.{Commit, Steps, Stored, rules, ◌≡◌}
use Rattle.urb_group.proofs.calls.HeldDrafts.{steps-calm}
use Rattle.urb_group.proofs.calls.StoreAnswers.{commit-taken}
use Rattle.urb_group.proofs.stores.commit_draft.Goals as goal

pub unwrap-requires : goal.unwrap-requires
unwrap-requires g c = commit-taken _ _ _ _ c.requires.sound c.requires.held c.commit.ensures

pub returns-clause-free : goal.returns-clause-free
returns-clause-free g c =
    let steps : Steps c.args.group.now
    (Commit c.args.receipt.node c.args.receipt.pos c.args.receipt.entry)
    (λ told. told ≡ Stored c.unwrap.result) c.commit.new.self = search rules in
    steps-calm _ _ _ (Stored c.unwrap.result) c.requires.sound steps
