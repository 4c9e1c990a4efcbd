use Rattle.urb_group.proofs.Common.{Label, ap, eqb-true, not-false, not-true, subst, sym, ℕ, ◌<◌}
use Rattle.urb_group.proofs.Common.{◌==◌, ◌∙◌, ◌≡◌}
use Rattle.urb_group.proofs.moves.PacketEnds.{ends_are, not_node, not_sender, not_source}
use Rattle.urb_group.proofs.moves.PacketEnds.{not_target}
use Rattle.urb_group.proofs.packet_arrival.ends_of.Goals as goal

pub returns-then-ne : goal.returns-then-ne
returns-then-ne c =
    not_target c.args.config.n c.args.node c.args.packet.now
    (rw c.target.ensures.value at
    (not-true (c.target.result == c.args.node) (sym c.ne.ensures ∙ c.if-ne.true)))

pub returns-in_err-place_of : goal.returns-in_err-place_of
returns-in_err-place_of c =
    let sender : c.place_of.inside.sender ≡ c.args.packet.now.name.sender =
    ap (λ (x : Label). x.sender) (c.place_of.view_is ∙ c.name.ensures) in
    rw c.from_residual.ensures (not_sender c.args.config.n c.args.node c.args.packet.now
    (subst (λ (k : ℕ). c.args.config.n < k) sender c.in_err-place_of.ensures))

pub returns-in_err-source : goal.returns-in_err-source
returns-in_err-source c =
    rw c.from_residual-in_err-source.ensures
    (not_source c.args.config.n c.args.node c.args.packet.now
    (rw c.source.ensures at c.in_err-source.ensures))

pub returns-in_err-at : goal.returns-in_err-at
returns-in_err-at c =
    rw c.from_residual-in_err-at.ensures
    (not_node c.args.config.n c.args.node c.args.packet.now c.in_err-at.ensures)

pub returns : goal.returns
returns c =
    let sender : c.place_of.inside.sender ≡ c.args.packet.now.name.sender =
    ap (λ (x : Label). x.sender) (c.place_of.view_is ∙ c.name.ensures) in
    ends_are c.args.config.n c.args.node c.args.packet.now c.in_ok-place_of.field-0
    c.in_ok-source.source c.in_ok-at.at
    (rw c.target.ensures.value at
    (eqb-true c.target.result c.args.node
    (not-false (c.target.result == c.args.node) (sym c.ne.ensures ∙ c.if-ne.false))))
    (c.in_ok-place_of.ensures.0, sym sender ∙ c.in_ok-place_of.ensures.1)
    (rw c.source.ensures at c.in_ok-source.ensures) c.in_ok-at.ensures
