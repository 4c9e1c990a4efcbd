use Rattle.std.proofs.Common.{◌∙◌, ap, arith}
use Rattle.urb_names.specs.PacketGrammar.{judged}
use Rattle.urb_names.proofs.JudgedBytes.{found, only, first_fault}
use Rattle.urb_names.proofs.spelling.parse.Goals as goal

pub returns-clause-found : goal.returns-clause-found
returns-clause-found c =
    found c.args.bytes.now (omega (arith, c.if-bytes-header_length.false, c.header_length.ensures))
    (λ i. omega (arith, c.type_inv.bytes i)) c.judge_fields.result
    (c.judge_fields.ensures ∙ ap judged c.fields_at.ensures)

pub returns-clause-only : goal.returns-clause-only
returns-clause-only c =
    λ p h is. c.judge_fields.ensures ∙ ap judged c.fields_at.ensures ∙ only c.args.bytes.now p h is

pub returns-clause-fault : goal.returns-clause-fault
returns-clause-fault c =
    first_fault c.args.bytes.now (omega
    (arith, c.if-bytes-header_length.false, c.header_length.ensures))
    (λ i. omega (arith, c.type_inv.bytes i)) c.judge_fields.result
    (c.judge_fields.ensures ∙ ap judged c.fields_at.ensures)
