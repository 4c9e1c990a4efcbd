use Rattle.std.proofs.Common.{Bool, None, Some, ap, drop, if◌then◌else◌, slice_index, ◌∙◌}
use Rattle.std.proofs.lemmas.List.{take_rest}
use Rattle.urb_names.specs.PacketGrammar.{fields_with}
use Rattle.urb_names.proofs.spelling.fields_at.Goals as goal

pub returns-else-begins_with_flags : goal.returns-else-begins_with_flags
returns-else-begins_with_flags c =
    let bytes = c.args.bytes.now in
    c.fields_with-else-begins_with_flags.ensures ∙ ap (fields_with None bytes) (take_rest bytes 5)
    ∙ ap (λ (b : Bool). if b then fields_with (Some (slice_index bytes 5)) bytes
    (drop 6 bytes) else fields_with None bytes (drop 5 bytes)) c.if-begins_with_flags.ensures
