use Rattle.urb_script.proofs.Common.{Carried, Flags, Option, ap, ◌∙◌}
use Rattle.urb_script.proofs.ClusterAnswers.{bytes_spelled}
use Rattle.urb_script.proofs.mem_cluster.encode_packet.Goals as goal

pub returns : goal.returns
returns g c =
    let with_flags : Option Flags → Carried =
    λ flags. record {
      source = c.args.source;
      target = c.args.node;
      name =
          c.args.name;
      message = c.args.message;
      flags = flags;
    } in
    bytes_spelled (λ v. v.items) c.encode.result c.new-packet.result _
    (c.new-packet.ensures ∙ ap with_flags c.choose_flags-flags.ensures.value)
    c.recall.ensures c.encode.ensures
