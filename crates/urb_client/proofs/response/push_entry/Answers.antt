use Rattle.urb_client.proofs.Common.{append_assoc, entry_head}
use Rattle.urb_client.proofs.response.push_entry.Goals as goal

pub returns : goal.returns
returns g c =
    rw (
      c.in_ok-extend_from_slice-2.ensures.items,
      c.in_ok-extend_from_slice.ensures.items,
      c.entry_head.ensures,
      c.payload.ensures.value,
    )
    (append_assoc c.args.body.now.items
    (entry_head c.args.entry.now.0 c.args.entry.now.1) c.args.entry.now.1.payload)
