use Rattle.urb_client.proofs.Common.{entry_bytes, flat_map, ◌++◌}
use Rattle.urb_client.proofs.EntryBytes.{one_more}
use Rattle.urb_client.proofs.response.push_entries.Goals as goal

pub loop-entry-preserved : goal.loop-entry-preserved
loop-entry-preserved g c =
    one_more c.loop-entry.body.items c.push_entry.new.body.items
    (c.args.body.now.items ++ flat_map entry_bytes c.args.entries.now)
    c.args.entries.now c.loop-entry.entry-index c.entry-item.result c.loop-entry-test.true
    c.entry-item.is c.in_ok-push_entry.ensures c.loop-entry.invariant
