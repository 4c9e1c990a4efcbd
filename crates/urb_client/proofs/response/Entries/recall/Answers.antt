use Rattle.urb_client.proofs.ResponseLimits.{entries_are}
use Rattle.urb_client.proofs.response.Entries.recall.Goals as goal

pub returns : goal.returns
returns g c = (
  c.as_slice.ensures.limit,
  entries_are c.args.self.now c.as_slice.result.now
      c.as_slice.ensures.value c.recall_entries.ensures,
  c.as_slice.ensures.room,
)
