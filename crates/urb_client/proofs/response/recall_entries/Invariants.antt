use Rattle.urb_client.proofs.Common.{All, IsEntry, take}
use Rattle.urb_client.proofs.response.recall_entries.Given as goal

-- all so far are
abbrev pub invariant-loop-name : goal.invariant-loop-name
invariant-loop-name g l = All IsEntry (take l.name-index l.entries)
