-- The definition's outcome for a node and the outcome in the node's memory say the same.
use Rattle.urb_node.proofs.Common.{Answers, Drafted, Node, Outcome, Refused, Refuses, Reply, Same}
use Rattle.urb_node.proofs.Common.{ShowsReady, ShowsStoring, Wants, name_of, suc, ◌≡◌}

-- The reply is the answer, and the memory shows the node after it. Or the reply is the refusal. Or
-- it is a draft of the record that is wanted, and the memory with that record shows the node after
-- it.
abbrev pub Says : Reply × Node → Outcome → Type 0
Says told (Answers answer a) = (told.0 ≡ Same answer) × ShowsReady a told.1
Says told (Refuses refusal) = told.0 ≡ Refused refusal
Says told (Wants entry cause a) =
    (told.0 ≡ Drafted (name_of entry) (suc a.count))
    × ShowsStoring (record { memory = a; entry = entry; cause = cause }) told.1
