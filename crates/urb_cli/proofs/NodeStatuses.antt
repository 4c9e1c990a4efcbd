-- The status of calls that ask nodes for their states.
use Rattle.urb_cli.proofs.Common.{Address, Asked, AsksEach, CallFault, Err, IfErr, IfOk, Ok, Option}
use Rattle.urb_cli.proofs.Common.{Printed, Result, Said, ShowsAnswer, add-one, if◌then◌else◌, inl}
use Rattle.urb_cli.proofs.Common.{inr, shown_by, ℕ, ◌+◌, ◌==◌, ◌≡◌, ◌⊎◌}
use Rattle.urb_client.specs.Requests.{Ask}
use Rattle.urb_client.specs.declared.request.Control.TheVariants.{Status}
use Rattle.urb_cli.specs.AskedAddresses.{address_after}
use Rattle.urb_cli.specs.Asking.{HasNoAnswer, IsNodesStatus}
use Rattle.urb_cli.specs.ClientOutput.{status_shown}

-- what is shown of the node's answer, or that there is none, gives the status
pub node_status : {S : Type 0} (answers : S → Address → Asked → Option Said → S → Type 0)
    (at : Address) (old new : S) (outcome : Result Printed CallFault) (status : ℕ)
    → IfOk outcome (λ shown. (status ≡ shown.status) ⊎ (status ≡ 1))
    → IfErr outcome (λ fault. status ≡ 1)
    → IfOk outcome
    (λ shown. ShowsAnswer answers (status_shown at) at (Ask Status) old (shown_by shown) new)
    → IfErr outcome (λ why. HasNoAnswer answers (status_shown at) at (Ask Status) old why new)
    → IsNodesStatus answers at old status new
node_status answers at old new (Ok printed) status told fault shown none =
    inl (shown_by printed, shown, told)
node_status answers at old new (Err why) status told fault shown none = inr (why, none, fault)

-- one more node was asked after those so far
pub one_more_node : {S : Type 0} (answers : S → Address → Asked → Option Said → S → Type 0)
    (first : Address) (old mid new : S) (count before last status : ℕ)
    → AsksEach answers first old count before mid
    → IsNodesStatus answers (address_after first count) mid last new
    → status ≡ (if before == 0 then last else before)
    → AsksEach answers first old (count + 1) status new
one_more_node answers first old mid new count before last status each node same =
    rw add-one (mid, before, last, each, node, same)
