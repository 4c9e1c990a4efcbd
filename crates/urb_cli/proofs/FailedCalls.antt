-- The last call without a response.
use Rattle.urb_cli.proofs.Common.{Asked, CallFault, Err, Fails, IfErr, Ok, Option, Result, Said}
use Rattle.urb_cli.proofs.Common.{inr, subst, suc, ℕ, ◌≡◌}
use Rattle.urb_client.specs.declared.response.Response.{Response}
use Rattle.urb_cli.specs.Calls.{GivesUp, answer_of}
use Rattle.urb_cli.specs.declared.client.caller.TheConstants.{TRIES}

-- TRIES calls in a row got no response. If the next call gets none either, the request is given up.
pub gives_up : {S A : Type 0} (calls : S → Asked → Option Said → S → Type 0) (asked : Asked)
    (old mid new : S) (n : ℕ) (r : Result (Response A) CallFault) → n ≡ TRIES
    → Fails calls asked old n mid → calls mid asked (answer_of r) new
    → IfErr r (λ why. GivesUp calls asked old why new)
gives_up calls asked old mid new n (Ok response) same fails call = tt
gives_up calls asked old mid new n (Err fault) same fails call =
    inr (mid, subst (λ count. Fails calls asked old count mid) same fails, call)
