-- Which node the queue at a place belongs to.
use Rattle.std.proofs.Common.{List, Some, ap, arith, get_or, length, refl, slice_get, suc, sym}
use Rattle.std.proofs.Common.{zero, ℕ, ◌+◌, ◌<◌, ◌∙◌, ◌∷◌, ◌≡◌}
use Rattle.std.proofs.lemmas.Option.{slice_get_read}
use Rattle.urb_names.specs.Nodes.{nodes, numbers_from}

-- of numbers in a row, the one at a place
number_at : (first count place number : ℕ)
    → slice_get (numbers_from first count) place ≡ Some number → number ≡ first + place
number_at first zero place number e = absurd cc
number_at first (suc count) zero number e =
    let is : first ≡ number = cc in
    let same : first ≡ first + 0 = omega arith in
    sym is ∙ same
number_at first (suc count) (suc place) number e =
    let same : suc first + place ≡ first + suc place = omega arith in
    number_at (suc first) count place number e ∙ same

-- If the queues are those of nodes 1, 2, .., the queue at a place is that of the next number.
pub at_place : (queues : List ℕ) (place queue : ℕ) → queues ≡ nodes (length queues)
    → slice_get queues place ≡ Some queue → queue ≡ place + 1
at_place queues place queue order is =
    let same : 1 + place ≡ place + 1 = omega arith in
    number_at 1 (length queues) place queue (sym (ap (λ qs. slice_get qs place) order) ∙ is) ∙ same

-- So it is if the queue was read at a place within them.
pub read_at : (queues : List ℕ) (place queue : ℕ) → queues ≡ nodes (length queues)
    → place < length queues → queue ≡ get_or queues place queue → queue ≡ place + 1
read_at queues place queue order low is =
    at_place queues place queue order
    (slice_get_read queues (length queues) place queue refl low is)
