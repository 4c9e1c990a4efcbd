-- Every response fits in a frame.
use Rattle.urb_client.proofs.Common.{Accepted, All, AllByRecursion, Content, Done, IsEntry, IsSaid}
use Rattle.urb_client.proofs.Common.{LONGEST_FRAME, Label, List, Listing, Refused, Said, arith}
use Rattle.urb_client.proofs.Common.{get_or, length, response_body, subst, sym, take, take_more, ℕ}
use Rattle.urb_client.proofs.Common.{◌+◌, ◌<◌, ◌≡◌, ◌≤◌}
use Rattle.std.proofs.lemmas.List.{take_all}
use Rattle.std.proofs.lemmas.List.Elements.{All-push, recursion_from_All}
use Rattle.urb_client.specs.Responses.{Status}

-- a response fits in a frame
pub said_fits : (said : Said) → IsSaid said → length (response_body said) ≤ LONGEST_FRAME
said_fits (Accepted seq) is = omega arith
said_fits (Listing entries) is = is.2
said_fits (Status state own logged) is = omega arith
said_fits Done is = omega arith
said_fits (Refused number detail) is = omega arith

-- if the elements before a place are entries, and so is the one there, all up to it are
pub entries_more : (entries : List (Label × Content)) (i : ℕ) (entry : Label × Content)
    → i < length entries → entry ≡ get_or entries i entry → IsEntry entry
    → All IsEntry (take i entries) → All IsEntry (take (i + 1) entries)
entries_more entries i entry lt here is so_far =
    subst (All IsEntry) (sym (take_more entries i entry lt))
    (All-push IsEntry (take i entries) (get_or entries i entry) so_far (subst IsEntry here is))

-- if the elements before the end are entries, all are
pub entries_all : (entries : List (Label × Content)) (i : ℕ) → length entries ≤ i
    → All IsEntry (take i entries) → All IsEntry entries
entries_all entries i le are = subst (All IsEntry) (take_all i entries le) are

-- if a list's elements are entries by place, they are so one after the other
pub entries_are : (entries other : List (Label × Content)) → other ≡ entries → All IsEntry other
    → AllByRecursion IsEntry entries
entries_are entries other e are =
    subst (AllByRecursion IsEntry) e (recursion_from_All IsEntry other are)
