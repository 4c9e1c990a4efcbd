-- What a refusal means to the person at a terminal, and what to do.
use Rattle.std.specs.Prelude.{ℕ, ◌==◌, List, [], ◌∷◌, ◌++◌, if◌then◌else◌, codes}
use Rattle.std.specs.Fmt.{decimal}

-- what a refusal with this number means, and what to do
abbrev pub advice_of : ℕ → List ℕ
advice_of number =
    if number == 1 then codes "the node had no memory: send the same again later"
    else if number == 3 then codes "the node is down: restart it, and send the same again"
    else if number == 4 then codes "the node is busy: send the same again"
    else if number == 5 then codes "the message is too long: it has more than 16384 bytes"
    else if number == 6
    then codes "the number has another message: another program uses this client"
    else if number == 7 then codes "the next number is "
    else if number == 8
    then codes "the node has as many messages as its cap: start it with a greater one"
    else if number == 11
    then codes "the store failed: restart the node, and send the same again"
    else if number == 15
    then codes "the store failed: restart the node, and send the same again"
    else if number == 16
    then codes "the store failed: restart the node, and send the same again"
    else if number == 19 then codes "the node does not know this request"
    else codes "see the table of refusals"

-- the advice; that of a gap ends with the next number, which is its detail
abbrev pub detailed_advice : ℕ → ℕ → List ℕ
detailed_advice number detail =
    advice_of number ++ (if number == 7 then decimal detail else [])

-- the line `refused NUMBER DETAIL: ADVICE`
abbrev pub explained_refusal : ℕ → ℕ → List ℕ
explained_refusal number detail =
    codes "refused " ++ (decimal number ++ (32 ∷ (decimal detail ++ (codes ": "
    ++ (detailed_advice number detail ++ 10 ∷ [])))))
