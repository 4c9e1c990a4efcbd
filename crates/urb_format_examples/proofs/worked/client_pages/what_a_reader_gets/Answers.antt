-- A reader gets the whole log: each list begins the rest of it.
use Rattle.std.proofs.Common.{List, [], ap, append_assoc, arith, drop, drop_at, flat_map, length}
use Rattle.std.proofs.Common.{length-take, refl, sym, take}
use Rattle.std.proofs.Common.{take-append-drop, ℕ, ◌++◌, ◌<◌, ◌∙◌, ◌∷◌, ◌≡◌}
use Rattle.std.proofs.lemmas.List.Concat.{flat_map-cons}
use Rattle.std.proofs.lemmas.List.{nil_from_length}
use Rattle.urb_names.specs.LabelsAndContents.{Content, Label}
use Rattle.urb_client.specs.Pages.{ReadsOn}
use Rattle.urb_format_examples.proofs.worked.client_pages.what_a_reader_gets.Goals as goal

-- if a page with room for an entry is empty, the rest of the log is empty
nothing-left : (max : ℕ) (log : List (Label × Content)) → 0 < max → take max log ≡ [] → log ≡ []
nothing-left max log some none =
    nil_from_length log (omega (arith, some, ap length none, length-take max log))

-- a list of a page is the front of the log
front : (max : ℕ) (log listed rest : List (Label × Content)) → take max log ≡ listed ++ rest
    → listed ++ drop (length listed) log ≡ log
front max log listed rest is =
    let all : log ≡ listed ++ (rest ++ drop max log) =
    sym (take-append-drop max log)
    ∙ ap (λ (begin : List (Label × Content)). begin ++ drop max log) is
    ∙ append_assoc listed rest (drop max log) in
    ap (λ (behind : List (Label × Content)). listed ++ behind)
    (ap (drop (length listed)) all ∙ drop_at listed (rest ++ drop max log) (length listed) refl)
    ∙ sym all

read-whole : (max : ℕ) (log : List (Label × Content)) (lists : List (List (Label × Content)))
    → 0 < max → ReadsOn max log lists → flat_map (λ listed. listed) lists ≡ log
read-whole max log [] some reads = sym (nothing-left max log some (reads.some refl))
read-whole max log (listed ∷ lists) some reads =
    flat_map-cons (λ listed. listed) listed lists
    ∙ ap (λ (behind : List (Label × Content)). listed ++ behind)
    (read-whole max (drop (length listed) log) lists some reads.1)
    ∙ front max log listed reads.0.begins.0 reads.0.begins.1

pub returns-clause-every_entry : goal.returns-clause-every_entry
returns-clause-every_entry c max log lists some reads = read-whole max log lists some reads
