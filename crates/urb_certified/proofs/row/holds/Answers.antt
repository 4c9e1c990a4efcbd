use Rattle.urb_certified.proofs.Common.{ap, get_or, length, name_lt, prefix_len, rules, same_name}
use Rattle.urb_certified.proofs.Common.{sym, ◌<◌, ◌∙◌, ◌≡◌, ◌≤◌}
use Rattle.std.proofs.lemmas.Bool.{le-ltb}
use Rattle.urb_certified.proofs.NameOrder.{names_in_order}
use Rattle.urb_certified.proofs.BinarySearches.{absent_is, found_is}
use Rattle.urb_certified.proofs.row.holds.Goals as goal

pub returns-then-place-names : goal.returns-then-place-names
returns-then-place-names c =
    let names = c.args.names.now in
    let x = c.args.name in
    let place : c.place_of-place.result ≡ prefix_len (λ other. name_lt other x) names =
    search rules in
    let within : prefix_len (λ other. name_lt other x) names < length names = search rules in
    let here = c.index-names-place.result in
    let read : here ≡ get_or names c.place_of-place.result here = c.index-names-place.is in
    let same : c.eq.result ≡ same_name here x = search rules in
    same ∙ (ap (λ y. same_name y x) read
    ∙ (ap (λ i. same_name (get_or names i here) x) place
    ∙ sym (found_is name_lt same_name names_in_order names x here c.requires within)))

pub returns-else-place-names : goal.returns-else-place-names
returns-else-place-names c =
    let names = c.args.names.now in
    let x = c.args.name in
    let place : c.place_of-place.result ≡ prefix_len (λ other. name_lt other x) names =
    search rules in
    let beyond : length names ≤ prefix_len (λ other. name_lt other x) names = search rules in
    let over : length names ≤ c.place_of-place.result = search rules in
    le-ltb c.place_of-place.result (length names) over
    ∙ sym (absent_is name_lt same_name names_in_order names x c.requires beyond)
