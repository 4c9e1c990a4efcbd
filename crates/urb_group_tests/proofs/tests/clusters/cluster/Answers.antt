use Rattle.std.proofs.Common.{List, [], rules, ◌++◌, ◌∷◌, ◌≡◌}
use Rattle.std.specs.List.{All}
use Rattle.std.proofs.lemmas.List.Elements.{All-nil, All-push}
use Rattle.urb_group.proofs.calls.BlankStores.{all-blank}
use Rattle.urb_stable.specs.MemoryStores.{Memory, empty_memory}
use Rattle.urb_group_tests.proofs.tests.clusters.cluster.Goals as goal

pub new-requires-4-clause-blank : goal.new-requires-4-clause-blank
new-requires-4-clause-blank g c =
    let IsNew : Memory → Type 0 = λ m. m ≡ empty_memory in
    let one : List Memory = [] ++ c.new.result ∷ [] in
    let two : List Memory = one ++ c.new-2.result ∷ [] in
    let three : List Memory = two ++ c.new-3.result ∷ [] in
    let items : c.push-3.new.self.items ≡ three = search rules in
    let new : All IsNew three =
    All-push IsNew two c.new-3.result
    (All-push IsNew one c.new-2.result
    (All-push IsNew [] c.new.result (All-nil IsNew) c.new.ensures) c.new-2.ensures)
    c.new-3.ensures in
    rw items (all-blank {A = g.row.A.Denot} three new)
