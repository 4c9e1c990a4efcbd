-- Lists of entries, one for each node: when they are prefixes of others, when they agree, and the
-- lists of a group.
use Rattle.std.specs.Prelude.{List, [], map, slice_index_or, suc, zero, ℕ, ◌++◌, ◌∷◌, ◌⊎◌}
use Rattle.urb_names.specs.ListPrefixes.{Begins as IsBeginning, OneBegins}
use Rattle.urb_group.specs.DeliveredMessages.{Agree as AgreeAll, Delivery, deliveries, sent_by}
use Rattle.urb_group.specs.GroupViews.{GroupView}
use Rattle.urb_show.specs.declared.entry.Entry.{Entry}

-- a list of entries for each of the nodes 1, 2, ..
abbrev pub Lists : Type 0
Lists = List (List Entry)

-- the list at a place; a node's place is its number less one
abbrev pub list_at : Lists → ℕ → List Entry
list_at lists place = slice_index_or lists place []

-- Node by node, the first list is a prefix of the second. The empty value, with no lists, counts as
-- a prefix of all others.
abbrev pub Begins : Lists → Lists → Type 0
Begins [] ys = Unit {0}
Begins (x ∷ xs) [] = ⊥
Begins (x ∷ xs) (y ∷ ys) = IsBeginning x y × Begins xs ys

-- an entry, in the form in which a group has delivered it
abbrev pub delivery_of : Entry → Delivery
delivery_of e = (e.name, e.message)

-- In each list, the numbers of each sender are 1, 2, 3, .. in order. For each sender, its entries
-- in one of two lists are a prefix of those in the other. Each list has fewer than 2^32 entries.
abbrev pub Agree : Lists → Type 0
Agree lists = AgreeAll (λ place. map delivery_of (list_at lists place))

-- one of the two is a prefix of the other
abbrev pub OneBeginsAll : Lists → Lists → Type 0
OneBeginsAll xs ys = Begins xs ys ⊎ Begins ys xs

-- Compare any list of the first value with any list of the second. For each sender, its entries in
-- one of the two are a prefix of those in the other.
abbrev pub AgreeAcross : Lists → Lists → Type 0
AgreeAcross xs ys =
    (p q s : ℕ) → OneBegins (sent_by s (map delivery_of (list_at xs p)))
    (sent_by s (map delivery_of (list_at ys q)))

-- what a group has delivered, as an entry
abbrev pub entry_of : Delivery → Entry
entry_of delivery = record { name = delivery.0; message = delivery.1 }

-- What each node of a group has delivered, by what it holds in memory: the names of its log, each
-- with its message.
abbrev pub lists_in : GroupView → Lists
lists_in group = map (λ view. map entry_of (deliveries view)) group.nodes

-- the lists with one more entry at the end of the list at that place
abbrev pub add_at : Lists → ℕ → Entry → Lists
add_at [] place e = []
add_at (x ∷ xs) zero e = (x ++ e ∷ []) ∷ xs
add_at (x ∷ xs) (suc place) e = x ∷ add_at xs place e
