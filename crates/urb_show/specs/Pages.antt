-- Pages of a node's list.
use Rattle.std.specs.Prelude.{Contains, List, drop, length, take, ℕ, ◌-◌, ◌≡◌}
use Rattle.urb_show.specs.declared.entry.Entry.{Entry}
use Rattle.urb_show.specs.declared.entry.Page.{Page}

-- The list's entries from the place `first` on, at most `max` of them, and the list's length.
-- Places count from 1.
pub record IsPageOf {A : Type 0} (list : List Entry) (first max : ℕ) (page : Page A) : Type 0 where
  pub entries : page.entries.items ≡ take max (drop (first - 1) list)
  pub total : page.total ≡ length list

-- if two entries of the two pages have the same name, the entries are the same
abbrev pub NeverContradict : {A B : Type 0} → Page A → Page B → Type 0
NeverContradict a b =
    (e f : Entry) → Contains a.entries.items e → Contains b.entries.items f → e.name ≡ f.name
    → e ≡ f
