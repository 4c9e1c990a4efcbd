-- Names and messages: their order, and when two are the same.
use Rattle.std.specs.Prelude.{ℕ, Bool, ◌&&◌, ◌||◌, ◌==◌, nat_lt, List, map, bytes_eq}
use Rattle.std.specs.List.{list_any}
use Rattle.urb_names.specs.LabelsAndContents.{Label, Content}
use Rattle.urb_names.specs.Nodes.{numbers_from}

-- the name with this sender and number
abbrev pub name : ℕ → ℕ → Label
name sender number = record { sender = sender; seq = number }

-- this sender's names 1 to count
abbrev pub names : ℕ → ℕ → List Label
names sender count = map (name sender) (numbers_from 1 count)

-- whether two names are the same
abbrev pub same_name : Label → Label → Bool
same_name x y = (x.sender == y.sender) && (x.seq == y.seq)

-- names are ordered by sender, then by number
abbrev pub name_lt : Label → Label → Bool
name_lt x y = nat_lt x.sender y.sender || ((x.sender == y.sender) && nat_lt x.seq y.seq)

-- whether two messages are the same
abbrev pub same_message : Content → Content → Bool
same_message m o = (m.client == o.client) && (m.number == o.number) && bytes_eq m.payload o.payload

-- whether the name is in the list
abbrev pub has_name : List Label → Label → Bool
has_name names x = list_any (λ y. same_name y x) names
