-- Release by number: what certificates deliver, in the order in which they came.
use Rattle.std.specs.Prelude.{ℕ, not, ◌==◌, List, [], ◌∷◌, ◌++◌, length, filter, take_while}
use Rattle.urb_names.specs.LabelsAndContents.{Label}
use Rattle.urb_names.specs.Names.{names, has_name}

-- the names of one sender in a list
abbrev pub part_of : ℕ → List Label → List Label
part_of sender names = filter (λ x. x.sender == sender) names

-- This sender's names 1, 2, 3, .., up to the first that is not certified. There are no more of them
-- than the sender has certificates.
abbrev pub beginning : ℕ → List Label → List Label
beginning sender certified =
    take_while (has_name certified) (names sender (length (part_of sender certified)))

-- The log after these certificates, the newest first. Each certificate appends names to the log
-- before it. These are the names of its sender that are certified from 1 on without a gap, and
-- aren't in the log yet.
abbrev pub released : List Label → List Label
released [] = []
released (x ∷ older) =
    released older ++ filter (λ y. not (has_name (released older) y))
    (beginning x.sender (x ∷ older))
