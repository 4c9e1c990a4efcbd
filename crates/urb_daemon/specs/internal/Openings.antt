-- What a console writes once a group runs.
use Rattle.std.specs.Prelude.{List, [], codes, ℕ, ◌++◌, ◌∷◌}
use Rattle.std.specs.Fmt.{decimal}

-- the line of a group that runs with so many nodes
abbrev pub open_line : ℕ → List ℕ
open_line nodes = codes "open " ++ (decimal nodes ++ 10 ∷ [])
