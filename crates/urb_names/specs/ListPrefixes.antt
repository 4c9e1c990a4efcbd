-- Prefixes of lists.
use Rattle.std.specs.Prelude.{List, ◌++◌, ◌≡◌, ◌⊎◌}

-- the first list is a prefix of the second
abbrev pub Begins : {A : Type 0} → List A → List A → Type 0
Begins {A} xs ys = (rest : List A) × (xs ++ rest ≡ ys)

-- one of the two lists is a prefix of the other
abbrev pub OneBegins : {A : Type 0} → List A → List A → Type 0
OneBegins xs ys = Begins xs ys ⊎ Begins ys xs
