-- The order of a set's names.
use Rattle.std.specs.Prelude.{◌≡◌, Bool, true, false, ◌⊎◌}

-- The laws of a strict order. The test `same` says when two elements are the same.
pub record IsOrder {X : Type 0} (before same : X → X → Bool) : Type 0 where
  pub transitive : (x y z : X) → before x y ≡ true → before y z ≡ true → before x z ≡ true
  pub one_way : (x y : X) → same x y ≡ false → (before x y ≡ true) ⊎ (before y x ≡ true)
  pub strict : (x : X) → before x x ≡ false
  pub equal : (x y : X) → same x y ≡ true → x ≡ y
  pub itself : (x : X) → same x x ≡ true
