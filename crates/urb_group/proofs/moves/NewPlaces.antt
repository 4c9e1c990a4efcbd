-- The places of a new group show the new world.
use Rattle.urb_group.proofs.Common.{IsGroup, IsNumbered, IsSome, Limits, List, NodeView, None}
use Rattle.urb_group.proofs.Common.{Option, Shows, Some, SomeIff, [], ap, length, map, new_memory}
use Rattle.urb_group.proofs.Common.{no_view, one_longer, read_more, refl, replicate, shown}
use Rattle.urb_group.proofs.Common.{slice_get, started, subst, suc, sym, view_at, zero, ℕ, ⊎_elim}
use Rattle.urb_group.proofs.Common.{◌++◌, ◌∙◌, ◌∷◌, ◌≡◌}
use Rattle.urb_node.specs.NodeMemories.{Memory}
use Rattle.urb_group.specs.declared.node_moves.Node.{Node as Place}
use Rattle.urb_group.proofs.shown.ShownWorlds.{shows-new, sound-new}
use Rattle.urb_group.specs.declared.node_moves.Node.TheVariants as place

-- the places of the nodes 1 to k, which have stored nothing
abbrev pub first_places : {A : Type 0} → Limits → ℕ → List (Place A)
first_places size zero = []
first_places size (suc k) = first_places size k ++ place.Ready (new_memory size (suc k)) ∷ []

length-first : (A : Type 0) (size : Limits) (n : ℕ) → length (first_places {A = A} size n) ≡ n
length-first A size zero = refl
length-first A size (suc n) =
    one_longer (first_places {A = A} size n) (place.Ready (new_memory size (suc n)))
    ∙ ap suc (length-first A size n)

each_first : (A : Type 0) (size : Limits) (n k : ℕ) (node : Place A)
    → slice_get (first_places {A = A} size n) k ≡ Some node → IsNumbered size k node
each_first A size zero k node e = absurd cc
each_first A size (suc n) k node e =
    ⊎_elim (λ p. each_first A size n k node p)
    (λ q. subst (λ (p : Place A). IsNumbered size k p) (sym q.1)
    (record { limits = refl; number = ap suc (sym (q.0 ∙ length-first A size n)) }))
    (read_more (first_places {A = A} size n) (place.Ready (new_memory size (suc n))) node k e)

replicate-more : {X : Type 0} (x : X) (n : ℕ) → replicate n x ++ x ∷ [] ≡ replicate (suc n) x
replicate-more x zero = refl
replicate-more x (suc n) = ap (λ xs. x ∷ xs) (replicate-more x n)

views-first : (A : Type 0) (size : Limits) (n : ℕ)
    → map view_at (first_places {A = A} size n) ≡ replicate n no_view
views-first A size zero = refl
views-first A size (suc n) =
    append-mapped (first_places {A = A} size n) (place.Ready (new_memory size (suc n)))
    ∙ (ap (λ (views : List NodeView). views ++ no_view ∷ []) (views-first A size n)
    ∙ replicate-more no_view n)
  where
    append-mapped : (xs : List (Place A)) (x : Place A)
        → map view_at (xs ++ x ∷ []) ≡ map view_at xs ++ view_at x ∷ []
    append-mapped [] x = refl
    append-mapped (y ∷ ys) x = ap (λ views. view_at y ∷ views) (append-mapped ys x)

-- these places show the new world
pub first-shows : (A : Type 0) (size : Limits)
    → Shows (shown size (first_places {A = A} size size.n)) (started size)
first-shows A size =
    subst (λ (views : List NodeView). Shows (record { size = size; nodes = views }) (started size))
    (sym (views-first A size size.n)) (shows-new size)

-- these places are a sound group
pub first-group : (A : Type 0) (size : Limits) → IsGroup size (first_places {A = A} size size.n)
first-group A size =
    record {
      placed = record { count = length-first A size size.n; each = each_first A size size.n };
      sound = sound-new (shown size (first_places {A = A} size size.n)) size (first-shows A size);
    }

-- the place of one more new node makes the places of the first n nodes those of n + 1
pub next-places : (A : Type 0) (size : Limits) (n : ℕ) (places new : List (Place A)) (a : Memory)
    → places ≡ first_places size n → a ≡ new_memory size (suc n)
    → new ≡ places ++ place.Ready a ∷ [] → new ≡ first_places size (suc n)
next-places A size n places new a e f g =
    g ∙ (ap (λ (ps : List (Place A)). ps ++ place.Ready a ∷ []) e
    ∙ ap (λ (b : Memory). first_places {A = A} size n ++ place.Ready b ∷ []) f)

-- a value that is some exactly under a condition is some if the condition holds
pub some_from : {T P : Type 0} (o : Option T) (v : T) → SomeIff o P v → P → IsSome o
some_from None v h p = absurd (h p)
some_from (Some x) v h p = refl

-- the value, if it is some exactly under a condition
pub value_from : {T : Type 0} (o : Option T) (P : Type 0) (v x : T) → SomeIff o P v → o ≡ Some x
    → x ≡ v
value_from None P v x h e = absurd cc
value_from (Some y) P v x h e = let is : y ≡ v = h.1 in cc
