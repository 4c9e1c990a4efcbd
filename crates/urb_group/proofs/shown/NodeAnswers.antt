-- What the node in one place answers is what the group answers in every world that it shows.
use Rattle.urb_group.proofs.Common.{Answers, Bool, IsGroup, Limits, List, Node, None, Option}
use Rattle.urb_group.proofs.Common.{ShowsAt, Some, arith, cond, cond-false, cond-true, false}
use Rattle.urb_group.proofs.Common.{is_node, is_some, length, option_map, refl, shown, slice_get}
use Rattle.urb_group.proofs.Common.{slice_get_read, slice_index_or, subst, suc, sym, true, ℕ, ◌&&◌}
use Rattle.urb_group.proofs.Common.{◌<◌, ◌∙◌, ◌≡◌}
use Rattle.urb_group.specs.declared.node_moves.Node.{Node as Place}
use Rattle.urb_group.proofs.shown.NodeMoves.{place_shows}
use Rattle.urb_group.proofs.shown.ShownWorlds.{is-node, no-node}

-- the item in a place, by its index
pub was_read : {X : Type 0} (xs : List X) (i n : ℕ) (x : X) → length xs ≡ n → i < n
    → x ≡ slice_index_or xs i x → slice_get xs i ≡ Some x
was_read xs i n x e low at =
    let within : i < length xs = omega (arith, e) in slice_get_read _ _ _ _ refl within at

module _ {A : Type 0} {size : Limits} {places : List (Place A)} (group : IsGroup size places)
    {T : Type 0} (of_node : Node → Option T) where
  -- what the node in a place answers, the group answers about it in every world that it shows
  pub answered : {i p : ℕ} (node : Place A) (value : Option T) → node ≡ slice_index_or places i node
      → i < size.n → p ≡ suc i → ((n : Node) → ShowsAt node n → value ≡ of_node n)
      → Answers (λ w. of_node (w.node p)) (shown size places) p value
  answered {i = i} {p = p} node value at low own says =
      subst (λ (p : ℕ). Answers (λ w. of_node (w.node p)) (shown size places) p value) (sym own)
      (λ w s.
      says (w.node (suc i)) (place_shows size places group i node node
      (was_read places i size.n node group.placed.count low at) w s)
      ∙ sym (cond-true (is_node w.size.n (suc i)) (of_node (w.node (suc i))) None
      (is-node w.size.n i (subst (λ (l : Limits). i < l.n) s.size low))))

  -- a question about a number above the group's size gets no answer
  pub unanswered : (p : ℕ) → size.n < p
      → Answers (λ w. of_node (w.node p)) (shown size places) p None
  unanswered p past w s =
      sym (cond-false (is_node w.size.n p) (of_node (w.node p)) None
      (no-node w.size.n p (subst (λ (l : Limits). l.n < p) s.size past)))

-- whether there is an answer
pub answers_some : {X Y : Type 0} (f : X → Y) (b : Bool) (r : Option X) (found : Option Y)
    → option_map f r ≡ cond b found None → is_some r ≡ (b && is_some found)
answers_some f true None None e = refl
answers_some f true None (Some y) e = absurd cc
answers_some f true (Some x) None e = absurd cc
answers_some f true (Some x) (Some y) e = refl
answers_some f false None found e = refl
answers_some f false (Some x) found e = absurd cc
