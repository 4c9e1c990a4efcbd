-- What is written of a node's log, and of the nodes that have a name.
use Rattle.urb_script.proofs.Common.{Bool, Err, GroupView, Label, List, None, Ok, OnOk, Result}
use Rattle.urb_script.proofs.Common.{Shows, Some, World, [], ap, append-nil, append_assoc, arith}
use Rattle.urb_script.proofs.Common.{codes, cond, cond-false, cond-true, decimal, entries}
use Rattle.urb_script.proofs.Common.{entry_text, false, flat_map, is_node, is_some, log, map}
use Rattle.urb_script.proofs.Common.{message_of, numbers_from, pend, refl, shown_log, stored, suc}
use Rattle.urb_script.proofs.Common.{sym, true, ℕ, ◌&&◌, ◌++◌, ◌+◌, ◌-◌, ◌∙◌, ◌∷◌, ◌≡◌, ◌≤◌}
use Rattle.std.specs.List.{filter}
use Rattle.std.proofs.lemmas.Bool.{lt-ltb}
use Rattle.urb_group.specs.GroupCalls.{Holds, TellsLog}
use Rattle.urb_script.specs.internal.ShownScenes.{TellsAt, TellsOf}
use Rattle.urb_script.specs.Steps.{bad_node}
use Rattle.urb_script.specs.Texts.{log_text}

-- ---- a log

in_log : (b : Bool) (names delivered : List Label) → Some names ≡ cond b (Some delivered) None
    → (b ≡ true) × (names ≡ delivered)
in_log true names delivered e = (refl, cc)
in_log false names delivered e = absurd (cc)

-- the head of a log, and the entries after it
joined : (old digits entries : List ℕ)
    → (old ++ (codes "log " ++ (digits ++ 58 ∷ []))) ++ entries ≡ old
    ++ (codes "log " ++ (digits ++ (58 ∷ entries)))
joined old digits entries =
    append_assoc old (codes "log " ++ (digits ++ 58 ∷ [])) entries
    ∙ ap (λ (xs : List ℕ). old ++ (codes "log " ++ xs)) (append_assoc digits (58 ∷ []) entries)

-- the head of a log line and the entries of p's log make the line that shows p's log
pub log_told : {E : Type 0} (result : Result (Unit {0}) E) (group : GroupView) (p : ℕ)
    (names : List Label) (old mid new : List ℕ) → TellsLog group p (Some names)
    → mid ≡ old ++ (codes "log " ++ (decimal p ++ 58 ∷ []))
    → OnOk result (TellsAt p (λ w.
    flat_map entry_text (map (λ x. (x, message_of (pend (stored w p)) x)) names)) group mid new)
    → OnOk result (TellsOf (λ w. shown_log w p) group old new)
log_told (Err e) group p names old mid new tells head t = tt
log_told (Ok done) group p names old mid new tells head t = λ w s.
    let is = in_log (is_node w.size.n p) names (log (stored w p)) (tells w s) in
    t w s is.0
    ∙ ap (λ (xs : List ℕ). xs ++ flat_map entry_text
    (map (λ x. (x, message_of (pend (stored w p)) x)) names)) head
    ∙ ap (λ (xs : List Label). (old ++ (codes "log " ++ (decimal p ++ 58 ∷ [])))
    ++ flat_map entry_text (map (λ x. (x, message_of (pend (stored w p)) x)) xs)) is.1
    ∙ joined old (decimal p) (flat_map entry_text (entries (stored w p)))
    ∙ sym (ap (λ (xs : List ℕ). old ++ xs)
    (cond-true (is_node w.size.n p) (log_text p (stored w p)) bad_node is.0))

-- ---- the nodes that have a name

abbrev Has : World → Label → ℕ → Bool
Has w x p = is_some (message_of (pend (stored w p)) x)

-- a node that has it, as text
abbrev pub holder_text : World → Label → ℕ → List ℕ
holder_text w x p = cond (Has w x p) (32 ∷ decimal p) []

yes_of : (a b : Bool) → true ≡ (a && b) → b ≡ true
yes_of true true e = refl
yes_of true false e = sym e
yes_of false b e = absurd (cc)

no_of : (a b : Bool) → a ≡ true → false ≡ (a && b) → b ≡ false
no_of true b i e = sym e
no_of false b i e = absurd (cc)

-- a space and its number are what is written of a node that has the name
pub tells_yes : {E : Type 0} (result : Result (Unit {0}) E) (group : GroupView) (p : ℕ) (x : Label)
    (held : Bool) (old new : List ℕ) → Holds group p x held → held ≡ true
    → OnOk result (new ≡ old ++ 32 ∷ decimal p)
    → OnOk result (TellsAt p (λ w. holder_text w x p) group old new)
tells_yes (Err e) group p x held old new h has t = tt
tells_yes (Ok done) group p x held old new h has t = λ w s is.
    t ∙ sym (ap (λ (xs : List ℕ). old ++ xs)
    (cond-true (Has w x p) (32 ∷ decimal p) []
    (yes_of (is_node w.size.n p) (Has w x p) (sym has ∙ h w s))))

-- nothing is written of a node that hasn't the name
pub tells_no : (group : GroupView) (p : ℕ) (x : Label) (held : Bool) (old : List ℕ)
    → Holds group p x held → held ≡ false → TellsAt p (λ w. holder_text w x p) group old old
tells_no group p x held old h lacks = λ w s is.
    sym (append-nil old) ∙ sym (ap (λ (xs : List ℕ). old ++ xs)
    (cond-false (Has w x p) (32 ∷ decimal p) []
    (no_of (is_node w.size.n p) (Has w x p) is (sym lacks ∙ h w s))))

abbrev Left : World → Label → ℕ → List ℕ
Left w x k = flat_map (λ q. 32 ∷ decimal q) (filter (Has w x) (numbers_from k (w.size.n + 1 - k)))

from_here : (n k : ℕ) → k ≤ n
    → numbers_from k (n + 1 - k) ≡ k ∷ numbers_from (k + 1) (n + 1 - (k + 1))
from_here n k within =
    let size : n + 1 - k ≡ suc (n + 1 - (k + 1)) = omega arith in
    ap (λ (m : ℕ). numbers_from k m) size
    ∙ ap (λ (j : ℕ). k ∷ numbers_from j (n + 1 - (k + 1))) (omega arith)

one_left : (w : World) (x : Label) (k : ℕ) (rest : List ℕ)
    → flat_map (λ q. 32 ∷ decimal q) (filter (Has w x) (k ∷ rest)) ≡ holder_text w x k ++ flat_map
    (λ q. 32 ∷ decimal q) (filter (Has w x) rest)
one_left w x k rest = at (Has w x k) refl
  where
    at : (b : Bool) → Has w x k ≡ b
        → flat_map (λ q. 32 ∷ decimal q) (filter (Has w x) (k ∷ rest)) ≡ holder_text w x k
        ++ flat_map (λ q. 32 ∷ decimal q) (filter (Has w x) rest)
    at true e = rw e refl
    at false e = rw e refl

-- the numbers from 1 to n are those of nodes
pub node_within : (n k : ℕ) → 1 ≤ k → k ≤ n → is_node n k ≡ true
node_within n k from to =
    rw (lt-ltb 0 k (omega (arith, from)), lt-ltb k (suc n) (omega (arith, to))) refl

-- one more node
pub holder_more : (w : World) (group : GroupView) (x : Label) (k : ℕ) (done text whole : List ℕ)
    → Shows group w → 1 ≤ k → k ≤ w.size.n → TellsAt k (λ w. holder_text w x k) group done text
    → done ++ Left w x k ≡ whole → text ++ Left w x (k + 1) ≡ whole
holder_more w group x k done text whole s from to t so_far =
    ap (λ (xs : List ℕ). xs ++ Left w x (k + 1)) (t w s (node_within w.size.n k from to))
    ∙ append_assoc done (holder_text w x k) (Left w x (k + 1))
    ∙ ap (λ (xs : List ℕ). done ++ xs)
    (sym (one_left w x k (numbers_from (k + 1) (w.size.n + 1 - (k + 1))))
    ∙ sym (ap (λ (xs : List ℕ). flat_map (λ q. 32 ∷ decimal q) (filter (Has w x) xs))
    (from_here w.size.n k to)))
    ∙ so_far

-- no node is left
pub holder_end : (w : World) (x : Label) (k : ℕ) (text whole : List ℕ) → k ≡ w.size.n + 1
    → text ++ Left w x k ≡ whole → text ≡ whole
holder_end w x k text whole e so_far =
    let none : w.size.n + 1 - k ≡ 0 = omega (arith, e) in
    sym (append-nil text) ∙ sym (ap
    (λ (m : ℕ). text ++ flat_map (λ q. 32 ∷ decimal q) (filter (Has w x) (numbers_from k m)))
    none) ∙ so_far
