-- A step that does not shorten the history keeps the rule.
use Rattle.urb_show.proofs.Common.{Addition, Agree, AreTimely, IsIssue, IsPrefix, IsSound, IsTimely}
use Rattle.urb_show.proofs.Common.{Issue, List, NameView, None, Option, Some, [], ap, applied_to}
use Rattle.urb_show.proofs.Common.{fold, issue_of, le_refl, le_trans, length, lists_of, refl, subst}
use Rattle.urb_show.proofs.Common.{suc, sym, zero, zero-le, ℕ, ⊎_elim, ◌++◌, ◌∙◌, ◌∷◌, ◌≡◌, ◌≢◌}
use Rattle.urb_show.proofs.Common.{◌≤◌}
use mathlib.Core.Option.{some}
use lib.ListN.{get_elem?}
use Rattle.left_right.specs.Register.{Admits, TurnsAt}
use Rattle.atomic_table.proofs.Lists.{at_set, at_snoc}
use Rattle.std.specs.Option.{MatchOption}
use Rattle.urb_show.specs.declared.published_lists.ListsState.{ListsState}
use Rattle.urb_show.specs.declared.published_lists.Operation.{Operation}
use Rattle.urb_show.specs.internal.Operations.{state_of}
use Rattle.urb_show.proofs.Prefixes.{prefix_length, prefix_self, prefix_trans}
use Rattle.urb_show.specs.internal.PublishingRule.{Keeps, Rises}

-- a new reader that has seen nothing leaves the rule kept
pub admits : (names : NameView) → Admits (Keeps names) 0
admits names x views h = (
  h.0,
  λ seat v at. ⊎_elim (h.1 seat v)
      (λ (e : 0 ≡ v). subst (λ (z : ℕ). z ≤ length x.mark.log) e zero-le) (at_snoc views 0 v seat at),
)

no_views : (n seat v : ℕ) → get_elem? [] seat ≡ some v → v ≤ n
no_views n zero v at = absurd (cc (at))
no_views n (suc seat) v at = absurd (cc (at))

-- what these additions make is a value of this house, if their lists agree and were delivered
pub is_issue : (names : NameView) (log : List Addition) → Agree (lists_of names.base log)
    → IsSound names.origin → IsTimely names log
    → IsIssue names (issue_of names.book names.history names.base log)
is_issue names log agree sound timely = record {
  named = refl;
  lists = refl;
  agree = agree;
  sound = sound;
  events_named = timely.named;
  delivered = timely.delivered;
}

-- what a house publishes first keeps the rule, with one reader that has seen nothing
pub first_issue : (names : NameView) (x : Issue)
    → x ≡ issue_of names.book names.history names.base [] → Agree names.base
    → IsSound names.origin → IsTimely names [] → Keeps names x (0 ∷ [])
first_issue names x is agree sound timely =
    let good : IsIssue names x = rw is (is_issue names [] agree sound timely) in
    admits names x [] (good, no_views (length x.mark.log))

-- a reader's step keeps the rule if the published history becomes no shorter
pub rises : (names : NameView) (seat v : ℕ) (x y : Issue)
    → length x.mark.log ≤ length y.mark.log → (IsIssue names x → IsIssue names y)
    → TurnsAt (Keeps names) seat v x y (Rises names)
rises names seat v x y up good views h at = let top = length y.mark.log in (
  top,
  (
    good h.0,
    λ j u e. ⊎_elim (λ (t : (j ≡ seat) × (top ≡ u)). subst (λ (z : ℕ). z ≤ top) t.1 (le_refl top))
        (λ (t : (j ≢ seat) × (get_elem? views j ≡ some u)). le_trans (h.1 j u t.1) up)
        (at_set views seat j top u e),
  ),
  (h.0, h.1 seat v at, refl),
)

-- two published values with the same lists, history and events are equal
pub same_issue : (x y : Issue) → state_of x ≡ state_of y → x ≡ y
same_issue x y is =
    ap (λ (s : ListsState). record { lists = s.lists; mark = s.mark; events = s.events }) is

-- the writer's step: what it has is published, and that is no shorter
pub turns : (names : NameView) (shown all : List Addition) (x next : Issue)
    (pending : List Operation) (seat v : ℕ)
    → x ≡ issue_of names.book names.history names.base shown
    → fold applied_to (state_of (issue_of names.book names.history names.base shown)) pending
    ≡ state_of (issue_of names.book names.history names.base all)
    → IsPrefix shown all → Agree (lists_of names.base all) → IsSound names.origin
    → AreTimely names all
    → state_of next ≡ fold applied_to (state_of x) pending
    → TurnsAt (Keeps names) seat v x next (Rises names)
turns names shown all x next pending seat v was after pre agree sound timely is =
    let now : next ≡ issue_of names.book names.history names.base all =
    same_issue next (issue_of names.book names.history names.base all)
    (is ∙ (ap (λ (i : Issue). fold applied_to (state_of i) pending) was ∙ after)) in
    let le : length x.mark.log ≤ length next.mark.log =
    rw (was, now) (prefix_length shown all pre) in
    let good : IsIssue names next =
    rw now (is_issue names all agree sound (timely all (prefix_self all))) in
    rises names seat v x next le (λ _. good)

-- once nothing waits, all additions are published, and the writer has nothing pending
pub now_published : (names : NameView) (shown queued all again : List Addition)
    (x y : Issue) (pending rest : List Operation)
    → x ≡ issue_of names.book names.history names.base shown
    → fold applied_to (state_of (issue_of names.book names.history names.base shown)) pending
    ≡ state_of (issue_of names.book names.history names.base queued)
    → queued ≡ all → again ≡ all
    → (state_of y ≡ fold applied_to (state_of x) pending) × (rest ≡ [])
    → (y ≡ issue_of names.book names.history names.base again)
    × (fold applied_to (state_of (issue_of names.book names.history names.base again)) rest
    ≡ state_of (issue_of names.book names.history names.base queued))
now_published names shown queued all again x y pending rest was after flushed same now =
    let top : again ≡ queued = same ∙ sym flushed in
    let y_is : y ≡ issue_of names.book names.history names.base queued =
    same_issue y (issue_of names.book names.history names.base queued)
    (now.0 ∙ (ap (λ (i : Issue). fold applied_to (state_of i) pending) was ∙ after)) in
    (rw top y_is, rw (top, now.1) refl)

-- what is published is a prefix of everything, whether or not the last addition waits for room
pub shown_begins : (kept : Option Operation) (X : Operation → Type 0)
    (shown queued all : List Addition) → IsPrefix shown queued
    → MatchOption kept (all ≡ queued) (λ op. (all ≡ queued ++ op.addition ∷ []) × X op)
    → IsPrefix shown all
shown_begins None X shown queued all pre is =
    subst (λ (w : List Addition). IsPrefix shown w) (sym is) pre
shown_begins (Some op) X shown queued all pre is =
    let last : IsPrefix queued all = (op.addition ∷ [], sym is.0) in
    prefix_trans shown queued all pre last
