-- The last loans of all workers: a node has rested since its worker gave the House back.
use Rattle.urb_turn.proofs.Common.{AllBegin, AllRest, AllRestSince, AreLoans, Begins, Bool, Event}
use Rattle.urb_turn.proofs.Common.{FinishedView, Finishes, Ghosts, GroupView, HasBegun, HasRested}
use Rattle.urb_turn.proofs.Common.{HouseView, IfSome, IsLedTo, IsLoan, IsPrefix, IsSound}
use Rattle.urb_turn.proofs.Common.{IsStoreAfter, IsTrue, Job, List, LoanEnds, LoanView, LoansView}
use Rattle.urb_turn.proofs.Common.{None, Option, Shows, Some, Stage, Stores, TurnView, World, []}
use Rattle.urb_turn.proofs.Common.{after, ap, arith, eq-eqb, eqb-true, events_in, events_until}
use Rattle.urb_turn.proofs.Common.{false, false≢true, get_or-set_other, get_or-set_same}
use Rattle.urb_turn.proofs.Common.{if◌then◌else◌, inl, inr, length, refl, replicate, runs_at}
use Rattle.urb_turn.proofs.Common.{slice_index_or, slice_set, subst, suc, sym, true, zero, ℕ}
use Rattle.urb_turn.proofs.Common.{⊎_elim, ◌&&◌, ◌++◌, ◌+◌, ◌-◌, ◌<◌, ◌==◌, ◌∙◌, ◌∷◌, ◌≡◌, ◌≢◌, ◌≤◌}
use Rattle.urb_turn.proofs.Common.{◌⊎◌}
use Rattle.std.proofs.lemmas.List.{get_or-replicate, get_or_past, length-replicate, set_past}
use Rattle.urb_group.specs.StoreContents.{WouldLeave}
use Rattle.urb_show.proofs.Prefixes.{prefix_whole}
use Rattle.urb_turn.proofs.OtherNodes.{begins-rest, ends-rest, rested-leaves, rested-store}
use Rattle.urb_turn.proofs.OtherNodes.{rests-none, rests-on}
use Rattle.urb_turn.proofs.TurnSteps.{whole_keeps}
use Rattle.urb_turn.specs.Counting.{TallyView}
use Rattle.urb_turn.specs.Loans.{end_of}
use Rattle.urb_turn.specs.LastLoans.{RestsSince}
use Rattle.urb_turn.specs.internal.CountedHouses.{AreLeftSince}
use Rattle.urb_turn.specs.internal.LoanEnds.{IsNextLoan, back_of}
use Rattle.urb_turn.specs.NodeStores.{IsStoreSince}

-- a moment that is as long as another, and behind it, is the same
pub same_moment : (xs ys : List Event) → length xs ≡ length ys → IsPrefix ys xs → xs ≡ ys
same_moment xs ys long behind = sym (prefix_whole ys xs behind (omega (arith, long)))

-- one number is below another, or not
below_or_not : (a b : ℕ) → (a < b) ⊎ (b ≤ a)
below_or_not a zero = inr (omega arith)
below_or_not zero (suc b) = inl (omega arith)
below_or_not (suc a) (suc b) =
    ⊎_elim (λ low. inl (omega (arith, low))) (λ high. inr (omega (arith, high))) (below_or_not a b)

-- ---- the end of a loan

-- each other node rested, and this loan's end is known or not
module _ (m : ℕ) (ends : LoanEnds) (old new : List Event) (end : Option (List Event))
    (node : 0 < m) (others : (n : ℕ) → n ≢ m → HasRested n old new)
    (is : IfSome end (λ e. e ≡ new)) (all : AllRest ends old) where
  own_end : (o : Option (List Event)) → IfSome o (λ e. e ≡ new)
      → IfSome o (λ e. HasRested m e new)
  own_end None h = tt
  own_end (Some e) h = subst (λ (l : List Event). HasRested m l new) (sym h) (rests-none m new)

  other_end : (n : ℕ) → n ≢ m → (o : Option (List Event)) → IfSome o (λ e. HasRested n e old)
      → IfSome o (λ e. HasRested n e new)
  other_end n other None h = tt
  other_end n other (Some e) h = rests-on n e old new h (others n other)

  -- after a loan each node has rested since its worker's last loan
  pub loan_over : AllRest (slice_set ends (m - 1) end) new
  loan_over i = at (i == m - 1) refl
    where
      apart : (i == m - 1) ≡ false → suc i ≢ m
      apart e same =
          let here : i ≡ m - 1 = omega (arith, same) in
          absurd (false≢true (sym e ∙ eq-eqb i (m - 1) here))

      within : (b : Bool) → (m - 1 < length ends) ⊎ (length ends ≤ m - 1) → i ≡ m - 1
          → IfSome (slice_index_or (slice_set ends (m - 1) end) i None)
          (λ e. HasRested (suc i) e new)
      within b (inl low) here =
          let number : m ≡ suc i = omega (arith, here, node) in
          let found : slice_index_or (slice_set ends (m - 1) end) i None ≡ end =
          ap (λ (k : ℕ). slice_index_or (slice_set ends (m - 1) end) k None) here
          ∙ get_or-set_same ends (m - 1) end None low in
          subst (λ (o : Option (List Event)). IfSome o (λ e. HasRested (suc i) e new)) (sym found)
          (subst (λ (k : ℕ). IfSome end (λ e. HasRested k e new)) number (own_end end is))
      within b (inr high) here =
          let found : slice_index_or (slice_set ends (m - 1) end) i None ≡ None =
          ap (λ (l : LoanEnds). slice_index_or l i None) (set_past ends (m - 1) end high)
          ∙ get_or_past ends i None (omega (arith, high, here)) in
          subst (λ (o : Option (List Event)). IfSome o (λ e. HasRested (suc i) e new)) (sym found)
          tt

      at : (b : Bool) → (i == m - 1) ≡ b
          → IfSome (slice_index_or (slice_set ends (m - 1) end) i None)
          (λ e. HasRested (suc i) e new)
      at true e = within true (below_or_not (m - 1) (length ends)) (eqb-true i (m - 1) e)
      at false e =
          let other : i ≢ m - 1 = λ here. apart e (omega (arith, here, node)) in
          subst (λ (o : Option (List Event)). IfSome o (λ e. HasRested (suc i) e new))
          (sym (get_or-set_other ends (m - 1) i end None other))
          (other_end (suc i) (apart e) (slice_index_or ends i None) (all i))

-- the end of a first loan
pub begun_end : (old new : HouseView) (loan : Option LoanView) → IfSome loan (λ l. IsLoan old new l)
    → IfSome (back_of loan) (λ e. e ≡ new.past)
begun_end old new None h = tt
begun_end old new (Some loan) h = h.back_at

-- the end of a last loan
pub finished_end : (old new : HouseView) (first : Option LoanView) (ran : Bool)
    (loans : Option LoansView) → IfSome loans (λ l. AreLoans first old new l)
    → IfSome (end_of ran loans) (λ e. e ≡ new.past)
finished_end old new first true None h = tt
finished_end old new first true (Some loans) h = h.last_is.back_at
finished_end old new first false loans h = tt

-- the first loan of a turn at the worker of node m
pub begins_on : (m : ℕ) (ends : LoanEnds) (old new : HouseView) (j : Job) (at : Stage) (events : ℕ)
    (loan : Option LoanView) → 0 < m → runs_at m j ≡ true → Begins old j new at events
    → IfSome loan (λ l. IsLoan old new l) → AllRest ends old.past
    → AllRest (slice_set ends (m - 1) (back_of loan)) new.past
begins_on m ends old new j at events loan node runs begins is all =
    loan_over m ends old.past new.past (back_of loan) node
    (λ n other. begins-rest n m other j old new at events runs begins)
    (begun_end old new loan is) all

-- the last loan of a turn at the worker of node m
pub finishes_on : (opened : GroupView) (m : ℕ) (ends : LoanEnds) (old new : HouseView)
    (turn : TurnView) (done : FinishedView) → 0 < m → runs_at m turn.job ≡ true
    → HasBegun opened turn.job turn.stage turn.loan → Finishes old turn new done
    → IfSome done.loans (λ l. AreLoans turn.loan old new l) → AllRest ends old.past
    → AllRest (slice_set ends (m - 1) (end_of done.ran done.loans)) new.past
finishes_on opened m ends old new turn done node runs begun finishes are all =
    loan_over m ends old.past new.past (end_of done.ran done.loans) node
    (λ n other. ends-rest n m other turn.job runs begun.0 begun.1 old new begun.2 turn.stage
    begun.3 (done.events - turn.events) done.reply done.status done.settling begun.5 begun.6
    finishes) (finished_end old new turn.loan done.ran done.loans are) all

-- a look at the House, which changes nothing, by the worker of node m
pub looked_on : (m : ℕ) (ends : LoanEnds) (old new : HouseView) (end : Option (List Event))
    → 0 < m → new ≡ old → IfSome end (λ e. e ≡ old.past) → AllRest ends old.past
    → AllRest (slice_set ends (m - 1) end) new.past
looked_on m ends old new end node same is all =
    subst (λ (h : HouseView). AllRest (slice_set ends (m - 1) end) h.past) (sym same)
    (loan_over m ends old.past old.past end node (λ n other. rests-none n old.past) is all)

-- ---- what a worker knows

rests_if : (n : ℕ) (lent : List Event) (o : Option (List Event)) (m : List Event) → o ≡ Some m
    → IfSome o (λ e. HasRested n e lent) → HasRested n m lent
rests_if n lent o m e h =
    subst (λ (x : Option (List Event)). IfSome x (λ y. HasRested n y lent)) e h

-- the node has rested since a loan that ended at a moment that its worker knows
pub rests_since : (n : ℕ) (last : Option (List Event)) (past m : List Event) (ends : LoanEnds)
    → 0 < n → last ≡ Some m → slice_index_or ends (n - 1) None ≡ Some m → AllRest ends past
    → RestsSince n last past
rests_since n last past m ends node known found all =
    let number : suc (n - 1) ≡ n = omega (arith, node) in
    subst (λ (o : Option (List Event)). RestsSince n o past) (sym known)
    (rests_if n past (slice_index_or ends (n - 1) None) m found
    (subst (λ (k : ℕ). IfSome (slice_index_or ends (n - 1) None) (λ e. HasRested k e past))
    number (all (n - 1))))

-- a loan follows the last one if its worker knew the end of that one
pub is_next_loan : (n : ℕ) (last : Option (List Event)) (lent back : List Event) (ends : LoanEnds)
    (known : Bool) (end : Option (List Event)) → 0 < n
    → (IsTrue known → (m : List Event) × (last ≡ Some m)
    × (slice_index_or ends (n - 1) None ≡ Some m))
    → AllRest ends lent → IfSome end (λ e. e ≡ back)
    → IsNextLoan n last lent back (if known then end else None)
is_next_loan n last lent back ends true None node says all is = tt
is_next_loan n last lent back ends true (Some e) node says all is =
    let it = says refl in (is, rests_since n last lent it.0 ends node it.1 it.2 all)
is_next_loan n last lent back ends false end node says all is = tt

-- one more tally
pub rests_push : (first : ℕ) (tallies : List TallyView) (tally : TallyView) (past : List Event)
    → AllRestSince first tallies past → RestsSince (first + length tallies) tally.last past
    → AllRestSince first (tallies ++ tally ∷ []) past
rests_push first [] tally past all one =
    let number : first + zero ≡ first = omega arith in
    (subst (λ (k : ℕ). RestsSince k tally.last past) number one, tt)
rests_push first (t ∷ tallies) tally past all one =
    let number : first + suc (length tallies) ≡ first + 1 + length tallies = omega arith in (
      all.0,
      rests_push (first + 1) tallies tally past all.1
          (subst (λ (k : ℕ). RestsSince k tally.last past) number one),
    )

-- ---- tallies that had no loan yet

-- the tallies but the last one
pub begin_but_last : (tallies rest : List TallyView) (tally : TallyView) (past : List Event)
    → tallies ≡ rest ++ tally ∷ [] → AllBegin tallies past → AllBegin rest past
begin_but_last tallies rest tally past is all =
    at rest (subst (λ (l : List TallyView). AllBegin l past) is all)
  where
    at : (rest : List TallyView) → AllBegin (rest ++ tally ∷ []) past → AllBegin rest past
    at [] h = tt
    at (t ∷ ts) h = (h.0, at ts h.1)

-- the last one, at the opening
pub begin_last : (tallies rest : List TallyView) (tally : TallyView)
    → tallies ≡ rest ++ tally ∷ [] → AllBegin tallies [] → events_until tally.last ≡ []
begin_last tallies rest tally is all =
    at rest (subst (λ (l : List TallyView). AllBegin l []) is all)
  where
    none : (o : Option (List Event)) → IfSome o (λ end. end ≡ []) → events_until o ≡ []
    none None h = refl
    none (Some end) h = h

    at : (rest : List TallyView) → AllBegin (rest ++ tally ∷ []) [] → events_until tally.last ≡ []
    at [] h = none tally.last h.0
    at (t ∷ ts) h = at ts h.1

-- one more
pub begin_push : (tallies new : List TallyView) (tally : TallyView) (past : List Event)
    → new ≡ tallies ++ tally ∷ [] → AllBegin tallies past → IfSome tally.last (λ end. end ≡ past)
    → AllBegin new past
begin_push tallies new tally past is all one =
    subst (λ (l : List TallyView). AllBegin l past) (sym is) (at tallies all)
  where
    at : (ts : List TallyView) → AllBegin ts past → AllBegin (ts ++ tally ∷ []) past
    at [] h = (one, tt)
    at (t ∷ ts) h = (h.0, at ts h.1)

-- the same moment at each place
pub all_rest_at_first : (count : ℕ) (end : Option (List Event)) (past : List Event)
    → IfSome end (λ e. e ≡ past) → AllRest (replicate count end) past
all_rest_at_first count end past is i = ⊎_elim within beyond (below_or_not i count)
  where
    own_at : (o : Option (List Event)) → IfSome o (λ e. e ≡ past)
        → IfSome o (λ e. HasRested (suc i) e past)
    own_at None h = tt
    own_at (Some e) h =
        subst (λ (l : List Event). HasRested (suc i) l past) (sym h) (rests-none (suc i) past)

    within : i < count → IfSome (slice_index_or (replicate count end) i None)
        (λ e. HasRested (suc i) e past)
    within low =
        subst (λ (o : Option (List Event)). IfSome o (λ e. HasRested (suc i) e past))
        (sym (get_or-replicate count i end None low)) (own_at end is)

    beyond : count ≤ i → IfSome (slice_index_or (replicate count end) i None)
        (λ e. HasRested (suc i) e past)
    beyond high =
        subst (λ (o : Option (List Event)). IfSome o (λ e. HasRested (suc i) e past))
        (sym (get_or_past (replicate count end) i None
        (omega (arith, length-replicate count end, high)))) tt

-- the events of one more tally
pub events_push : (tallies : List TallyView) (tally : TallyView)
    → events_in (tallies ++ tally ∷ []) ≡ events_in tallies + tally.events
events_push [] tally = omega arith
events_push (t ∷ tallies) tally = omega (arith, events_push tallies tally)

-- if the ends of all last loans so far are known, and that of one more, each of their nodes has
-- rested
pub known_push : (tallies : List TallyView) (tally : TallyView) (past : List Event)
    (ends : LoanEnds) (known ended : Bool) (place : ℕ) → place ≡ length tallies
    → (IsTrue known → AllRestSince 1 tallies past)
    → (IsTrue ended → (m : List Event) × (tally.last ≡ Some m)
    × (slice_index_or ends place None ≡ Some m))
    → AllRest ends past → IsTrue (known && ended) → AllRestSince 1 (tallies ++ tally ∷ []) past
known_push tallies tally past ends true true place here before says all both =
    let it = says refl in
    rests_push 1 tallies tally past (before refl)
    (rests_since (1 + length tallies) tally.last past it.0 ends (omega arith) it.1
    (subst (λ (k : ℕ). slice_index_or ends k None ≡ Some it.0) (omega (arith, here)) it.2) all)
known_push tallies tally past ends true false place here before says all both = absurd (cc)
known_push tallies tally past ends false ended place here before says all both = absurd (cc)

-- ---- a whole turn

-- The store of a node's worker from its last loan to the end of a turn. The turn had two loans, and
-- the node rested before each of them.
keeps_since : {S A : Type 0} (g : Ghosts S A) (start : World) (n : ℕ) (before after : S)
    (lent given_back again left : List Event) (first middle last : Option (List Event))
    → (IsStoreAfter g start lent n before → HasRested n given_back again
    → IsStoreAfter g start left n after)
    → IsNextLoan n first lent given_back middle → IsNextLoan n middle again left last
    → IsStoreSince g start first n before → IsStoreSince g start last n after
keeps_since g start n before after lent given_back again left first middle None keeps one two h = tt
keeps_since g start n before after lent given_back again left first None (Some end) keeps one two
    h = absurd two.1
keeps_since g start n before after lent given_back again left None (Some back) (Some end) keeps one
    two h = absurd one.1
keeps_since g start n before after lent given_back again left (Some since) (Some back) (Some end)
    keeps one two h =
    subst (λ (past : List Event). IsStoreAfter g start past n after) (sym two.0)
    (keeps (rested-store g start n since lent before one.1 h)
    (subst (λ (past : List Event). HasRested n past again) one.0 two.1))

module _ {S A : Type 0} (g : Ghosts S A) (opened : GroupView) (n : ℕ) where
  -- the same, for a turn that began, did its store's part, and finished
  pub turn_since : (j : Job) (before after : S) (done : FinishedView)
      (lent given_back again left : HouseView) (begun stored : TurnView) → runs_at n j ≡ true
      → stored.job ≡ j → stored.events ≡ begun.events → stored.loan ≡ begun.loan
      → IsSound left.group → IsLedTo opened lent.past lent.group
      → IsLedTo opened again.past again.group
      → IfSome begun.loan (λ l. IsLoan lent given_back l)
      → IfSome done.loans (λ l. AreLoans stored.loan again left l)
      → Begins lent j given_back begun.stage begun.events
      → Stores g before begun.stage after stored.stage → Finishes again stored left done
      → (first middle last : Option (List Event))
      → IsNextLoan n first lent.past given_back.past middle
      → IsNextLoan n middle again.past left.past last
      → (start : World) → Shows opened start → IsStoreSince g start first n before
      → IsStoreSince g start last n after
  turn_since j before after done lent given_back again left begun stored runs same count loan sound
      leads leads_again loaned loans begins stores ends first middle last one two start opening h =
      keeps_since g start n before after lent.past given_back.past again.past left.past first middle
      last
      (whole_keeps g opened n j before after done lent given_back again left begun stored runs same
      count loan sound leads leads_again loaned loans begins stores ends start opening)
      one two h

-- ---- a kill of the process

-- A kill leaves in each store what it may leave of its node, which has rested since its worker's
-- last loan.
pub left_since : {S A : Type 0} (g : Ghosts S A) (start : World) (ends : LoanEnds)
    (past : List Event) (stores : List S) → AllRest ends past → AreLeftSince g start ends stores
    → WouldLeave g (after start past) stores
left_since g start ends past stores rest left i store got =
    let one = left i store got in
    let rests : HasRested (suc i) one.0 past =
    subst (λ (o : Option (List Event)). IfSome o (λ end. HasRested (suc i) end past)) one.1
    (rest i) in
    rested-leaves g start (suc i) one.0 past store rests one.2
