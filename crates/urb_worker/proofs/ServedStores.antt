-- What workers do job after job, and stores in their order, as loops take them from one list and put
-- them into another.
use Rattle.std.proofs.Common.{◌≡◌, ◌∙◌, ◌++◌, IfSome, List, [], ◌∷◌, None, Ok, Err, Option, Result}
use Rattle.std.proofs.Common.{arith, reverse, ℕ, ◌+◌, zero, suc}
use Rattle.std.proofs.Common.{Some, append_assoc, ap, inl, inr, length, refl, subst, sym, map, true}
use Rattle.std.proofs.Math.Logic.{∥∥₁_elim}
use Rattle.std.proofs.Props.{props}
use Rattle.std.proofs.lemmas.List.{reverse-append, map_push}
use Rattle.urb_names.specs.Nodes.{nodes, numbers_from as nodes_from}
use Rattle.urb_stable.specs.declared.stable.Stable.{Ghosts}
use Rattle.urb_group.specs.GroupViews.{GroupView, Shows}
use Rattle.urb_world.specs.World.{World}
use Rattle.urb_world.specs.Step.{Event}
use Rattle.urb_worker.specs.Acts.{Act, Ended, LetsOut}
use Rattle.urb_turn.specs.Counting.{TallyView}
use Rattle.urb_turn.specs.Loans.{events_until}
use Rattle.urb_turn.specs.Jobs.{runs_at}
use Rattle.urb_turn.specs.KeptTails.{Prepares}
use Rattle.urb_turn.specs.NodeStores.{IsStoreAfter, IsStoreSince}
use Rattle.urb_names.specs.declared.refusal.NoMemory.{NoMemory}
use Rattle.urb_worker.specs.ServedStores.{AreServed, DoesBatch, DoesMany, DoesOne, DoesOwn, HasServed}
use Rattle.urb_worker.specs.ServedStores.{IsLeftOf, Rests, Serves, Works, WorksAll}
use Rattle.urb_worker.specs.ServedStores.{needs_no_ticket, notes_of, numbers_from}
use Rattle.urb_worker.specs.TicketBatches.{IsEndOf, calls_ahead}
use Rattle.urb_worker.specs.declared.ticket_batch.BatchEnd.{BatchEnd}
use Rattle.urb_turn.specs.Views.{FinishedView}
use Rattle.urb_turn.specs.WholeTurns.{Does}
use Rattle.urb_turn.specs.declared.job.Job.{Job}
use Rattle.urb_worker.specs.internal.ServedStores.{AllKeepUp, AllThere, KeepsUp, MayWork}

module _ {S A : Type 0} (g : Ghosts S A) (opened : GroupView) (n : ℕ) where
  -- a job was done, and what its result says was let out
  pub works : (job : Job) (before after : S) (old new : List Act) (done : FinishedView)
      → Does g opened n (runs_at n job) job before after done → LetsOut old done new
      → Works g opened n job before after old new
  works job before after old new done does lets_out =
      record { done = done; does = does; lets_out = lets_out }

  -- a job of its own was done
  pub works_some : (job : Job) (before after : S) (old new : List Act) → needs_no_ticket job ≡ true
      → Works g opened n job before after old new → MayWork g opened n before after old new
  works_some job before after old new own works = inr (job, own, works)

  -- no job was done
  pub works_none : (store : S) (acts : List Act) → MayWork g opened n store store acts acts
  works_none store acts = inl (refl, refl)

  -- a worker that did no job yet
  pub not_yet : (store : S) (acts : List Act) → HasServed g opened n store store acts acts
  not_yet store acts = ∣ Rests store acts ∣₁

  more : (first before after : S) (start old new : List Act) → Serves g opened n first before start old
      → MayWork g opened n before after old new → Serves g opened n first after start new
  more first before after start old new so_far (inl same) =
      rw (same.0, same.1) so_far
  more first before after start old new so_far (inr (job, own, works)) =
      DoesOwn first before after start old new job so_far own works

  -- a round without a ticket
  pub one_job : (a b : S) (old new : List Act) → MayWork g opened n a b old new
      → HasServed g opened n a b old new
  one_job a b old new works = ∣ more a a b old old new (Rests a old) works ∣₁

  -- a ticket alone
  pub one_ticket : (job : Job) (end : BatchEnd) (a b : S) (old noted new : List Act)
      → IsEndOf 1 end → noted ≡ old ++ Ended end ∷ [] → Works g opened n job a b noted new
      → HasServed g opened n a b old new
  one_ticket job end a b old noted new ends is works =
      ∣ DoesOne a a b old old new job end (Rests a old) ends
      (subst (λ (acts : List Act). Works g opened n job a b acts new) is works) ∣₁

  -- the tickets of a batch
  pub many_tickets : (jobs : List Job) (end : BatchEnd) (a b : S) (old noted new : List Act)
      → IsEndOf (length jobs) end → noted ≡ old ++ Ended end ∷ []
      → DoesBatch g opened n jobs a b noted new → HasServed g opened n a b old new
  many_tickets jobs end a b old noted new ends is does =
      ∣ DoesMany a a b old old new jobs end (Rests a old) ends
      (subst (λ (acts : List Act). DoesBatch g opened n jobs a b acts new) is does) ∣₁

  -- one more job of a batch
  pub works_more : (jobs : List Job) (job : Job) (a b c : S) (old between new : List Act)
      → WorksAll g opened n jobs a b old between → Works g opened n job b c between new
      → WorksAll g opened n (jobs ++ job ∷ []) a c old new
  works_more [] job a b c old between new so_far works =
      rw (sym so_far.0, sym so_far.1) (c, new, works, (refl, refl))
  works_more (first ∷ jobs) job a b c old between new so_far works = (
    so_far.0,
    so_far.1,
    so_far.2,
    works_more jobs job so_far.0 b c so_far.1 between new so_far.3 works,
  )

  -- a batch, once its store was asked to hold records ahead
  pub does_batch : (jobs : List Job) (refused : Option NoMemory) (a ready b : S)
      (old noted new : List Act) → Prepares g opened n (calls_ahead n jobs) refused a ready
      → noted ≡ old ++ notes_of refused → WorksAll g opened n jobs ready b noted new
      → DoesBatch g opened n jobs a b old new
  does_batch jobs refused a ready b old noted new prepares is works = record {
    refused = refused;
    ready = ready;
    prepares = prepares;
    works = subst (λ (acts : List Act). WorksAll g opened n jobs ready b acts new) is works;
  }

  serves_on : (a b c : S) (start old new : List Act) → Serves g opened n a b start old
      → Serves g opened n b c old new → Serves g opened n a c start new
  serves_on a b c start old new before (Rests store acts) = before
  serves_on a b c start old new before (DoesOwn first last next from was is job so_far own works) =
      DoesOwn a last next start was is job (serves_on a b last start old was before so_far) own
      works
  serves_on a b c start old new before (DoesOne first last next from was is job end so_far ends works) =
      DoesOne a last next start was is job end (serves_on a b last start old was before so_far)
      ends works
  serves_on a b c start old new before (DoesMany first last next from was is jobs end so_far ends does) =
      DoesMany a last next start was is jobs end (serves_on a b last start old was before so_far)
      ends does

  -- and then maybe a job of its own
  pub then_own : (a b c : S) (start old new : List Act) → HasServed g opened n a b start old
      → MayWork g opened n b c old new → HasServed g opened n a c start new
  then_own a b c start old new before works =
      ∥∥₁_elim before (hlevel props) (λ s. ∣ more a b c start old new s works ∣₁)

  -- one more round
  pub served_on : (a b c : S) (start old new : List Act) → HasServed g opened n a b start old
      → HasServed g opened n b c old new → HasServed g opened n a c start new
  served_on a b c start old new before after =
      ∥∥₁_elim before (hlevel props)
      (λ s. ∥∥₁_elim after (hlevel props) (λ t. ∣ serves_on a b c start old new s t ∣₁))

  -- what a worker leaves that has let nothing out before
  pub leaves : (a b : S) (acts : List Act) → HasServed g opened n a b [] acts
      → IsLeftOf g opened n a b
  leaves a b acts served = ∥∥₁_elim served (hlevel props) (λ s. ∣ (acts, s) ∣₁)

module _ {S A : Type 0} (g : Ghosts S A) (opened : GroupView) where
  unserved_from : (from : ℕ) (stores : List S)
      → AreServed g opened (numbers_from from (length stores)) stores stores
  unserved_from from [] = tt
  unserved_from from (store ∷ stores) =
      (∣ ([], Rests store []) ∣₁, unserved_from (from + 1) stores)

  -- stores that nobody took
  pub unserved : (stores : List S) → AreServed g opened (numbers_from 1 (length stores)) stores stores
  unserved stores = unserved_from 1 stores

  -- one more store
  pub one_more : (nodes : List ℕ) (firsts lasts : List S) (n : ℕ) (first last : S)
      → AreServed g opened nodes firsts lasts → IsLeftOf g opened n first last
      → AreServed g opened (nodes ++ n ∷ []) (firsts ++ first ∷ []) (lasts ++ last ∷ [])
  one_more [] [] [] n first last so_far it = (it, tt)
  one_more [] [] (b ∷ ys) n first last so_far it = absurd so_far
  one_more [] (a ∷ xs) ys n first last so_far it = absurd so_far
  one_more (m ∷ ms) [] ys n first last so_far it = absurd so_far
  one_more (m ∷ ms) (a ∷ xs) [] n first last so_far it = absurd so_far
  one_more (m ∷ ms) (a ∷ xs) (b ∷ ys) n first last so_far it =
      (so_far.0, one_more ms xs ys n first last so_far.1 it)

  -- one more store is left, if f gives the stores of the list, and h their nodes
  pub one_left : {W : Type 0} (h : W → ℕ) (f : W → S) (ws : List W) (w : W) (lasts new : List S)
      (last : S) → AreServed g opened (map h ws) (map f ws) lasts
      → IsLeftOf g opened (h w) (f w) last → new ≡ lasts ++ last ∷ []
      → AreServed g opened (map h (ws ++ w ∷ [])) (map f (ws ++ w ∷ [])) new
  one_left h f ws w lasts new last so_far it is =
      rw (is, map_push f ws w, map_push h ws w)
      (one_more (map h ws) (map f ws) lasts (h w) (f w) last so_far it)

module _ {S A : Type 0} (g : Ghosts S A) (opened : GroupView) where
  -- a worker whose tally had no loan yet
  pub keeps_up : (n : ℕ) (first last : S) (before after : TallyView)
      → events_until before.last ≡ []
      → ((start : World) → Shows opened start → IsStoreSince g start before.last n first
      → IsStoreSince g start after.last n last)
      → KeepsUp g opened n first last after
  keeps_up n first last before after fresh keeps start opening h =
      keeps start opening (at before.last fresh)
    where
      at : (o : Option (List Event)) → events_until o ≡ [] → IsStoreSince g start o n first
      at None e = tt
      at (Some end) e = subst (λ (l : List Event). IsStoreAfter g start l n first) (sym e) h

  -- one more worker
  pub one_more_keeps_up : (nodes : List ℕ) (firsts lasts : List S) (tallies : List TallyView) (n : ℕ)
      (first last : S) (tally : TallyView) → AllKeepUp g opened nodes firsts lasts tallies
      → KeepsUp g opened n first last tally
      → AllKeepUp g opened (nodes ++ n ∷ []) (firsts ++ first ∷ []) (lasts ++ last ∷ [])
      (tallies ++ tally ∷ [])
  one_more_keeps_up [] [] [] [] n first last tally so_far it = (it, tt)
  one_more_keeps_up (m ∷ ms) (a ∷ xs) (b ∷ ys) (t ∷ ts) n first last tally so_far it =
      (so_far.0, one_more_keeps_up ms xs ys ts n first last tally so_far.1 it)
  one_more_keeps_up _ _ _ _ n first last tally so_far it = absurd so_far

  -- one more store is left, with its tally
  pub one_left_keeps_up : {W : Type 0} (h : W → ℕ) (f : W → S) (ws : List W) (w : W)
      (lasts new : List S) (last : S) (tallies all : List TallyView) (tally : TallyView)
      → AllKeepUp g opened (map h ws) (map f ws) lasts tallies
      → KeepsUp g opened (h w) (f w) last tally → new ≡ lasts ++ last ∷ []
      → all ≡ tallies ++ tally ∷ []
      → AllKeepUp g opened (map h (ws ++ w ∷ [])) (map f (ws ++ w ∷ [])) new all
  one_left_keeps_up h f ws w lasts new last tallies all tally so_far it is are =
      rw (is, are, map_push f ws w, map_push h ws w)
      (one_more_keeps_up (map h ws) (map f ws) lasts tallies (h w) (f w) last tally so_far it)

-- the nodes from the first on are these numbers
numbered : (first count : ℕ) → nodes_from first count ≡ numbers_from first count
numbered first zero = refl
numbered first (suc count) =
    ap (λ ns. first ∷ ns) (numbered (suc first) count
    ∙ ap (λ n. numbers_from n count) (next first))
  where
    next : (n : ℕ) → suc n ≡ n + 1
    next n = omega arith

-- the nodes 1 to n are the numbers from 1 on
pub as_numbers : (count : ℕ) → nodes count ≡ numbers_from 1 count
as_numbers count = numbered 1 count

-- the element at the end of a list comes first in the reversed list
pub reverse_push : {X Y : Type 0} (f : X → Y) (xs : List X) (x : X)
    → reverse (map f (xs ++ x ∷ [])) ≡ f x ∷ reverse (map f xs)
reverse_push f xs x = ap reverse (map_push f xs x) ∙ reverse-append (map f xs) (f x ∷ [])

-- the last one of a list goes to the front of those that were taken
pub takes_up : {X Y : Type 0} (f : X → Y) (old rest whole : List Y) (xs : List X) (x : X)
    → old ≡ rest ++ f x ∷ [] → old ++ reverse (map f xs) ≡ whole
    → rest ++ reverse (map f (xs ++ x ∷ [])) ≡ whole
takes_up f old rest whole xs x last so_far =
    ap (λ ys. rest ++ ys) (reverse_push f xs x)
    ∙ sym (append_assoc rest (f x ∷ []) (reverse (map f xs)))
    ∙ ap (λ ys. ys ++ reverse (map f xs)) (sym last)
    ∙ so_far

-- the one that was taken last goes to the end of those that were put down
pub puts_down : {X Y W : Type 0} (f : X → Y) (h : W → Y) (ws : List W) (w : W) (new : List W)
    (old rest : List X) (x : X) (whole : List Y) → new ≡ ws ++ w ∷ [] → old ≡ rest ++ x ∷ []
    → h w ≡ f x
    → map h ws ++ reverse (map f old) ≡ whole → map h new ++ reverse (map f rest) ≡ whole
puts_down f h ws w new old rest x whole put last same so_far =
    ap (λ xs. map h xs ++ reverse (map f rest)) put
    ∙ ap (λ ys. ys ++ reverse (map f rest)) (map_push h ws w)
    ∙ append_assoc (map h ws) (h w ∷ []) (reverse (map f rest))
    ∙ ap (λ y. map h ws ++ y ∷ reverse (map f rest)) same
    ∙ ap (λ ys. map h ws ++ ys) (sym (ap (λ xs. reverse (map f xs)) last ∙ reverse_push f rest x))
    ∙ so_far

there_push : {T E : Type 0} (ws : List (Result T E)) (thread : T) → AllThere ws
    → AllThere (ws ++ Ok thread ∷ [])
there_push [] thread all = tt
there_push (Ok first ∷ ws) thread all = there_push ws thread all
there_push (Err left ∷ ws) thread all = absurd all

-- if the queues are kept, one more worker has its thread
pub with_thread : {T E L : Type 0} (kept : Option L) (ws new : List (Result T E)) (thread : T)
    → new ≡ ws ++ Ok thread ∷ [] → IfSome kept (λ _. AllThere ws) → IfSome kept (λ _. AllThere new)
with_thread None ws new thread put all = tt
with_thread (Some queues) ws new thread put all = rw put (there_push ws thread all)
