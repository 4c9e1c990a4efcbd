-- After a turn the store still matches its node, and a stop inside the turn leaves what it may
-- leave of the node.
use Rattle.urb_turn.proofs.Common.{Arrive, Begins, Bool, ComesUp, Commit, Commits, Counts, Crash}
use Rattle.urb_turn.proofs.Common.{Done, Doubted, Drafted, Ends, Entry, Err, Event, Fail, Ghosts}
use Rattle.urb_turn.proofs.Common.{Gives, Global, GoesDown, GroupView, HouseView, IsKeptOf}
use Rattle.urb_turn.proofs.Common.{IsLasting, IsLastingOf, IsStoreAfter, IsStoreOf, Job, Keeps}
use Rattle.urb_turn.proofs.Common.{LeavesAfter, LeavesOf, Node, None, NothingNew, Ok, Option}
use Rattle.urb_turn.proofs.Common.{OutOfMemory, Placed, Published, Refusal, Refused, Restart}
use Rattle.urb_turn.proofs.Common.{Result, Settles, Shows, Some, Stage, Status, StoreFault, Stored}
use Rattle.urb_turn.proofs.Common.{Stores, Submit, Taken, Takes, Tick, Vec, WentDown, World, after}
use Rattle.urb_turn.proofs.Common.{answer_of, ap, cond, doubt, eqb-true, event_node, false}
use Rattle.urb_turn.proofs.Common.{false≢true, image_stage, inl, inr, is_down, is_node, kept_stage}
use Rattle.urb_turn.proofs.Common.{leaves-draft, node_of, packet_of, quiet-stays, refl}
use Rattle.urb_turn.proofs.Common.{restart_stage, runs_at, state_of, step, step-size, subst, suc}
use Rattle.urb_turn.proofs.Common.{sym, taken_stage, true, view_of, ℕ, ⊎_elim, ◌∙◌, ◌≡◌, ◌⊎◌}
use Rattle.urb_world.proofs.steps.DraftsInSteps.{step-at}
use Rattle.urb_world.proofs.stops.StockedNodes.{commit-node, fail-node, restart-node}
use Rattle.urb_group.proofs.stops.StockedSteps.{IsQuiet}
use Rattle.urb_group.proofs.calls.StoreAnswers.{refused-as}
use Rattle.urb_group.specs.GroupCalls.{HoldsDraft, Steps}
use Rattle.urb_group.specs.declared.reply.Reply.{Reply as Told}
use Rattle.urb_group.specs.declared.state.State.{State}
use Rattle.urb_node.specs.CallEffects.{IsRefusedAs, MayGrow}
use Rattle.urb_node.specs.Replies.{Reply}
use Rattle.urb_show.proofs.PastEvents.{after_one_more}
use Rattle.urb_show.specs.Houses.{IsEvent}
use Rattle.urb_stable.specs.Entries.{name_of}
use Rattle.urb_stable.specs.StableStorage.{list_in}
use Rattle.urb_group.proofs.stops.SecuredClusters.{asked-still}
use Rattle.urb_turn.proofs.LastingStores.{gives-rose, gives-unread, keeps-late}
use Rattle.urb_turn.proofs.LastingStores.{keeps-lost, keeps-took, left-of-draft, stays}
use Rattle.urb_turn.proofs.FollowingTails.{tail-given, tail-kept, tail-steps, tail-waits}
use Rattle.urb_turn.proofs.GrowingPasts.{settled_past}
use Rattle.urb_turn.proofs.WaitingNodes.{FellWith, HasWaited, HoldsAt, IsWorldOf, Waits, crash-held}
use Rattle.urb_turn.proofs.WaitingNodes.{down-commits, down-fails, held-commits, held-fails}
use Rattle.urb_turn.proofs.WaitingNodes.{waited-down, waited-held, waited-stays, waited-there}
use Rattle.urb_group.specs.declared.state.State.TheVariants as state
use Rattle.urb_group.specs.declared.taken.Taken.TheVariants as taken
use Rattle.urb_names.specs.declared.refusal.Refusal.TheVariants as refusal
use Rattle.urb_node.specs.Part as part
use Rattle.urb_turn.specs.NodeStores.{WouldHaveTail}
use Rattle.urb_turn.specs.Settlings as settlings
use Rattle.urb_turn.specs.declared.job.Job.TheVariants as job
use Rattle.urb_turn.specs.declared.turn_stages.Stage.TheVariants as stage

-- a settling changes no group
pub settled_group : (b : Bool) (p : ℕ) (before after : HouseView) (settling : Published)
    → Settles b p before after settling → after.group ≡ before.group
settled_group true p before after NothingNew h = absurd h
settled_group true p before after (settlings.Told lists) h = h.group
settled_group true p before after OutOfMemory h = h.group
settled_group false p before after settling h = ap (λ (a : HouseView). a.group) h.0

-- if an event is never refused for memory, such a refusal is not its reply
never : (reply told : Reply) (r : Refusal) → IsRefusedAs reply r → reply ≡ told → (MayGrow told → ⊥)
    → (told ≡ Refused r → ⊥) → ⊥
never reply told r h is grows other =
    ⊎_elim (λ grow. grows (subst MayGrow is grow)) (λ e. other (sym is ∙ e)) (refused-as reply r h)

-- the world after a house's next event
tied : (start : World) (old new : HouseView) (event : Event) (w : World)
    → IsWorldOf start old w → Shows new.group (step w event).1 → IsEvent event old new
    → IsWorldOf start new (step w event).1
tied start old new event w h shows is =
    record {
      led =
          ap (λ (v : World). (step v event).1) h.led
          ∙ (sym (after_one_more start old.past event) ∙ ap (after start) (sym is.past));
      shows = shows;
    }

-- a world of a house is one of each house with the same group and the same past
retied : (start : World) (old new : HouseView) (w : World) → new.group ≡ old.group
    → new.past ≡ old.past → IsWorldOf start old w → IsWorldOf start new w
retied start old new w group past h =
    record {
      led = h.led ∙ ap (after start) (sym past);
      shows = subst (λ (it : GroupView). Shows it w) (sym group) h.shows;
    }

module _ {S A : Type 0} (g : Ghosts S A) (start : World) (n : ℕ) where
  abbrev Store : Node → S → Type 0
  Store = IsLastingOf g

  -- in some world of the house, the store matches node n
  pub record IsStoreAt (house : HouseView) (store : S) : Type 0 where
    pub world : World
    pub ties : IsWorldOf start house world
    pub contents : IsStoreOf g (world.node n) store
    pub lasting : IsLasting g (world.node n) store
    pub tail : WouldHaveTail g world n store

  -- in some world of the house, a stop leaves in the store what it may leave of node n
  pub record LeavesAt (house : HouseView) (store : S) : Type 0 where
    pub world : World
    pub ties : IsWorldOf start house world
    pub left : g.is_clean store → LeavesOf g (world.node n) store
    pub tail : WouldHaveTail g world n store

  -- the store after all events of a house is that of its world
  pub to-world : (house : HouseView) (store : S) → Shows house.group (after start house.past)
      → IsStoreAfter g start house.past n store → IsStoreAt house store
  to-world house store shows h =
      record {
        world = after start house.past;
        ties = record { led = refl; shows = shows };
        contents = h.contents;
        lasting = h.lasting;
        tail = h.tail;
      }

  -- and the other way round
  pub from-world : (house : HouseView) (store : S) → IsStoreAt house store
      → IsStoreAfter g start house.past n store
  from-world house store h =
      record {
        contents = subst (λ (w : World). IsStoreOf g (w.node n) store) h.ties.led h.contents;
        lasting = subst (λ (w : World). IsLasting g (w.node n) store) h.ties.led h.lasting;
        tail = subst (λ (w : World). WouldHaveTail g w n store) h.ties.led h.tail;
      }

  -- what a stop leaves after all events of a house
  pub left-from : (house : HouseView) (store : S) → LeavesAt house store
      → LeavesAfter g start house.past n store
  left-from house store h clean =
      subst (λ (w : World). LeavesOf g (w.node n) store) h.ties.led (h.left clean)

  -- what the store holds ahead after all events of a house
  pub tail-from : (house : HouseView) (store : S) → LeavesAt house store
      → WouldHaveTail g (after start house.past) n store
  tail-from house store h = subst (λ (w : World). WouldHaveTail g w n store) h.ties.led h.tail

  at-world : (house : HouseView) (w : World) (store : S) → IsWorldOf start house w
      → Store (w.node n) store → WouldHaveTail g w n store → IsStoreAt house store
  at-world house w store ties h tail =
      record { world = w; ties = ties; contents = h.0; lasting = h.1; tail = tail }

  -- the same after one event
  at-next : (house : HouseView) (w : World) (event : Event) (store : S)
      → IsWorldOf start house (step w event).1 → Store ((step w event).1.node n) store
      → WouldHaveTail g w n store → IsStoreAt house store
  at-next house w event store ties h tail =
      at-world house (step w event).1 store ties h (tail-steps g w event n store h tail)

  same-house : (old new : HouseView) (store : S) → new ≡ old → IsStoreAt old store
      → IsStoreAt new store
  same-house old new store e h = subst (λ (house : HouseView). IsStoreAt house store) (sym e) h

  same-past : (old new : HouseView) (store : S) → new.group ≡ old.group → new.past ≡ old.past
      → IsStoreAt old store → IsStoreAt new store
  same-past old new store group past h =
      record {
        world = h.world;
        ties = retied start old new h.world group past h.ties;
        contents = h.contents;
        lasting = h.lasting;
        tail = h.tail;
      }

  same-store : (house : HouseView) (before after : S) → after ≡ before → IsStoreAt house before
      → IsStoreAt house after
  same-store house before after e h = subst (λ (s : S). IsStoreAt house s) (sym e) h

  -- an event that adds no record to a list
  quiet : (old new : HouseView) (event : Event) (IsTold : Reply → Type 0) (store : S)
      → IsQuiet event → Steps old.group event IsTold new.group → IsEvent event old new
      → IsStoreAt old store → IsStoreAt new store
  quiet old new event IsTold store is steps next h =
      at-next new h.world event store
      (tied start old new event h.world h.ties (steps h.world h.ties.shows).shows next)
      (stays g (h.world.node n) ((step h.world event).1.node n) store
      (quiet-stays h.world event is n) (h.contents, h.lasting)) h.tail

  -- nothing happened to the node except a crash
  pub waited : (old new : HouseView) (store : S) → Waits start n old new → IsStoreAt old store
      → IsStoreAt new store
  waited old new store waits h =
      let later : HasWaited start n h.world new = waits h.world h.ties in
      at-world new later.world store later.ties
      (stays g (h.world.node n) (later.world.node n) store
      (waited-stays n h.world later.world later.waited) (h.contents, h.lasting))
      (tail-waits g h.world later.world n store later.waited h.tail)

  -- ---- the store of a node that holds a draft

  -- a world of this house in which node n holds the draft, and the store before it was asked
  record Drafts (house : HouseView) (draft : Placed) (before : S) : Type 0 where
    pub world : World
    pub ties : IsWorldOf start house world
    pub holds : HoldsAt world n draft
    pub store : Store (world.node n) before
    pub tail : WouldHaveTail g world n before

  -- the same at a later moment; or the node went down meanwhile
  record Later (draft : Placed) (before : S) (house : HouseView) : Type 0 where
    pub node : Node
    pub up : is_down node.state ≡ false
    pub store : Store node before
    pub world : World
    pub ties : IsWorldOf start house world
    pub tail : WouldHaveTail g world n before
    pub there : is_node world.size.n n ≡ true
    pub still : (HoldsAt world n draft × (world.node n ≡ node)) ⊎ FellWith node (world.node n) draft

  later-of : (old new : HouseView) (draft : Placed) (before : S) → Waits start n old new
      → Drafts old draft before → Later draft before new
  later-of old new draft before waits h =
      record {
        node = h.world.node n;
        up = ap is_down h.holds.storing;
        store = h.store;
        world = later.world;
        ties = later.ties;
        tail = tail-waits g h.world later.world n before later.waited h.tail;
        there = waited-there n h.world later.world later.waited h.holds.there;
        still = ⊎_elim both (λ e. inr (fell e)) later.waited.node;
      }
    where
      later : HasWaited start n h.world new
      later = waits h.world h.ties

      both : later.world.node n ≡ h.world.node n
          → (HoldsAt later.world n draft × (later.world.node n ≡ h.world.node n))
          ⊎ FellWith (h.world.node n) (later.world.node n) draft
      both e =
          ⊎_elim (λ held. inl (held, e)) (λ fell. inr fell)
          (waited-held n h.world later.world draft later.waited h.holds)

      fell : later.world.node n ≡ (step h.world (Crash n)).1.node n
          → FellWith (h.world.node n) (later.world.node n) draft
      fell e =
          subst (λ (node : Node). FellWith (h.world.node n) node draft) (sym e)
          (crash-held h.world n draft h.holds)

  -- the draft's receipt comes
  committed : (draft : Placed) (before after : S) (old new : HouseView)
      (r : Result Done (Placed × Refusal)) → draft.node ≡ n → Keeps g before draft (Ok tt) after
      → Later draft before old → Commits old.group draft r new.group
      → Counts (Commit draft.node draft.pos draft.entry) r old new → IsStoreAt new after
  committed draft before after old new (Ok done) e keeps h steps counts =
      ⊎_elim held fell h.still
    where
      event : Event
      event = Commit n draft.pos draft.entry

      at : Steps old.group event (λ reply. reply ≡ Stored done) new.group
      at =
          subst (λ (i : ℕ). Steps old.group (Commit i draft.pos draft.entry)
          (λ reply. reply ≡ Stored done) new.group) e steps

      next : IsEvent event old new
      next = subst (λ (i : ℕ). IsEvent (Commit i draft.pos draft.entry) old new) e counts

      held : HoldsAt h.world n draft × (h.world.node n ≡ h.node) → IsStoreAt new after
      held (holds, same) =
          let node =
          commit-node h.world n draft.pos draft.entry holds.cause holds.there holds.storing
          holds.position in
          at-next new h.world event after
          (tied start old new event h.world h.ties (at h.world h.ties.shows).shows next)
          (keeps-took g (h.world.node n) ((step h.world event).1.node n) before after draft keeps
          (subst (λ (node : Node). Store node before) (sym same) h.store)
          (ap is_down holds.storing) node.0 node.1)
          (tail-kept g h.world n before after draft (Ok tt) keeps h.tail)

      fell : FellWith h.node (h.world.node n) draft → IsStoreAt new after
      fell down =
          let told : Refused refusal.Down ≡ Stored done =
          sym (down-commits h.world n draft (Some draft.entry) h.there down.down)
          ∙ (at h.world h.ties.shows).told in
          absurd (cc)
  committed draft before after old new (Err refused) e keeps h steps counts =
      ⊎_elim held fell h.still
    where
      event : Event
      event = Commit n draft.pos draft.entry

      at : IsRefusedAs (step h.world event).0 refused.1
      at =
          subst (λ (i : ℕ). IsRefusedAs (step h.world (Commit i draft.pos draft.entry)).0 refused.1)
          e (steps.0.0 h.world h.ties.shows)

      held : HoldsAt h.world n draft × (h.world.node n ≡ h.node) → IsStoreAt new after
      held (holds, same) =
          let taken = held-commits h.world n draft holds in
          absurd (never (step h.world event).0 (Stored taken.0) refused.1 at taken.1 (λ grow. grow)
          (λ f. cc))

      fell : FellWith h.node (h.world.node n) draft → IsStoreAt new after
      fell down =
          same-house old new after counts
          (at-world old h.world after h.ties
          (keeps-late g h.node (h.world.node n)
          before after draft keeps h.store h.up down.records down.down)
          (tail-kept g h.world n before after draft (Ok tt) keeps h.tail))

  -- the draft's failure comes
  failed : (draft : Placed) (fault : StoreFault) (before after : S) (old new : HouseView)
      (r : Result (Unit {0}) Refusal) → Keeps g before draft (Err fault) after
      → Later draft before old → GoesDown old.group n (Fail n) r new.group
      → Counts (Fail n) r old new → IsStoreAt new after
  failed draft fault before after old new (Ok done) keeps h steps next =
      ⊎_elim held fell h.still
    where
      held : HoldsAt h.world n draft × (h.world.node n ≡ h.node) → IsStoreAt new after
      held (holds, same) =
          let node = fail-node h.world n draft.entry holds.cause holds.there holds.storing in
          at-next new h.world (Fail n) after
          (tied start old new (Fail n) h.world h.ties (steps h.world h.ties.shows).shows next)
          (keeps-lost g (h.world.node n)
          ((step h.world (Fail n)).1.node n) before after draft fault keeps
          (subst (λ (node : Node). Store node before) (sym same) h.store)
          (ap is_down holds.storing) node.0 node.1)
          (tail-kept g h.world n before after draft (Err fault) keeps h.tail)

      fell : FellWith h.node (h.world.node n) draft → IsStoreAt new after
      fell down =
          let told : Refused refusal.Down ≡ WentDown n =
          sym (down-fails h.world n (Some draft.entry) h.there down.down)
          ∙ (steps h.world h.ties.shows).told in
          absurd (cc)
  failed draft fault before after old new (Err r) keeps h steps same = ⊎_elim held fell h.still
    where
      held : HoldsAt h.world n draft × (h.world.node n ≡ h.node) → IsStoreAt new after
      held (holds, same) =
          absurd (never (step h.world (Fail n)).0 (WentDown n) r (steps.0 h.world h.ties.shows)
          (held-fails h.world n draft holds) (λ grow. grow) (λ f. cc))

      fell : FellWith h.node (h.world.node n) draft → IsStoreAt new after
      fell down =
          same-house old new after same
          (at-world old h.world after h.ties
          (keeps-lost g h.node (h.world.node n)
          before after draft fault keeps h.store h.up down.records down.down)
          (tail-kept g h.world n before after draft (Err fault) keeps h.tail))

  -- a submit or an arrival that drafts
  drafts-at : (first left : HouseView) (before : S) (event : Event) (draft : Placed)
      → event_node event ≡ n → draft.node ≡ n → IsQuiet event
      → Steps first.group event (λ reply. reply ≡ Drafted (name_of draft.entry) draft.pos) left.group
      → HoldsDraft left.group draft → IsEvent event first left
      → IsStoreAt first before → Drafts left draft before
  drafts-at first left before event draft f e is steps holds next h =
      record {
        world = w;
        ties = tied start first left event h.world h.ties shows next;
        holds =
            record {
              cause = holds.cause;
              there = there;
              storing =
                  sym (shows.nodes n).state ∙ subst
                  (λ (i : ℕ). (view_of left.group i).state ≡ part.Storing draft.entry holds.cause)
                  e holds.state;
              position =
                  subst (λ (i : ℕ). draft.pos ≡ suc (view_of left.group i).count) e holds.position
                  ∙ ap suc (shows.nodes n).count;
            };
        store = kept;
        tail = tail-steps g h.world event n before kept h.tail;
      }
    where
      w : World
      w = (step h.world event).1

      kept : Store (w.node n) before
      kept =
          stays g (h.world.node n) (w.node n) before (quiet-stays h.world event is n)
          (h.contents, h.lasting)

      shows : Shows left.group w
      shows = (steps h.world h.ties.shows).shows

      there : is_node w.size.n n ≡ true
      there =
          ⊎_elim (λ there. subst (λ (i : ℕ). is_node w.size.n i ≡ true) f
          (subst (λ size. is_node size.n (event_node event) ≡ true)
          (sym (step-size h.world event)) there)) refused (step-at h.world event)
        where
          refused : ((r : Refusal) × ((step h.world event).0 ≡ Refused r))
              → is_node w.size.n n ≡ true
          refused (r, none) =
              let told : Refused r ≡ Drafted (name_of draft.entry) draft.pos =
              sym none ∙ (steps h.world h.ties.shows).told in
              absurd (cc)

  -- ---- a turn, from the stage at which it begins

  module _ (j : Job) (before after : S) (left again last : HouseView) (said : Told Global)
      (status : Option Status) (settling : Published) (count : ℕ)
      (waits : Waits start n left again) where
    abbrev Ending : Stage → Type 0
    Ending at = Ends again j at last said status settling count

    -- nothing was asked of the store, and nothing happens after it
    ends-still : (r : Told Global) → after ≡ before → Ending (stage.Answered r)
        → IsStoreAt left before → IsStoreAt last after
    ends-still r e ends h =
        same-store last before after e
        (same-house again last before ends.0 (waited left again before waits h))

    drafted : (draft : Placed) (r : Result Placed Doubted) → draft.node ≡ n
        → Drafts left draft before → IsKeptOf draft r → Keeps g before draft (answer_of r) after
        → Ending (kept_stage r) → IsStoreAt last after
    drafted draft (Ok receipt) e h is keeps
        (r, between, commits, counts, settles, is_said, is_status, is_count) =
        same-past between last after (settled_group _ _ between last settling settles)
        (settled_past _ _ between last settling settles)
        (committed draft before after again between r e keeps
        (later-of left again draft before waits h)
        (subst (λ (d : Placed). Commits again.group d r between.group) is commits)
        (subst (λ (d : Placed). Counts (Commit d.node d.pos d.entry) r again between) is counts))
    drafted draft (Err doubted) e h is keeps
        (r, fails, counts, is_said, is_status, is_told, is_count) =
        failed draft doubted.fault before after again last r keeps
        (later-of left again draft before waits h)
        (subst (λ (i : ℕ). GoesDown again.group i (Fail i) r last.group) (is ∙ e) fails)
        (subst (λ (i : ℕ). Counts (Fail i) r again last) (is ∙ e) counts)

    -- the node's store was asked for its records
    read : (r : Result (Vec Entry Global) StoreFault) → node_of j ≡ n → (w : World)
        → IsWorldOf start left w
        → (down : (o : Option Entry) × ((w.node n).state ≡ part.Down o)) → is_node w.size.n n ≡ true
        → Store (w.node n) before → WouldHaveTail g w n before
        → Gives g before (list_in r) after → Ending (image_stage r)
        → IsStoreAt last after
    read (Ok image) e w ties down there store tail gives
        (r, between, comes, counts, settles, is_said, is_status, is_count) =
        same-past between last after (settled_group _ _ between last settling settles)
        (settled_past _ _ between last settling settles)
        (rises r (subst (λ (i : ℕ). ComesUp again.group i (Restart i image.items) r between.group)
        e comes) (subst (λ (i : ℕ). Counts (Restart i image.items) r again between) e counts))
      where
        later : HasWaited start n w again
        later = waits w ties

        is_same : later.world.node n ≡ w.node n
        is_same = waited-down n w later.world later.waited (ap is_down down.1)

        state : (later.world.node n).state ≡ part.Down down.0
        state = ap (λ (node : Node). node.state) is_same ∙ down.1

        stored : Store (later.world.node n) before
        stored = subst (λ (node : Node). Store node before) (sym is_same) store

        given : WouldHaveTail g later.world n after
        given =
            tail-given g later.world n before after (Ok image.items) gives
            (tail-waits g w later.world n before later.waited tail)

        rises : (r : Result (Unit {0}) Refusal)
            → ComesUp again.group n (Restart n image.items) r between.group
            → Counts (Restart n image.items) r again between → IsStoreAt between after
        rises (Ok up) steps next =
            at-next between later.world (Restart n image.items) after
            (tied start again between (Restart n image.items) later.world later.ties
            (steps later.world later.ties.shows).shows next)
            (gives-rose g (later.world.node n)
            ((step later.world (Restart n image.items)).1.node n) before after image.items gives
            (restart-node later.world n image.items down.0
            (waited-there n w later.world later.waited there) state) stored) given
        rises (Err refused) steps same =
            same-house again between after same
            (at-world again later.world after later.ties
            (gives-rose g (later.world.node n) (later.world.node n) before after image.items gives
            (λ may. record {
              may = may;
              up =
                  λ f. absurd (false≢true (sym f ∙ ap is_down state));
            }) stored) given)
    read (Err fault) e w ties down there store tail gives ends =
        same-house again last after ends.0
        (waited left again after waits
        (at-world left w after ties (gives-unread g (w.node n) before after fault gives
        (ap is_down down.1) store) (tail-given g w n before after (Err fault) gives tail)))

    -- from the stage after a submit or an arrival
    taken-turn : (p : ℕ) (event : Event) (first : HouseView) (r : Result (Taken Global) Refusal)
        (new : Stage) → p ≡ n → event_node event ≡ p → IsQuiet event
        → Takes first.group p event r left.group → Counts event r first left
        → Stores g before (taken_stage r) after new → Ending new → IsStoreAt first before
        → IsStoreAt last after
    taken-turn p event first (Ok (taken.Same answer)) new e f is takes counts stores ends h =
        ends-still _ stores.0 (subst Ending stores.1 ends)
        (quiet first left event _ before is takes counts h)
    taken-turn p event first (Err r) new e f is takes counts stores ends h =
        ends-still _ stores.0 (subst Ending stores.1 ends) (same-house first left before counts h)
    taken-turn p event first (Ok (taken.Store draft)) new e f is takes counts
        (r, kept, keeps, leads) ends h =
        drafted draft r (takes.1 ∙ e)
        (drafts-at first left before event draft (f ∙ e) (takes.1 ∙ e) is takes.0 takes.2 counts h)
        kept keeps (subst Ending leads ends)

  -- ---- a restart

  -- the answer about the node's state
  is-down : (w : World) (p : ℕ)
      → Some state.Down ≡ cond (is_node w.size.n p) (Some (state_of (w.node p).state)) None
      → (is_node w.size.n p ≡ true) × ((o : Option Entry) × ((w.node p).state ≡ part.Down o))
  is-down w p e = at (is_node w.size.n p) (w.node p).state refl refl
    where
      at : (b : Bool) (s : part.State) → is_node w.size.n p ≡ b → (w.node p).state ≡ s
          → (is_node w.size.n p ≡ true) × ((o : Option Entry) × ((w.node p).state ≡ part.Down o))
      at true part.Ready f k =
          let told : Some state.Down ≡ Some (state_of part.Ready) =
          e ∙ (ap (λ (b : Bool). cond b (Some (state_of (w.node p).state)) None) f
          ∙ ap (λ (s : part.State). Some (state_of s)) k) in absurd (cc)
      at true (part.Storing entry cause) f k =
          let told : Some state.Down ≡ Some (state_of (part.Storing entry cause)) =
          e ∙ (ap (λ (b : Bool). cond b (Some (state_of (w.node p).state)) None) f
          ∙ ap (λ (s : part.State). Some (state_of s)) k) in absurd (cc)
      at true (part.Down o) f k = (f, (o, k))
      at false s f k =
          let told : Some state.Down ≡ None =
          e ∙ ap (λ (b : Bool). cond b (Some (state_of (w.node p).state)) None) f in absurd (cc)

  -- ---- the whole turn

  module _ (before after : S) (lent given_back again last : HouseView) (at new : Stage) (events : ℕ)
      (said : Told Global) (status : Option Status) (settling : Published) (count : ℕ) where
    abbrev Keeps_ : Job → Type 0
    Keeps_ j =
        runs_at n j ≡ true → Begins lent j given_back at events → Stores g before at after new
        → Ends again j new last said status settling count
        → IsStoreAt lent before → Waits start n given_back again → IsStoreAt last after

    -- After a turn the store matches its node, if nothing but a crash happened to the node
    -- meanwhile.
    pub turn-keeps : (j : Job) → Keeps_ j
    turn-keeps (job.Submit p client number payload) runs
        (r, takes, counts, is, rest) stores ends h waits =
        taken-turn (job.Submit p client number payload)
        before after given_back again last said status settling count waits
        p (Submit p (record { client = client; number = number; payload = payload }))
        lent r new (eqb-true p n runs) refl tt takes counts
        (subst (λ (s : Stage). Stores g before s after new) is stores) ends h
    turn-keeps (job.Arrive p bytes) runs (r, takes, counts, is, rest) stores ends h waits =
        taken-turn (job.Arrive p bytes)
        before after given_back again last said status settling count waits
        p (Arrive p (packet_of bytes.items)) lent r new (eqb-true p n runs) refl tt takes counts
        (subst (λ (s : Stage). Stores g before s after new) is stores) ends h
    turn-keeps (job.Tick p) runs (Ok packets, ticks, counts, is, rest) stores ends h waits =
        let stored = subst (λ (s : Stage). Stores g before s after new) is stores in
        ends-still (job.Tick p) before after given_back again last said status settling
        count waits _ stored.0
        (subst (λ (s : Stage). Ends again (job.Tick p) s last said status settling count)
        stored.1 ends) (quiet lent given_back (Tick p) _ before tt ticks counts h)
    turn-keeps (job.Tick p) runs (Err refused, ticks, counts, is, rest) stores ends h waits =
        let stored = subst (λ (s : Stage). Stores g before s after new) is stores in
        ends-still (job.Tick p) before after given_back again last said status settling
        count waits _ stored.0
        (subst (λ (s : Stage). Ends again (job.Tick p) s last said status settling count)
        stored.1 ends) (same-house lent given_back before counts h)
    turn-keeps (job.Crash p) runs (Ok done, crashes, counts, is, rest) stores ends h waits =
        let stored = subst (λ (s : Stage). Stores g before s after new) is stores in
        ends-still (job.Crash p) before after given_back again last said status settling
        count waits _ stored.0
        (subst (λ (s : Stage). Ends again (job.Crash p) s last said status settling count)
        stored.1 ends) (quiet lent given_back (Crash p) _ before tt crashes counts h)
    turn-keeps (job.Crash p) runs (Err refused, crashes, counts, is, rest) stores ends h waits =
        let stored = subst (λ (s : Stage). Stores g before s after new) is stores in
        ends-still (job.Crash p) before after given_back again last said status settling
        count waits _ stored.0
        (subst (λ (s : Stage). Ends again (job.Crash p) s last said status settling count)
        stored.1 ends) (same-house lent given_back before counts h)
    turn-keeps (job.Restart p) runs (s, answers, same, is, rest) stores ends h waits =
        restarted s (answers h.world h.ties.shows)
        (subst (λ (t : Stage). Stores g before t after new) is stores)
      where
        here : p ≡ n
        here = eqb-true p n runs

        still : IsStoreAt given_back before
        still = same-house lent given_back before same h

        refused : (r : Told Global) → (after ≡ before) × (new ≡ stage.Answered r)
            → IsStoreAt last after
        refused r stored =
            ends-still (job.Restart p) before after given_back again last said status settling
            count waits r stored.0
            (subst (λ (s : Stage). Ends again (job.Restart p) s last said status settling count)
            stored.1 ends) still

        restarted : (s : Option State)
            → s ≡ cond (is_node h.world.size.n p) (Some (state_of (h.world.node p).state)) None
            → Stores g before (restart_stage s) after new → IsStoreAt last after
        restarted (Some state.Down) e (r, gives, leads) =
            let found = is-down h.world p e in
            read (job.Restart p) before after given_back again last said status settling
            count waits r here h.world
            (retied start lent given_back h.world (ap (λ (a : HouseView). a.group) same)
            (ap (λ (a : HouseView). a.past) same) h.ties)
            (subst (λ (i : ℕ). (o : Option Entry) × ((h.world.node i).state ≡ part.Down o))
            here found.1) (subst (λ (i : ℕ). is_node h.world.size.n i ≡ true) here found.0)
            (h.contents, h.lasting) h.tail gives
            (subst (λ (s : Stage). Ends again (job.Restart p) s last said status settling count)
            leads ends)
        restarted (Some state.Ready) e stored = refused _ stored
        restarted (Some state.Storing) e stored = refused _ stored
        restarted None e stored = refused _ stored
    turn-keeps (job.Status p) runs (same, is, rest) stores ends h waits =
        let stored = subst (λ (s : Stage). Stores g before s after new) is stores in
        let last_is =
        subst (λ (s : Stage). Ends again (job.Status p) s last said status settling count)
        stored.1 ends in
        same-store last before after stored.0
        (same-house again last before last_is.0
        (waited given_back again before waits (same-house lent given_back before same h)))

    -- ---- a stop inside the turn

    still-left : (house : HouseView) → after ≡ before → IsStoreAt house before
        → LeavesAt house after
    still-left house e h = record {
      world = h.world;
      ties = h.ties;
      left =
          subst (λ (s : S). g.is_clean s → LeavesOf g (h.world.node n) s) (sym e) h.lasting.left;
      tail = subst (λ (s : S). WouldHaveTail g h.world n s) (sym e) h.tail;
    }

    taken-leaves : (p : ℕ) (event : Event) (r : Result (Taken Global) Refusal) → p ≡ n
        → event_node event ≡ p → IsQuiet event → Takes lent.group p event r given_back.group
        → Counts event r lent given_back
        → Stores g before (taken_stage r) after new → IsStoreAt lent before
        → LeavesAt given_back after
    taken-leaves p event (Ok (taken.Same answer)) e f is takes counts stores h =
        still-left given_back stores.0 (quiet lent given_back event _ before is takes counts h)
    taken-leaves p event (Err r) e f is takes counts stores h =
        still-left given_back stores.0 (same-house lent given_back before counts h)
    taken-leaves p event (Ok (taken.Store draft)) e f is takes counts (r, kept, keeps, leads) h =
        let drafts =
        drafts-at lent given_back before event draft (f ∙ e)
        (takes.1 ∙ e) is takes.0 takes.2 counts h in
        record {
          world = drafts.world;
          ties = drafts.ties;
          left = λ clean.
              leaves-draft g (drafts.world.node n) after draft.entry (ap doubt drafts.holds.storing)
              (left-of-draft g (drafts.world.node n) before after draft
              (answer_of r) keeps drafts.store (ap is_down drafts.holds.storing) clean);
          tail = tail-kept g drafts.world n before after draft (answer_of r) keeps drafts.tail;
        }

    -- A stop inside a turn leaves in the store what it may leave of the node.
    pub turn-leaves : (j : Job) → runs_at n j ≡ true → Begins lent j given_back at events
        → Stores g before at after new → IsStoreAt lent before → LeavesAt given_back after
    turn-leaves (job.Submit p client number payload) runs (r, takes, counts, is, rest) stores h =
        taken-leaves p (Submit p (record { client = client; number = number; payload = payload })) r
        (eqb-true p n runs) refl tt takes counts
        (subst (λ (s : Stage). Stores g before s after new) is stores) h
    turn-leaves (job.Arrive p bytes) runs (r, takes, counts, is, rest) stores h =
        taken-leaves p (Arrive p (packet_of bytes.items)) r (eqb-true p n runs) refl tt takes counts
        (subst (λ (s : Stage). Stores g before s after new) is stores) h
    turn-leaves (job.Tick p) runs (Ok packets, ticks, counts, is, rest) stores h =
        still-left given_back (subst (λ (s : Stage). Stores g before s after new) is stores).0
        (quiet lent given_back (Tick p) _ before tt ticks counts h)
    turn-leaves (job.Tick p) runs (Err refused, ticks, counts, is, rest) stores h =
        still-left given_back (subst (λ (s : Stage). Stores g before s after new) is stores).0
        (same-house lent given_back before counts h)
    turn-leaves (job.Crash p) runs (Ok done, crashes, counts, is, rest) stores h =
        still-left given_back (subst (λ (s : Stage). Stores g before s after new) is stores).0
        (quiet lent given_back (Crash p) _ before tt crashes counts h)
    turn-leaves (job.Crash p) runs (Err refused, crashes, counts, is, rest) stores h =
        still-left given_back (subst (λ (s : Stage). Stores g before s after new) is stores).0
        (same-house lent given_back before counts h)
    turn-leaves (job.Restart p) runs (s, answers, same, is, rest) stores h =
        asked s (subst (λ (t : Stage). Stores g before t after new) is stores)
      where
        ties : IsWorldOf start given_back h.world
        ties =
            retied start lent given_back h.world (ap (λ (a : HouseView). a.group) same)
            (ap (λ (a : HouseView). a.past) same) h.ties

        still : after ≡ before → LeavesAt given_back after
        still e = still-left given_back e (same-house lent given_back before same h)

        asked : (s : Option State) → Stores g before (restart_stage s) after new
            → LeavesAt given_back after
        asked (Some state.Down) (r, gives, leads) =
            record {
              world = h.world;
              ties = ties;
              left =
                  asked-still g (h.world.node n) before after (list_in r) gives h.lasting;
              tail = tail-given g h.world n before after (list_in r) gives h.tail;
            }
        asked (Some state.Ready) stored = still stored.0
        asked (Some state.Storing) stored = still stored.0
        asked None stored = still stored.0
    turn-leaves (job.Status p) runs (same, is, rest) stores h =
        still-left given_back (subst (λ (s : Stage). Stores g before s after new) is stores).0
        (same-house lent given_back before same h)
