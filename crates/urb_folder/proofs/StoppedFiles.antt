-- Journals that were opened in the files that a stop had left.
use Rattle.urb_folder.proofs.Common.{All, Entry, Ghosts, GroupView, HasStopped, Image, IsContents}
use Rattle.urb_folder.proofs.Common.{IsKnown, Limits, List, Node, None, Option, Some, World, []}
use Rattle.urb_folder.proofs.Common.{arith, get_or_from_slice_get, get_some, inl, inr, length, refl}
use Rattle.urb_folder.proofs.Common.{slice_get, subst, suc, sym, zero, ℕ, ⊎_elim, ◌++◌, ◌<◌, ◌∙◌}
use Rattle.urb_folder.proofs.Common.{◌≡◌, ◌≤◌, ◌⊎◌}
use Rattle.std.proofs.lemmas.Bool.{cases_lt}
use Rattle.std.proofs.lemmas.List.{get_or_past}
use Rattle.std.proofs.lemmas.Option.{slice_get_within}
use Rattle.sqlite.specs.Files.{HoldsDatabase}
use Rattle.sqlite_trees.specs.Tree.{Trees}
use Rattle.urb_stable.specs.StoredTogether.{IsContentsOrAll}
use Rattle.urb_node.specs.Part.{opened_node}
use Rattle.urb_node.specs.Steps.{doubt}
use Rattle.urb_node.specs.NodeViews.{no_view}
use Rattle.urb_group.specs.GroupViews.{IsSound, Shows, view_of}
use Rattle.urb_world.specs.ProcessStops.{MayLeave}
use Rattle.urb_group.specs.StoreContents.{LeavesAhead, LeavesTogether, WouldLeave, WouldLeaveAhead}
use Rattle.urb_world.specs.StoresAhead.{IsAsStored, IsOrStandsFor}
use Rattle.urb_world.specs.World.{stored}
use Rattle.urb_sqlite.proofs.FoundRecords.{found_as_held}
use Rattle.urb_sqlite.specs.FoundJournals.{AreFoundIn, HoldsRecords}
use Rattle.urb_folder.specs.StoppedFiles.{HasLeft, HoldsNode, HoldsStopped}
use Rattle.urb_group.proofs.stops.StockedPlays.{no-place}
use Rattle.urb_group.proofs.stops.StoredWorlds.{as-itself, certain-contents}

-- The journals' storages are clean while they are honest, and no record is in doubt.
module _ {S A : Type 0} (g : Ghosts S A) (cleans : (j : S) → g.is_honest j → g.is_clean j)
    (sure : (j : S) → g.doubt j ≡ None) (held : ℕ → Image) (old : GroupView) (w : World)
    (limits : Limits) (journals : List S) (count : length journals ≡ limits.n)
    (found : AreFoundIn g held journals) (left : HasLeft held old w limits) where
  -- there is such a place
  low : (i : ℕ) (journal : S) → slice_get journals i ≡ Some journal → i < limits.n
  low i journal got =
      let below = slice_get_within journals i journal got in
      omega (arith, below, count)

  -- a clean journal is honest, and holds what the stop left
  one : (i : ℕ) (journal : S) (got : slice_get journals i ≡ Some journal) → g.is_clean journal
      → g.is_honest journal × (g.certain journal ≡ (left.holds i (low i journal got)).0)
  one i journal got clean =
      let holds = left.holds i (low i journal got) in
      found_as_held (held (suc i)) (g.is_clean journal) (g.is_honest journal) (g.certain journal)
      holds.0 (found i journal got) holds.2 clean

  -- the journals hold what the stop left
  pub stopped_files : HasStopped g old w limits journals
  stopped_files =
      record {
        sound = left.sound;
        counted = left.counted;
        nodes = left.nodes;
        shown = left.shown;
        shows = left.shows;
        stands = left.stands;
        holds = λ i journal got honest records contents.
            (let it = one i journal got (cleans journal honest) in
            let certain : records ≡ g.certain journal =
            subst (λ (o : Option Entry). IsContents (g.certain journal) o records) (sure journal)
            contents in
            subst (λ (rs : List Entry). MayLeave (w.node (suc i)) rs) (sym (certain ∙ it.1))
            (left.holds i (low i journal got)).1);
      }

  -- each of them is honest as long as its disk returns what was written
  pub known_files : All (IsKnown g) journals
  known_files = λ k d below.
      (let place = get_some journals k below in
      subst (λ (j : S). IsKnown g j) (sym (get_or_from_slice_get journals k place.0 d place.1))
      (λ clean. inl (one k place.0 place.1 clean).0))

-- ---- the files that a stop left

-- Each file holds what a stop may leave of its node. What a stop left of a store, and the files
-- hold, has the records that the store would leave.
pub left_files : {S A : Type 0} (g : Ghosts S A) (may_leave : S → Trees → Type 0)
    (leaves : (j : S) (P : List Entry → Type 0) → g.leaves_only j P → (image : Image) (db : Trees)
    → may_leave j db → HoldsDatabase image db
    → (records : List Entry) × P records × HoldsRecords image records)
    (held : ℕ → Image) (old : GroupView) (w : World) (limits : Limits) (journals : List S)
    → IsSound old → length old.nodes ≡ old.size.n → old.size.n ≤ limits.n → Shows old w
    → length old.nodes ≤ length journals → WouldLeave g w journals
    → ((i : ℕ) (j : S) → slice_get journals i ≡ Some j
    → HoldsStopped (g.is_clean j) (may_leave j) (held (suc i)))
    → ((i : ℕ) → length journals ≤ i → i < limits.n → HoldsRecords (held (suc i)) [])
    → HasLeft held old w limits
left_files {S} g may_leave leaves held old w limits journals sound counted nodes shows places would
    stopped none =
    record {
      sound = sound;
      counted = counted;
      nodes = nodes;
      shown = w;
      shows = shows;
      stands = as-itself w;
      holds = holds;
    }
  where
    holds : (i : ℕ) → i < limits.n → HoldsNode (held (suc i)) (w.node (suc i))
    holds i low = ⊎_elim within past (cases_lt i (length journals))
      where
        within : i < length journals → HoldsNode (held (suc i)) (w.node (suc i))
        within less =
            let j = get_some journals i less in
            let it = stopped i j.0 j.1 in
            let of = would i j.0 j.1 it.clean in
            let has =
            leaves j.0 (IsContents of.certain of.doubtful) of.only (held (suc i)) it.db it.may
            it.holds in
            (has.0, of.may has.0 has.1, has.2)

        past : length journals ≤ i → HoldsNode (held (suc i)) (w.node (suc i))
        past more =
            let beyond : length old.nodes ≤ i = omega (arith, places, more) in
            let view : view_of old (suc i) ≡ no_view = get_or_past old.nodes i no_view beyond in
            ([], no-place old w (suc i) shows view, none i more low)

-- ---- the files that a stop left of stores that hold records ahead

-- Each file holds what a stop may leave of its node as its store has it.
pub ahead_files : {S A : Type 0} (g : Ghosts S A) (may_leave : S → Trees → Type 0)
    (leaves : (j : S) (P : List Entry → Type 0) → g.leaves_only j P → (image : Image) (db : Trees)
    → may_leave j db → HoldsDatabase image db
    → (records : List Entry) × P records × HoldsRecords image records)
    (held : ℕ → Image) (old : GroupView) (w : World) (limits : Limits) (journals : List S)
    → IsSound old → length old.nodes ≡ old.size.n → old.size.n ≤ limits.n → Shows old w
    → length old.nodes ≤ length journals → WouldLeaveAhead g w journals
    → ((i : ℕ) (j : S) → slice_get journals i ≡ Some j
    → HoldsStopped (g.is_clean j) (may_leave j) (held (suc i)))
    → ((i : ℕ) → length journals ≤ i → i < limits.n → HoldsRecords (held (suc i)) [])
    → (v : World) × IsAsStored w v × HasLeft held old v limits
ahead_files {S} g may_leave leaves held old w limits journals sound counted nodes shows places would
    stopped none = (
      v,
      stands,
      record {
        sound = sound;
        counted = counted;
        nodes = nodes;
        shown = w;
        shows = shows;
        stands = stands;
        holds = λ i low. picked i (cases_lt i limits.n) low;
      },
    )
  where
    -- a node whose file this is
    Found : ℕ → Type 0
    Found i = (node : Node) × IsOrStandsFor w (suc i) node × HoldsNode (held (suc i)) node

    together : (i : ℕ) (j : S) → HoldsStopped (g.is_clean j) (may_leave j) (held (suc i))
        → LeavesTogether g w (suc i) j → Found i
    together i j it of =
        let has =
        leaves j (IsContentsOrAll of.tail (stored w (suc i)) None) of.only (held (suc i)) it.db
        it.may it.holds in
        ⊎_elim (λ same. (
          w.node (suc i),
          inl refl,
          (
            has.0,
            certain-contents (stored w (suc i)) (doubt (w.node (suc i)).state) has.0 same,
            has.2,
          ),
        ))
        (λ all. (
          opened_node (suc i) (stored w (suc i) ++ of.tail),
          inr (record {
            is = of.is;
            tail = of.tail;
            may = of.may;
            short = of.short;
            opened = refl;
          }),
          (has.0, all, has.2),
        )) has.1

    one : (i : ℕ) (j : S) → HoldsStopped (g.is_clean j) (may_leave j) (held (suc i))
        → LeavesAhead g w (suc i) j → Found i
    one i j it (inl of) = together i j it of
    one i j it (inr (node, is, of)) =
        let has =
        leaves j (IsContents of.certain of.doubtful) of.only (held (suc i)) it.db it.may it.holds in
        (node, is, (has.0, of.may has.0 has.1, has.2))

    found : (i : ℕ) → i < limits.n → Found i
    found i low = ⊎_elim within past (cases_lt i (length journals))
      where
        within : i < length journals → Found i
        within less =
            let j = get_some journals i less in
            let it = stopped i j.0 j.1 in
            one i j.0 it (would i j.0 j.1 it.clean)

        past : length journals ≤ i → Found i
        past more =
            let beyond : length old.nodes ≤ i = omega (arith, places, more) in
            let view : view_of old (suc i) ≡ no_view = get_or_past old.nodes i no_view beyond in
            (w.node (suc i), inl refl, ([], no-place old w (suc i) shows view, none i more low))

    pick : (i : ℕ) → (i < limits.n) ⊎ (limits.n ≤ i) → Node
    pick i (inl low) = (found i low).0
    pick i (inr high) = w.node (suc i)

    node_of : ℕ → Node
    node_of zero = w.node 0
    node_of (suc i) = pick i (cases_lt i limits.n)

    v : World
    v = record { size = w.size; node = node_of; sent = w.sent }

    is_picked : (i : ℕ) (c : (i < limits.n) ⊎ (limits.n ≤ i)) → IsOrStandsFor w (suc i) (pick i c)
    is_picked i (inl low) = (found i low).1
    is_picked i (inr high) = inl refl

    picked : (i : ℕ) (c : (i < limits.n) ⊎ (limits.n ≤ i)) → i < limits.n
        → HoldsNode (held (suc i)) (pick i c)
    picked i (inl low) less = (found i low).2
    picked i (inr high) less = absurd (omega (arith, high, less))

    stands : IsAsStored w v
    stands = record { size = refl; nodes = each }
      where
        each : (p : ℕ) → IsOrStandsFor w p (node_of p)
        each zero = inl refl
        each (suc i) = is_picked i (cases_lt i limits.n)
