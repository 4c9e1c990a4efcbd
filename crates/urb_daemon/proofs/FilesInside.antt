-- Files that a stop left of stores that are inside others with records ahead.
use Rattle.std.proofs.Common.{IsTrue, List, None, Some, [], ap, append_assoc, arith, inl, inr}
use Rattle.std.proofs.Common.{length, nat_lt, refl, slice_get, subst, suc, sym, zero, ℕ}
use Rattle.std.proofs.Common.{⊎_elim, ◌++◌, ◌<◌, ◌∙◌, ◌∷◌, ◌≡◌, ◌≤◌, ◌⊎◌}
use Rattle.std.proofs.lemmas.Bool.{and_from, cases_lt, lt-ltb}
use Rattle.std.proofs.lemmas.List.{get_or_past}
use Rattle.sqlite.specs.Files.{HoldsDatabase}
use Rattle.sqlite_trees.specs.Tree.{Trees}
use Rattle.sqlite_wal.specs.Recovery.{Image}
use Rattle.urb_names.proofs.Places.{get_some}
use Rattle.urb_names.specs.LabelsAndContents.{Limits}
use Rattle.urb_names.specs.Nodes.{is_node}
use Rattle.urb_stable.specs.AheadStores.{AheadView, ghosts_over}
use Rattle.urb_stable.specs.Entries.{Entry}
use Rattle.urb_stable.specs.Records.{pend}
use Rattle.urb_stable.specs.StableStorage.{IsContents}
use Rattle.urb_stable.specs.StoredTogether.{IsContentsOrAll}
use Rattle.urb_stable.specs.declared.stable.Stable.{Ghosts}
use Rattle.urb_node.specs.NodeViews.{no_view}
use Rattle.urb_node.specs.Part.{Node, opened_node}
use Rattle.urb_world.proofs.steps.Growth.{pair-begins}
use Rattle.urb_world.specs.RunInvariant.{AreShort}
use Rattle.urb_world.specs.StoresAhead.{IsAsStored, IsOrStandsFor, MayFollow}
use Rattle.urb_world.specs.World.{World, stored}
use Rattle.urb_group.proofs.stops.StockedPlays.{no-place}
use Rattle.urb_group.specs.GroupViews.{GroupView, IsSound, Shows, view_of}
use Rattle.urb_group.specs.StoreContents.{WouldLeave}
use Rattle.urb_turn.specs.NodeStores.{HaveTails}
use Rattle.urb_sqlite.specs.FoundJournals.{HoldsRecords}
use Rattle.urb_folder.specs.StoppedFiles.{HasLeft, HoldsNode, HoldsStopped}
use Rattle.urb_daemon.proofs.StoresInside.{inside-leaves}
use Rattle.urb_daemon.specs.internal.StoresInside.{LeavesInsideNode, LeavesTail}

-- ---- a beginning of what may follow

-- if a tail may follow some records, so may the first part of that tail
follow-part : (size : Limits) (images : ℕ → List Entry) (p : ℕ) (records given tail : List Entry)
    → MayFollow size images p records (given ++ tail) → MayFollow size images p records given
follow-part size images p records [] tail may = tt
follow-part size images p records (r ∷ given) tail may =
    (may.0, follow-part size images p (records ++ r ∷ []) given tail may.1)

-- a beginning of records with short payloads has short payloads
short-part : (records more : List Entry) → AreShort (pend (records ++ more))
    → AreShort (pend records)
short-part records more short x m e =
    short x m (pair-begins records (records ++ more) (more, refl) x m e)

-- ---- a node for each file

module _ (held : ℕ → Image) (old : GroupView) (w : World) where
  -- a node whose file this is
  abbrev Found : ℕ → Type 0
  Found i = (node : Node) × IsOrStandsFor w (suc i) node × HoldsNode (held (suc i)) node

  -- the file holds the node's records and a tail that may follow them
  stands-for : (i : ℕ) (tail image : List Entry) → IsTrue (is_node w.size.n (suc i))
      → MayFollow w.size (stored w) (suc i) (stored w (suc i)) tail
      → AreShort (pend (stored w (suc i) ++ tail)) → image ≡ stored w (suc i) ++ tail
      → HoldsRecords (held (suc i)) image → Found i
  stands-for i tail image is may short e holds = (
    opened_node (suc i) (stored w (suc i) ++ tail),
    inr (record { is = is; tail = tail; may = may; short = short; opened = refl }),
    (image, e, holds),
  )

  -- If each file is that of such a node, the files are what a stop left. The world that they fit
  -- has these nodes.
  found_files : (limits : Limits) → IsSound old → length old.nodes ≡ old.size.n
      → old.size.n ≤ limits.n → Shows old w → ((i : ℕ) → i < limits.n → Found i)
      → (v : World) × IsAsStored w v × HasLeft held old v limits
  found_files limits sound counted nodes shows found = (
    v,
    stands,
    record {
      sound = sound;
      counted = counted;
      nodes = nodes;
      shown = w;
      shows = shows;
      stands = stands;
      holds = λ i low. picked i (cases_lt i limits.n) low;
    },
  )
    where
      pick : (i : ℕ) → (i < limits.n) ⊎ (limits.n ≤ i) → Node
      pick i (inl low) = (found i low).0
      pick i (inr high) = w.node (suc i)

      node_of : ℕ → Node
      node_of zero = w.node 0
      node_of (suc i) = pick i (cases_lt i limits.n)

      v : World
      v = record { size = w.size; node = node_of; sent = w.sent }

      is_picked : (i : ℕ) (c : (i < limits.n) ⊎ (limits.n ≤ i))
          → IsOrStandsFor w (suc i) (pick i c)
      is_picked i (inl low) = (found i low).1
      is_picked i (inr high) = inl refl

      picked : (i : ℕ) (c : (i < limits.n) ⊎ (limits.n ≤ i)) → i < limits.n
          → HoldsNode (held (suc i)) (pick i c)
      picked i (inl low) less = (found i low).2
      picked i (inr high) less = absurd (omega (arith, high, less))

      stands : IsAsStored w v
      stands = record { size = refl; nodes = each }
        where
          each : (p : ℕ) → IsOrStandsFor w p (node_of p)
          each zero = inl refl
          each (suc i) = is_picked i (cases_lt i limits.n)

-- ---- the files

-- Each file holds what a stop left of a store inside another one. It may leave that of its node, or
-- of the node as its store has it. There is a store for each node of the group.
pub inside_files : {S A : Type 0} (g : Ghosts S A) (w : World) (stores : List (AheadView S))
    → WouldLeave (ghosts_over g) w stores → HaveTails (ghosts_over g) w stores
    → (may_leave : S → Trees → Type 0)
    → ((j : S) (P : List Entry → Type 0) → g.leaves_only j P → (image : Image) (db : Trees)
    → may_leave j db → HoldsDatabase image db
    → (records : List Entry) × P records × HoldsRecords image records)
    → (held : ℕ → Image) (old : GroupView) (limits : Limits)
    → IsSound old → length old.nodes ≡ old.size.n → old.size.n ≤ limits.n → Shows old w
    → length old.nodes ≡ length stores
    → ((i : ℕ) (s : AheadView S) → slice_get stores i ≡ Some s
    → HoldsStopped (g.is_clean s.store) (may_leave s.store) (held (suc i)))
    → ((i : ℕ) → length stores ≤ i → i < limits.n → HoldsRecords (held (suc i)) [])
    → (v : World) × IsAsStored w v × HasLeft held old v limits
inside_files {S} g w stores would tails may_leave leaves held old limits sound counted nodes
    shows places stopped none =
    found_files held old w limits sound counted nodes shows found
  where
    tailed : (i : ℕ) (j : S) → IsTrue (is_node w.size.n (suc i))
        → HoldsStopped (g.is_clean j) (may_leave j) (held (suc i)) → LeavesTail g w (suc i) j
        → Found held old w i
    tailed i j is it of = ⊎_elim exact either of.only
      where
        records : List Entry
        records = stored w (suc i)

        -- the records, those given out after them, and the tail
        whole : (image : List Entry) → image ≡ (records ++ of.given) ++ of.tail
            → HoldsRecords (held (suc i)) image → Found held old w i
        whole image e holds =
            stands-for held old w i (of.given ++ of.tail) image is of.may of.short
            (e ∙ append_assoc records of.given of.tail) holds

        -- just those before the tail
        part : (image : List Entry) → image ≡ records ++ of.given
            → HoldsRecords (held (suc i)) image → Found held old w i
        part image e holds =
            stands-for held old w i of.given image is
            (follow-part w.size (stored w) (suc i) records of.given of.tail of.may)
            (short-part (records ++ of.given) of.tail
            (subst (λ (rs : List Entry). AreShort (pend rs))
            (sym (append_assoc records of.given of.tail)) of.short))
            e holds

        exact : g.leaves_only j (IsContents ((records ++ of.given) ++ of.tail) None)
            → Found held old w i
        exact only =
            let has =
            leaves j (IsContents ((records ++ of.given) ++ of.tail) None) only (held (suc i)) it.db
            it.may it.holds in
            whole has.0 has.1 has.2

        either : g.leaves_only j (IsContentsOrAll of.tail (records ++ of.given) None)
            → Found held old w i
        either only =
            let has =
            leaves j (IsContentsOrAll of.tail (records ++ of.given) None) only (held (suc i)) it.db
            it.may it.holds in
            ⊎_elim (λ e. part has.0 e has.2) (λ e. whole has.0 e has.2) has.1

    one : (i : ℕ) (j : S) → IsTrue (is_node w.size.n (suc i))
        → HoldsStopped (g.is_clean j) (may_leave j) (held (suc i)) → LeavesInsideNode g w (suc i) j
        → Found held old w i
    one i j is it (inl of) =
        let has =
        leaves j (IsContents of.certain of.doubtful) of.only (held (suc i)) it.db it.may it.holds in
        (w.node (suc i), inl refl, (has.0, of.may has.0 has.1, has.2))
    one i j is it (inr of) = tailed i j is it of

    is_one : (i : ℕ) → i < length stores → IsTrue (is_node w.size.n (suc i))
    is_one i less =
        let size : old.size.n ≡ w.size.n = ap (λ (l : Limits). l.n) shows.size in
        and_from (nat_lt 0 (suc i)) (nat_lt (suc i) (suc w.size.n))
        (lt-ltb 0 (suc i) (omega arith))
        (lt-ltb (suc i) (suc w.size.n) (omega (arith, less, places, counted, size)))

    found : (i : ℕ) → i < limits.n → Found held old w i
    found i low = ⊎_elim within past (cases_lt i (length stores))
      where
        within : i < length stores → Found held old w i
        within less =
            let s = get_some stores i less in
            let it = stopped i s.0 s.1 in
            one i s.0.store (is_one i less) it
            (inside-leaves g w (suc i) s.0 it.clean (would i s.0 s.1 it.clean) (tails i s.0 s.1))

        past : length stores ≤ i → Found held old w i
        past more =
            let beyond : length old.nodes ≤ i = omega (arith, places, more) in
            let view : view_of old (suc i) ≡ no_view = get_or_past old.nodes i no_view beyond in
            (w.node (suc i), inl refl, ([], no-place old w (suc i) shows view, none i more low))
