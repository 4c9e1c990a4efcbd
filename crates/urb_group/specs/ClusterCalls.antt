-- What each call of a cluster does.
use Rattle.std.specs.Prelude.{Bool, Err, List, None, Ok, Option, Result, Some, false, length}
use Rattle.std.specs.Prelude.{slice_get, slice_set, true, ℕ, ◌+◌, ◌&&◌, ◌-◌, ◌≡◌, ◌⊎◌}
use Rattle.urb_names.specs.LabelsAndContents.{Limits}
use Rattle.urb_names.specs.Nodes.{is_node}
use Rattle.urb_names.specs.PacketGrammar.{packet_of}
use Rattle.urb_names.specs.declared.refusal.NoMemory.{NoMemory}
use Rattle.urb_stable.specs.Entries.{Entry}
use Rattle.urb_stable.specs.KeptDrafts.{Keeps}
use Rattle.urb_stable.specs.MemoryStores.{Memory, after_failure, armed_with, without_memory}
use Rattle.urb_stable.specs.PlacedRecords.{Placed}
use Rattle.urb_stable.specs.StableStorage.{is_out_of_place, refusal_of}
use Rattle.urb_stable.specs.declared.memory.Failure.{Failure}
use Rattle.urb_stable.specs.declared.memory.Failure.TheVariants as failure
use Rattle.urb_stable.specs.declared.stable.Stable.{Ghosts}
use Rattle.urb_stable.specs.declared.stable.StoreFault.{StoreFault}
use Rattle.urb_node.specs.Replies.{Drafted, Refused, Reply, Same, Sent, Stored, Up, WentDown}
use Rattle.urb_node.specs.Steps.{is_down}
use Rattle.urb_stable.specs.RetrievedRecords.{Gives}
use Rattle.urb_group.specs.GroupCalls.{IsRefused, Steps}
use Rattle.urb_group.specs.GroupStores.{Clustered, held_draft}
use Rattle.urb_group.specs.GroupViews.{GroupView, Shows, view_of}
use Rattle.urb_world.specs.Step.{Arrive, Commit, Crash, Event, Fail, Restart, Submit, Tick}
use Rattle.urb_world.specs.World.{started}
use Rattle.urb_group.specs.declared.command.Command.{Command}
use Rattle.urb_group.specs.declared.command.Command.TheVariants as command

-- The event happened in every world that the group showed, with this reply; or it is refused, and
-- nothing changed.
abbrev pub Reacts : GroupView → Event → Reply → GroupView → Type 0
Reacts old event (Drafted x position) new = Steps old event (λ told. told ≡ Drafted x position) new
Reacts old event (Same answer) new = Steps old event (λ told. told ≡ Same answer) new
Reacts old event (Stored done) new = Steps old event (λ told. told ≡ Stored done) new
Reacts old event (Sent packets) new = Steps old event (λ told. told ≡ Sent packets) new
Reacts old event (WentDown p) new = Steps old event (λ told. told ≡ WentDown p) new
Reacts old event (Up p) new = Steps old event (λ told. told ≡ Up p) new
Reacts old event (Refused refusal) new = IsRefused old event refusal new

-- an event that asks no store
abbrev pub Alone : {S : Type 0} → Clustered S → Event → Reply → Clustered S → Type 0
Alone old event reply new = Reacts old.group event reply new.group × (new.stores ≡ old.stores)

-- node p's store goes from before to after, and the other stores stay
pub record StoreMoves {S : Type 0} (old : List S) (p : ℕ) (before after : S)
    (new : List S) : Type 0 where
  pub was : slice_get old (p - 1) ≡ Some before
  pub is : new ≡ slice_set old (p - 1) after

-- The event for a draft, depending on the store's answer: the draft is stored if the store took it,
-- and otherwise its store failed.
abbrev pub stored_as : Placed → Result (Unit {0}) StoreFault → Event
stored_as draft (Ok done) = Commit draft.node draft.pos draft.entry
stored_as draft (Err fault) = Fail draft.node

-- whether the group has a node p that is down
abbrev pub is_fallen : GroupView → ℕ → Bool
is_fallen group p = is_node group.size.n p && is_down (view_of group p).state

-- The result of a restart of p, depending on what its store gave. It is the event with these
-- records; or a refusal with the store's fault, which is no event.
abbrev pub Returns : GroupView → ℕ → Result (List Entry) StoreFault → Reply → GroupView → Type 0
Returns old p (Ok image) reply new = Reacts old (Restart p image) reply new
Returns old p (Err fault) reply new = (reply ≡ Refused (refusal_of fault)) × (new ≡ old)

module _ {S A : Type 0} (g : Ghosts S A) where
  -- A held draft went to its node's store. The store's answer makes the event, and it happened.
  pub record Stores (old : GroupView) (before : S) (draft : Placed) (reply : Reply)
      (new : GroupView) (after : S) : Type 0 where
    pub answer : Result (Unit {0}) StoreFault
    pub keeps : Keeps g before draft answer after
    pub event : Steps old (stored_as draft answer) (λ told. told ≡ reply) new

  -- the draft went to its node's store in this way, and the other stores stay
  pub record StoresDraft (old : Clustered S) (draft : Placed) (reply : Reply)
      (new : Clustered S) : Type 0 where
    pub before : S
    pub after : S
    pub moves : StoreMoves old.stores draft.node before after new.stores
    pub stored : Stores old.group before draft reply new.group after

  -- If p holds no draft, its store is not asked, and the refusal is that of a failed store.
  abbrev pub StoresHeld : Clustered S → ℕ → Option Placed → Reply → Clustered S → Type 0
  StoresHeld old p None reply new = Alone old (Fail p) reply new
  StoresHeld old p (Some draft) reply new = StoresDraft old draft reply new

  -- p's store was asked for its records, and this is the result
  pub record Reads (old : GroupView) (before : S) (p : ℕ) (reply : Reply) (new : GroupView)
      (after : S) : Type 0 where
    pub answer : Result (List Entry) StoreFault
    pub gives : Gives g before answer after
    pub returns : Returns old p answer reply new

  -- p's store was asked in this way, and the other stores stay
  pub record AsksStore (old : Clustered S) (p : ℕ) (reply : Reply)
      (new : Clustered S) : Type 0 where
    pub before : S
    pub after : S
    pub moves : StoreMoves old.stores p before after new.stores
    pub reads : Reads old.group before p reply new.group after

  -- If p is no node, or isn't down, its store is not asked. The restart is refused, whatever its
  -- records are.
  abbrev pub RestartsBy : Bool → Clustered S → ℕ → Reply → Clustered S → Type 0
  RestartsBy false old p reply new = (image : List Entry) → Alone old (Restart p image) reply new
  RestartsBy true old p reply new = AsksStore old p reply new

  -- a command, by its kind
  abbrev pub Applies : Clustered S → Command A → Reply → Clustered S → Type 0
  Applies old (command.Submit p client number payload) reply new =
      Alone old (Submit p (record { client = client; number = number; payload = payload }))
      reply new
  Applies old (command.Arrive p bytes) reply new =
      Alone old (Arrive p (packet_of bytes.items)) reply new
  Applies old (command.Tick p) reply new = Alone old (Tick p) reply new
  Applies old (command.Store p) reply new = StoresHeld old p (held_draft old.group p) reply new
  Applies old (command.Crash p) reply new = Alone old (Crash p) reply new
  Applies old (command.Restart p) reply new = RestartsBy (is_fallen old.group p) old p reply new

-- A new cluster shows the new world, over these stores. If memory is refused, the stores are
-- returned.
abbrev pub Starts : {S T : Type 0} → Limits → List S → T → Result (Clustered S) (T × NoMemory)
    → Type 0
Starts size stores passed (Ok cluster) =
    Shows cluster.group (started size) × (cluster.stores ≡ stores)
Starts size stores passed (Err e) = e.0 ≡ passed

-- A store in memory was armed with this failure, and then asked to store a record. If the record
-- was out of place, the store is as before. If the failure is Old, the store holds nothing of the
-- record. If it is New, the store holds the record in doubt, or nothing of it if no memory was
-- left. The count of failures doesn't rise if it is at its greatest value.
abbrev pub Breaks : Bool → Failure → Memory → Entry → Memory → Type 0
Breaks true failure m entry after = after ≡ m
Breaks false failure.Old m entry after = (after ≡ after_failure None m) ⊎ (after ≡ without_memory m)
Breaks false failure.New m entry after =
    (after ≡ after_failure (Some entry) m) ⊎ (after ≡ without_memory m)

-- the store was armed with this failure, and then asked to keep the draft
abbrev pub BreaksArmed : Failure → Memory → Placed → Memory → Type 0
BreaksArmed failure m draft after =
    Breaks (is_out_of_place m.doubtful (length m.certain + 1) draft.pos) failure
    (armed_with failure m) draft.entry after

-- the store of a held draft failed in this way, and that is the event
pub record FailsDraft (old : Clustered Memory) (draft : Placed) (failure : Failure) (reply : Reply)
    (new : Clustered Memory) : Type 0 where
  pub before : Memory
  pub after : Memory
  pub moves : StoreMoves old.stores draft.node before after new.stores
  pub breaks : BreaksArmed failure before draft after
  pub event : Steps old.group (Fail draft.node) (λ told. told ≡ reply) new.group

-- If p holds no draft, nothing is armed, and the refusal is that of a failed store.
abbrev pub FailsHeld : Clustered Memory → ℕ → Option Placed → Failure → Reply → Clustered Memory
    → Type 0
FailsHeld old p None failure reply new = Alone old (Fail p) reply new
FailsHeld old p (Some draft) failure reply new = FailsDraft old draft failure reply new
