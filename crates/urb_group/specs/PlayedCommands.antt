-- What playing commands does.
use Rattle.std.specs.Prelude.{Err, List, Ok, Result, Some, Vec, [], false, length, map, slice_get}
use Rattle.std.specs.Prelude.{◌∷◌, ◌≡◌, ◌⊎◌}
use Rattle.urb_names.specs.declared.refusal.NoMemory.{NoMemory}
use Rattle.urb_names.specs.declared.refusal.Refusal.TheVariants as refusal
use Rattle.urb_stable.specs.declared.stable.Stable.{Ghosts}
use Rattle.urb_node.specs.Replies as told
use Rattle.urb_group.specs.GroupStores.{Clustered}
use Rattle.urb_group.specs.ClusterCalls.{Applies}
use Rattle.urb_group.specs.Commands.{AreEvents, is_no_memory, reply_of}
use Rattle.urb_world.specs.RunMoments.{AgreeInTime, EntriesGrow}
use Rattle.urb_group.specs.GroupViews.{GroupView, Shows}
use Rattle.urb_world.specs.Step.{Event, Run}
use Rattle.urb_world.specs.TruthfulPackets.{ToldTruth}
use Rattle.urb_world.specs.World.{World}
use Rattle.urb_group.specs.declared.command.Command.{Command}
use Rattle.urb_group.specs.declared.reply.Reply.{Reply}

module _ {S A : Type 0} (g : Ghosts S A) where
  -- The first commands, one for each reply, were applied one after the other. None of them was
  -- refused for memory.
  abbrev pub Follows : Clustered S → List (Command A) → List (Reply A) → Clustered S → Type 0
  Follows old commands [] new = new ≡ old
  Follows old [] (reply ∷ replies) new = ⊥
  Follows old (command ∷ commands) (reply ∷ replies) new =
      (next : Clustered S) × Applies g old command (reply_of reply) next
      × (is_no_memory reply ≡ false) × Follows next commands replies new

  -- The first commands, one for each reply, were applied. The next command was not applied, or it
  -- was refused for memory.
  pub record EndsEarly (old : Clustered S) (commands : List (Command A)) (replies : List (Reply A))
      (new : Clustered S) : Type 0 where
    pub last : Clustered S
    pub command : Command A
    pub follows : Follows old commands replies last
    pub behind : slice_get commands (length replies) ≡ Some command
    pub refused : (new ≡ last) ⊎ Applies g last command (told.Refused refusal.NoMemory) new

  -- All commands were applied, or, if memory was refused, the first ones.
  abbrev pub Plays : Clustered S → List (Command A)
      → Result (Vec (Reply A) A) (Vec (Reply A) A × NoMemory) → Clustered S → Type 0
  Plays old commands (Ok replies) new =
      Follows old commands replies.items new × (length replies.items ≡ length commands)
  Plays old commands (Err e) new = EndsEarly old commands e.0.items new

-- Commands were played, with these replies. From this world, their events and replies are a run to
-- a world that the group shows then. Each packet of a reply is truthful in that world. Logs only
-- grew, and they agree at both ends.
pub record Runs {A : Type 0} (w : World) (commands : List (Command A)) (replies : List told.Reply)
    (new : GroupView) : Type 0 where
  pub events : List Event
  pub seen : List told.Reply
  pub after : World
  pub are : AreEvents commands replies events seen
  pub ran : Run w events seen after
  pub shows : Shows new after
  pub truth : ToldTruth after replies
  pub grow : EntriesGrow w after
  pub agree : AgreeInTime w after

-- the replies that were returned
abbrev pub told_in : {A : Type 0} → Result (Vec (Reply A) A) (Vec (Reply A) A × NoMemory)
    → List told.Reply
told_in (Ok replies) = map reply_of replies.items
told_in (Err e) = map reply_of e.0.items
