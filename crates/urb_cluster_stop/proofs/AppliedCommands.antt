-- A command doesn't change the limits of a cluster.
use Rattle.std.proofs.Common.{Bool, Err, None, Ok, Option, Result, Some, List, ap, false, true, ℕ}
use Rattle.std.proofs.Common.{◌≡◌, []}
use Rattle.urb_node.specs.Replies.{Drafted, Refused, Reply, Same, Sent, Stored, Up, WentDown}
use Rattle.urb_stable.specs.Entries.{Entry}
use Rattle.urb_stable.specs.PlacedRecords.{Placed}
use Rattle.urb_stable.specs.declared.stable.Stable.{Ghosts}
use Rattle.urb_stable.specs.declared.stable.StoreFault.{StoreFault}
use Rattle.urb_group.specs.GroupStores.{Clustered, held_draft}
use Rattle.urb_group.specs.ClusterCalls.{Applies, Reacts, RestartsBy, Returns, StoresHeld, is_fallen}
use Rattle.urb_group.specs.ClusterCalls.{stored_as}
use Rattle.urb_group.specs.GroupViews.{GroupView, IsSound}
use Rattle.urb_world.specs.Step.{Event, Restart}
use Rattle.urb_group.specs.declared.command.Command.{Command}
use Rattle.urb_group.specs.declared.command.Command.TheVariants as command
use Rattle.urb_group.proofs.calls.HeldDrafts.{steps-size}

reacts-size : (old new : GroupView) (event : Event) (reply : Reply) → IsSound old
    → Reacts old event reply new → new.size ≡ old.size
reacts-size old new event (Drafted x position) sound steps =
    steps-size old new event (λ told. told ≡ Drafted x position) sound steps
reacts-size old new event (Same answer) sound steps =
    steps-size old new event (λ told. told ≡ Same answer) sound steps
reacts-size old new event (Stored done) sound steps =
    steps-size old new event (λ told. told ≡ Stored done) sound steps
reacts-size old new event (Sent packets) sound steps =
    steps-size old new event (λ told. told ≡ Sent packets) sound steps
reacts-size old new event (WentDown p) sound steps =
    steps-size old new event (λ told. told ≡ WentDown p) sound steps
reacts-size old new event (Up p) sound steps =
    steps-size old new event (λ told. told ≡ Up p) sound steps
reacts-size old new event (Refused refusal) sound refused =
    ap (λ (group : GroupView). group.size) refused.1

returns-size : (old new : GroupView) (p : ℕ) (answer : Result (List Entry) StoreFault)
    (reply : Reply) → IsSound old → Returns old p answer reply new → new.size ≡ old.size
returns-size old new p (Ok image) reply sound reacts =
    reacts-size old new (Restart p image) reply sound reacts
returns-size old new p (Err fault) reply sound same = ap (λ (group : GroupView). group.size) same.1

module _ {S A : Type 0} (g : Ghosts S A) where
  held-size : (old new : Clustered S) (p : ℕ) (reply : Reply) (draft : Option Placed)
      → IsSound old.group → StoresHeld g old p draft reply new → new.group.size ≡ old.group.size
  held-size old new p reply None sound alone = reacts-size old.group new.group _ reply sound alone.0
  held-size old new p reply (Some draft) sound stores =
      steps-size old.group new.group (stored_as draft stores.stored.answer)
      (λ told. told ≡ reply) sound stores.stored.event

  restarts-size : (old new : Clustered S) (p : ℕ) (reply : Reply) (fallen : Bool)
      → IsSound old.group → RestartsBy g fallen old p reply new → new.group.size ≡ old.group.size
  restarts-size old new p reply true sound asks =
      returns-size old.group new.group p asks.reads.answer reply sound asks.reads.returns
  restarts-size old new p reply false sound alone =
      reacts-size old.group new.group _ reply sound (alone []).0

  -- After a command, whatever the reply, the group has the limits that it had before.
  pub applies-size : (old new : Clustered S) (what : Command A) (reply : Reply) → IsSound old.group
      → Applies g old what reply new → new.group.size ≡ old.group.size
  applies-size old new (command.Submit p client number payload) reply sound alone =
      reacts-size old.group new.group _ reply sound alone.0
  applies-size old new (command.Arrive p bytes) reply sound alone =
      reacts-size old.group new.group _ reply sound alone.0
  applies-size old new (command.Tick p) reply sound alone =
      reacts-size old.group new.group _ reply sound alone.0
  applies-size old new (command.Store p) reply sound stores =
      held-size old new p reply (held_draft old.group p) sound stores
  applies-size old new (command.Crash p) reply sound alone =
      reacts-size old.group new.group _ reply sound alone.0
  applies-size old new (command.Restart p) reply sound restarts =
      restarts-size old new p reply (is_fallen old.group p) sound restarts
