-- Commands count as what their events count as. So two rounds that are played deliver.
use Rattle.urb_group.proofs.Common.{AreEvents, At_end, Bool, By_event, By_none, Command, Event}
use Rattle.urb_group.proofs.Common.{GroupView, IsEventOf, IsUnread, Limits, List, Runs, World, []}
use Rattle.urb_group.proofs.Common.{ap, is_node, refl, subst, sym, ℕ, ⊎_elim, ◌++◌, ◌∙◌, ◌∷◌, ◌≡◌}
use Rattle.urb_world.proofs.rounds.LastingCounts.{run-size}
use Rattle.urb_world.proofs.rounds.FairRounds.{two-busy-rounds, two-rounds}
use Rattle.urb_group.specs.PlayedRounds.{IsPlayedBusyRound, IsPlayedRound, act_of_command}
use Rattle.urb_world.specs.RecoveredWorlds.{AllDelivered, IsNotStranded}
use Rattle.urb_world.specs.RecoveryPlans.{after}
use Rattle.urb_world.specs.Rounds.{Act, AllUp, IsBusyRound, IsBusyRoundAmong, IsRound, IsRoundAmong}
use Rattle.urb_world.specs.Rounds.{ReadyHaveDelivered, act_of, acts_by, acts_of, disturbance}
use Rattle.urb_world.specs.Step.{IsReached}
use Rattle.urb_node.specs.Replies.{Reply}
use Rattle.urb_group.specs.declared.command.Command.TheVariants as command

module _ {A : Type 0} where
  -- a command and its event
  same-act : (what : Command A) (event : Event) (reply : Reply) → IsEventOf what event
      → act_of_command what reply ≡ act_of event reply
  same-act (command.Store p) event reply h =
      ⊎_elim (λ k. ap (λ (e : Event). act_of e reply) (sym k.2))
      (λ k. ap (λ (e : Event). act_of e reply) (sym k)) h
  same-act (command.Restart p) event reply h = ap (λ (e : Event). act_of e reply) (sym h.1)
  same-act what event reply h = ap (λ (e : Event). act_of e reply) (sym h)

  -- a restart whose store gave no records
  unread-act : (what : Command A) (reply : Reply) → IsUnread what reply
      → act_of_command what reply ≡ []
  unread-act (command.Restart p) reply h = ap disturbance h.1
  unread-act what reply h = absurd h

  no-replies : (commands : List (Command A)) → acts_by act_of_command commands [] ≡ []
  no-replies [] = refl
  no-replies (what ∷ commands) = refl

  same-acts : (commands : List (Command A)) (replies : List Reply) (events : List Event)
      (seen : List Reply) → AreEvents commands replies events seen
      → acts_by act_of_command commands replies ≡ acts_by act_of events seen
  same-acts _ _ _ _ (At_end commands) = no-replies commands
  same-acts _ _ _ _ (By_event what commands reply replies event events seen is are) =
      ap (λ (first : List Act). first ++ acts_by act_of_command commands replies)
      (same-act what event reply is)
      ∙ ap (λ (rest : List Act). act_of event reply ++ rest)
      (same-acts commands replies events seen are)
  same-acts _ _ _ _ (By_none what commands reply replies events seen unread are) =
      ap (λ (first : List Act). first ++ acts_by act_of_command commands replies)
      (unread-act what reply unread) ∙ same-acts commands replies events seen are

  -- the events of commands that were played
  module _ (w : World) (commands : List (Command A)) (replies : List Reply) (new : GroupView)
      (runs : Runs w commands replies new) where
    leads : after w runs.events ≡ runs.after
    leads = ap (λ (o : List Reply × World). o.1) runs.ran

    same : acts_of w runs.events ≡ acts_by act_of_command commands replies
    same =
        ap (λ (o : List Reply × World). acts_by act_of runs.events o.0) runs.ran
        ∙ sym (same-acts commands replies runs.events runs.seen runs.are)

    same-size : runs.after.size ≡ w.size
    same-size = sym (ap (λ (v : World). v.size) leads) ∙ run-size runs.events w

    -- what holds of the replies holds of the events
    played : (P : (ℕ → Bool) → List Act → World → Type 0)
        → P (is_node runs.after.size.n) (acts_by act_of_command commands replies) runs.after
        → P (is_node w.size.n) (acts_of w runs.events) (after w runs.events)
    played P h =
        subst (λ (size : Limits). P (is_node size.n) (acts_of w runs.events) (after w runs.events))
        same-size
        (subst (λ (list : List Act). P (is_node runs.after.size.n) list (after w runs.events))
        (sym same)
        (subst (λ (v : World). P (is_node runs.after.size.n)
        (acts_by act_of_command commands replies) v) (sym leads) h))

  -- two lists of commands that were played, one after the other
  module _ (w : World) (first second : List (Command A)) (told answers : List Reply)
      (then last : GroupView) (one : Runs w first told then) (two : Runs one.after second answers last)
    where
      at : after w one.events ≡ one.after
      at = leads w first told then one

      ends : after (after w one.events) two.events ≡ two.after
      ends =
          ap (λ (v : World). after v two.events) at ∙ leads one.after second answers last two

      -- after two rounds that are played, each node has delivered all messages that storages took
      pub played-deliver : IsReached w → IsNotStranded w → AllUp w → IsPlayedRound first told one.after
          → IsPlayedRound second answers two.after → AllDelivered two.after
      played-deliver reached free up a b =
          subst AllDelivered ends
          (two-rounds w one.events two.events reached free up
          (played w first told then one IsRoundAmong a)
          (subst (λ (v : World). IsRound v two.events) (sym at)
          (played one.after second answers last two IsRoundAmong b)))

      -- after two busy rounds that are played, each ready node has delivered all messages that were
      -- stored before
      pub played-busy : IsReached w → IsNotStranded w → AllUp w
          → IsPlayedBusyRound first told one.after → IsPlayedBusyRound second answers two.after
          → ReadyHaveDelivered w two.after
      played-busy reached free up a b =
          subst (ReadyHaveDelivered w) ends
          (two-busy-rounds w one.events two.events reached free up
          (played w first told then one IsBusyRoundAmong a)
          (subst (λ (v : World). IsBusyRound v two.events) (sym at)
          (played one.after second answers last two IsBusyRoundAmong b)))
