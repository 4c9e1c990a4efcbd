-- How the program ends, from its command line to its status.
use Rattle.std.specs.Prelude.{Bool, List, Option, Result, Some, length, map, ℕ, ◌≡◌, ◌⊎◌}
use Rattle.clap.specs.Words.{Text, subcommand_of}
use Rattle.sqlite_wal.specs.Recovery.{Image}
use Rattle.urb_names.specs.LabelsAndContents.{Limits}
use Rattle.urb_stable.specs.AheadStores.{fresh, ghosts_over}
use Rattle.urb_stable.specs.declared.stable.Stable.{Ghosts}
use Rattle.urb_group.specs.GroupViews.{GroupView}
use Rattle.urb_world.specs.World.{World}
use Rattle.urb_sqlite.specs.FoundJournals.{AreFoundIn}
use Rattle.urb_options.specs.CommandLine.{urbd_app}
use Rattle.urb_cli.specs.Statuses.{IsErrandsEnd}
use Rattle.urb_options.specs.Tasks.{IsRefused, task_named, task_of}
use Rattle.urb_options.specs.declared.task.Line.{Line}
use Rattle.urb_options.specs.declared.task.Line.TheVariants as line
use Rattle.urb_daemon.specs.Endings.{ShowsEnd}
use Rattle.urb_daemon.specs.Runs.{limits_of}
use Rattle.urb_daemon.specs.RunsAfterStop.{Resumes}
use Rattle.urb_daemon.specs.RunsAhead.{RanAhead}
use Rattle.urb_daemon.specs.declared.serve_fault.ServeFault.{ServeFault}
use Rattle.urb_folder.specs.OpenedJournals.{AreOfNodes}
use Rattle.urb_folder.specs.StoppedFiles.{HasLeft}

module _ {J A : Type 0} (g : Ghosts J A) (node : J → ℕ) (held : ℕ → Image) where
  -- A group ran over the journals of its folder, one for each node. The opening found in each
  -- journal what its node's files held. The run wrapped each journal in a store that may hold
  -- records ahead of its node. If a stop had left the journals or the files, the group went on from
  -- there. The run then closed the journals as their nodes' turns had left them. Its status, and
  -- these bytes on standard output, show how it ended.
  pub record RanFolder (size : Limits) (new : Option (List ℕ)) (status : ℕ) : Type 0 where
    pub journals : List J
    pub closed : List J
    pub told : Bool
    pub end : Result ℕ ServeFault
    pub before : Option (List ℕ)
    pub count : length journals ≡ size.n
    pub nodes : AreOfNodes node journals
    pub found : AreFoundIn g held journals
    pub ran : RanAhead g size journals told end closed
    pub resumes :
        (old : GroupView) (w : World) → HasLeft held old w size
        → Resumes (ghosts_over g) old w size (map (fresh g) journals) told end ran.lasts
    pub shows : ShowsEnd end before new status

  -- The end of a group, and the bytes of standard output before and after. It never ran: nothing is
  -- written, and the status is 1. Or it ran over its folder's journals.
  abbrev pub EndsServing : Limits → Option (List ℕ) → Option (List ℕ) → ℕ → Type 0
  EndsServing size old new status = ((status ≡ 1) × (new ≡ old)) ⊎ RanFolder size new status

  -- the end of what a command line asks for: a group, or an errand
  abbrev pub EndsLine : Line → ℕ → Type 0
  EndsLine (line.Serve serving) status =
      (old : Option (List ℕ)) × (new : Option (List ℕ))
      × EndsServing (limits_of serving) old new status
  EndsLine (line.Errand errand) status = IsErrandsEnd errand status

  -- the command line with these words was accepted, and what it asks for ended so
  pub record DidLine (words : List Text) (status : ℕ) : Type 0 where
    pub line : Line
    pub asked : task_named (subcommand_of urbd_app words) ≡ Some (task_of line)
    pub ends : EndsLine line status

  -- the end of the program with these words: they were refused, or it did what they ask for
  abbrev pub EndsWords : List Text → ℕ → Type 0
  EndsWords words status = IsRefused words status ⊎ DidLine words status

  -- the end of the program: with the words that it read, or with 1 or 3 if it could read none
  abbrev pub EndsProgram : ℕ → Type 0
  EndsProgram status =
      ((status ≡ 1) ⊎ (status ≡ 3)) ⊎ ((words : List Text) × EndsWords words status)
