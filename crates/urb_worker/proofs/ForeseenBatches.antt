-- What is foreseen of a batch if memory was refused for the list of its calls.
use Rattle.std.proofs.Common.{List, Option, Some, [], inl, inr, subst, ℕ, ◌++◌, ◌≡◌, ◌∷◌}
use Rattle.urb_foresight.specs.ForeseenDrafts.{ForeseesCalls}
use Rattle.urb_group.specs.GroupViews.{GroupView}
use Rattle.urb_names.specs.declared.refusal.NoMemory.{NoMemory}
use Rattle.urb_stable.specs.Entries.{Entry}
use Rattle.urb_stable.specs.declared.stable.Stable.{Ghosts}
use Rattle.urb_turn.specs.KeptTails.{Prepares}
use Rattle.urb_world.specs.Step.{Event}

foresees-less : (group : GroupView) (p : ℕ) (events : List Event) (next : Event)
    (later : List Event) (old new : List Entry) (why : Option NoMemory) (refused : NoMemory)
    → ForeseesCalls group p events old new why
    → ForeseesCalls group p (events ++ next ∷ later) old new (Some refused)
foresees-less group p [] next later old new why refused it = inl (it.0, tt)
foresees-less group p (event ∷ events) next later old new why refused (inl it) = inl (it.0, tt)
foresees-less group p (event ∷ events) next later old new why refused (inr it) =
    inr (it.0, it.1, it.2, it.3, foresees-less group p events next later it.1 new why refused it.4)

-- If memory was refused for the list of calls, what is foreseen of those in it is foreseen of all.
pub prepares-less : {S A : Type 0} (g : Ghosts S A) (opened : GroupView) (n : ℕ)
    (events : List Event) (next : Event) (later all : List Event) (why : Option NoMemory) (refused : NoMemory)
    (before after : S) → events ++ next ∷ later ≡ all
    → Prepares g opened n events why before after
    → Prepares g opened n all (Some refused) before after
prepares-less g opened n events next later all why refused before after is h =
    subst (λ (them : List Event). Prepares g opened n them (Some refused) before after) is (record {
      past = h.past;
      group = h.group;
      leads = h.leads;
      holds = record {
        records = h.holds.records;
        foreseen =
            foresees-less h.group n events next later [] h.holds.records why refused
            h.holds.foreseen;
        few = h.holds.few;
        enough = h.holds.enough;
      };
    })
