-- Stores that were asked for their records, and how a run over them ends.
use Rattle.std.proofs.Common.{Err, List, Ok, Result, [], inl, inr, refl, ◌∷◌}
use Rattle.std.specs.Prelude.{Vec}
use Rattle.urb_names.specs.LabelsAndContents.{Limits}
use Rattle.urb_names.specs.declared.refusal.Refusal.{Refusal}
use Rattle.urb_stable.specs.Entries.{Entry}
use Rattle.urb_stable.specs.declared.stable.Stable.{Ghosts}
use Rattle.urb_stable.specs.declared.stable.StoreFault.{StoreFault}
use Rattle.urb_group.specs.StoreOpenings.{AllGive}
use Rattle.urb_group.specs.GroupViews.{GroupView}
use Rattle.urb_daemon.specs.Runs.{ComeBack, HaveServed, MayAllBeAsked}
use Rattle.urb_folder.specs.AskedStores.{AllAnswer, AreRefusedTogether, OpensTogether}
use Rattle.urb_stable.specs.StableStorage.{list_in}

-- stores that were not asked
pub unasked : {S A : Type 0} (g : Ghosts S A) (stores : List S) → MayAllBeAsked g stores stores
unasked g [] = tt
unasked g (store ∷ stores) = (inl refl, unasked g stores)

all_given : {S A : Type 0} (g : Ghosts S A) (stores : List S) (images : List (List Entry))
    (asked : List S) → AllGive g stores images asked → MayAllBeAsked g stores asked
all_given g [] [] [] given = tt
all_given g [] [] (a ∷ asked) given = absurd given
all_given g [] (i ∷ images) asked given = absurd given
all_given g (s ∷ stores) [] asked given = absurd given
all_given g (s ∷ stores) (i ∷ images) [] given = absurd given
all_given g (s ∷ stores) (i ∷ images) (a ∷ asked) given =
    (inr (Ok i, given.0), all_given g stores images asked given.1)

-- stores that were all asked, and answered
answered : {S A : Type 0} (g : Ghosts S A) (stores : List S)
    (answers : List (Result (Vec Entry A) StoreFault)) (asked : List S)
    → AllAnswer g stores answers asked → MayAllBeAsked g stores asked
answered g [] [] [] given = tt
answered g [] [] (a ∷ asked) given = absurd given
answered g [] (i ∷ answers) asked given = absurd given
answered g (s ∷ stores) [] asked given = absurd given
answered g (s ∷ stores) (i ∷ answers) [] given = absurd given
answered g (s ∷ stores) (i ∷ answers) (a ∷ asked) given =
    (inr (list_in i, given.0), answered g stores answers asked given.1)

refused : {S A : Type 0} (g : Ghosts S A) (stores : List S) (why : Refusal) (asked : List S)
    → AreRefusedTogether g stores why asked → MayAllBeAsked g stores asked
refused g stores why asked (inl answer) = answered g stores answer.answers asked answer.answered
refused g stores why asked (inr same) = rw same.0 (unasked g stores)

-- stores from which the opening of a group was tried
pub asked_to_open : {S A : Type 0} (g : Ghosts S A) (size : Limits) (stores : List S)
    (result : Result GroupView Refusal) (asked : List S) → OpensTogether g size stores result asked
    → MayAllBeAsked g stores asked
asked_to_open g size stores (Ok group) asked opens =
    all_given g stores opens.images asked opens.given
asked_to_open g size stores (Err why) asked (inl unready) = refused g stores why asked unready
asked_to_open g size stores (Err why) asked (inr opens) =
    all_given g stores opens.images asked opens.given

-- stores that were asked, and then served a run of this group
pub come_back : {S A : Type 0} (g : Ghosts S A) (size : Limits) (stores : List S)
    (result : Result GroupView Refusal) (asked lasts : List S) (group : GroupView)
    → OpensTogether g size stores result asked → HaveServed g group asked lasts
    → ComeBack g stores lasts
come_back g size stores result asked lasts group opens served = record {
  asked = asked;
  first = asked_to_open g size stores result asked opens;
  then = inr (group, served);
}

-- stores that were asked, and no run followed
pub come_back_at_once : {S A : Type 0} (g : Ghosts S A) (size : Limits) (stores : List S)
    (result : Result GroupView Refusal) (asked : List S) → OpensTogether g size stores result asked
    → ComeBack g stores asked
come_back_at_once g size stores result asked opens =
    record { asked = asked; first = asked_to_open g size stores result asked opens; then = inl refl }
