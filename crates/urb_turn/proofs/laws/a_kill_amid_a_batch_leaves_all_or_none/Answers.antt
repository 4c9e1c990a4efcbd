use Rattle.std.proofs.Common.{inl, inr, ⊎_elim}
use Rattle.urb_turn.proofs.HeldTails.{prepares-either}
use Rattle.urb_turn.proofs.KilledBatches.{all-or-none, held-still}
use Rattle.urb_turn.proofs.OtherNodes.{rests-none}
use Rattle.urb_turn.proofs.laws.a_kill_amid_a_batch_leaves_all_or_none.Goals as goal

pub returns-clause-asked : goal.returns-clause-asked
returns-clause-asked g c opened start past n events refused before new prepares matched rests =
    ⊎_elim (λ same. inl same)
    (λ asks. inr (record {
      earlier = prepares.past;
      group = prepares.group;
      leads = prepares.leads;
      asks = asks;
      matched = matched;
      rests = rests;
    })) (prepares-either g.S.Stable opened n events refused before new prepares)

pub returns-clause-matches : goal.returns-clause-matches
returns-clause-matches g c opened start past n batch before new sound shows it =
    let still = held-still g.S.Stable opened start past n batch before new sound shows it in (
      still,
      record { earlier = past; rests = rests-none n past; leaves = still.lasting.left },
    )

pub returns-clause-all_or_none : goal.returns-clause-all_or_none
returns-clause-all_or_none g c opened start past n batch before new sound shows it clean =
    all-or-none g.S.Stable opened start past n batch before new sound shows it clean
