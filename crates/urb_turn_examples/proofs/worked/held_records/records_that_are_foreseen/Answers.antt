-- Two records are foreseen in a group that shows no world, and a store holds them.
use Rattle.std.proofs.Common.{List, None, Ok, Some, [], ap, arith, inl, inr, length, map, refl, subst}
use Rattle.std.proofs.Common.{sym, ℕ, ⊎_elim, ◌<◌, ◌∷◌, ◌≡◌, ◌≢◌, ◌≤◌}
use Rattle.std.proofs.lemmas.Bool.{false≢true}
use Rattle.urb_foresight.specs.ForeseenDrafts.{ForeseesCalls}
use Rattle.urb_foresight.specs.declared.foreseen.Foreseen.{Foreseen}
use Rattle.urb_foresight.specs.declared.foreseen.Foreseen.TheVariants as foreseen
use Rattle.urb_group.specs.GroupViews.{Shows}
use Rattle.urb_names.proofs.OrderedPairs.{has_pair-first}
use Rattle.urb_names.specs.LabelsAndContents.{Content, Label}
use Rattle.urb_names.specs.Names.{name}
use Rattle.urb_names.specs.declared.limits.TheConstants.{MAX_PAYLOAD}
use Rattle.urb_show.specs.internal.ReaderExamples.{shows_none}
use Rattle.urb_stable.specs.DeliveredLogs.{log}
use Rattle.urb_stable.specs.Entries.{Entry}
use Rattle.urb_stable.specs.MemoryStores.{Memory}
use Rattle.urb_stable.specs.Records.{pend}
use Rattle.urb_turn.specs.internal.TurnExamples.{two_submits}
use Rattle.urb_world.specs.RunInvariant.{AreShort}
use Rattle.urb_world.specs.World.{World}
use Rattle.urb_world.specs.internal.Examples.{pending}
use Rattle.urb_world.specs.internal.Scripts.{message}
use Rattle.urb_turn_examples.proofs.worked.held_records.records_that_are_foreseen.Goals as goal

-- no node has delivered a name and stored no record
none : (records : List Entry) → 0 ≡ length records → name 1 1 ∷ [] ≡ log records → ⊥
none [] count delivered = absurd (cc)
none (r ∷ rs) count delivered = absurd (cc)

no-world : (w : World) → Shows shows_none w → ⊥
no-world w shows = none (w.node 1).records (shows.nodes 1).count (shows.nodes 1).log

sure : ◌≢◌ {A = Foreseen} foreseen.Draft foreseen.Unsure
sure e = cc

-- both submits draft their records in each world that the group shows, since there is none
both : ForeseesCalls shows_none 1 two_submits [] (pending 1 1 ∷ pending 1 2 ∷ []) None
both = inr (
  foreseen.Draft,
  pending 1 1 ∷ [],
  sure,
  (pending 1 1, refl, λ w v shows. absurd (no-world w shows)),
  inr (
    foreseen.Draft,
    pending 1 1 ∷ pending 1 2 ∷ [],
    sure,
    (pending 1 2, refl, λ w v shows. absurd (no-world w shows)),
    (refl, refl),
  ),
)

-- pairs of node 1 have no payload
pending-short : (numbers : List ℕ) → AreShort (pend (map (pending 1) numbers))
pending-short [] x m e = absurd (false≢true e)
pending-short (number ∷ numbers) x m e =
    ⊎_elim
    (λ f. subst (λ (v : Content). length v.payload ≤ MAX_PAYLOAD) f.1 (omega arith))
    (λ f. pending-short numbers x m f)
    (has_pair-first (name 1 number, message 7 number "") (pend (map (pending 1) numbers)) x m e)

some-none : {A : Type 0} (x : A) (xs : List A) → x ∷ xs ≡ [] → ⊥
some-none x xs e = cc

pub returns-clause-two_of_no_world : goal.returns-clause-two_of_no_world
returns-clause-two_of_no_world c = record {
  records = pending 1 1 ∷ pending 1 2 ∷ [];
  foreseen = both;
  few = λ h. absurd (omega (arith, h));
  enough = λ h. record {
    may = record {
      ready = λ w shows. absurd (no-world w shows);
      may = λ w shows. absurd (no-world w shows);
      short = pending-short (1 ∷ 2 ∷ []);
    };
    answer = Ok tt;
    keeps = record {
      placed = tt;
      still = record { place = refl; doubtful = refl; doubt = refl };
      certain = λ honest. refl;
      trust = record { clean = λ h. h; honest = λ h. h; alive = λ h clean. h };
      counts = record { device = λ e. cc; grows = omega arith };
      holds = record { ahead = refl; base = λ honest. refl; rest = λ honest. refl };
    };
  };
}

pub returns-clause-none_of_a_node_that_is_down : goal.returns-clause-none_of_a_node_that_is_down
returns-clause-none_of_a_node_that_is_down c = record {
  records = [];
  foreseen = (refl, refl);
  few = λ h. refl;
  enough = λ h. absurd (omega (arith, h));
}

pub returns-clause-no_change_for_no_calls : goal.returns-clause-no_change_for_no_calls
returns-clause-no_change_for_no_calls c h =
    let same = h.few
    (subst (λ (rs : List Entry). length rs < 2) (sym h.foreseen.0) (omega arith)) in
    some-none (pending 1 1) [] (ap (λ (s : Memory). s.certain) same)

pub returns-clause-not_one_of_two : goal.returns-clause-not_one_of_two
returns-clause-not_one_of_two c h is =
    let asks = h.enough
    (subst (λ (rs : List Entry). 2 ≤ length rs) (sym is) (omega arith)) in
    some-none (pending 1 1) [] (asks.keeps.certain tt)
