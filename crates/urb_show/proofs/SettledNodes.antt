-- Publishing what was prepared settles the node.
use Rattle.urb_show.proofs.Common.{Err, Event, Grew, HouseView, List, Lists, MatchResult, Ok}
use Rattle.urb_show.proofs.Common.{Result, ToldView, ap, length, list_at, lists_in, subst, sym, ℕ}
use Rattle.urb_show.proofs.Common.{◌∙◌, ◌≡◌, ◌≤◌}
use Rattle.urb_show.specs.Lists.{Begins}
use Rattle.urb_show.specs.Houses.{Settled}
use Rattle.urb_show.proofs.Prefixes.{prefix_whole}
use Rattle.urb_show.proofs.AgreeingLists.{begins_at}

-- if all entries of a node are prepared, publishing them settles the node, or nothing more changes
pub settles : {E : Type 0} (place : ℕ) (old mid new : HouseView) (moment : List Event)
    (r : Result ToldView E)
    → Grew place old mid → Begins mid.prepared (lists_in mid.group)
    → length (list_at (lists_in mid.group) place) ≤ length (list_at mid.prepared place)
    → MatchResult r (λ told. (new ≡ record mid { published = mid.prepared })
    × (told ≡ record { lists = mid.prepared; past = moment })) (λ _. new ≡ mid)
    → moment ≡ mid.past
    → MatchResult r (λ told. Settled place old new told) (λ _. Grew place old new)
settles place old mid new moment (Ok told) grew begins whole h present =
    let own : list_at mid.prepared place ≡ list_at (lists_in mid.group) place =
    prefix_whole (list_at mid.prepared place) (list_at (lists_in mid.group) place)
    (begins_at mid.prepared (lists_in mid.group) place begins) whole in
    let published : new.published ≡ mid.prepared = ap (λ (x : HouseView). x.published) h.0 in
    record {
      group = ap (λ (x : HouseView). x.group) h.0 ∙ grew.group;
      events = ap (λ (x : HouseView). x.events) h.0 ∙ grew.events;
      past = ap (λ (x : HouseView). x.past) h.0 ∙ grew.past;
      own =
          ap (λ (w : Lists). list_at w place) published
          ∙ (own ∙ sym (ap (λ (x : HouseView). list_at (lists_in x.group) place) h.0));
      others = λ q apart. ap (λ (w : Lists). list_at w q) published ∙ grew.others q apart;
      prepared = ap (λ (x : HouseView). x.prepared) h.0 ∙ sym published;
      told = ap (λ (t : ToldView). t.lists) h.1 ∙ sym published;
      until =
          ap (λ (t : ToldView). t.past) h.1
          ∙ (present ∙ sym (ap (λ (x : HouseView). x.past) h.0));
    }
settles place old mid new moment (Err e) grew begins whole h present =
    subst (Grew place old) (sym h) grew
