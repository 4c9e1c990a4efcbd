use Rattle.urb_show.proofs.Common.{Addition, Agree, AreDeliveredBy, Event, HouseView, List, Lists}
use Rattle.urb_show.proofs.Common.{MarkView, PublisherView, [], ap, arith, delivery_of, length}
use Rattle.urb_show.proofs.Common.{length-map, list_at, lists_in, lists_of, slice_set, subst, sym}
use Rattle.urb_show.proofs.Common.{ℕ, ◌++◌, ◌+◌, ◌-◌, ◌<◌, ◌∙◌, ◌∷◌, ◌≡◌}
use Rattle.urb_show.proofs.AgreeingLists.{agree_begins}
use Rattle.urb_show.proofs.DeliveredPlaces.{led_delivered}
use Rattle.urb_show.proofs.GroupLists.{lists_agree}
use Rattle.urb_show.proofs.PreparedEntries.{IsNext, is_next}
use Rattle.urb_show.proofs.house.House.prepare.Goals as goal

pub add-requires-clause-agree : goal.add-requires-clause-agree
add-requires-clause-agree g c =
    let base = g.K.HouseName.base in
    let all = c.self.inside.publisher.all in
    let group = c.self.inside.group in
    let a : Addition = record {
      place = c.from-place.result;
      entry = c.in_ok-entry.entry;
      events = c.mark.result;
    } in
    let k = c.index-index.result.now in
    let place : c.from-place.result ≡ c.args.node - 1 =
    omega (arith, c.from-place.ensures, c.number.ensures.number) in
    let in_group : c.args.node - 1 < length group.nodes =
    subst (λ (h : HouseView). c.args.node - 1 < length h.group.nodes) (sym c.self.view_is)
    (let node = c.requires.node in let low = c.number.ensures.range.0 in
    omega (arith, node, low)) in
    let lacks =
    subst (λ (h : HouseView). length (list_at h.prepared (c.args.node - 1)) < length
    (list_at (lists_in h.group) (c.args.node - 1))) (sym c.self.view_is) c.requires.lacks in
    let next : IsNext group base all a k (slice_set c.self.inside.prepared.items a.place (k + 1)) =
    is_next group base all a c.self.inside.prepared.items k
    (c.args.node - 1) place c.self.invariant.0 in_group c.index-index.ensures lacks
    c.in_ok-entry.ensures in
    let same : c.flush.new.self.all ≡ all =
    ap (λ (p : PublisherView). p.all) c.in_ok-flush.ensures in
    subst (λ (w : List Addition). Agree (lists_of base (w ++ a ∷ []))) (sym same)
    (agree_begins _ (lists_in group) next.house.begins
    (lists_agree group c.recall_deliveries.ensures.agree))

pub add-requires-clause-delivered : goal.add-requires-clause-delivered
add-requires-clause-delivered g c =
    let base = g.K.HouseName.base in
    let all = c.self.inside.publisher.all in
    let group = c.self.inside.group in
    let a : Addition = record {
      place = c.from-place.result;
      entry = c.in_ok-entry.entry;
      events = c.mark.result;
    } in
    let k = c.index-index.result.now in
    let place : c.from-place.result ≡ c.args.node - 1 =
    omega (arith, c.from-place.ensures, c.number.ensures.number) in
    let in_group : c.args.node - 1 < length group.nodes =
    subst (λ (h : HouseView). c.args.node - 1 < length h.group.nodes) (sym c.self.view_is)
    (let node = c.requires.node in let low = c.number.ensures.range.0 in
    omega (arith, node, low)) in
    let lacks =
    subst (λ (h : HouseView). length (list_at h.prepared (c.args.node - 1)) < length
    (list_at (lists_in h.group) (c.args.node - 1))) (sym c.self.view_is) c.requires.lacks in
    let next : IsNext group base all a k (slice_set c.self.inside.prepared.items a.place (k + 1)) =
    is_next group base all a c.self.inside.prepared.items k
    (c.args.node - 1) place c.self.invariant.0 in_group c.index-index.ensures lacks
    c.in_ok-entry.ensures in
    let same : c.flush.new.self.all ≡ all =
    ap (λ (p : PublisherView). p.all) c.in_ok-flush.ensures in
    let events : c.mark.result.log ≡ c.self.inside.past =
    ap (λ (m : MarkView _). m.log) c.mark.ensures
    ∙ (c.token.ensures ∙ (c.requires.moment ∙ sym (ap (λ (h : HouseView). h.past)
    c.self.view_is))) in
    subst (λ (w : List Addition). AreDeliveredBy g.K.HouseName.origin c.mark.result.log
    (lists_of base (w ++ a ∷ []))) (sym same)
    (subst (λ (past : List Event). AreDeliveredBy g.K.HouseName.origin past
    (lists_of base (all ++ a ∷ []))) (sym events)
    (led_delivered g.K.HouseName.origin group c.self.inside.past _ c.self.invariant.1.leads
    c.self.invariant.0.sound next.house.begins))

pub overflow_add-index : goal.overflow_add-index
overflow_add-index g c =
    let base = g.K.HouseName.base in
    let all = c.self.inside.publisher.all in
    let group = c.self.inside.group in
    let a : Addition = record {
      place = c.from-place.result;
      entry = c.in_ok-entry.entry;
      events = c.mark.result;
    } in
    let k = c.index-index.result.now in
    let place : c.from-place.result ≡ c.args.node - 1 =
    omega (arith, c.from-place.ensures, c.number.ensures.number) in
    let in_group : c.args.node - 1 < length group.nodes =
    subst (λ (h : HouseView). c.args.node - 1 < length h.group.nodes) (sym c.self.view_is)
    (let node = c.requires.node in let low = c.number.ensures.range.0 in
    omega (arith, node, low)) in
    let lacks =
    subst (λ (h : HouseView). length (list_at h.prepared (c.args.node - 1)) < length
    (list_at (lists_in h.group) (c.args.node - 1))) (sym c.self.view_is) c.requires.lacks in
    let next : IsNext group base all a k (slice_set c.self.inside.prepared.items a.place (k + 1)) =
    is_next group base all a c.self.inside.prepared.items k
    (c.args.node - 1) place c.self.invariant.0 in_group c.index-index.ensures lacks
    c.in_ok-entry.ensures in
    let short = (lists_agree group c.recall_deliveries.ensures.agree).short a.place in
    let index = next.index in
    record {
      fits = omega (
        arith,
        short,
        index,
        length-map (list_at (lists_in group) a.place) delivery_of,
      );
    }

pub invariant_of-self-2 : goal.invariant_of-self-2
invariant_of-self-2 g c =
    let base = g.K.HouseName.base in
    let all = c.self.inside.publisher.all in
    let group = c.self.inside.group in
    let a : Addition = record {
      place = c.from-place.result;
      entry = c.in_ok-entry.entry;
      events = c.mark.result;
    } in
    let k = c.index-index.result.now in
    let place : c.from-place.result ≡ c.args.node - 1 =
    omega (arith, c.from-place.ensures, c.number.ensures.number) in
    let in_group : c.args.node - 1 < length group.nodes =
    subst (λ (h : HouseView). c.args.node - 1 < length h.group.nodes) (sym c.self.view_is)
    (let node = c.requires.node in let low = c.number.ensures.range.0 in
    omega (arith, node, low)) in
    let lacks =
    subst (λ (h : HouseView). length (list_at h.prepared (c.args.node - 1)) < length
    (list_at (lists_in h.group) (c.args.node - 1))) (sym c.self.view_is) c.requires.lacks in
    let next : IsNext group base all a k (slice_set c.self.inside.prepared.items a.place (k + 1)) =
    is_next group base all a c.self.inside.prepared.items k
    (c.args.node - 1) place c.self.invariant.0 in_group c.index-index.ensures lacks
    c.in_ok-entry.ensures in
    let same : c.flush.new.self.all ≡ all =
    ap (λ (p : PublisherView). p.all) c.in_ok-flush.ensures in
    let now : c.add.new.self.all ≡ all ++ a ∷ [] =
    ap (λ (p : PublisherView). p.all) c.in_ok-add.ensures
    ∙ ap (λ (w : List Addition). w ++ a ∷ []) same in
    let added : lists_of base c.add.new.self.all ≡ lists_of base (all ++ a ∷ []) =
    ap (lists_of base) now in
    (rw added next.house, c.self.invariant.1, c.self.invariant.2)

pub returns : goal.returns
returns g c =
    let base = g.K.HouseName.base in
    let all = c.self.inside.publisher.all in
    let group = c.self.inside.group in
    let a : Addition = record {
      place = c.from-place.result;
      entry = c.in_ok-entry.entry;
      events = c.mark.result;
    } in
    let k = c.index-index.result.now in
    let place : c.from-place.result ≡ c.args.node - 1 =
    omega (arith, c.from-place.ensures, c.number.ensures.number) in
    let in_group : c.args.node - 1 < length group.nodes =
    subst (λ (h : HouseView). c.args.node - 1 < length h.group.nodes) (sym c.self.view_is)
    (let node = c.requires.node in let low = c.number.ensures.range.0 in
    omega (arith, node, low)) in
    let lacks =
    subst (λ (h : HouseView). length (list_at h.prepared (c.args.node - 1)) < length
    (list_at (lists_in h.group) (c.args.node - 1))) (sym c.self.view_is) c.requires.lacks in
    let next : IsNext group base all a k (slice_set c.self.inside.prepared.items a.place (k + 1)) =
    is_next group base all a c.self.inside.prepared.items k
    (c.args.node - 1) place c.self.invariant.0 in_group c.index-index.ensures lacks
    c.in_ok-entry.ensures in
    let same : c.flush.new.self.all ≡ all =
    ap (λ (p : PublisherView). p.all) c.in_ok-flush.ensures in
    let now : c.add.new.self.all ≡ all ++ a ∷ [] =
    ap (λ (p : PublisherView). p.all) c.in_ok-add.ensures
    ∙ ap (λ (w : List Addition). w ++ a ∷ []) same in
    let added : lists_of base c.add.new.self.all ≡ lists_of base (all ++ a ∷ []) =
    ap (lists_of base) now in
    let longer =
    subst (λ (p : ℕ). length (list_at (lists_of base (all ++ a ∷ [])) p) ≡ length
    (list_at (lists_of base all) p) + 1) place next.longer in
    let shown : c.add.new.self.shown ≡ c.self.inside.publisher.shown =
    ap (λ (p : PublisherView). p.shown) c.in_ok-add.ensures
    ∙ ap (λ (p : PublisherView). p.shown) c.in_ok-flush.ensures in
    record {
      grew = record {
        group = ap (λ (h : HouseView). h.group) c.self.view_is;
        events = ap (λ (h : HouseView). h.events) c.self.view_is;
        past = ap (λ (h : HouseView). h.past) c.self.view_is;
        published = ap (lists_of base) shown ∙ ap (λ (h : HouseView). h.published) c.self.view_is;
        others =
            λ q apart. ap (λ (ls : Lists). list_at ls q) added
            ∙ (next.others q (λ e. apart (sym place ∙ e))
            ∙ ap (λ (h : HouseView). list_at h.prepared q) c.self.view_is);
      };
      longer =
          ap (λ (ls : Lists). length (list_at ls (c.args.node - 1))) added
          ∙ (longer ∙ ap (λ (h : HouseView). length (list_at h.prepared (c.args.node - 1)) + 1)
          c.self.view_is);
    }
