use Rattle.urb_stable.proofs.Common.{Entry, IsBefore, NodeImage, Some, arith, length, refl}
use Rattle.urb_stable.proofs.Common.{slice_get, slice_get_read, subst, sym, take, ◌<◌, ◌≡◌}
use Rattle.urb_stable.proofs.image.Image.facts_before.Goals as goal

pub returns : goal.returns
returns g c =
    let items = c.self.inside.told.items in
    let within : c.args.place < length c.self.inside.index =
    subst (λ (v : NodeImage). c.args.place < length v.records)
    (sym c.self.view_is) c.requires in
    let inside : c.args.place < length items = omega (arith, within, c.self.invariant.size) in
    subst (λ (v : NodeImage). (r : Entry) → slice_get v.records c.args.place ≡ Some r
    → IsBefore v.number (take c.args.place v.records) r c.index.result.now) c.self.view_is
    (λ r here. c.self.invariant.each c.args.place r c.index.result.now here
    (slice_get_read items (length items)
    c.args.place c.index.result.now refl inside c.index.ensures))
