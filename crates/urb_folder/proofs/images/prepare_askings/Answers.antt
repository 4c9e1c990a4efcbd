use Rattle.std.proofs.Common.{rules, ◌≡◌, length, map}
use Rattle.urb_folder.proofs.EmptiedLists.{emptied}
use Rattle.urb_folder.proofs.images.prepare_askings.Goals as goal

pub returns-clause-all : goal.returns-clause-all
returns-clause-all g c =
    let count : length c.loop-store.store-iterator.rest.items ≡ 0 = search rules in
    emptied (map (λ it. it.store) c.loop-store.askings.items)
    c.loop-store.store-iterator.rest.items c.args.stores.items count c.loop-store.invariant.2
