use Rattle.urb_show.proofs.Common.{ap, arith, length, length-map, map, slice_index_or, sym, ◌≤◌}
use Rattle.urb_show.proofs.ListAdditions.{add_at-beyond, pushed}
use Rattle.urb_show.proofs.entry_lists.push_at.Goals as goal

pub returns-then-place-lists : goal.returns-then-place-lists
returns-then-place-lists g c =
    let far : length (map (λ l. l.items) c.args.lists.now) ≤ c.args.place =
    rw length-map (omega arith) in sym (add_at-beyond _ _ _ far)

pub returns : goal.returns
returns g c =
    let lists = c.args.lists.now in
    let place = c.args.place in
    pushed (λ l. l.items) lists place
    (slice_index_or lists place c.index-lists-place.result) c.push_entry.new.list c.args.entry
    c.push_entry.result (omega arith)
    (ap (λ l. slice_index_or lists place l) c.index-lists-place.is) c.push_entry.ensures
