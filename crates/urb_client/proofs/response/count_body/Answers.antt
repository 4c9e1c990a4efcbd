use Rattle.std.proofs.Common.{sym}
use Rattle.urb_client.proofs.PageLists.{fits_whole}
use Rattle.urb_client.proofs.response.count_body.Goals as goal

pub returns-in-Entries : goal.returns-in-Entries
returns-in-Entries g c =
    let room = rw (sym c.as_slice.ensures.value) at c.as_slice.ensures.room in
    rw (c.in-Entries.is, sym c.as_slice.ensures.value)
    (fits_whole c.as_slice.result.now c.measure_fitting.result.count c.measure_fitting.result.bytes
    c.measure_fitting.ensures.within c.measure_fitting.ensures.bytes
    c.measure_fitting.ensures.longest room)
