use Rattle.urb_show.proofs.Common.{arith, delivery_of, length, length-map, list_at, lists_in, ◌-◌}
use Rattle.urb_show.proofs.Common.{◌<◌}
use Rattle.urb_show.proofs.GroupLists.{lists_agree}
use Rattle.urb_show.proofs.GroupReports.{log_entry, log_is_told, log_length, message_is_told}
use Rattle.urb_show.proofs.group_entries.entry_at.Goals as goal

pub unreachable-requires : goal.unreachable-requires
unreachable-requires c =
    log_is_told c.args.group.now c.recall_deliveries.ensures.sound c.args.node c.recall.ensures.0
    c.requires.node (rw c.in_default.is at c.log.ensures)

pub offset_bounds-log-index : goal.offset_bounds-log-index
offset_bounds-log-index c =
    let short =
    (lists_agree c.args.group.now c.recall_deliveries.ensures.agree).short (c.args.node - 1) in
    let low = c.requires.index in
    record {
      fits = omega (
        arith,
        short,
        low,
        length-map (list_at (lists_in c.args.group.now) (c.args.node - 1)) delivery_of,
      );
    }

pub bounds-log-index : goal.bounds-log-index
bounds-log-index c =
    let long =
    log_length c.args.group.now c.recall_deliveries.ensures.sound c.args.node c.recall.ensures.0
    c.requires.node c.in-Some.log.now (rw c.in-Some.is at c.log.ensures) in
    let low = c.requires.index in
    omega (arith, long, low)

pub unreachable-requires-in_default-message : goal.unreachable-requires-in_default-message
unreachable-requires-in_default-message c =
    let told = rw c.in-Some.is at c.log.ensures in
    let long =
    log_length c.args.group.now c.recall_deliveries.ensures.sound c.args.node c.recall.ensures.0
    c.requires.node c.in-Some.log.now told in
    let asked = c.requires.index in
    let low : c.args.index < length c.in-Some.log.now = omega (arith, long, asked) in
    message_is_told c.args.group.now c.recall_deliveries.ensures.sound c.args.node
    c.recall.ensures.0 c.requires.node c.in-Some.log.now c.args.index c.index-log-index.result
    told low c.index-log-index.is
    (rw c.in_default-message.is at c.message.ensures)

pub returns : goal.returns
returns c =
    let told = rw c.in-Some.is at c.log.ensures in
    let long =
    log_length c.args.group.now c.recall_deliveries.ensures.sound c.args.node c.recall.ensures.0
    c.requires.node c.in-Some.log.now told in
    let asked = c.requires.index in
    let low : c.args.index < length c.in-Some.log.now = omega (arith, long, asked) in
    let finds = rw c.in-Some-message.is at c.message.ensures in
    rw c.in_ok-message.ensures
    (log_entry c.args.group.now c.recall_deliveries.ensures.sound c.args.node c.recall.ensures.0
    c.requires.node c.in-Some.log.now c.args.index c.index-log-index.result
    c.in-Some-message.message.now _ told low c.index-log-index.is finds)
