use Rattle.urb_folder.proofs.Common.{IsFoundAt, OpensIn, length, rules, subst, sym, ◌<◌, ◌∙◌, ◌≡◌}
use denote.Param.Send.{param_send}
use Rattle.urb_folder.proofs.PlacesInOrder.{get_there, none_there, read_there}
use Rattle.urb_folder.proofs.SendableFiles.{found_send}
use Rattle.urb_folder.proofs.parallel.find_each.Goals as goal

pub for_each_mut-requires-send-T : goal.for_each_mut-requires-send-T
for_each_mut-requires-send-T g c κs within =
    let it = param_send 1 _ (found_send c.type_bounds.send-D c.args.found.now) in
    record { owned = it.owned; leaving = it.leaving }

pub returns-clause-each : goal.returns-clause-each
returns-clause-each g c =
    λ place it there.
    let held = g.D.NodeDisk.held in
    let same : length c.args.found.now ≡ length c.for_each_mut.new.s = search rules in
    let got = read_there c.for_each_mut.new.s place it it there in
    let within = subst (λ n. place < n) (sym same) got.0 in
    let was = c.requires place _ (get_there c.args.found.now place it within) in
    let at = (c.for_each_mut.ensures place it within).1 in
    subst (λ after. IsFoundAt (OpensIn _ held) place after) (at.left ∙ got.1)
    (at.call place (subst (λ before. IsFoundAt (OpensIn _ held) place before) (sym at.argument_is) was))

pub returns-then-count-eq0-clause-each : goal.returns-then-count-eq0-clause-each
returns-then-count-eq0-clause-each g c = λ place it there.
    absurd (none_there c.args.found.now place it c.if-count-eq0.true there)
