use Rattle.urb_certified.proofs.Common.{IsJoined, Label, List, false, filter, has_name, is_left}
use Rattle.urb_certified.proofs.Common.{name, rules, slice_set, subst, suc, sym, true, ℕ, ◌-◌, ◌<◌}
use Rattle.urb_certified.proofs.Common.{◌^◌, ◌≡◌, ◌≤◌}
use Rattle.urb_certified.proofs.CertifiedParts.{closes}
use Rattle.urb_certified.proofs.parts.close_gap.Goals as goal

pub returns : goal.returns
returns g c =
    let low = c.args.low.now in
    let above = c.args.above.now.items in
    let x = c.args.name in
    let end = c.run_end-end.result in
    let items : c.drop_run.new.above.items ≡ filter (is_left x.sender end) above = search rules in
    let at : c.number.result ≡ x.sender = search rules in
    let run : (i : ℕ) → x.seq < i → i ≤ end → has_name above (name x.sender i) ≡ true =
    search rules in
    let stops : end < 2 ^ 32 - 1 → has_name above (name x.sender (suc end)) ≡ false =
    search rules in
    let from : x.seq ≤ end = search rules in
    record {
      joined =
          subst (λ (n : ℕ). IsJoined low above x
          (slice_set low (n - 1) end) c.drop_run.new.above.items) (sym at)
          (subst (λ (zs : List Label). IsJoined low above x (slice_set low (x.sender - 1) end) zs)
          (sym items)
          (closes low above x end c.requires.parts c.recall.ensures c.requires.next from run
          stops));
    }
