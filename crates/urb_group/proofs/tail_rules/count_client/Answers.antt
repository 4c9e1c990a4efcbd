use Rattle.urb_group.proofs.Common.{arith, of_client, suc, ℕ, ◌-◌, ◌≡◌}
use Rattle.urb_group.proofs.tail_rules.count_client.Goals as goal

pub returns : goal.returns
returns g c n s = less (of_client c.args.client n.broadcast) (c.client_next.ensures.value n s)
  where
    less : (count : ℕ) → c.client_next.result ≡ suc count → c.client_next.result - 1 ≡ count
    less count e = omega (arith, e)
