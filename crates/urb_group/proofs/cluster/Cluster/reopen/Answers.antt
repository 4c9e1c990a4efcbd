use Rattle.urb_group.proofs.Common.{All, AllHold, Continues, GroupView, IsKnown, IsSound, Limits}
use Rattle.urb_group.proofs.Common.{OpensStores, RestLeaves, StopLeaves, ap, arith, length, rules}
use Rattle.urb_group.proofs.Common.{stores_in, subst, sym, ◌∙◌, ◌≡◌}
use Rattle.urb_group.proofs.stops.SecuredOpenings.{secured-known}
use Rattle.urb_group.proofs.stops.StoredWorlds.{as-itself}
use Rattle.urb_group.proofs.cluster.Cluster.reopen.Goals as goal

pub returns-clause-opened : goal.returns-clause-opened
returns-clause-opened g c =
    let group : c.args.self.group ≡ c.self.inside.group = search rules in
    let stores : c.args.self.stores ≡ c.self.inside.stores.items = search rules in
    let size : c.args.self.group.size ≡ c.group.inside.config =
    ap (λ group. group.size) group ∙ (search rules) in
    subst (λ passed. OpensStores g.S.Stable c.args.self.group.size passed c.open.result)
    (sym stores)
    (subst (λ limits. OpensStores g.S.Stable limits c.self.inside.stores.items c.open.result)
    (sym size) c.open.ensures.opened)

pub returns-clause-goes_on : goal.returns-clause-goes_on
returns-clause-goes_on g c =
    let group : c.args.self.group ≡ c.self.inside.group = search rules in
    let stores : c.args.self.stores ≡ c.self.inside.stores.items = search rules in
    let same : c.self.inside.group.size ≡ c.group.inside.config = search rules in
    let size : c.args.self.group.size ≡ c.group.inside.config =
    ap (λ (group : GroupView). group.size) group ∙ same in
    λ stocked.
    subst (λ limits. Continues g.S.Stable c.args.self.group stocked.world limits c.args.self.stores
    c.open.result) (sym size)
    (subst (λ passed. Continues g.S.Stable c.args.self.group stocked.world c.group.inside.config
    passed c.open.result) (sym stores)
    (c.open.ensures.goes_on c.args.self.group stocked.world
    (record {
      sound = subst (λ group. IsSound group) (sym group) c.recall.ensures.sound;
      counted =
          subst (λ (group : GroupView). length group.nodes ≡ group.size.n) (sym group)
          c.recall.ensures.counted;
      nodes = let most = ap (λ (limits : Limits). limits.n) size in omega (arith, most);
      shown = stocked.world;
      shows = stocked.shows;
      stands = as-itself stocked.world;
      holds =
          subst (λ passed. AllHold g.S.Stable stocked.world passed) stores
          (λ i store got. (stocked.stores i store got).contents);
    })))

pub returns-clause-stop : goal.returns-clause-stop
returns-clause-stop g c =
    let stores : c.args.self.stores ≡ c.self.inside.stores.items = search rules in
    λ stocked.
    subst (λ passed. StopLeaves g.S.Stable stocked.world passed (stores_in c.open.result))
    (sym stores)
    (c.open.ensures.stop stocked.world
    (subst (λ passed. AllHold g.S.Stable stocked.world passed) stores
    (λ i store got. (stocked.stores i store got).contents))
    (subst (λ passed. RestLeaves g.S.Stable stocked.world passed) stores
    (λ i store got. (stocked.stores i store got).left)))

pub returns-clause-secured : goal.returns-clause-secured
returns-clause-secured g c =
    let stores : c.args.self.stores ≡ c.self.inside.stores.items = search rules in
    λ secured. c.open.ensures.secured
    (subst (λ passed. All (IsKnown g.S.Stable) passed) stores
    (secured-known g.S.Stable c.args.self secured))
