use Rattle.urb_turn.proofs.Common.{IsLasting, IsStoreOf, inl, subst, suc, sym}
use Rattle.urb_turn.proofs.OtherNodes.{rested-leaves, rested-store}
use Rattle.urb_world.proofs.recovery.EventPlans.{after-none}
use Rattle.urb_turn.proofs.laws.a_store_stays_that_of_its_node.Goals as goal

pub returns-clause-opened : goal.returns-clause-opened
returns-clause-opened g c cluster i store secured got none =
    let same = sym (after-none secured.stocked.world) in
    record {
      contents =
          subst (λ v. IsStoreOf g.S.Stable (v.node (suc i)) store) same
          (secured.stocked.stores i store got);
      lasting =
          subst (λ v. IsLasting g.S.Stable (v.node (suc i)) store) same
          (secured.lasting i store got);
      tail = λ clean. inl none;
    }

pub returns-clause-rests : goal.returns-clause-rests
returns-clause-rests g c n start earlier later store h rested =
    rested-store g.S.Stable start n earlier later store rested h

pub returns-clause-left : goal.returns-clause-left
returns-clause-left g c n start past store h = h.lasting.left

pub returns-clause-leaves : goal.returns-clause-leaves
returns-clause-leaves g c n start earlier later store h rested =
    rested-leaves g.S.Stable start n earlier later store rested h
