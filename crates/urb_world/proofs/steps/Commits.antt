-- A store that succeeded or failed, a crash and a restart all preserve what holds for all nodes.
use Rattle.urb_world.proofs.Common.{Cause, DoubtKept, Down, Entry, IsCaused, Limits, List, MayJoin}
use Rattle.urb_world.proofs.Common.{Node, NodeKept, Option, Ready, State, StateKept, Stored}
use Rattle.urb_world.proofs.Common.{Storing, [], broadcast_after, comes_up, done, doubt, false≢true}
use Rattle.urb_world.proofs.Common.{goes_down, keeps_record, updated, ℕ, ◌++◌, ◌∷◌, ◌≡◌}
use Rattle.urb_world.proofs.steps.JoinedRecord.{joined-acks, joined-broadcast, joined-certified}
use Rattle.urb_world.proofs.steps.JoinedRecord.{joined-grows, joined-kept, joined-sent}
use Rattle.urb_world.proofs.steps.JoinedRecord.{own_acks-kept}
use Rattle.urb_world.proofs.steps.OneNodeStep.{Leads, leads-same, updated-at}

-- storing the held record preserves the rules, if the record meets them and the node that caused it
-- holds its pair
pub leads-stored : (size : Limits) (images : ℕ → List Entry) (p : ℕ) (node : Node) (r : Entry)
    (cause : Option Cause) → images p ≡ node.records → NodeKept size images p node
    → MayJoin size images p node.records r → IsCaused images r cause
    → Leads size images p (Stored (done size.n p r cause node), keeps_record p r cause node)
leads-stored size images p node r cause e k j c =
    record {
      grows = joined-grows size images p node e k r j;
      certified = joined-certified size images p node e k r j;
      kept = record {
        kept = joined-kept size images p node e k r j;
        state = tt;
        acks = joined-acks size images p node e k r cause j c;
        broadcast = joined-broadcast size images p node e k r j;
      };
      sent = joined-sent size images p node e k r cause j size.n;
    }

-- ---- down

doubt-kept : (size : Limits) (images : ℕ → List Entry) (p : ℕ) (records : List Entry) (s : State)
    → StateKept size images p records s → DoubtKept size images p records (doubt s)
doubt-kept size images p records Ready h = tt
doubt-kept size images p records (Storing r cause) h = h.0
doubt-kept size images p records (Down doubtful) h = h

-- a failed store or a crash preserves the rules: a held record becomes doubtful and still meets
-- them
pub leads-goes_down : (size : Limits) (images : ℕ → List Entry) (p : ℕ) (node : Node)
    → images p ≡ node.records → NodeKept size images p node → Leads size images p (goes_down p node)
leads-goes_down size images p node e k =
    leads-same size images p (goes_down p node) e
    (record {
      kept = k.kept;
      state =
          doubt-kept size images p node.records node.state k.state;
      acks =
          λ x q c h. absurd (false≢true h);
      broadcast = k.broadcast;
    }) tt

-- ---- restart

-- a restart with the records that were stored preserves the rules
pub leads-up_same : (size : Limits) (images : ℕ → List Entry) (p : ℕ) (node : Node)
    → images p ≡ node.records → NodeKept size images p node
    → Leads size images p (comes_up p node.records node.broadcast)
leads-up_same size images p node e k =
    leads-same size images p (comes_up p node.records node.broadcast) e
    (record {
      kept = k.kept;
      state = tt;
      acks =
          own_acks-kept images p node.records e;
      broadcast = k.broadcast;
    }) tt

-- a restart that counts the doubtful record as stored preserves the rules
pub leads-up_joined : (size : Limits) (images : ℕ → List Entry) (p : ℕ) (node : Node)
    → images p ≡ node.records → NodeKept size images p node → (r : Entry)
    → MayJoin size images p node.records r
    → Leads size images p (comes_up p (node.records ++ r ∷ []) (broadcast_after p r node.broadcast))
leads-up_joined size images p node e k r j =
    record {
      grows = joined-grows size images p node e k r j;
      certified = joined-certified size images p node e k r j;
      kept = record {
        kept = joined-kept size images p node e k r j;
        state = tt;
        acks =
            own_acks-kept (updated images p (node.records ++ r ∷ [])) p (node.records ++ r ∷ [])
            (updated-at images p (node.records ++ r ∷ []));
        broadcast = joined-broadcast size images p node e k r j;
      };
      sent = tt;
    }
