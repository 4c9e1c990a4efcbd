-- A node that stops: a record that it holds is in doubt; a crash is like a failed store.
use Rattle.urb_node.proofs.Common.{Crashes, Down, Entry, Fails, Fallen, ForSome, Held, Holding}
use Rattle.urb_node.proofs.Common.{IsNextHeld, Memory, None, Ready, ShowsDown, ShowsReady}
use Rattle.urb_node.proofs.Common.{ShowsStoring, Some, State, WentDown, fails, goes_down}
use Rattle.urb_node.proofs.Common.{if◌then◌else◌, is_down, refl, refuses, subst, sym, view_in, ◌≡◌}
use Rattle.urb_node.proofs.MemoryChanges.{down-shows}
use Rattle.urb_node.proofs.JoinedLayers.{forgetful}
use Rattle.urb_names.specs.declared.refusal.Refusal.TheVariants as refusal

-- a record that is next stays next when it becomes doubtful
pub doubtful-next : {A : Type 0} (h : Held A) (entry : Entry) → IsNextHeld h entry
    → ForSome (Some entry) (IsNextHeld h)
doubtful-next h entry next r is =
    (let same : entry ≡ r = cc in subst (λ (x : Entry). IsNextHeld h x) same next)

-- a node that holds a draft goes down in a crash as it does when its store fails
pub crash-as-fail : (h : Holding) (f : Fallen) → Fails h f → Crashes (ShowsStoring h) h.memory f
crash-as-fail h f failed = (
  failed.0,
  λ node s.
      subst (λ (state : State). ((if is_down state then refuses node refusal.Down else goes_down
      h.memory.node node).0 ≡ WentDown h.memory.node)
      × ShowsDown f (if is_down state then refuses node refusal.Down else goes_down h.memory.node
      node).1) s.state
      (subst (λ (state : State). ((fails h.memory.node node state).0 ≡ WentDown h.memory.node)
      × ShowsDown f (fails h.memory.node node state).1) (sym s.state) (failed.1 node s)),
)

-- a ready node leaves nothing in doubt
pub crashes-ready : (a : Memory)
    → Crashes (ShowsReady a) a (record { memory = forgetful a; doubt = None })
crashes-ready a = (
  (refl, refl),
  λ node s.
      subst (λ (state : State). ((if is_down state then refuses node refusal.Down else goes_down
      a.node node).0 ≡ WentDown a.node)
      × ShowsDown (record { memory = forgetful a; doubt = None })
      (if is_down state then refuses node refusal.Down else goes_down a.node node).1) s.state (
        refl,
        down-shows a.limits a.node (view_in Ready a)
            (view_in (Down None) (forgetful a)) node s refl,
      ),
)
