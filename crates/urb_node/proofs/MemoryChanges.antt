-- What a node's memory shows after a draft, an acknowledgement, a tick and a crash.
use Rattle.urb_node.proofs.Common.{Bool, Carried, Cause, Content, Down, Entry, Label, Limits, List}
use Rattle.urb_node.proofs.Common.{Node, NodeView, Option, Sent, ShowsNode, Storing, [], acked, ap}
use Rattle.urb_node.proofs.Common.{ap₂, are_rising, cert, drafts, false, filter, flat_map, fun_ext}
use Rattle.urb_node.proofs.Common.{goes_down, has_name, not, refl, resends, subst, sym, true}
use Rattle.urb_node.proofs.Common.{with_ack, ℕ, ◌∙◌, ◌≡◌}
use Rattle.std.specs.List.{list_any}
use Rattle.urb_names.specs.CarriedPackets.{due_of, others, packets_to, to_unheard}
use Rattle.urb_names.specs.CyclicOrder.{last_name, resent}
use Rattle.urb_node.proofs.ShownNodes.{shown-rising, with-same}
use Rattle.urb_node.specs.Steps.{doubt, due}

-- The memory holds this draft and otherwise what it held.
pub draft-shows : (size : Limits) (p : ℕ) (view new : NodeView) (node : Node) (r : Entry)
    (cause : Option Cause) → ShowsNode size p view node
    → new ≡ record view { state = Storing r cause } → ShowsNode size p new (drafts node r cause).1
draft-shows size p view new node r cause s e =
    subst (λ (v : NodeView). ShowsNode size p v (drafts node r cause).1) (sym e)
    (record {
      pairs = s.pairs;
      certified = s.certified;
      log = s.log;
      count = s.count;
      state =
          refl;
      cursor = s.cursor;
      acks = s.acks;
      heard = s.heard;
      rules = s.rules;
      broadcast =
          s.broadcast;
    })

-- The memory counts one more acknowledgement, in any order.
pub counted-shows : (size : Limits) (p : ℕ) (view : NodeView) (acks : List (Label × ℕ))
    (node : Node) (x : Label) (q : ℕ) → ShowsNode size p view node
    → ((y : Label) (z : ℕ) → has_name view.certified y ≡ false
    → acked acks y z ≡ acked (with_ack view.acks x q) y z)
    → ShowsNode size p (record view { acks = acks }) (record node { acks = with_ack node.acks x q })
counted-shows size p view acks node x q s h =
    record {
      pairs = s.pairs;
      certified = s.certified;
      log = s.log;
      count = s.count;
      state = s.state;
      cursor = s.cursor;
      acks =
          λ y z c. h y z (s.certified y ∙ c) ∙ with-same view.acks node.acks x q y z (s.acks y z c);
      heard = s.heard;
      rules = s.rules;
      broadcast = s.broadcast;
    }

-- a memory that shows a node still shows it once both have heard one more certificate
pub heard-shows : (size : Limits) (p : ℕ) (view : NodeView) (heard : List (Label × ℕ)) (node : Node)
    (x : Label) (q : ℕ) → ShowsNode size p view node
    → ((y : Label) (z : ℕ) → acked heard y z ≡ acked (with_ack view.heard x q) y z)
    → ShowsNode size p (record view { heard = heard })
    (record node { heard = with_ack node.heard x q })
heard-shows size p view heard node x q s h =
    record {
      pairs = s.pairs;
      certified = s.certified;
      log = s.log;
      count = s.count;
      state = s.state;
      cursor = s.cursor;
      acks = s.acks;
      heard = λ y z. h y z ∙ with-same view.heard node.heard x q y z (s.heard y z);
      rules = s.rules;
      broadcast = s.broadcast;
    }

-- a memory that shows a node still shows it once both have the same new cursor
pub cursor-shows : (size : Limits) (p : ℕ) (view : NodeView) (cursor : Option Label) (node : Node)
    → ShowsNode size p view node → ShowsNode size p (record view { cursor = cursor })
    (record node { cursor = cursor })
cursor-shows size p view cursor node s =
    record {
      pairs = s.pairs;
      certified = s.certified;
      log = s.log;
      count = s.count;
      state =
          s.state;
      cursor = refl;
      acks = s.acks;
      heard = s.heard;
      rules = s.rules;
      broadcast =
          s.broadcast;
    }

-- the pairs of a tick, for a memory that keeps its pairs in order
pub due-shown : (size : Limits) (n p : ℕ) (view : NodeView) (node : Node)
    → ShowsNode size p view node → are_rising view.pairs ≡ true
    → due n p node ≡ resent view.cursor (due_of n p view.heard view.pairs)
due-shown size n p view node s r =
    ap₂ resent (sym s.cursor)
    (ap₂ (λ (heard : Label → ℕ → Bool) (pairs : List (Label × Content)).
    filter (λ pair. list_any (λ q. not (heard pair.0 q)) (others n p)) pairs)
    (heard-same size p view node s) (shown-rising size p view node s r))
  where
    heard-same : (size : Limits) (p : ℕ) (view : NodeView) (node : Node)
        → ShowsNode size p view node → acked node.heard ≡ acked view.heard
    heard-same size p view node s = fun_ext (λ x. fun_ext (λ q. sym (s.heard x q)))

-- the packets of a resent pair, in terms of a memory
unheard-shown : (size : Limits) (n p : ℕ) (view : NodeView) (node : Node)
    → ShowsNode size p view node → to_unheard n p (cert node.records) node.heard
    ≡ to_unheard n p view.certified view.heard
unheard-shown size n p view node s =
    ap₂ {C = Label × Content → List Carried}
    (λ (certified : Label → Bool) (heard : Label → ℕ → Bool) (pair : Label × Content).
    packets_to p (λ q. record { certified = certified pair.0; heard = false })
    (filter (λ q. not (heard pair.0 q)) (others n p)) pair)
    (fun_ext (λ x. sym (s.certified x))) (fun_ext (λ x. fun_ext (λ q. sym (s.heard x q))))

-- A tick sends these packets, and the cursor becomes the last of their names.
pub tick-shows : (size : Limits) (n p : ℕ) (view : NodeView) (node : Node)
    → ShowsNode size p view node → are_rising view.pairs ≡ true
    → ((resends n p node).0 ≡ Sent
    (flat_map (to_unheard n p view.certified view.heard)
    (resent view.cursor (due_of n p view.heard view.pairs))))
    × ShowsNode size p (record view
    { cursor = last_name view.cursor (resent view.cursor (due_of n p view.heard view.pairs)) })
    (resends n p node).1
tick-shows size n p view node s r =
    let e : due n p node ≡ resent view.cursor (due_of n p view.heard view.pairs) =
    due-shown size n p view node s r in (
      ap₂ (λ (packets : Label × Content → List Carried) (pairs : List (Label × Content)).
          Sent (flat_map packets pairs)) (unheard-shown size n p view node s) e,
      subst (λ (cursor : Option Label).
          ShowsNode size p (record view { cursor = cursor })
          (record node { cursor = last_name node.cursor (due n p node) }))
          (ap₂ last_name (sym s.cursor) e)
          (cursor-shows size p view (last_name node.cursor (due n p node)) node s),
    )

-- A node that goes down drops its acknowledgements and what it heard, and a record that it held
-- becomes doubtful.
pub down-shows : (size : Limits) (p : ℕ) (view new : NodeView) (node : Node)
    → ShowsNode size p view node
    → new ≡ record view { state = Down (doubt view.state); acks = []; heard = [] }
    → ShowsNode size p new (goes_down p node).1
down-shows size p view new node s e =
    subst (λ (v : NodeView). ShowsNode size p v (goes_down p node).1) (sym e)
    (record {
      pairs = s.pairs;
      certified = s.certified;
      log = s.log;
      count = s.count;
      state = ap (λ state. Down (doubt state)) s.state;
      cursor = s.cursor;
      acks = λ x q c. refl;
      heard = λ x q. refl;
      rules = s.rules;
      broadcast = s.broadcast;
    })
