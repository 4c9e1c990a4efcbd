-- A node opened from its image.
use Rattle.urb_node.proofs.Common.{Content, Entry, IsNext, KeepsOwn, Label, Limits, List, NodeView}
use Rattle.urb_node.proofs.Common.{None, Ready, ShowsNode, [], acked, are_rising, false}
use Rattle.urb_node.proofs.Common.{has_name, log, opened_node, own}
use Rattle.urb_node.proofs.Common.{pend, refl, self_acks, subst, true, ℕ, ◌++◌, ◌∷◌, ◌≡◌}
use Rattle.urb_node.proofs.JoinedMemory.{SaysMore, own-after, up-joined-shows}
use Rattle.urb_node.proofs.NextRecords.{keeps-next, own-parts}
use Rattle.urb_node.specs.NodeViews.{no_view}

-- an empty memory shows a node that has read nothing
pub nothing-shows : (size : Limits) (p : ℕ) → ShowsNode size p no_view (opened_node p [])
nothing-shows size p = record {
  pairs = λ x m. refl;
  certified = λ x. refl;
  log = refl;
  count = refl;
  state = refl;
  cursor =
      refl;
  acks = λ x q c. refl;
  heard = λ x q. refl;
  rules = tt;
  broadcast = refl;
}

-- one more record of the image is read
pub opened-more : (size : Limits) (p : ℕ) (view new : NodeView) (before : List Entry) (r : Entry)
    (behind : List Entry) → KeepsOwn size p [] (before ++ r ∷ behind)
    → ShowsNode size p view (opened_node p before) → are_rising view.pairs ≡ true
    → SaysMore view new r → new.state ≡ Ready → new.cursor ≡ None
    → ((x : Label) (q : ℕ) → has_name new.certified x ≡ false
    → acked new.acks x q ≡ acked (self_acks p new.pairs) x q)
    → new.heard ≡ [] → IsNext size p view.pairs view.certified r
    × ShowsNode size p new (opened_node p (before ++ r ∷ []))
opened-more size p view new before r behind k s rise more state cursor acks nothing =
    let parts = own-parts size p [] before r behind k in
    let next : IsNext size p view.pairs view.certified r =
    keeps-next size p view (opened_node p before) r s rise parts.0.1 parts.1 in (
      next,
      subst (λ (messages : List Content).
          ShowsNode size p new (record (opened_node p (before ++ r ∷ [])) { broadcast = messages }))
          (own-after p before r (own p (pend before)) refl)
          (up-joined-shows size p view new
          (opened_node p before) r s rise next more state cursor acks nothing),
    )
