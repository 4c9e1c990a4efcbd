-- Nothing is lost over any number of starts.
use Rattle.std.proofs.Common.{IsTrue, List, [], ap, false, inl, inr, refl, subst, sym, true, ℕ, ◌++◌}
use Rattle.std.proofs.Common.{◌∷◌, ◌≡◌}
use Rattle.urb_names.specs.LabelsAndContents.{Content, Label, Limits}
use Rattle.urb_names.specs.ListPrefixes.{Begins}
use Rattle.urb_names.specs.Nodes.{is_node}
use Rattle.urb_names.specs.Pairs.{has_pair}
use Rattle.urb_stable.proofs.Contents.{IsEither, contents-either}
use Rattle.urb_stable.specs.DeliveredLogs.{entries}
use Rattle.urb_stable.specs.Entries.{Entry}
use Rattle.urb_stable.specs.Records.{pend}
use Rattle.urb_node.specs.Part.{Node}
use Rattle.urb_node.specs.Replies.{Same}
use Rattle.urb_node.specs.declared.answer.Answer.TheVariants.{Accepted}
use Rattle.urb_node.specs.Steps.{doubt}
use Rattle.urb_world.proofs.safety.RunsOfKeptWorlds.{kept-grow}
use Rattle.urb_group.proofs.shown.AgreeingWorlds.{sound-kept}
use Rattle.urb_world.proofs.steps.Growth.{begins-itself, begins-push, begins-trans, pair-begins}
use Rattle.urb_world.proofs.steps.Growth.{run-goes_on}
use Rattle.urb_world.proofs.steps.Runs.{fitting-kept, run-kept}
use Rattle.urb_world.proofs.safety.AgreeingLogs.{entries-begin}
use Rattle.urb_world.proofs.safety.SafeWorlds.{safe}
use Rattle.urb_world.proofs.stops.StoppedWorlds.{goes-on-under}
use Rattle.urb_group.proofs.stops.StoredWorlds.{stored-begins, stored-kept}
use Rattle.urb_world.specs.Acceptance.{HasStored}
use Rattle.urb_group.specs.GroupViews.{GroupView, IsSound, Shows}
use Rattle.urb_world.specs.ProcessStops.{GoesOnUnder, MayLeave}
use Rattle.urb_world.specs.RecoveryPlans.{after}
use Rattle.urb_world.specs.RunInvariant.{IsKept}
use Rattle.urb_world.specs.Step.{Submit, run, step}
use Rattle.urb_world.specs.World.{World, image_of, opened, stored}
use Rattle.urb_daemon.specs.Lives.{Lives, OpensAfter, Runs, Starts, Stays, Stores}

-- a group that was opened after a stop goes on from the world before it
pub kept-goes-on : (v : World) (size : Limits) (images : List (List Entry)) (group : GroupView)
    → IsKept v → OpensAfter v size images group → GoesOnUnder size v (image_of images)
kept-goes-on v size images group kept h =
    goes-on-under v kept size h.nodes (image_of images) h.left
    (fitting-kept size images h.one_each h.fits)

-- each world of a life keeps the rules
pub lives-kept : (w v : World) → Lives w v → IsKept w → IsKept v
lives-kept w _ Stays kept = kept
lives-kept w _ (Runs v events l) kept = run-kept v events (lives-kept w v l kept)
lives-kept w _ (Stores v u l is) kept = stored-kept v u is (lives-kept w v l kept)
lives-kept w _ (Starts v size images group l h) kept =
    sound-kept group (opened size (image_of images)) h.sound h.shows

-- each log only grows
pub lives-shown : (w v : World) → Lives w v → IsKept w → (p : ℕ)
    → Begins (entries (stored w p)) (entries (stored v p))
lives-shown w _ Stays kept p = begins-itself (entries (stored w p))
lives-shown w _ (Runs v events l) kept p =
    begins-trans (entries (stored w p)) (entries (stored v p))
    (entries (stored (after v events) p)) (lives-shown w v l kept p)
    (kept-grow v (after v events) events (run v events).0 (lives-kept w v l kept) refl p)
lives-shown w _ (Stores v u l is) kept p =
    begins-trans (entries (stored w p)) (entries (stored v p)) (entries (stored u p))
    (lives-shown w v l kept p)
    (entries-begin v (safe v (lives-kept w v l kept).nodes) p (stored u p)
    (stored-begins v u is p))
lives-shown w _ (Starts v size images group l h) kept p =
    begins-trans (entries (stored w p)) (entries (stored v p)) (entries (image_of images p))
    (lives-shown w v l kept p)
    ((kept-goes-on v size images group (lives-kept w v l kept) h).entries p)

-- what a stop leaves of a node begins with its records
left-begins : (node : Node) (image : List Entry) → MayLeave node image
    → Begins node.records image
left-begins node image left = at (contents-either node.records (doubt node.state) image left)
  where
    at : IsEither node.records (doubt node.state) image → Begins node.records image
    at (inl e) =
        subst (λ (rs : List Entry). Begins node.records rs) (sym e) (begins-itself node.records)
    at (inr e) =
        subst (λ (rs : List Entry). Begins node.records rs) (sym e.2)
        (begins-push node.records e.0)

-- what was stored stays stored
pub lives-stored : (w v : World) → Lives w v → (p : ℕ) (x : Label) (m : Content)
    → HasStored w p x m → HasStored v p x m
lives-stored w _ Stays p x m h = h
lives-stored w _ (Runs v events l) p x m h =
    let was = lives-stored w v l p x m h in (
      was.0,
      pair-begins (stored v p) (stored (after v events) p)
          ((run-goes_on v (after v events) events (run v events).0 refl).records p) x m was.1,
    )
lives-stored w _ (Stores v u l is) p x m h =
    let was = lives-stored w v l p x m h in
    (was.0, pair-begins (stored v p) (stored u p) (stored-begins v u is p) x m was.1)
lives-stored w _ (Starts v size images group l h) p x m has =
    let was = lives-stored w v l p x m has in (
      was.0,
      pair-begins (stored v p) (image_of images p)
          (left-begins (v.node p) (image_of images p) (h.left p)) x m was.1,
    )

-- at each start, what was stored is accepted again under its name
pub lives-again : (w v : World) (size : Limits) (images : List (List Entry)) (group : GroupView)
    → Lives w v → IsKept w → OpensAfter v size images group → (p : ℕ) (x : Label) (m : Content)
    → IsTrue (is_node v.size.n p) → HasStored w p x m
    → (step (opened size (image_of images)) (Submit p m)).0 ≡ Same (Accepted x)
lives-again w v size images group lives kept h p x m is has =
    let was = lives-stored w v lives p x m has in
    (kept-goes-on v size images group (lives-kept w v lives kept) h).again p x m is was.0 was.1
