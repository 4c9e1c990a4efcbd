-- What a sound group gives its nodes: the conditions of an arrival, and of opening an image.
use Rattle.urb_group.proofs.Common.{AreImages, Content, Entry, Fits, GroupView, IsSound, KeepsOwn}
use Rattle.urb_group.proofs.Common.{Label, Limits, List, MayArrive, World, [], all_kept, and_parts}
use Rattle.urb_group.proofs.Common.{arith, fitting-kept, has_pair, has_pair-found, kept-range}
use Rattle.urb_group.proofs.Common.{ltb-true, nat_lt, pend, stored, subst, suc, sym, true, view_of}
use Rattle.urb_group.proofs.Common.{ℕ, ◌<◌, ◌∙◌, ◌≡◌, ◌≤◌}
use Rattle.urb_world.proofs.steps.DraftedRecords.{AllKept, agree, to_sender}
use Rattle.urb_group.proofs.shown.ShownWorlds.{kept-own}
use Rattle.urb_world.specs.World.{image_of}

-- a pair that one node holds may come to any other
pub arrival-meets : (group : GroupView) → IsSound group → (p q : ℕ) (x : Label) (m : Content)
    → has_pair (view_of group q).pairs x m ≡ true
    → MayArrive group.size p (view_of group p).pairs x m
arrival-meets group sound p q x m h =
    let range =
    and_parts (nat_lt x.sender (suc w.size.n)) (nat_lt x.seq (suc w.size.cap))
    (kept-range w.size (stored w) q (stored w q) (all q) x m there) in
    let low : x.sender < suc w.size.n = ltb-true x.sender (suc w.size.n) range.0 in
    let high : x.seq < suc w.size.cap = ltb-true x.seq (suc w.size.cap) range.1 in
    record {
      sender =
          subst (λ (limits : Limits). x.sender ≤ limits.n) (sym sound.shows.size) (omega arith);
      seq = subst (λ (limits : Limits). x.seq ≤ limits.cap) (sym sound.shows.size) (omega arith);
      mine =
          λ e. (sound.shows.nodes p).pairs x m
          ∙ subst (λ (i : ℕ). has_pair (pend (stored w i)) x m ≡ true) e
          (to_sender w.size (stored w) all q x m there);
      same =
          λ o f. agree w.size (stored w) all p q x o m
          (sym ((sound.shows.nodes p).pairs x o) ∙ has_pair-found (view_of group p).pairs x o f)
          there;
    }
  where
    w : World
    w = sound.world

    all : AllKept w.size (stored w)
    all = all_kept w sound.kept.nodes

    there : has_pair (pend (stored w q)) x m ≡ true
    there = sym ((sound.shows.nodes q).pairs x m) ∙ h

-- each of the images that fit keeps the rules about its own pairs
pub fitting-own : (limits : Limits) (images : List (List Entry)) → AreImages limits images
    → Fits limits (image_of images) → (p : ℕ) → KeepsOwn limits p [] (image_of images p)
fitting-own limits images are fits p =
    kept-own limits (image_of images) p [] (image_of images p)
    (fitting-kept limits images are.one_each fits p)
