-- The images of a group's nodes, as they are indexed one after the other.
use Rattle.urb_stable.proofs.Common.{Entry, List, NodeImage, [], ap, arith, length, map}
use Rattle.urb_stable.proofs.Common.{slice_get, slice_index_or, suc, sym, take, take-suc}
use Rattle.urb_stable.proofs.Common.{ℕ, ⊎_elim, ◌++◌, ◌+◌, ◌<◌, ◌∙◌, ◌∷◌, ◌≡◌}
use Rattle.std.proofs.lemmas.List.{map-append}
use Rattle.urb_stable.proofs.IndexGrowth.{one_longer, read_more}
use Rattle.urb_stable.specs.internal.NumberedImages.{AreNumbered}

-- the first n images are read
pub record AreRead {X : Type 0} (items : X → List Entry) (images : List X) (n : ℕ)
    (read : List NodeImage) : Type 0 where
  -- so many images are read
  pub size : length read ≡ n
  -- they have the numbers 1, 2, 3, ..
  pub numbered : AreNumbered read
  -- their records are those of the first n images
  pub same : map (λ image. image.records) read ≡ map items (take n images)

-- once the next image is read, one image more is read
pub read-more : {X : Type 0} (items : X → List Entry) (images : List X) (i : ℕ) (x : X)
    (old new : List NodeImage) (y : NodeImage) → i < length images → x ≡ slice_index_or images i x
    → y ≡ record { number = i + 1; records = items x } → new ≡ old ++ y ∷ []
    → AreRead items images i old → AreRead items images (i + 1) new
read-more items images i x old new y l e is put h =
    record {
      size = ap length put ∙ (one_longer old y ∙ ap (λ n. n + 1) h.size);
      numbered =
          λ k image found. ⊎_elim (λ f. h.numbered k image f) (λ f. last k image f.0 f.1)
          (read_more old y image k (ap (λ xs. slice_get xs k) (sym put) ∙ found));
      same =
          ap (map (λ image. image.records)) put
          ∙ (map-append (λ image. image.records) old (y ∷ [])
          ∙ (ap (λ xs. xs ++ y.records ∷ []) h.same
          ∙ (ap (λ rs. map items (take i images) ++ rs ∷ []) (ap (λ image. image.records) is)
          ∙ (sym (map-append items (take i images) (x ∷ [])) ∙ ap (map items) (sym taken)))));
    }
  where
    taken : take (i + 1) images ≡ take i images ++ x ∷ []
    taken =
        ap (λ n. take n images) one_more
        ∙ (take-suc images i x l ∙ ap (λ z. take i images ++ z ∷ []) (sym e))
      where
        one_more : i + 1 ≡ suc i
        one_more = omega arith

    last : (k : ℕ) (image : NodeImage) → k ≡ length old → image ≡ y → image.number ≡ suc k
    last k image place same =
        let number : image.number ≡ i + 1 = ap (λ z. z.number) same ∙ ap (λ z. z.number) is in
        let size = h.size in
        omega (arith, number, place, size)
