-- The places of a group that is opened from images, one node after the other.
use Rattle.urb_group.proofs.Common.{AreImages, Entry, IsGroup, IsNumbered, KeepsOwn, Limits, List}
use Rattle.urb_group.proofs.Common.{NodeView, None, Ok, Opens, Shows, ShowsAt, ShowsNode}
use Rattle.urb_group.proofs.Common.{ShowsReady, Some, [], ap, append-nil, append_assoc, arith}
use Rattle.urb_group.proofs.Common.{first_misfit, get_some, inl, inr, length, length-map, map}
use Rattle.urb_group.proofs.Common.{memory_in, no_view, one_longer, opened, opened_node, read_more}
use Rattle.urb_group.proofs.Common.{refl, shown, slice_get, slice_index_or, subst, suc, sym}
use Rattle.urb_group.proofs.Common.{view_at, ℕ, ◌++◌, ◌<◌, ◌∙◌, ◌∷◌, ◌≡◌, ◌≤◌, ◌⊎◌}
use Rattle.urb_node.specs.NodeMemories.{Memory}
use Rattle.urb_stable.specs.Images.{image_of}
use Rattle.urb_group.proofs.moves.FittingImages.{no_misfit-fits, opened-own, opened-shows}
use Rattle.urb_group.proofs.shown.ReplacedElements.{read_mapped}
use Rattle.urb_group.proofs.shown.ShownWorlds.{sound-opened}
use Rattle.urb_group.specs.declared.node_moves.Node.{Node as Place}
use Rattle.urb_group.specs.declared.node_moves.Node.TheVariants as place

-- a node in a place of the group shows the node that is opened from its image
pub record IsOpened {A : Type 0} (size : Limits) (images : List (List Entry)) (i : ℕ)
    (node : Place A) : Type 0 where
  -- it has the number of its place, and the group's limits
  pub numbered : IsNumbered size i node
  -- it shows the node that is opened from its image
  pub shows : ShowsAt node (opened_node (suc i) (slice_index_or images i []))

-- the nodes of the first images have their places
pub record HasOpened {T A : Type 0} (items : T → List Entry) (size : Limits)
    (images yielded left : List T) (number : ℕ) (places : List (Place A)) : Type 0 where
  -- the images are those that were opened and those that are left
  pub all : images ≡ yielded ++ left
  -- the number counts those that were opened
  pub taken : number ≡ length yielded
  -- there is a place for each image that was opened
  pub count : length places ≡ length yielded
  -- the node in each place is opened from its image
  pub each : (i : ℕ) (node : Place A) → slice_get places i ≡ Some node
      → IsOpened size (map items images) i node

-- before the first image is opened, there are no places
pub none-opened : {T A : Type 0} (items : T → List Entry) (size : Limits) (images : List T)
    → HasOpened {A = A} items size images [] images 0 []
none-opened items size images =
    record { all = refl; taken = refl; count = refl; each = λ i node e. absurd (cc) }

-- the item after some elements
behind : {T : Type 0} (items : T → List Entry) (yielded left : List T) (image : T)
    → slice_index_or (map items (yielded ++ image ∷ left)) (length yielded) [] ≡ items image
behind items [] left image = refl
behind items (x ∷ yielded) left image = behind items yielded left image

behind-less : {T : Type 0} (yielded left : List T) (image : T)
    → suc (length yielded) ≤ length (yielded ++ image ∷ left)
behind-less [] left image = omega arith
behind-less (x ∷ yielded) left image =
    (let less = behind-less yielded left image in omega (arith, less))

module _ {T A : Type 0} {items : T → List Entry} {size : Limits} {images yielded left : List T}
    {image : T} {number : ℕ} {places : List (Place A)}
    (h : HasOpened items size images yielded (image ∷ left) number places) where
  -- the next image is that of the next node
  next-image : image_of (map items images) (suc number) ≡ items image
  next-image =
      ap (λ (xs : List T). slice_index_or (map items xs) number []) h.all
      ∙ (ap (λ i. slice_index_or (map items (yielded ++ image ∷ left)) i []) h.taken
      ∙ behind items yielded left image)

  -- the next node is one of the group
  pub next-counted : suc number ≤ length images
  next-counted =
      subst (λ (xs : List T). suc number ≤ length xs) (sym h.all)
      (subst (λ (n : ℕ). suc n ≤ length (yielded ++ image ∷ left)) (sym h.taken)
      (behind-less yielded left image))

  -- if all images fit together, the next one keeps the rules that concern its node alone
  pub next-keeps : AreImages size (map items images)
      → first_misfit size (image_of (map items images)) ≡ None
      → KeepsOwn size (suc number) [] (items image)
  next-keeps are none =
      subst (λ (records : List Entry). KeepsOwn size (suc number) [] records) next-image
      (opened-own size (map items images) are none (suc number))

  -- once the next node is opened from its image, one more image has its place
  pub more-opened : {new : List (Place A)} {a : Memory} → a.limits ≡ size → a.node ≡ suc number
      → ShowsReady a (opened_node (suc number) (items image)) → new ≡ places ++ place.Ready a ∷ []
      → HasOpened items size images (yielded ++ image ∷ []) left (suc number) new
  more-opened {a = a} limits is shows e =
      record {
        all = h.all ∙ sym (append_assoc yielded (image ∷ []) left);
        taken = ap suc h.taken ∙ sym (one_longer yielded image);
        count =
            ap length e ∙ (one_longer places (place.Ready a)
            ∙ (ap suc h.count ∙ sym (one_longer yielded image)));
        each =
            λ i node got. at i node (read_more places (place.Ready a) node i
            (subst (λ ps. slice_get ps i ≡ Some node) e got));
      }
    where
      ready : Place A
      ready = place.Ready a

      here : (i : ℕ) → i ≡ number → IsOpened size (map items images) i ready
      here i f =
          record {
            numbered = record { limits = limits; number = is ∙ ap suc (sym f) };
            shows =
                subst (λ (j : ℕ). ShowsReady a
                (opened_node (suc j) (slice_index_or (map items images) j []))) (sym f)
                (subst (λ (records : List Entry). ShowsReady a (opened_node (suc number) records))
                (sym next-image) shows);
          }

      at : (i : ℕ) (node : Place A)
          → (slice_get places i ≡ Some node) ⊎ ((i ≡ length places) × (node ≡ ready))
          → IsOpened size (map items images) i node
      at i node (inl got) = h.each i node got
      at i node (inr k) =
          subst (λ (n : Place A). IsOpened size (map items images) i n) (sym k.1)
          (here i (k.0 ∙ (h.count ∙ sym h.taken)))

-- all of them
module _ {T A : Type 0} {items : T → List Entry} {size : Limits} {images yielded : List T}
    {number : ℕ} {places : List (Place A)}
    (h : HasOpened items size images yielded [] number places) where
  counted : length places ≡ length (map items images)
  counted =
      h.count ∙ (ap length (sym (append-nil yielded) ∙ sym h.all) ∙ sym (length-map images items))

  all-show : Shows (shown size places) (opened size (image_of (map items images)))
  all-show =
      opened-shows (shown size places) size (map items images) refl
      (length-map places view_at ∙ counted) each
    where
      each : (i : ℕ) → i < length (map items images)
          → ShowsNode size (suc i) (slice_index_or (map view_at places) i no_view)
          (opened_node (suc i) (slice_index_or (map items images) i []))
      each i less =
          let there = get_some places i (omega (arith, counted, less)) in
          let one = h.each i there.0 there.1 in
          subst (λ (view : NodeView). ShowsNode size (suc i) view
          (opened_node (suc i) (slice_index_or (map items images) i [])))
          (sym (read_mapped view_at places i there.0 no_view there.1))
          (subst (λ (l : Limits). ShowsNode l (suc i) (view_at there.0)
          (opened_node (suc i) (slice_index_or (map items images) i []))) one.numbered.limits
          (subst (λ (p : ℕ). ShowsNode (memory_in there.0).limits p (view_at there.0)
          (opened_node (suc i) (slice_index_or (map items images) i [])))
          one.numbered.number one.shows))

  -- once all images are opened that fit together, the nodes in their places are a sound group
  pub all-group : AreImages size (map items images)
      → first_misfit size (image_of (map items images)) ≡ None → IsGroup size places
  all-group are none =
      record {
        placed = record {
          count = counted ∙ are.one_each;
          each = λ i node got. (h.each i node got).numbered;
        };
        sound =
            sound-opened (shown size places) size (map items images) are
            (no_misfit-fits size (image_of (map items images)) none) all-show;
      }

  -- once all images are opened that fit together, the group shows the world that is opened from
  -- them
  pub all-opens : first_misfit size (image_of (map items images)) ≡ None
      → Opens size (map items images) (Ok (shown size places))
  all-opens none = (no_misfit-fits size (image_of (map items images)) none, all-show)
