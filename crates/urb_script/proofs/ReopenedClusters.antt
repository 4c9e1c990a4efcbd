-- A cluster whose stores are in memory, opened again.
use Rattle.urb_script.proofs.Common.{Bool, Clustered, CommandLine, Entry, Err, Gives, IsHeldBy}
use Rattle.urb_script.proofs.Common.{Limits, List, Memory, Misfit, None, Ok, Option, Refusal}
use Rattle.urb_script.proofs.Common.{Reopen, Scene, Shows, ShowsScene, Some, Takes, World, [], ap}
use Rattle.urb_script.proofs.Common.{arith, false, false≢true, first_misfit, in_memory, inl, inr}
use Rattle.urb_script.proofs.Common.{is_node, le_refl, length, nat_lt, opened_node, refl}
use Rattle.urb_script.proofs.Common.{refusal_of, reopens, slice_index_or, subst, suc, sym}
use Rattle.urb_script.proofs.Common.{told_text, true, with_doubt, zero, ℕ, ⊎_elim, ◌&&◌, ◌++◌, ◌-◌}
use Rattle.urb_script.proofs.Common.{◌<◌, ◌∙◌, ◌∷◌, ◌≡◌, ◌≤◌, ◌⊎◌}
use Rattle.std.proofs.Common.{ltb-true, slice_get}
use Rattle.std.proofs.lemmas.Bool.{cases_lt}
use Rattle.urb_stable.specs.Fitting.{first_of_all, misfits}
use Rattle.urb_group.specs.GroupCalls.{Opens}
use Rattle.urb_group.specs.StoreOpenings.{AllGive, OpensFrom, OpensGiven}
use Rattle.urb_world.specs.StartLimits.{MayStartWith}
use Rattle.urb_world.specs.World.{image_of, opened}
use Rattle.urb_script.specs.internal.CommandLines.{command}
use Rattle.urb_script.proofs.LogTexts.{node_within}
use Rattle.urb_world.proofs.steps.Runs.{past_end}
use Rattle.urb_names.proofs.Places.{get_some}
use Rattle.urb_names.specs.declared.refusal.Refusal.TheVariants as refusal
use Rattle.urb_script.specs.declared.commands.CommandLine.TheVariants as line
use Rattle.urb_script.specs.declared.answer_words.FixedAnswer.TheVariants as told

-- values are the same if they are so as options
pub some_same : {X : Type 0} {x y : X} → Some x ≡ Some y → x ≡ y
some_same e = cc

previous : (i : ℕ) → suc i - 1 ≡ i
previous i = omega arith

-- ---- what the stores gave

-- the store at a place, before it was asked and after
record GivenAt (A : Type 0) (stores : List Memory) (images : List (List Entry)) (i : ℕ)
    (after : Memory) : Type 0 where
  before : Memory
  was : slice_get stores i ≡ Some before
  gives : Gives (in_memory A) before (Ok (slice_index_or images i [])) after

given_at : (A : Type 0) (stores : List Memory) (images : List (List Entry)) (asked : List Memory)
    (i : ℕ) (after : Memory) → AllGive (in_memory A) stores images asked
    → slice_get asked i ≡ Some after → GivenAt A stores images i after
given_at A [] [] [] i after t e = absurd (cc)
given_at A (b ∷ stores) (x ∷ images) (a ∷ asked) zero after t e =
    record {
      before = b;
      was = refl;
      gives =
          subst (λ (m : Memory). Gives (in_memory A) b (Ok x) m) (some_same e) t.0;
    }
given_at A (b ∷ stores) (x ∷ images) (a ∷ asked) (suc i) after t e =
    let g = given_at A stores images asked i after t.1 e in
    record { before = g.before; was = g.was; gives = g.gives }
given_at A stores images asked i after t e = absurd t

-- the image at a store's place is all that it holds
image_at : (A : Type 0) (stores : List Memory) (images : List (List Entry)) (asked : List Memory)
    (i : ℕ) (before : Memory) → AllGive (in_memory A) stores images asked
    → slice_get stores i ≡ Some before
    → slice_index_or images i [] ≡ with_doubt before.certain before.doubt
image_at A [] [] [] i before t e = absurd (cc)
image_at A (b ∷ stores) (x ∷ images) (a ∷ asked) zero before t e =
    t.0.answers ∙ ap (λ (m : Memory). with_doubt m.certain m.doubt) (some_same e)
image_at A (b ∷ stores) (x ∷ images) (a ∷ asked) (suc i) before t e =
    image_at A stores images asked i before t.1 e
image_at A stores images asked i before t e = absurd t

given_counts : (A : Type 0) (stores : List Memory) (images : List (List Entry))
    (asked : List Memory) → AllGive (in_memory A) stores images asked
    → (length images ≡ length stores) × (length asked ≡ length stores)
given_counts A [] [] [] t = (refl, refl)
given_counts A (b ∷ stores) (x ∷ images) (a ∷ asked) t =
    let c = given_counts A stores images asked t.1 in (ap suc c.0, ap suc c.1)
given_counts A stores images asked t = absurd t

and_right : (a b : Bool) → (a && b) ≡ true → b ≡ true
and_right true b e = e
and_right false b e = absurd (cc)

within : (n i : ℕ) → is_node n (suc i) ≡ true → i < n
within n i e =
    let l : suc i < suc n = ltb-true (suc i) (suc n)
    (and_right (nat_lt 0 (suc i)) (nat_lt (suc i) (suc n)) e) in omega (arith, l)

beyond : (n i : ℕ) → is_node n (suc i) ≡ false → n ≤ i
beyond n i not =
    ⊎_elim (λ l. absurd (false≢true
    (sym not ∙ node_within n (suc i) (omega arith) (omega (arith, l))))) (λ h. h) (cases_lt i n)

-- ---- the images are what storage holds

module _ (A : Type 0) (size : Limits) (old : Clustered Memory) (scene : Scene)
    (images : List (List Entry)) (asked : List Memory) (s : ShowsScene size old scene)
    (t : AllGive (in_memory A) old.stores images asked) where
  image_is : (p : ℕ) → scene.storage p ≡ image_of images p
  image_is zero = s.beyond 0 refl
  image_is (suc i) = at (is_node size.n (suc i)) refl
    where
      at : (b : Bool) → is_node size.n (suc i) ≡ b
          → scene.storage (suc i) ≡ slice_index_or images i []
      at true is =
          let m = get_some old.stores i (omega (arith, s.counted, within size.n i is)) in
          (s.stores (suc i) m.0 is (subst (λ (k : ℕ). slice_get old.stores k ≡ Some m.0)
          (sym (previous i)) m.1)).holds ∙ sym (image_at A old.stores images asked i m.0 t m.1)
      at false not =
          s.beyond (suc i) not ∙ sym (past_end images i []
          (omega (
            arith,
            s.counted,
            (given_counts A old.stores images asked t).0,
            beyond size.n i not,
          )))

  same_images : image_of images ≡ scene.storage
  same_images = λ i p. sym (image_is p) i

-- a list, and the list that it came from
fits_none : (size : Limits) (images : ℕ → List Entry) → misfits size images ≡ []
    → first_misfit size images ≡ None
fits_none size images e = ap first_of_all e

-- a store holds its node's opened records
opened_held : (A : Type 0) (p : ℕ) (records : List Entry) (before after : Memory)
    → Gives (in_memory A) before (Ok records) after → IsHeldBy (opened_node p records) records after
opened_held A p records before after k =
    let certain : after.certain ≡ records = (k.retrieved tt).given.0 in
    record {
      holds =
          sym (ap (λ (d : Option Entry). with_doubt after.certain d) k.settled.clear.1 ∙ certain);
      contents = refl;
      certain = λ up. (certain, k.settled.clear.1);
    }

-- the line has this answer, and the opened scene is shown
pub opens_again : {A : Type 0} (size limits : Limits) (old new : Clustered Memory)
    (before text : List ℕ) → limits ≡ old.group.size
    → OpensGiven (in_memory A) limits old.stores new.stores (Ok new.group)
    → before ≡ [] → text ≡ before ++ told_text told.Opened → (scene : Scene)
    → ShowsScene size old scene → (after : Scene) × ShowsScene size new after
    × Takes (Some scene) Reopen text after
opens_again {A = A} size limits old new before text same o fresh written scene s =
    let images_are : image_of o.images ≡ scene.storage =
    same_images A size old scene o.images new.stores s o.given in
    let size_is : limits ≡ scene.world.size = same ∙ s.group.size in
    let fits : misfits scene.world.size scene.storage ≡ [] =
    subst (λ (l : Limits). misfits l scene.storage ≡ []) size_is
    (subst (λ (f : ℕ → List Entry). misfits limits f ≡ []) images_are o.opens.0) in
    let shows : Shows new.group (opened scene.world.size scene.storage) =
    subst (λ (l : Limits). Shows new.group (opened l scene.storage)) size_is
    (subst (λ (f : ℕ → List Entry). Shows new.group (opened limits f)) images_are o.opens.1) in
    let none : first_misfit scene.world.size scene.storage ≡ None =
    fits_none scene.world.size scene.storage fits in (
      (reopens None scene).1,
      record {
        size = s.size;
        group = shows;
        stores = λ p m is found.
            let g = given_at A old.stores o.images new.stores (p - 1) m o.given found in
            let image : image_of o.images p ≡ scene.storage p =
            ap (λ (f : ℕ → List Entry). f p) images_are in
            subst (λ (rs : List Entry). IsHeldBy (opened_node p rs) rs m)
            (at_place o.images p (from_one size.n p is) ∙ image)
            (opened_held A p (slice_index_or o.images (p - 1) []) g.before m g.gives);
        counted = (given_counts A old.stores o.images new.stores o.given).1 ∙ s.counted;
        beyond = s.beyond;
      },
      inl (subst (λ (o : Option Misfit).
          ◌≡◌ {A = List ℕ × Scene} (text, (reopens None scene).1) (reopens o scene)) (sym none)
          (ap (λ (t : List ℕ). let r : List ℕ × Scene = (t, (reopens None scene).1) in r)
          (written ∙ ap (λ (b : List ℕ). b ++ told_text told.Opened) fresh))),
    )
  where
    from_one : (n p : ℕ) → is_node n p ≡ true → 0 < p
    from_one n zero e = absurd (cc)
    from_one n (suc p) e = omega arith

    at_place : (images : List (List Entry)) (p : ℕ) → 0 < p
        → slice_index_or images (p - 1) [] ≡ image_of images p
    at_place images zero h = absurd (omega (arith, h))
    at_place images (suc i) h = ap (λ (k : ℕ). slice_index_or images k []) (previous i)

-- a stocked cluster of stores in memory is refused only for memory
pub refused_for_memory : {A : Type 0} (size : Limits) (old asked : List Memory) (why : Refusal)
    → OpensFrom (in_memory A) size old (Err why) asked
    → (why ≡ refusal.NoMemory) ⊎ (why ≡ refusal.Device) → why ≡ refusal.NoMemory
refused_for_memory size old asked why o (inl e) = e
refused_for_memory size old asked why (inl (inl r)) (inr e) = r.2 ∙ ap refusal_of r.1.failed.answers
refused_for_memory size old asked why (inl (inr r)) (inr e) = r.1
refused_for_memory size old asked why (inr g) (inr e) =
    absurd (subst (λ (r : Refusal). Opens size g.images (Err r)) e g.opens)

-- any other line is another command
pub other_command : (l : CommandLine) → (l ≡ line.Reopen → ⊥) → command l ≡ Reopen → ⊥
other_command line.Reopen not e = absurd (not refl)
other_command l not e = absurd (cc)

-- ---- with the same limits

-- a group may start again with its own limits
pub may-start-again : (size : Limits) (w : World) → size ≡ w.size → MayStartWith size w
may-start-again size w same =
    subst (λ (limits : Limits). MayStartWith limits w) (sym same)
    (record {
      nodes = le_refl w.size.n;
      cap = inl (le_refl w.size.cap);
      majorities = inl refl;
    })
