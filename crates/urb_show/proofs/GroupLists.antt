-- The lists of a group: the list at a place, that the lists agree, and what an event does to them.
use Rattle.urb_show.proofs.Common.{Agree, Carried, ComesUp, Commit, Commits, Delivery, Done, Err}
use Rattle.urb_show.proofs.Common.{Event, GoesDown, GroupView, IsHouse, IsPrefix, IsSound, List}
use Rattle.urb_show.proofs.Common.{Lists, Ok, OneBegins, Placed, Refusal, Result, Taken, Ticks, []}
use Rattle.urb_show.proofs.Common.{ap, arith, delivered_at, deliveries, delivery_of, entry_of}
use Rattle.urb_show.proofs.Common.{length, list_at, lists_in, map, no_view, numbers_from, refl}
use Rattle.urb_show.proofs.Common.{sent_by, slice_index_or, step-size, subst, suc, sym, zero, ℕ}
use Rattle.urb_show.proofs.Common.{◌-◌, ◌<◌, ◌∙◌, ◌∷◌, ◌≡◌}
use Rattle.urb_group.proofs.shown.Deliveries.{deliveries-grow, sound-after}
use Rattle.urb_group.specs.GroupCalls.{Takes}
use Rattle.urb_group.specs.DeliveredMessages.{Agree as AgreeAll, Follows}
use Rattle.urb_node.specs.NodeViews.{NodeView}
use Rattle.urb_show.proofs.AgreeingLists.{map_prefix}
use Rattle.urb_show.proofs.ListBeginnings.{begins_trans}
use Rattle.urb_show.specs.Lists.{Begins}
use Rattle.urb_show.specs.declared.entry.Entry.{Entry}
use Rattle.urb_group.specs.declared.taken.Taken.TheVariants as taken

-- ---- the list at a place

abbrev entries_in : NodeView → List Entry
entries_in view = map entry_of (deliveries view)

in_place : (views : List NodeView) (place : ℕ)
    → list_at (map entries_in views) place ≡ entries_in (slice_index_or views place no_view)
in_place [] place = refl
in_place (v ∷ views) zero = refl
in_place (v ∷ views) (suc place) = in_place views place

-- the list at a place has what the node of that place has delivered
pub list_in : (group : GroupView) (place : ℕ)
    → list_at (lists_in group) place ≡ map entry_of (delivered_at group (suc place))
list_in group place = in_place group.nodes place

-- the list of a node, at the place one below its number, has what the node has delivered
pub list_of : (group : GroupView) (node : ℕ) → 0 < node
    → list_at (lists_in group) (node - 1) ≡ map entry_of (delivered_at group node)
list_of group node low =
    let number : suc (node - 1) ≡ node = omega (arith, low) in
    list_in group (node - 1) ∙ ap (λ p. map entry_of (delivered_at group p)) number

-- ---- agreement

as_deliveries : (list : List Delivery) → map delivery_of (map entry_of list) ≡ list
as_deliveries [] = refl
as_deliveries (d ∷ list) = ap (λ ds. d ∷ ds) (as_deliveries list)

-- if what the nodes have delivered agrees, their lists agree
pub lists_agree : (group : GroupView) → AgreeAll (delivered_at group) → Agree (lists_in group)
lists_agree group agree = record {
  numbers =
      λ p s. subst (λ (xs : List Delivery).
      map (λ (d : Delivery). d.0.seq) (sent_by s xs) ≡ numbers_from 1 (length (sent_by s xs)))
      (sym (same p)) (agree.numbers (suc p) s);
  one_begins =
      λ p q s. subst (λ (xs : List Delivery).
      OneBegins (sent_by s xs) (sent_by s (map delivery_of (list_at (lists_in group) q))))
      (sym (same p))
      (subst (λ (ys : List Delivery).
      OneBegins (sent_by s (delivered_at group (suc p))) (sent_by s ys)) (sym (same q))
      (agree.one_begins (suc p) (suc q) s));
  short =
      λ p. let short = agree.short (suc p) in let long = ap length (same p) in
      omega (arith, short, long);
}
  where
    same : (p : ℕ) → map delivery_of (list_at (lists_in group) p) ≡ delivered_at group (suc p)
    same p = ap (map delivery_of) (list_in group p) ∙ as_deliveries (delivered_at group (suc p))

-- ---- an event

begin_each : (xs ys : List NodeView) → length xs ≡ length ys
    → ((i : ℕ) → IsPrefix (entries_in (slice_index_or xs i no_view))
    (entries_in (slice_index_or ys i no_view)))
    → Begins (map entries_in xs) (map entries_in ys)
begin_each [] ys same each = tt
begin_each (x ∷ xs) [] same each = absurd (omega (arith, same))
begin_each (x ∷ xs) (y ∷ ys) same each =
    (each 0, begin_each xs ys (omega (arith, same)) (λ i. each (suc i)))

module _ (old new : GroupView) (event : Event) (sound : IsSound old)
    (follows : Follows old event new) where
  same_size : new.size ≡ old.size
  same_size =
      let shows = follows sound.world sound.shows in
      shows.size ∙ (step-size sound.world event ∙ sym sound.shows.size)

  -- the lists before an event are, node by node, prefixes of those after it
  pub lists_grow : length old.nodes ≡ old.size.n → length new.nodes ≡ new.size.n
      → Begins (lists_in old) (lists_in new)
  lists_grow before after =
      let n = ap (λ l. l.n) same_size in
      begin_each old.nodes new.nodes (omega (arith, before, after, n))
      (λ i. map_prefix entry_of _ _ (deliveries-grow old new event sound follows (suc i)))

  follows_house : (prepared : Lists) (counts : List ℕ) → IsHouse old prepared counts
      → length new.nodes ≡ new.size.n → IsHouse new prepared counts
  follows_house prepared counts house after =
      let n = ap (λ l. l.n) same_size in
      let before = house.counted in
      let lists = house.lists in
      record {
        sound = sound-after old new event sound follows;
        counted = after;
        begins =
            begins_trans prepared (lists_in old) (lists_in new) house.begins
            (lists_grow before after);
        lists = omega (arith, before, after, n, lists);
        lengths = house.lengths;
      }

-- the event happened in every world that the group showed, or the call was refused, and the group
-- is unchanged
abbrev pub MayFollow : {T E : Type 0} → GroupView → Event → Result T E → GroupView → Type 0
MayFollow old event (Ok done) new = Follows old event new
MayFollow old event (Err refused) new = new ≡ old

-- a house stays one through an event of its group, or if its group is unchanged
pub house_after : {T E : Type 0} (old new : GroupView) (event : Event) (r : Result T E)
    (prepared : Lists) (counts : List ℕ) → IsHouse old prepared counts
    → length new.nodes ≡ new.size.n → MayFollow old event r new → IsHouse new prepared counts
house_after old new event (Ok done) prepared counts house after follows =
    follows_house old new event house.sound follows prepared counts house after
house_after old new event (Err refused) prepared counts house after same =
    subst (λ (g : GroupView). IsHouse g prepared counts) (sym same) house

-- ---- what each call says

-- after a submit or an arrival the group follows its event or is unchanged
pub takes_follow : {A : Type 0} (old new : GroupView) (p : ℕ) (event : Event)
    (r : Result (Taken A) Refusal) → Takes old p event r new → MayFollow old event r new
takes_follow old new p event (Ok (taken.Same answer)) h = λ w s. (h w s).shows
takes_follow old new p event (Ok (taken.Store draft)) h = λ w s. (h.0 w s).shows
takes_follow old new p event (Err refusal) h = h.1

-- after a receipt the group follows its event or is unchanged
pub commits_follow : (old new : GroupView) (receipt : Placed) (r : Result Done (Placed × Refusal))
    → Commits old receipt r new
    → MayFollow old (Commit receipt.node receipt.pos receipt.entry) r new
commits_follow old new receipt (Ok done) h = λ w s. (h w s).shows
commits_follow old new receipt (Err e) h = h.0.1

-- after a tick the group follows its event or is unchanged
pub ticks_follow : (old new : GroupView) (event : Event) (r : Result (List Carried) Refusal)
    → Ticks old event r new → MayFollow old event r new
ticks_follow old new event (Ok packets) h = λ w s. (h w s).shows
ticks_follow old new event (Err refusal) h = h.1

-- after a failed store or a crash the group follows its event or is unchanged
pub goes_down_follow : (old new : GroupView) (p : ℕ) (event : Event) (r : Result (Unit {0}) Refusal)
    → GoesDown old p event r new → MayFollow old event r new
goes_down_follow old new p event (Ok done) h = λ w s. (h w s).shows
goes_down_follow old new p event (Err refusal) h = h.1

-- after a restart the group follows its event or is unchanged
pub comes_up_follow : (old new : GroupView) (p : ℕ) (event : Event) (r : Result (Unit {0}) Refusal)
    → ComesUp old p event r new → MayFollow old event r new
comes_up_follow old new p event (Ok done) h = λ w s. (h w s).shows
comes_up_follow old new p event (Err refusal) h = h.1
