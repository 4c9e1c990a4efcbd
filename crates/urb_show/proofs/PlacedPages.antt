-- Lists that are delivered at places of one history agree.
use Rattle.urb_show.proofs.Common.{AgreeAcross, AreDeliveredBy, Bool, Content, Delivery, Event}
use Rattle.urb_show.proofs.Common.{GroupView, HaveDelivered, IsPrefix, IsSound, Label, List, Lists}
use Rattle.urb_show.proofs.Common.{OneBegins, Option, World, [], after, ap, delivery_of, entries}
use Rattle.urb_show.proofs.Common.{filter, filter-append, in_log, inl, inr, known, list_at, log}
use Rattle.urb_show.proofs.Common.{map, message_of, pend, refl, run-kept, safe, sent_by, sound-kept}
use Rattle.urb_show.proofs.Common.{stored, subst, suc, sym, ℕ, ⊎_elim, ◌==◌, ◌∙◌, ◌∷◌, ◌≡◌}
use Rattle.urb_world.proofs.safety.AgreeingLogs.{agree-now}
use Rattle.urb_group.proofs.shown.Deliveries.{known-begins}
use Rattle.urb_world.specs.SafetyProperties.{Safe}
use Rattle.urb_stable.specs.DeliveredLogs.{entries_of}
use Rattle.urb_show.proofs.AgreeingLists.{either_prefix}
use Rattle.urb_show.proofs.DeliveredPlaces.{delivered_later}
use Rattle.urb_show.proofs.Prefixes.{prefix_trans}
use Rattle.urb_show.specs.declared.entry.Entry.{Entry}
use Rattle.urb_group.proofs.shown.AgreeingDeliveries.{filter-mapped}

filter_prefix : {A : Type 0} (test : A → Bool) (xs ys : List A) → IsPrefix xs ys
    → IsPrefix (filter test xs) (filter test ys)
filter_prefix test xs ys p =
    (filter test p.0, sym (filter-append test xs p.0) ∙ ap (filter test) p.1)

logged_known : (list : List Entry) → map in_log list ≡ map known (map delivery_of list)
logged_known [] = refl
logged_known (e ∷ list) =
    ap (λ (es : List (Label × Option Content)). in_log e ∷ es) (logged_known list)

module _ (v : World) (is_safe : Safe v) where
  -- a sender's entries in a list that is delivered are a prefix of those of the node's log
  sent_logged : (lists : Lists) (p s : ℕ) → HaveDelivered v lists
      → IsPrefix (map known (sent_by s (map delivery_of (list_at lists p))))
      (entries_of s (stored v (suc p)))
  sent_logged lists p s delivered =
      let ds : List Delivery = map delivery_of (list_at lists p) in
      let records = stored v (suc p) in
      let told : IsPrefix (map known ds) (entries records) =
      subst (λ (es : List (Label × Option Content)). IsPrefix es (entries records))
      (logged_known (list_at lists p)) (delivered p) in
      let parts =
      filter_prefix (λ (e : Label × Option Content). e.0.sender == s) (map known ds)
      (entries records) told in
      subst (λ (es : List (Label × Option Content)). IsPrefix es (entries_of s records))
      (filter-mapped known (λ e. e.0.sender == s) ds)
      (subst (λ (es : List (Label × Option Content)).
      IsPrefix (filter (λ (e : Label × Option Content). e.0.sender == s) (map known ds)) es)
      (filter-mapped (λ x. (x, message_of (pend records) x)) (λ e. e.0.sender == s) (log records))
      parts)

  -- lists that one world has delivered agree
  agree_there : (xs ys : Lists) → HaveDelivered v xs → HaveDelivered v ys → AgreeAcross xs ys
  agree_there xs ys these those p q s =
      let here = sent_logged xs p s these in
      let there = sent_logged ys q s those in
      let one : OneBegins (map known (sent_by s (map delivery_of (list_at xs p))))
      (map known (sent_by s (map delivery_of (list_at ys q)))) = ⊎_elim
      (λ t. either_prefix _ _ _ (prefix_trans _ _ _ here t) there)
      (λ t. either_prefix _ _ _ here (prefix_trans _ _ _ there t))
      (agree-now v is_safe (suc p) (suc q) s) in
      ⊎_elim (λ t. inl (known-begins _ _ t)) (λ t. inr (known-begins _ _ t)) one

-- lists that are delivered at two places of one history agree
pub agree_in_places : (opened : GroupView) (past later : List Event) (xs ys : Lists)
    → IsSound opened → OneBegins past later → AreDeliveredBy opened past xs
    → AreDeliveredBy opened later ys → AgreeAcross xs ys
agree_in_places opened past later xs ys sound one these those =
    ⊎_elim
    (λ (t : IsPrefix past later). agree_there (after sound.world later) (safe_after later) xs ys
    (delivered_later opened past later xs sound t these sound.world sound.shows)
    (those sound.world sound.shows))
    (λ (t : IsPrefix later past). agree_there (after sound.world past) (safe_after past) xs ys
    (these sound.world sound.shows)
    (delivered_later opened later past ys sound t those sound.world sound.shows))
    one
  where
    safe_after : (events : List Event) → Safe (after sound.world events)
    safe_after events =
        safe (after sound.world events)
        (run-kept sound.world events (sound-kept opened sound.world sound sound.shows)).nodes
