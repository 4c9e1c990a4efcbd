-- What a group reports of a node's log and messages is the node's list.
use Rattle.urb_show.proofs.Common.{Bool, Content, Delivery, GroupView, IsSound, Label, List, None}
use Rattle.urb_show.proofs.Common.{Option, Some, World, [], ap, ap₂, arith, cond, delivered_at}
use Rattle.urb_show.proofs.Common.{deliveries-known, entry_of, false, is_node, known, length}
use Rattle.urb_show.proofs.Common.{length-map, list_at, lists_in, log, lt-ltb, map, message_of}
use Rattle.urb_show.proofs.Common.{nat_lt, pend, slice_index_or, stored, subst, suc, sym, true}
use Rattle.urb_show.proofs.Common.{zero, ℕ, ◌-◌, ◌<◌, ◌^◌, ◌∙◌, ◌∷◌, ◌≡◌, ◌≤◌}
use Rattle.std.proofs.lemmas.Bool.{and_from}
use Rattle.urb_group.proofs.shown.Deliveries.{length-known}
use Rattle.urb_group.specs.GroupCalls.{FindsMessage, TellsLog}
use Rattle.urb_group.specs.DeliveredMessages.{Agree as AgreeAll}
use Rattle.urb_show.proofs.GroupLists.{list_of}
use Rattle.urb_show.specs.declared.entry.Entry.{Entry}

-- the entry at a place, from the name there and its message
entry_found : (f : Label → Option Content) (ds : List Delivery) (xs : List Label) (i : ℕ)
    (x : Label) (m : Content) (d : Entry) → map known ds ≡ map (λ y. (y, f y)) xs → i < length xs
    → x ≡ slice_index_or xs i x → f x ≡ Some m
    → record { name = x; message = m } ≡ slice_index_or (map entry_of ds) i d
entry_found f [] [] i x m d same low at found = absurd (omega (arith, low))
entry_found f [] (y ∷ xs) i x m d same low at found = absurd (cc (same))
entry_found f (e ∷ ds) [] i x m d same low at found = absurd (cc (same))
entry_found f (e ∷ ds) (y ∷ xs) zero x m d same low at found =
    let first : known e ≡ (y, f y) = cc (same) in
    let name : e.0 ≡ x = ap (λ (k : Label × Option Content). k.0) first ∙ sym at in
    let told : Some e.1 ≡ Some m =
    ap (λ (k : Label × Option Content). k.1) first ∙ (ap f (sym at) ∙ found) in
    let message : e.1 ≡ m = cc (told) in
    sym (ap₂ (λ (n : Label) (c : Content). record { name = n; message = c }) name message)
entry_found f (e ∷ ds) (y ∷ xs) (suc i) x m d same low at found =
    entry_found f ds xs i x m d (cc (same)) (omega (arith, low)) at found

module _ (group : GroupView) (sound : IsSound group) (p : ℕ) where
  abbrev w : World
  w = sound.world

  told_as : {T : Type 0} (b : Bool) (x y : T) → Some x ≡ cond b (Some y) None → x ≡ y
  told_as true x y h = cc (h)
  told_as false x y h = absurd (cc (h))

  logged_as : (xs : List Label) → TellsLog group p (Some xs) → xs ≡ log (stored w p)
  logged_as xs told = told_as (is_node w.size.n p) xs (log (stored w p)) (told w sound.shows)

  -- if what the nodes have delivered agrees, a log that the group reports has fewer than 2^32 names
  pub log_is_short : AgreeAll (delivered_at group) → (xs : List Label) → TellsLog group p (Some xs)
      → length xs < 2 ^ 32
  log_is_short agree xs told =
      let same = ap length (logged_as xs told) in
      let long = length-known group w p sound sound.shows in
      let short = agree.short p in
      omega (arith, same, long, short)

  module _ (low : 0 < p) (high : p ≤ group.size.n) where
    node_is : is_node w.size.n p ≡ true
    node_is =
        let n = ap (λ l. l.n) sound.shows.size in
        and_from (nat_lt 0 p) (nat_lt p (suc w.size.n)) (lt-ltb 0 p low)
        (lt-ltb p (suc w.size.n) (omega (arith, n, high)))

    -- a group reports a log for each of its nodes
    pub log_is_told : TellsLog group p None → ⊥
    log_is_told none =
        let e : None ≡ cond (is_node w.size.n p) (Some (log (stored w p))) None =
        none w sound.shows in cc (e, node_is)

    -- a log that a group reports is as long as the node's list
    pub log_length : (xs : List Label) → TellsLog group p (Some xs)
        → length xs ≡ length (list_at (lists_in group) (p - 1))
    log_length xs told =
        let same = ap length (logged_as xs told) in
        let long = length-known group w p sound sound.shows in
        let list = ap length (list_of group p low) ∙ length-map (delivered_at group p) entry_of in
        omega (arith, same, long, list)

    message_as : (x : Label) (o : Option Content) → FindsMessage group p x o
        → o ≡ message_of (pend (stored w p)) x
    message_as x o told =
        let e : o ≡ cond (is_node w.size.n p) (message_of (pend (stored w p)) x) None =
        told w sound.shows in rw node_is at e

    -- a name of a reported log, with the message that the group finds, is the node's entry at that
    -- place
    pub log_entry : (xs : List Label) (i : ℕ) (x : Label) (m : Content) (d : Entry)
        → TellsLog group p (Some xs) → i < length xs → x ≡ slice_index_or xs i x
        → FindsMessage group p x (Some m)
        → record { name = x; message = m } ≡ slice_index_or (list_at (lists_in group) (p - 1)) i d
    log_entry xs i x m d told low_i at finds =
        let logged = logged_as xs told in
        let same : map known (delivered_at group p) ≡ map
        (λ y. (y, message_of (pend (stored w p)) y)) xs =
        deliveries-known group w p sound sound.shows
        ∙ ap (map (λ y. (y, message_of (pend (stored w p)) y))) (sym logged) in
        subst (λ (list : List Entry). record { name = x; message = m } ≡ slice_index_or list i d)
        (sym (list_of group p low))
        (entry_found (message_of (pend (stored w p)))
        (delivered_at group p) xs i x m d same low_i at (sym (message_as x (Some m) finds)))

    -- a name of the log has a message
    has_message : (f : Label → Option Content) (ds : List Delivery) (xs : List Label) (i : ℕ)
        (x : Label) → map known ds ≡ map (λ y. (y, f y)) xs → i < length xs
        → x ≡ slice_index_or xs i x → f x ≡ None → ⊥
    has_message f [] [] i x same low_i at none = omega (arith, low_i)
    has_message f [] (y ∷ xs) i x same low_i at none = cc (same)
    has_message f (e ∷ ds) [] i x same low_i at none = cc (same)
    has_message f (e ∷ ds) (y ∷ xs) zero x same low_i at none =
        let first : known e ≡ (y, f y) = cc (same) in
        let told : Some e.1 ≡ None =
        ap (λ (k : Label × Option Content). k.1) first ∙ (ap f (sym at) ∙ none) in
        cc (told)
    has_message f (e ∷ ds) (y ∷ xs) (suc i) x same low_i at none =
        has_message f ds xs i x (cc (same)) (omega (arith, low_i)) at none

    -- a group finds a message under each name of a log that it reports
    pub message_is_told : (xs : List Label) (i : ℕ) (x : Label) → TellsLog group p (Some xs)
        → i < length xs → x ≡ slice_index_or xs i x → FindsMessage group p x None → ⊥
    message_is_told xs i x told low_i at none =
        let same : map known (delivered_at group p) ≡ map
        (λ y. (y, message_of (pend (stored w p)) y)) xs =
        deliveries-known group w p sound sound.shows
        ∙ ap (map (λ y. (y, message_of (pend (stored w p)) y))) (sym (logged_as xs told)) in
        has_message (message_of (pend (stored w p))) (delivered_at group p) xs i x same low_i at
        (sym (message_as x None none))
