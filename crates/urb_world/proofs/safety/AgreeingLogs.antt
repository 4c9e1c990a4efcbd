-- For each sender, what one of two nodes delivers is a prefix of what the other delivers. What is
-- delivered only grows at its end.
use Rattle.urb_world.proofs.Common.{AgreeInTime, Begins, Content, EntriesGrow, Entry, GoesOn}
use Rattle.urb_world.proofs.Common.{IsInOrder, Label, List, OneBegins, Option, Safe, Some, World}
use Rattle.urb_world.proofs.Common.{[], ap, ap₂, arith, cases_lt, entries, filter-append, has_name}
use Rattle.urb_world.proofs.Common.{inl, inr, length, length-map, length-take, log, map, message_of}
use Rattle.urb_world.proofs.Common.{message_of-more, name, or_left, or_right, part_of, pend}
use Rattle.urb_world.proofs.Common.{pend-append, refl, row, same_name, same_name-same, subst, suc}
use Rattle.urb_world.proofs.Common.{sym, take, take-append-le, true, zero, ℕ, ⊎_elim, ◌++◌, ◌∙◌}
use Rattle.urb_world.proofs.Common.{◌∷◌, ◌≡◌, ◌≤◌}
use Rattle.std.proofs.Common.{length-append}
use Rattle.urb_world.proofs.steps.Growth.{begins-trans, log-begins}
use Rattle.urb_world.specs.World.{stored}
use Rattle.urb_stable.specs.DeliveredLogs.{entries_of}

-- ---- beginnings

begins-map : {A B : Type 0} (f : A → B) (xs ys : List A) → Begins xs ys
    → Begins (map f xs) (map f ys)
begins-map f xs ys h = (map f h.0, sym (map-append f xs h.0) ∙ ap (map f) h.1)
  where
    map-append : {A B : Type 0} (f : A → B) (xs ys : List A)
        → map f (xs ++ ys) ≡ map f xs ++ map f ys
    map-append f [] ys = refl
    map-append f (x ∷ xs) ys = ap (λ zs. f x ∷ zs) (map-append f xs ys)

begins-take : {A : Type 0} (k l : ℕ) (xs : List A) → k ≤ l → Begins (take k xs) (take l xs)
begins-take zero l xs h = (take l xs, refl)
begins-take (suc k) zero xs h = absurd (omega arith)
begins-take (suc k) (suc l) [] h = ([], refl)
begins-take (suc k) (suc l) (x ∷ xs) h =
    let rest = begins-take k l xs (omega arith) in (rest.0, ap (λ ys. x ∷ ys) rest.1)

same_cons : {A : Type 0} (x y : A) (xs ys : List A) → x ≡ y → xs ≡ ys → x ∷ xs ≡ y ∷ ys
same_cons x y xs ys e f = ap₂ (λ v vs. v ∷ vs) e f

-- of two prefixes of one list, one is a prefix of the other
pub both_begin : {A : Type 0} (xs ys zs : List A) → Begins xs zs → Begins ys zs → OneBegins xs ys
both_begin [] ys zs h k = inl (ys, refl)
both_begin (x ∷ xs) [] zs h k = inr (x ∷ xs, refl)
both_begin (x ∷ xs) (y ∷ ys) [] h k = (let e = h.1 in cc)
both_begin (x ∷ xs) (y ∷ ys) (z ∷ zs) h k =
    let e : x ∷ (xs ++ h.0) ≡ z ∷ zs = h.1 in
    let f : y ∷ (ys ++ k.0) ≡ z ∷ zs = k.1 in
    let xz : x ≡ z = cc in
    let yz : y ≡ z = cc in
    let xr : xs ++ h.0 ≡ zs = cc in
    let yr : ys ++ k.0 ≡ zs = cc in
    ⊎_elim (λ g. inl (g.0, same_cons x y (xs ++ g.0) ys (xz ∙ sym yz) g.1))
    (λ g. inr (g.0, same_cons y x (ys ++ g.0) xs (yz ∙ sym xz) g.1))
    (both_begin xs ys zs (h.0, xr) (k.0, yr))

-- ---- one sender's entries are its first messages

-- these messages under the names first, first + 1, ..
numbered : ℕ → ℕ → List (Option Content) → List (Label × Option Content)
numbered s first [] = []
numbered s first (m ∷ ms) = (name s first, m) ∷ numbered s (suc first) ms

numbered-begins : (s first : ℕ) (ms os : List (Option Content)) → Begins ms os
    → Begins (numbered s first ms) (numbered s first os)
unfolding numbered
numbered-begins s first [] os h = (numbered s first os, refl)
numbered-begins s first (m ∷ ms) [] h = (let e = h.1 in cc)
numbered-begins s first (m ∷ ms) (o ∷ os) h =
    let e : m ∷ (ms ++ h.0) ≡ o ∷ os = h.1 in
    let f : m ≡ o = cc in
    let g : ms ++ h.0 ≡ os = cc in
    let rest = numbered-begins s (suc first) ms os (h.0, g) in
    (rest.0, ap₂ (λ v vs. (name s first, v) ∷ vs) f rest.1)

numbered-row : (f : Label → Option Content) (s first k : ℕ)
    → map (λ x. (x, f x)) (row s first k) ≡ numbered s first (map f (row s first k))
unfolding numbered
numbered-row f s first zero = refl
numbered-row f s first (suc k) =
    ap (λ es. (name s first, f (name s first)) ∷ es) (numbered-row f s (suc first) k)

-- how many names of the sender the node has delivered
reached : World → ℕ → ℕ → ℕ
reached w p s = length (part_of s (log (stored w p)))

entries-are : (w : World) (p s : ℕ) → IsInOrder w p s
    → entries_of s (stored w p) ≡ numbered s 1
    (map Some (take (reached w p s) (w.node s).broadcast))
unfolding reached
entries-are w p s h =
    ap (map (λ x. (x, message_of (pend (stored w p)) x))) h.numbers
    ∙ (numbered-row (message_of (pend (stored w p))) s 1 (reached w p s)
    ∙ ap (numbered s 1) (ap (map (message_of (pend (stored w p)))) (sym h.numbers) ∙ h.messages))

-- in a safe world, for each sender, of what two nodes deliver, one is a prefix of the other
pub agree-now : (w : World) → Safe w → (p q s : ℕ)
    → OneBegins (entries_of s (stored w p)) (entries_of s (stored w q))
agree-now w safe p q s =
    ⊎_elim (λ l. inl (one p q (safe.in_order p s) (safe.in_order q s) (omega arith)))
    (λ l. inr (one q p (safe.in_order q s) (safe.in_order p s) l))
    (cases_lt (reached w p s) (reached w q s))
  where
    one : (i j : ℕ) → IsInOrder w i s → IsInOrder w j s → reached w i s ≤ reached w j s
        → Begins (entries_of s (stored w i)) (entries_of s (stored w j))
    one i j h k l =
        subst (λ (es : List (Label × Option Content)). Begins es (entries_of s (stored w j)))
        (sym (entries-are w i s h))
        (subst (λ (es : List (Label × Option Content)).
        Begins (numbered s 1 (map Some (take (reached w i s) (w.node s).broadcast))) es)
        (sym (entries-are w j s k))
        (numbered-begins s 1 _ _ (begins-map Some _ _
        (begins-take (reached w i s) (reached w j s) (w.node s).broadcast l))))

-- ---- later

-- a node's entries of a sender only grow
entries-grow : (old new : World) → Safe old → Safe new → GoesOn old new → (p s : ℕ)
    → Begins (entries_of s (stored old p)) (entries_of s (stored new p))
unfolding reached
entries-grow old new a b g p s =
    subst (λ (es : List (Label × Option Content)). Begins es (entries_of s (stored new p)))
    (sym (entries-are old p s (a.in_order p s)))
    (subst (λ (es : List (Label × Option Content)).
    Begins (numbered s 1 (map Some (take (reached old p s) (old.node s).broadcast))) es)
    (sym (entries-are new p s (b.in_order p s)))
    (numbered-begins s 1 _ _ (begins-map Some _ _ longer)))
  where
    part-begins : Begins (part_of s (log (stored old p))) (part_of s (log (stored new p)))
    part-begins = (
      part_of s (g.delivered p).0,
      sym (filter-append _ (log (stored old p)) (g.delivered p).0)
          ∙ ap (part_of s) (g.delivered p).1,
    )

    no_fewer : reached old p s ≤ reached new p s
    no_fewer =
        let e = ap length part-begins.1 in
        omega (arith, length-append (part_of s (log (stored old p))) part-begins.0, e)

    broadcast : take (reached old p s) (old.node s).broadcast ≡ take (reached old p s)
        (new.node s).broadcast
    broadcast =
        sym (ap (take (reached old p s)) (sym (g.broadcast s).1)
        ∙ take-append-le (reached old p s) (old.node s).broadcast (g.broadcast s).0 enough)
      where
        enough : reached old p s ≤ length (old.node s).broadcast
        enough =
            let e = ap length (a.in_order p s).messages in
            omega (
              arith,
              e,
              length-map (part_of s (log (stored old p)))
                  (message_of (pend (stored old p))),
              length-map (take (reached old p s) (old.node s).broadcast) Some,
              length-take (reached old p s) (old.node s).broadcast,
            )

    longer : Begins (take (reached old p s) (old.node s).broadcast)
        (take (reached new p s) (new.node s).broadcast)
    longer =
        subst (λ (ms : List Content). Begins ms (take (reached new p s) (new.node s).broadcast))
        (sym broadcast) (begins-take (reached old p s) (reached new p s)
        (new.node s).broadcast no_fewer)

-- for each sender, of what one node delivered earlier and what another delivers later, one is a
-- prefix of the other
pub agree-later : (old new : World) → Safe old → Safe new → GoesOn old new → AgreeInTime old new
agree-later old new a b g p q s =
    ⊎_elim (λ h. inl (begins-trans _ _ _ (entries-grow old new a b g p s) h))
    (λ h. both_begin _ _ _ (entries-grow old new a b g p s) h) (agree-now new b p q s)

-- ---- all entries of a node

-- the name with its message in these records
abbrev told : List Entry → Label → Label × Option Content
told records x = (x, message_of (pend records) x)

-- what is delivered has a message, which stays
module _ (w : World) (safe : Safe w) (p : ℕ) (behind : List Entry)
    (begins : Begins (stored w p) behind) where
  message-stays : (x : Label) → has_name (log (stored w p)) x ≡ true
      → message_of (pend behind) x ≡ message_of (pend (stored w p)) x
  message-stays x h =
      let held = safe.uniform p x h in
      (ap (λ rs. message_of (pend rs) x) (sym begins.1)
      ∙ (ap (λ ps. message_of ps x) (pend-append (stored w p) begins.0)
      ∙ message_of-more (pend (stored w p)) (pend begins.0) x held.0 held.1))
      ∙ sym held.1

  messages-stay : (xs : List Label)
      → ((x : Label) → has_name xs x ≡ true → has_name (log (stored w p)) x ≡ true)
      → map (told behind) xs ≡ map (told (stored w p)) xs
  messages-stay [] h = refl
  messages-stay (x ∷ xs) h =
      ap₂ (λ (m : Option Content) (es : List (Label × Option Content)). (x, m) ∷ es)
      (message-stays x (h x (or_left (same_name x x) _ (same_name-same x))))
      (messages-stay xs (λ y e. h y (or_right (same_name x y) _ e)))

  -- a safe node's log, its names with their messages, is a prefix of the log of any records that
  -- begin with its own
  pub entries-begin : Begins (entries (stored w p)) (entries behind)
  entries-begin =
      subst (λ (es : List (Label × Option Content)). Begins es (entries behind))
      (messages-stay (log (stored w p)) (λ x h. h))
      (begins-map (told behind) (log (stored w p)) (log behind)
      (log-begins (stored w p) behind begins))

-- what a node delivered earlier, with its messages, is a prefix of what it delivers later
pub entries-all_grow : (old new : World) → Safe old → GoesOn old new → EntriesGrow old new
entries-all_grow old new safe goes p = entries-begin old safe p (stored new p) (goes.records p)
