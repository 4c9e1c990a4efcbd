-- Names that extend a log in order join it, and the messages of a log are those of the lists. So
-- what the worlds of a run deliver is what users see.
use Rattle.urb_show.proofs.Common.{Content, Join, Label, List, NodesKept, Option, Service, Some}
use Rattle.urb_show.proofs.Common.{World, [], all_kept, ap, append_assoc, ap₂, arith, cond-true}
use Rattle.urb_show.proofs.Common.{entries, eq-eqb, filter-append, has_name, has_pair}
use Rattle.urb_show.proofs.Common.{has_pair-found, length, length-append, length-map, length-take}
use Rattle.urb_show.proofs.Common.{log, map, message_of, name, numbers_from, pend, refl, safe}
use Rattle.urb_show.proofs.Common.{slice_get, stored, subst, suc, sym, take, to_sender, true, zero}
use Rattle.urb_show.proofs.Common.{ℕ, ◌++◌, ◌+◌, ◌-◌, ◌==◌, ◌∙◌, ◌∷◌, ◌≡◌, ◌≤◌}
use Rattle.std.proofs.lemmas.Bool.{or_left, or_right}
use Rattle.urb_names.proofs.SameNames.{same_name-same}
use Rattle.urb_names.specs.Names.{names, same_name}
use Rattle.urb_names.specs.Release.{part_of}
use Rattle.urb_show.specs.Service.{entries_at}
use Rattle.urb_show.specs.ShownServices.{shown}
use Rattle.urb_stable.proofs.KeptRules.{kept-numbered, kept-unique}
use Rattle.urb_stable.proofs.OwnRules.{own_number}

-- ---- any log

-- the number of a name in a row of names
at_row : (q first n : ℕ) (before after : List Label) (x : Label)
    → before ++ x ∷ after ≡ map (name q) (numbers_from first n) → x.seq ≡ first + length before
at_row q first zero [] after x e = (let f : x ∷ after ≡ [] = e in cc)
at_row q first (suc n) [] after x e =
    let f : x ∷ after ≡ name q first ∷ map (name q) (numbers_from (suc first) n) = e in
    let g : x ≡ name q first = cc in
    let h : x.seq ≡ first = ap (λ (y : Label). y.seq) g in
    omega (arith, h)
at_row q first zero (b ∷ before) after x e =
    (let f : b ∷ (before ++ x ∷ after) ≡ [] = e in cc)
at_row q first (suc n) (b ∷ before) after x e =
    let f : b ∷ (before ++ x ∷ after) ≡ name q first
    ∷ map (name q) (numbers_from (suc first) n) = e in
    let g : before ++ x ∷ after ≡ map (name q) (numbers_from (suc first) n) = cc in
    let h = at_row q (suc first) n before after x g in
    omega (arith, h)

-- If a log has each sender's names in order, and no more of them than messages that the sender has
-- accepted, its last names join the names before them.
pub joins-in-order : (s : Service) (log more : List Label)
    → ((q : ℕ) → part_of q (log ++ more) ≡ names q (length (part_of q (log ++ more))))
    → ((q : ℕ) → length (part_of q (log ++ more)) ≤ length (s.node q).list)
    → Join s log more
joins-in-order s log [] order long = tt
joins-in-order s log (x ∷ more) order long = (
  number,
  low,
  joins-in-order s (log ++ x ∷ []) more
      (λ q. subst (λ (xs : List Label). part_of q xs ≡ names q (length (part_of q xs)))
      (sym (append_assoc log (x ∷ []) more)) (order q))
      (λ q. subst (λ (xs : List Label). length (part_of q xs) ≤ length (s.node q).list)
      (sym (append_assoc log (x ∷ []) more)) (long q)),
)
  where
    split : part_of x.sender (log ++ x ∷ more)
        ≡ part_of x.sender log ++ x ∷ part_of x.sender more
    split =
        filter-append (λ y. y.sender == x.sender) log (x ∷ more)
        ∙ ap (λ xs. part_of x.sender log ++ xs) (cond-true (x.sender == x.sender)
        (x ∷ part_of x.sender more) (part_of x.sender more) (eq-eqb x.sender x.sender refl))

    number : x.seq ≡ suc (length (part_of x.sender log))
    number =
        let e =
        at_row x.sender 1 (length (part_of x.sender (log ++ x ∷ more))) (part_of x.sender log)
        (part_of x.sender more) x (sym split ∙ order x.sender) in
        omega (arith, e)

    low : x.seq ≤ length (s.node x.sender).list
    low =
        let n = number in
        let l = long x.sender in
        let e = ap length split in
        let f = length-append (part_of x.sender log) (x ∷ part_of x.sender more) in
        omega (arith, n, l, e, f)

-- ---- the logs of a world

module _ (w : World) (inv : NodesKept w) where
  bound : (p q : ℕ) → length (part_of q (log (stored w p))) ≤ length (w.node q).broadcast
  bound p q =
      let e = ap length ((safe w inv).in_order p q).messages in
      omega (
        arith,
        e,
        length-map (part_of q (log (stored w p))) (message_of (pend (stored w p))),
        length-map (take (length (part_of q (log (stored w p)))) (w.node q).broadcast) Some,
        length-take (length (part_of q (log (stored w p)))) (w.node q).broadcast,
      )

  -- in a world that meets the rules, the last names of a log join the names before them
  pub logs-join : (p : ℕ) (before more : List Label) → before ++ more ≡ log (stored w p)
      → Join (shown w) before more
  logs-join p before more e =
      joins-in-order (shown w) before more
      (λ q. subst (λ (xs : List Label). part_of q xs ≡ names q (length (part_of q xs))) (sym e)
      ((safe w inv).in_order p q).numbers)
      (λ q. subst (λ (xs : List Label). length (part_of q xs) ≤ length (w.node q).broadcast)
      (sym e) (bound p q))

  -- the message of a delivered name is on its sender's list
  on_list : (p : ℕ) (x : Label) → has_name (log (stored w p)) x ≡ true
      → message_of (pend (stored w p)) x ≡ slice_get (w.node x.sender).broadcast (x.seq - 1)
  on_list p x h =
      let held = (safe w inv).uniform p x h in
      let theirs : has_pair (pend (stored w x.sender)) x held.0 ≡ true =
      to_sender w.size (stored w) (all_kept w inv) p x held.0
      (has_pair-found (pend (stored w p)) x held.0 held.1) in
      let at =
      own_number w.size (stored w) x.sender (stored w x.sender)
      (all_kept w inv x.sender) x held.0 theirs
      (eq-eqb x.sender x.sender refl) in
      let number = at.1 in
      let place : x.seq - 1 ≡ at.0 = omega (arith, number) in
      let same : x ≡ name x.sender (suc at.0) = ap (name x.sender) number in
      held.1 ∙ (sym
      (kept-unique w.size (stored w) x.sender (stored w x.sender) (all_kept w inv x.sender) x
      held.0 theirs)
      ∙ (ap (message_of (pend (stored w x.sender))) same
      ∙ (kept-numbered w.size (stored w) x.sender (stored w x.sender)
      (all_kept w inv x.sender) at.0
      ∙ (ap (λ ms. slice_get ms at.0) (sym (inv x.sender).broadcast)
      ∙ ap (slice_get (w.node x.sender).broadcast) (sym place)))))

  -- in a world that meets the rules, the entries of a log are its names with the messages of the
  -- lists
  pub entries-shown : (p : ℕ) → entries (stored w p) ≡ entries_at (shown w) (log (stored w p))
  entries-shown p = each (log (stored w p)) (λ x h. h)
    where
      each : (xs : List Label)
          → ((x : Label) → has_name xs x ≡ true → has_name (log (stored w p)) x ≡ true)
          → map {B = Label × Option Content} (λ x. (x, message_of (pend (stored w p)) x)) xs
          ≡ map {B = Label × Option Content}
          (λ x. (x, slice_get (w.node x.sender).broadcast (x.seq - 1))) xs
      each [] h = refl
      each (x ∷ xs) h =
          ap₂ (λ (m : Option Content) (es : List (Label × Option Content)). (x, m) ∷ es)
          (on_list p x (h x (or_left (same_name x x) _ (same_name-same x))))
          (each xs (λ y e. h y (or_right (same_name x y) _ e)))
