-- Each addition to a house's lists has its events. After these, the nodes had delivered the lists.
use Rattle.urb_show.proofs.Common.{Addition, AreDeliveredBy, AreTimely, IsPrefix, IsTimely, List}
use Rattle.urb_show.proofs.Common.{MarkView, NameView, [], ap, fold-append, inl, inr, lists_of}
use Rattle.urb_show.proofs.Common.{refl, subst, sym, ⊎_elim, ◌++◌, ◌∙◌, ◌∷◌, ◌≡◌, ◌⊎◌}
use Rattle.logbook.specs.Pages.{Book}
use Rattle.urb_show.specs.internal.History.{events_of}

-- the events of additions are those of the last one
pub last_events : (history : Book) (log : List Addition) (a : Addition)
    → events_of history (log ++ a ∷ []) ≡ a.events
last_events history log a =
    fold-append (λ (events : MarkView _) (x : Addition). x.events)
    (record { book = history; log = [] }) log (a ∷ [])

-- a prefix of a list with one more element is the whole, or a prefix of the list
prefix_or_whole : {A : Type 0} (part log : List A) (a : A) → IsPrefix part (log ++ a ∷ [])
    → (part ≡ log ++ a ∷ []) ⊎ IsPrefix part log
prefix_or_whole [] log a p = let none : IsPrefix [] log = (log, refl) in inr none
prefix_or_whole (x ∷ []) [] a p = inl (cc (p.1))
prefix_or_whole (x ∷ y ∷ part) [] a p = absurd (cc (p.1))
prefix_or_whole (x ∷ part) (z ∷ log) a p =
    let heads : x ≡ z = cc (p.1) in
    ⊎_elim (λ (e : part ≡ log ++ a ∷ []). inl (cc (heads, e)))
    (λ (t : IsPrefix part log). inr (t.0, cc (heads, t.1)))
    (prefix_or_whole part log a (p.0, cc (p.1)))

-- before any addition the lists are those of the opening
pub timely_none : (names : NameView) → AreDeliveredBy names.origin [] names.base
    → IsTimely names []
timely_none names delivered = record { named = refl; delivered = delivered }

none_before : {A : Type 0} (part : List A) → IsPrefix part [] → part ≡ []
none_before [] p = refl
none_before (x ∷ part) p = absurd (cc (p.1))

-- the same, for all prefixes
pub all_timely_none : (names : NameView) (log : List Addition) → log ≡ []
    → AreDeliveredBy names.origin [] names.base → AreTimely names log
all_timely_none names log empty delivered part p =
    let none : part ≡ [] =
    none_before part (subst (λ (l : List Addition). IsPrefix part l) empty p) in
    subst (IsTimely names) (sym none) (timely_none names delivered)

-- one more addition, which the nodes had delivered after the events that come with it
pub timely_more : (names : NameView) (log : List Addition) (a : Addition) → AreTimely names log
    → a.events.book ≡ names.history
    → AreDeliveredBy names.origin a.events.log (lists_of names.base (log ++ a ∷ []))
    → AreTimely names (log ++ a ∷ [])
timely_more names log a timely named delivered part p =
    ⊎_elim (λ (e : part ≡ log ++ a ∷ []). subst (IsTimely names) (sym e) whole)
    (λ (t : IsPrefix part log). timely part t)
    (prefix_or_whole part log a p)
  where
    whole : IsTimely names (log ++ a ∷ [])
    whole =
        let last = last_events names.history log a in
        record {
          named = ap (λ (m : MarkView _). m.book) last ∙ named;
          delivered =
              subst (λ (m : MarkView _).
              AreDeliveredBy names.origin m.log (lists_of names.base (log ++ a ∷ [])))
              (sym last) delivered;
        }
