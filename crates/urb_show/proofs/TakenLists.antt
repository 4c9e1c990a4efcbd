-- What a reader takes of a published value.
use Rattle.urb_show.proofs.Common.{Addition, Agree, AreDeliveredBy, Event, IsIssue, IsPrefix, Issue}
use Rattle.urb_show.proofs.Common.{List, Lists, NameView, ReaderView, ap, lists_of, subst, ◌∙◌, ◌≡◌}
use Rattle.urb_show.proofs.DeliveredPlaces.{delivered_later}
use Rattle.urb_show.proofs.ListBeginnings.{takes}
use Rattle.urb_show.specs.Readers.{Takes}

module _ (names : NameView) (x : Issue) (token : List Addition) (moment : List Event)
    (good : IsIssue names x) (log : x.mark.log ≡ token)
    (events : IsPrefix x.events.log moment) where
  lists : x.lists ≡ lists_of names.base token
  lists = good.lists ∙ ap (lists_of names.base) log

  -- the lists of a published value agree
  pub taken_agree : Agree (lists_of names.base token)
  taken_agree = subst Agree lists good.agree

  -- they were delivered by each moment behind the value's events
  pub taken_delivered : AreDeliveredBy names.origin moment (lists_of names.base token)
  taken_delivered =
      delivered_later names.origin x.events.log moment (lists_of names.base token) good.sound events
      (subst (λ (l : Lists). AreDeliveredBy names.origin x.events.log l) lists good.delivered)

  -- a reader that takes them takes lists of one moment, behind all that it knew
  pub taken : (seen told : List Addition) (past : List Event) (before : ReaderView)
      → record
      { seen = lists_of names.base seen; told = lists_of names.base told; past = past } ≡ before
      → IsPrefix seen token → IsPrefix told token → IsPrefix past moment
      → Takes names.origin before (record {
        seen = lists_of names.base token;
        told = lists_of names.base told;
        past = moment;
      })
  taken seen told past before is p q grows =
      takes names.origin names.base seen told token past moment before is p q taken_agree grows
      taken_delivered
