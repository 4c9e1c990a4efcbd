-- The end of a house's past, as the last ones of its events.
use Rattle.urb_show.proofs.Common.{Event, GroupView, IsLedTo, List, Shows, World, after}
use Rattle.urb_show.proofs.Common.{after-append, subst, ◌++◌, ◌∙◌}

module _ (opened group : GroupView) (w : World) (shows : Shows opened w) (before : List Event) where
  -- a house whose last events are these two lists shows the world after both
  pub shown_after_two : (first second : List Event)
      → IsLedTo opened (before ++ (first ++ second)) group
      → Shows group (after (after (after w before) first) second)
  shown_after_two first second leads =
      subst (λ (v : World). Shows group v)
      (after-append w before (first ++ second) ∙ after-append (after w before) first second)
      (leads w shows)

  -- the same of four lists
  pub shown_after_four : (first second third later : List Event)
      → IsLedTo opened (before ++ (first ++ (second ++ (third ++ later)))) group
      → Shows group (after (after (after (after (after w before) first) second) third) later)
  shown_after_four first second third later leads =
      subst (λ (v : World). Shows group v)
      (after-append (after (after w before) first) second (third ++ later)
      ∙ after-append (after (after (after w before) first) second) third later)
      (shown_after_two first (second ++ (third ++ later)) leads)
