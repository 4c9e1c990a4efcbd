use Rattle.urb_client.proofs.Common.{Content, LONGEST_FRAME, Label, List, Listing, ListsPage, ap}
use Rattle.urb_client.proofs.Common.{arith, length, listing_body, subst, take, ◌∙◌, ◌≤◌}
use Rattle.urb_client.proofs.PageLists.{lists_page}
use Rattle.urb_client.proofs.response.Response.entries.Goals as goal

pub returns : goal.returns
returns g c =
    let count = c.measure_fitting-fitting.result.count in
    let longest = c.measure_fitting-fitting.ensures in
    let room : length (listing_body (take count c.deref.result.now)) ≤ LONGEST_FRAME =
    omega (arith, longest.bytes, longest.fits) in (
      take count c.args.page.items,
      ap (λ (listed : List (Label × Content)). Listing listed)
          (c.of.ensures ∙ c.truncate.ensures.items),
      subst (λ (page : List (Label × Content)). ListsPage page (take count page))
          c.deref.ensures.value (lists_page c.deref.result.now count longest.within room
          longest.longest longest.some),
    )
