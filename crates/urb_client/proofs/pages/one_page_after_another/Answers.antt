use Rattle.urb_client.proofs.PageLists.{is_read_whole}
use Rattle.urb_client.proofs.pages.one_page_after_another.Goals as goal

pub returns : goal.returns
returns c = is_read_whole
