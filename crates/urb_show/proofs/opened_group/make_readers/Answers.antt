use Rattle.urb_show.proofs.PublishingSteps.{admits}
use Rattle.urb_show.proofs.opened_group.make_readers.Goals as goal

pub reader-requires : goal.reader-requires
reader-requires g c =
    admits (record {
      book = g.K.HouseName.book;
      history = g.K.HouseName.history;
      origin = g.K.HouseName.origin;
      base = g.K.HouseName.base;
    })
