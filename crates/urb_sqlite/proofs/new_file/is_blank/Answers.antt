use Rattle.urb_sqlite.proofs.Common.{IsBlankFile, arith, image_of, subst, sym}
use Rattle.urb_sqlite.proofs.BlankFiles.{holds_none}
use Rattle.urb_sqlite.proofs.new_file.is_blank.Goals as goal

pub returns-in-Ok-clause-none : goal.returns-in-Ok-clause-none
returns-in-Ok-clause-none g c clean blank db held =
    holds_none _ (image_of g.D.Disk c.args.files.now) db (omega (arith, c.page_size.ensures.bytes))
    ((c.in-Ok.ensures.ok clean).0 blank) held

pub returns-in-Ok-clause-empty : goal.returns-in-Ok-clause-empty
returns-in-Ok-clause-empty g c clean none =
    (c.in-Ok.ensures.ok clean).1 (subst
    (λ size. IsBlankFile size (image_of g.D.Disk c.args.files.now))
    (sym c.page_size.ensures.bytes) none)
