use Rattle.std.proofs.Common.{suc}
use Rattle.urb_sqlite.proofs.FoundRecords.{found_as_held}
use Rattle.urb_sqlite.proofs.laws.an_opening_finds_what_its_files_hold.Goals as goal

pub returns : goal.returns
returns g c held journals i journal records are got holds clean =
    found_as_held (held (suc i)) (g.S.Stable.is_clean journal) (g.S.Stable.is_honest journal)
    (g.S.Stable.certain journal) records (are i journal got) holds clean
