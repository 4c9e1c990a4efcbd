-- The lists after additions.
use Rattle.std.specs.Prelude.{List, fold}
use Rattle.urb_show.specs.Lists.{Lists, add_at}
use Rattle.urb_show.specs.declared.entry.Addition.{Addition}

-- the opening lists after these additions
abbrev pub lists_of : Lists → List Addition → Lists
lists_of base log = fold (λ lists (a : Addition). add_at lists a.place a.entry) base log
