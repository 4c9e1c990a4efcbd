-- Whether the names that a turn released are published.
use Rattle.std.specs.Prelude.{Bool, None, Option, Some, false, true, ℕ, ◌-◌, ◌≡◌}
use Rattle.urb_show.specs.Houses.{Grew, HouseView, Settled}
use Rattle.urb_show.specs.Readers.{ToldView}
use Rattle.urb_turn.specs.declared.settling.Settling.{Settling}
use Rattle.urb_turn.specs.declared.settling.Settling.TheVariants as settling

-- Whether the names that a turn released were published. There were no names; or they were
-- published, and these are all published lists now, with all events so far; or memory for that was
-- refused.
pub data Published : Type 0 where
  NothingNew : Published
  Told : ToldView → Published
  OutOfMemory : Published

-- the same, from the value that a turn has
abbrev pub published_by : {K : Type 0} → Settling K → Published
published_by settling.NothingNew = NothingNew
published_by (settling.Told token) = Told token
published_by (settling.OutOfMemory refused) = OutOfMemory

-- the published lists that a reader can learn from this, if any, with their events
abbrev pub told_in : Published → Option ToldView
told_in NothingNew = None
told_in (Told token) = Some token
told_in OutOfMemory = None

-- If names of p were released, there are two outcomes. The House settled p, and these are the
-- published lists. Or memory was refused, and the published lists stay. If no names were released,
-- the House stays as it was, and there is nothing new.
abbrev pub Settles : Bool → ℕ → HouseView → HouseView → Published → Type 0
Settles true p before after (Told token) = Settled (p - 1) before after token
Settles true p before after OutOfMemory = Grew (p - 1) before after
Settles true p before after NothingNew = ⊥
Settles false p before after came = (after ≡ before) × (came ≡ NothingNew)
