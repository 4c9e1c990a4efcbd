-- What a refused read leaves behind.
use Rattle.std.specs.Prelude.{◌≡◌, ◌⊎◌}
use Rattle.urb_group.specs.GroupViews.{GroupView}
use Rattle.urb_show.specs.Readers.{ReaderView, Takes}
use Rattle.urb_show.specs.declared.reader.ReadFault.{ReadFault}
use Rattle.urb_show.specs.declared.reader.ReadFault.TheVariants.{Gone, NoMemory}

-- If memory was refused, nothing changed, or the lists of one moment were taken. If the house is
-- gone, nothing changed.
abbrev pub Leaves : GroupView → ReadFault → ReaderView → ReaderView → Type 0
Leaves opened (NoMemory refused) before after = (after ≡ before) ⊎ Takes opened before after
Leaves opened Gone before after = after ≡ before
