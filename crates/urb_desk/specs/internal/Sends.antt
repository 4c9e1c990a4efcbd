-- What a channel says of a send, and a reader of a read.
use Rattle.std.specs.Prelude.{Err, Ok, Result, ⊤}
use Rattle.crossbeam_channel.specs.declared.err.SendError.{SendError}
use Rattle.crossbeam_channel.specs.declared.err.SendError.TheVariants as send
use Rattle.urb_show.specs.declared.reader.ReadFault.{ReadFault}
use Rattle.urb_show.specs.declared.reader.ReadFault.TheVariants as fault

-- the message was sent
abbrev pub WasSent : {A M : Type 0} → Result A (SendError M) → Type 0
WasSent {A} {M} (Ok sent) = ⊤
WasSent {A} {M} (Err back) = ⊥

-- the channel has no receiver
abbrev pub LacksReceiver : {A M : Type 0} → Result A (SendError M) → Type 0
LacksReceiver {A} {M} (Ok sent) = ⊥
LacksReceiver {A} {M} (Err (send.Disconnected back)) = ⊤
LacksReceiver {A} {M} (Err (send.OutOfMemory back)) = ⊥

-- the channel had no memory for the message
abbrev pub LacksMemory : {A M : Type 0} → Result A (SendError M) → Type 0
LacksMemory {A} {M} (Ok sent) = ⊥
LacksMemory {A} {M} (Err (send.Disconnected back)) = ⊥
LacksMemory {A} {M} (Err (send.OutOfMemory back)) = ⊤

-- a read had no memory for the page
abbrev pub LacksMemoryForPage : {P : Type 0} → Result P ReadFault → Type 0
LacksMemoryForPage {P} (Ok page) = ⊥
LacksMemoryForPage {P} (Err (fault.NoMemory refused)) = ⊤
LacksMemoryForPage {P} (Err fault.Gone) = ⊥
