-- What a store answered, derived from the result of keeping a draft.
use Rattle.std.specs.Prelude.{Result, Ok, Err}
use Rattle.urb_stable.specs.PlacedRecords.{Placed}
use Rattle.urb_stable.specs.Doubts.{Doubted}
use Rattle.urb_stable.specs.declared.stable.StoreFault.{StoreFault}

-- a receipt means that the store kept the record; a doubt holds the fault
abbrev pub answer_of : Result Placed Doubted → Result (Unit {0}) StoreFault
answer_of (Ok receipt) = Ok tt
answer_of (Err doubt) = Err doubt.fault
