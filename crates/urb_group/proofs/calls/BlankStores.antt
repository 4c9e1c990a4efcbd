-- New stores in memory have no record.
use Rattle.urb_group.proofs.Common.{All, IsBlank, IsContents, List, ap, empty_memory, in_memory}
use Rattle.urb_group.proofs.Common.{slice_index_or, subst, ◌≡◌}
use Rattle.urb_stable.specs.MemoryStores.{Memory}

blank : {A : Type 0} (m : Memory) → m ≡ empty_memory → IsBlank (in_memory A) m
blank m e =
    record {
      certain = λ honest. ap (λ (m : Memory). m.certain) e;
      doubtful = ap (λ (m : Memory). m.doubtful) e;
      doubt = ap (λ (m : Memory). m.doubt) e;
      rest = λ honest records c. subst (λ (m : Memory). IsContents m.certain m.doubt records) e c;
    }

-- empty stores in memory have no record, and none in doubt
pub all-blank : {A : Type 0} (stores : List Memory) → All (λ m. m ≡ empty_memory) stores
    → All (IsBlank (in_memory A)) stores
all-blank stores h k d less = blank (slice_index_or stores k d) (h k d less)
