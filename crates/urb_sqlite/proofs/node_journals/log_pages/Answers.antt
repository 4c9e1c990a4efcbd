use Rattle.std.proofs.Common.{Option, Some, ap, subst, ℕ, ◌/◌, ◌∙◌, ◌≡◌}
use Rattle.std.specs.Option.{IfSome}
use Rattle.sqlite_wal.specs.PageSize.{IsPageSize, bytes_of}
use Rattle.sqlite_wal.specs.declared.page_size.PageSize.{PageSize}
use Rattle.urb_sqlite.proofs.node_journals.log_pages.Goals as goal

named : (found : Option PageSize) (size : PageSize) (n : ℕ) → found ≡ Some size
    → IfSome found (λ s. bytes_of s ≡ n) → bytes_of size ≡ n
named found size n is names = subst (λ x. IfSome x (λ s. bytes_of s ≡ n)) is names

pub returns-in-Ok-Some-clause-by_log : goal.returns-in-Ok-Some-clause-by_log
returns-in-Ok-Some-clause-by_log g c clean used =
    let same =
    c.bytes.ensures.value ∙ named _ _ _ c.in-Ok-Some.field-0-is
    (c.in-Ok-Some.ensures.by_log clean used).1 in
    record {
      sized = λ _. ap (λ size. 16384000 / size) same;
      new = λ none. absurd (none (subst IsPageSize same c.bytes.ensures.valid));
    }

pub returns-in-Ok-Some-clause-by_file : goal.returns-in-Ok-Some-clause-by_file
returns-in-Ok-Some-clause-by_file g c clean ignored =
    let same =
    c.bytes.ensures.value ∙ named _ _ _ c.in-Ok-Some.field-0-is
    (c.in-Ok-Some.ensures.by_file clean ignored).1 in
    record {
      sized = λ _. ap (λ size. 16384000 / size) same;
      new = λ none. absurd (none (subst IsPageSize same c.bytes.ensures.valid));
    }
