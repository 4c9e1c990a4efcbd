-- Whether bytes are UTF-8, as the parser of texts tells it.
use Rattle.urb_cli.proofs.Common.{Err, List, MatchResult, Ok, Result, is_ok, sym, true, ℕ, ◌≡◌}
use Rattle.std.specs.Str.{IsUtf8, is_utf8}
use Rattle.std.proofs.lemmas.Bool.{false_from_ne_true}
use Rattle.std.proofs.lemmas.Str.{IsUtf8-from_is_utf8, is_utf8-from_IsUtf8}

-- the parser takes exactly the bytes that are UTF-8
pub utf8_found : {A E : Type 0} (bytes : List ℕ) (r : Result A E) (P : A → Type 0) (Q : E → Type 0)
    → MatchResult r (λ a. P a × IsUtf8 bytes) (λ e. (¬ (IsUtf8 bytes)) × Q e)
    → is_ok r ≡ is_utf8 bytes
utf8_found bytes (Ok a) P Q taken = sym (is_utf8-from_IsUtf8 bytes taken.1)
utf8_found bytes (Err e) P Q refused =
    sym (false_from_ne_true (is_utf8 bytes) (λ is. refused.0 (IsUtf8-from_is_utf8 bytes is)))
