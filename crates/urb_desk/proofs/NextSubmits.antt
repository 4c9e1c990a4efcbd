-- One more submit behind those that were found.
use Rattle.std.proofs.Common.{List, [], map, refl, ℕ, ◌++◌, ◌∷◌, ◌≡◌}
use Rattle.std.proofs.lemmas.List.{map-append}
use Rattle.urb_client.specs.Requests.{Asked, asked_by}
use Rattle.urb_client.specs.declared.request.Request.{Request}
use Rattle.urb_desk.specs.internal.NextSubmits.{AreNext, BeginsWith}

-- the bytes begin with the frames of these submits, and these bytes are behind them
abbrev pub AreNextBefore : List ℕ → List Asked → List ℕ → Type 0
AreNextBefore bytes [] rest = bytes ≡ rest
AreNextBefore bytes (asked ∷ later) rest =
    (others : List ℕ) × BeginsWith bytes asked others × AreNextBefore others later rest

-- submits with bytes behind them are the next ones
pub next-of : (bytes : List ℕ) (found : List Asked) (rest : List ℕ)
    → AreNextBefore bytes found rest → AreNext bytes found
next-of bytes [] rest h = tt
next-of bytes (asked ∷ later) rest h = (h.0, h.1, next-of h.0 later rest h.2)

-- one more submit comes behind those that were found
pub one-more : (bytes : List ℕ) (found : List Asked) (rest : List ℕ) (asked : Asked)
    (others : List ℕ) → AreNextBefore bytes found rest → BeginsWith rest asked others
    → AreNextBefore bytes (found ++ asked ∷ []) others
one-more bytes [] rest asked others is h = (others, rw is h, refl)
one-more bytes (first ∷ later) rest asked others is h =
    (is.0, is.1, one-more is.0 later rest asked others is.2 h)

module _ {A : Type 0} (bytes : List ℕ) (found grown : List (Request A)) (rest : List ℕ) where
  -- requests with bytes behind them are the next ones, if they are still the same
  pub found-then : grown ≡ found → AreNextBefore bytes (map asked_by found) rest
      → AreNext bytes (map asked_by grown)
  found-then same h = next-of bytes (map asked_by grown) rest (rw same h)

  -- one more request comes behind those that were found
  pub one-found : (request : Request A) (others : List ℕ) → grown ≡ found ++ request ∷ []
      → AreNextBefore bytes (map asked_by found) rest
      → BeginsWith rest (asked_by request) others
      → AreNextBefore bytes (map asked_by grown) others
  one-found request others is h begins =
      rw is (rw (map-append asked_by found (request ∷ []))
      (one-more bytes (map asked_by found) rest (asked_by request) others h begins))
