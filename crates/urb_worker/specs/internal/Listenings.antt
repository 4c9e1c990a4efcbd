-- Which listeners a group that runs has.
use Rattle.std.specs.Prelude.{ℕ, ◌≡◌}
use Rattle.urb_worker.specs.declared.listeners.GroupListening.{GroupListening}

-- `count` nodes have their listeners, and each gets a tick every `millis` milliseconds
abbrev pub HasAll : ℕ → ℕ → GroupListening → Type 0
HasAll count millis it =
    (it.listening.last ≡ count) × (it.ticking.nodes ≡ count) × (it.ticking.millis ≡ millis)
