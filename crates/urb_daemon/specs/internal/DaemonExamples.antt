-- Words for the worked examples of the daemon: lines that it writes, lists of stations, and limits
-- of clients.
use Prim.Native.String.{String}
use Rattle.std.specs.Prelude.{Bool, List, [], codes, suc, zero, ℕ, ◌++◌, ◌∷◌}
use Rattle.urb_desk.specs.declared.connections.ClientLimits.{ClientLimits}

-- a line with this text
abbrev pub line : String → List ℕ
line text = codes text ++ 10 ∷ []

-- one entry `count` times, and then another
abbrev pub ending : {A : Type 0} → ℕ → A → A → List A
ending zero one last = last ∷ []
ending (suc count) one last = one ∷ ending count one last

-- client limits with these connections and idle minutes, and ten seconds for a frame
abbrev pub client_limits : ℕ → ℕ → Bool → ClientLimits
client_limits connections minutes may_crash = record {
  connections = connections;
  frame_millis = 10000;
  idle_millis = 60000;
  idle_times = minutes;
  may_crash = may_crash;
}
