-- The world: all nodes, and every packet ever sent.
use Rattle.std.specs.Prelude.{Bool, List, [], if◌then◌else◌, length, not, ℕ, ◌&&◌, ◌==◌, ◌||◌, ◌≡◌}
use Rattle.std.specs.List.{All}
use Rattle.urb_names.specs.CarriedPackets.{Carried, says_certified}
use Rattle.urb_names.specs.Names.{has_name}
use Rattle.urb_names.specs.LabelsAndContents.{Limits}
use Rattle.urb_names.specs.Pairs.{has_pair}
use Rattle.urb_node.specs.Part.{Node, opened_node}
use Rattle.urb_stable.specs.Entries.{Entry, IsEntry}
pub use Rattle.urb_stable.specs.Images.{image_of}
use Rattle.urb_stable.specs.Records.{cert, pend}

-- a group's limits, the part of each node, and every packet ever sent
pub record World : Type 0 where
  pub size : Limits
  pub node : ℕ → Node
  pub sent : List Carried  -- every packet ever sent

-- the records of each node
abbrev pub stored : World → ℕ → List Entry
stored w p = (w.node p).records

-- f, with this value at p
abbrev pub updated : {A : Type 0} → (ℕ → A) → ℕ → A → ℕ → A
updated f p value q = if q == p then value else f q

-- the world of these images
abbrev pub opened : Limits → (ℕ → List Entry) → World
opened size images = record { size = size; node = λ p. opened_node p (images p); sent = [] }

-- the world of a new group
abbrev pub started : Limits → World
started size = opened size (λ p. [])

-- images of all nodes: one for each node, with records within their limits
pub record AreImages (size : Limits) (images : List (List Entry)) : Type 0 where
  pub one_each : length images ≡ size.n
  pub limits : All (All IsEntry) images

-- whether these records confirm a packet: they have its pair, and its certificate if it reports one
abbrev pub bears_out : List Entry → Carried → Bool
bears_out records packet =
    has_pair (pend records) packet.name packet.message
    && (not (says_certified packet.flags) || has_name (cert records) packet.name)

-- whether the source has stored the packet's pair, and its certificate if the packet reports one
abbrev pub truthful : World → Carried → Bool
truthful w packet = bears_out (stored w packet.source) packet
