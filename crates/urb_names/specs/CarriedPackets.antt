-- A packet, as contracts see it.
use Rattle.std.specs.Prelude.{Bool, IsTrue, List, None, Option, Some, false, filter, map, not, true}
use Rattle.std.specs.Prelude.{ℕ, ◌==◌, ◌≡◌}
use Rattle.std.specs.List.{AllByRecursion, list_any}
use Rattle.urb_names.specs.Acknowledgements.{acked}
use Rattle.urb_names.specs.Names.{has_name}
use Rattle.urb_names.specs.LabelsAndContents.{Label, Content}
use Rattle.urb_names.specs.Nodes.{nodes}
use Rattle.urb_names.specs.Pairs.{has_pair}
use Rattle.urb_names.specs.declared.flags.Flags.{Flags}

-- a packet: a name and its message, from one node to another; in version two also flags, which hold
-- what its source says about certificates
pub record Carried : Type 0 where
  pub source : ℕ
  pub target : ℕ
  pub name : Label
  pub message : Content
  pub flags : Option Flags

-- whether these flags say that the source has stored a certificate of the name
abbrev pub says_certified : Option Flags → Bool
says_certified None = false
says_certified (Some flags) = flags.certified

-- the nodes of a group of n except p, in rising order
abbrev pub others : ℕ → ℕ → List ℕ
others n p = filter (λ q. not (q == p)) (nodes n)

-- the packets that carry a pair from p to these nodes, each with the flags for its target
abbrev pub packets_to : ℕ → (ℕ → Flags) → List ℕ → Label × Content → List Carried
packets_to p flags targets pair =
    map (λ q. record {
      source = p;
      target = q;
      name = pair.0;
      message = pair.1;
      flags =
          Some (flags q);
    }) targets

-- whether the first node, if there is one, is the second
abbrev pub is_heard_of : Option ℕ → ℕ → Bool
is_heard_of None q = false
is_heard_of (Some node) q = q == node

-- The packets that carry a stored pair from p to every other node, targets rising. The third
-- argument says whether the pair's record also certifies it. The fourth is the node whose
-- certificate p heard of, if any.
abbrev pub to_others : ℕ → ℕ → Bool → Option ℕ → Label × Content → List Carried
to_others n p certified heard pair =
    packets_to p (λ q. record { certified = certified; heard = is_heard_of heard q })
    (others n p) pair

-- whether some other node's certificate of the name has not been heard
abbrev pub is_due : ℕ → ℕ → List (Label × ℕ) → Label → Bool
is_due n p heard x = list_any (λ q. not (acked heard x q)) (others n p)

-- the pairs that are due
abbrev pub due_of : ℕ → ℕ → List (Label × ℕ) → List (Label × Content) → List (Label × Content)
due_of n p heard pairs = filter (λ pair. is_due n p heard pair.0) pairs

-- the packets that carry a pair from p to each other node whose certificate was not heard, targets
-- rising
abbrev pub to_unheard : ℕ → ℕ → List Label → List (Label × ℕ) → Label × Content → List Carried
to_unheard n p certified heard pair =
    packets_to p (λ q. record { certified = has_name certified pair.0; heard = false })
    (filter (λ q. not (acked heard pair.0 q)) (others n p)) pair

-- The packet carries one of these pairs, and its source is p. If it says that p has stored a
-- certificate, its name is one of the certified ones.
pub record IsFrom (p : ℕ) (pairs : List (Label × Content)) (certified : List Label)
    (packet : Carried) : Type 0 where
  pub source : packet.source ≡ p
  pub pair : IsTrue (has_pair pairs packet.name packet.message)
  pub certificate : says_certified packet.flags ≡ true → has_name certified packet.name ≡ true

-- each of these packets is such a packet
abbrev pub AreFrom : ℕ → List (Label × Content) → List Label → List Carried → Type 0
AreFrom p pairs certified packets = AllByRecursion (IsFrom p pairs certified) packets
