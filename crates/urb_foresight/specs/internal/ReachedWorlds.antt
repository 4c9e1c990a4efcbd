-- What the parts of a prediction say, in each world of a run that the group shows.
use Rattle.std.specs.Prelude.{Bool, List, [], count_by, false, if◌then◌else◌, not, true, ℕ, ◌&&◌}
use Rattle.std.specs.Prelude.{◌++◌, ◌||◌, ◌∷◌, ◌≡◌}
use Rattle.urb_names.specs.CarriedPackets.{Carried, says_certified}
use Rattle.urb_names.specs.LabelsAndContents.{Content, Label}
use Rattle.urb_names.specs.Names.{has_name}
use Rattle.urb_names.specs.Nodes.{is_node, nodes}
use Rattle.urb_names.specs.Pairs.{has_pair}
use Rattle.urb_stable.specs.Entries.{Entry}
use Rattle.urb_stable.specs.Records.{cert, pend}
use Rattle.urb_stable.specs.declared.record.Record.TheVariants.{Cert, Pend, PendCert}
use Rattle.urb_world.specs.RunInvariant.{IsKept}
use Rattle.urb_world.specs.Step.{is_for}
use Rattle.urb_world.specs.World.{World, stored, truthful}
use Rattle.urb_group.specs.GroupViews.{GroupView, Shows}
use Rattle.urb_group.specs.TailQuestions.{TellsTail}
use Rattle.urb_foresight.specs.ForeseenDrafts.{IsReadyNode}
use Rattle.urb_foresight.specs.declared.foreseen.Foreseen.{Foreseen}
use Rattle.urb_foresight.specs.declared.foreseen.Foreseen.TheVariants as foreseen

-- the records, with this one behind them or not
abbrev pub with_more : Bool → List Entry → Entry → List Entry
with_more true records r = records ++ r ∷ []
with_more false records r = records

-- this holds in each world that the group shows
abbrev pub InEach : GroupView → (World → Type 0) → Type 0
InEach group IsSo = (w : World) → Shows group w → IsSo w

-- this holds in each world that the group shows and that keeps the rules
abbrev pub InKept : GroupView → (World → Type 0) → Type 0
InKept group IsSo = (w : World) → Shows group w → IsKept w → IsSo w

-- whether node p is ready
abbrev pub TellsReady : ℕ → Bool → World → Type 0
TellsReady p true w = IsReadyNode p w
TellsReady p false w = IsReadyNode p w → ⊥

-- whether the group has node q, and q has stored the pair
abbrev pub holds : World → ℕ → Label → Content → Bool
holds w q x m = is_node w.size.n q && has_pair (pend (stored w q)) x m

-- 1 if node q has stored the pair, or else 0
abbrev pub holds_once : World → ℕ → Label → Content → ℕ
holds_once w q x m = if has_pair (pend (stored w q)) x m then 1 else 0

-- how many nodes have stored the pair
abbrev pub holders : World → Label → Content → ℕ
holders w x m = count_by (λ q. has_pair (pend (stored w q)) x m) (nodes w.size.n)

-- whether node q has stored a certificate of the name
abbrev pub has_certificate : World → ℕ → Label → Bool
has_certificate w q x = has_name (cert (stored w q)) x

-- whether the packet's source has stored a certificate of its name, if the packet says so
abbrev pub is_as_told : World → Carried → Bool
is_as_told w packet =
    not (says_certified packet.flags) || has_certificate w packet.source packet.name

-- whether the packet's source is a node of the group, and has stored what the packet says
abbrev pub is_borne_out : World → Carried → Bool
is_borne_out w packet = is_node w.size.n packet.source && truthful w packet

-- whether node p would take the packet if it is ready
abbrev pub is_taken : World → ℕ → Carried → Bool
is_taken w p packet = is_for w p packet && truthful w packet

-- the record of a pair, certified at once or not
abbrev pub pair_record : Bool → Label → Content → Entry
pair_record certified x m = if certified then PendCert x m else Pend x m

-- What is foreseen of an arrival of this name, which is pending at node p: whether a certificate is
-- drafted. It is one if it may follow the records, and two nodes are a majority.
abbrev pub ForeseesCertificate : GroupView → ℕ → List Entry → Label → Bool → Foreseen → List Entry
    → Type 0
ForeseesCertificate group p old x two foreseen.Draft new =
    (two ≡ true) × TellsTail group p (old ++ Cert x ∷ []) true × (new ≡ old ++ Cert x ∷ [])
ForeseesCertificate group p old x two foreseen.NoDraft new =
    TellsTail group p (old ++ Cert x ∷ []) false × (new ≡ old)
ForeseesCertificate group p old x two foreseen.Unsure new =
    (two ≡ false) × TellsTail group p (old ++ Cert x ∷ []) true × (new ≡ old)
