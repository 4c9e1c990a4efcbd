-- The packet with which a node answers another node.
use Rattle.std.specs.Prelude.{ℕ, Bool, true, Some}
use Rattle.urb_names.specs.LabelsAndContents.{Label, Content}
use Rattle.urb_names.specs.Names.{name}
use Rattle.urb_names.specs.CarriedPackets.{Carried}

-- the answer of p to q: the name is certified at p, and whether p heard the certificate of q
abbrev pub answer_with : ℕ → ℕ → Label → Content → Bool → Carried
answer_with p q x m heard = record {
  source = p;
  target = q;
  name = x;
  message = m;
  flags =
      Some (record { certified = true; heard = heard });
}
