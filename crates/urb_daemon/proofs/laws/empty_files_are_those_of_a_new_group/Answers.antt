use Rattle.std.proofs.Common.{[], ap, arith, inl, inr, refl, ◌≤◌}
use Rattle.urb_names.specs.LabelsAndContents.{Limits}
use Rattle.urb_group.proofs.stops.StoredWorlds.{as-itself}
use Rattle.urb_world.specs.World.{started}
use Rattle.urb_daemon.proofs.laws.empty_files_are_those_of_a_new_group.Goals as goal

pub returns : goal.returns
returns c held group size sound counted shows empty =
    let same = ap (λ (l : Limits). l.n) shows.size in
    record {
      sound = sound;
      counted = counted;
      nodes = omega (arith, same);
      shown = started size;
      shows = shows;
      stands = as-itself (started size);
      holds = λ i low. ([], refl, inr (inl (empty i low), refl));
    }
