use Rattle.urb_group.proofs.Common.{Run, World, [], accepted-stored, kept-agree, length-map}
use Rattle.urb_group.proofs.Common.{one_message, refl, run, safe, survives, view_at, ◌∙◌}
use Rattle.urb_group.proofs.shown.AgreeingWorlds.{sound-kept}
use Rattle.urb_group.proofs.group.Group.recall.Goals as goal

nothing_ran : (w : World) → Run w [] [] w
unfolding run
nothing_ran w = refl

pub returns-clause-counted : goal.returns-clause-counted
returns-clause-counted g c =
    rw (← c.self.view_is) (length-map c.self.inside.nodes.items view_at
    ∙ c.self.invariant.placed.count)

pub returns-clause-sound : goal.returns-clause-sound
returns-clause-sound g c = rw (← c.self.view_is) c.self.invariant.sound

pub returns-clause-safe : goal.returns-clause-safe
returns-clause-safe g c =
    rw (← c.self.view_is) (λ w s. safe w (sound-kept _ w c.self.invariant.sound s).nodes)

pub returns-clause-one_message : goal.returns-clause-one_message
returns-clause-one_message g c =
    rw (← c.self.view_is) (λ w s. one_message w (sound-kept _ w c.self.invariant.sound s).nodes)

pub returns-clause-agree : goal.returns-clause-agree
returns-clause-agree g c =
    rw (← c.self.view_is) (λ w s.
    kept-agree w w [] [] (sound-kept _ w c.self.invariant.sound s) (nothing_ran w))

pub returns-clause-stop : goal.returns-clause-stop
returns-clause-stop g c =
    rw (← c.self.view_is) (λ w s. survives w (sound-kept _ w c.self.invariant.sound s))

pub returns-clause-accepted : goal.returns-clause-accepted
returns-clause-accepted g c =
    rw (← c.self.view_is) (λ w p m x s e.
    accepted-stored w (sound-kept _ w c.self.invariant.sound s).nodes p m x e)
