use Rattle.urb_folder.proofs.folder.open_in_folder.Goals as goal

pub returns-in-Ok-clause-nodes : goal.returns-in-Ok-clause-nodes
returns-in-Ok-clause-nodes g c =
    λ place journal there. (c.in-Ok.ensures.all.each place journal there).0

pub returns-in-Ok-clause-found : goal.returns-in-Ok-clause-found
returns-in-Ok-clause-found g c =
    λ place journal there. (c.in-Ok.ensures.all.each place journal there).1
