use Rattle.urb_worker_tests.proofs.tests.places.+waits_for_a_place.Given as goal

-- the places that it still takes
abbrev pub decreases-waits_for_a_place : goal.decreases-waits_for_a_place
decreases-waits_for_a_place g l = l.others
