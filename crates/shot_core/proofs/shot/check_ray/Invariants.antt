use Rattle.shot_core.proofs.shot.check_ray.Given as goal

abbrev pub ghosts-check_uncounted : goal.ghosts-check_uncounted
ghosts-check_uncounted a = record { name = a.blank.name; parts = a.blank.parts }
