use Rattle.ray_cases.proofs.shots.shoot_uncounted.Given as goal

abbrev pub ghosts-shoot_counted : goal.ghosts-shoot_counted
ghosts-shoot_counted a = record { name = a.blank.name; parts = a.blank.parts }
