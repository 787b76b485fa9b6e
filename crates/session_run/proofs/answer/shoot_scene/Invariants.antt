use Rattle.session_run.proofs.answer.shoot_scene.Given as goal

abbrev pub ghosts-shoot_uncounted : goal.ghosts-shoot_uncounted
ghosts-shoot_uncounted a = record { name = a.blank.name; parts = a.blank.parts }
