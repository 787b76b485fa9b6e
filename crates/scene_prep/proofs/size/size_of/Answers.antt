use Rattle.std.proofs.Common.{◌∷◌}
use Rattle.scene_prep.proofs.size.size_of.Goals as goal

pub size_of_name-requires-clause-shallow : goal.size_of_name-requires-clause-shallow
size_of_name-requires-clause-shallow c = λ w walk. c.len-count.ensures.sound.shallow (c.name-item.result ∷ w) walk
