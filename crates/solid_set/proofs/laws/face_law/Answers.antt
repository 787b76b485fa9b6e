use Rattle.solid_set.proofs.FacesAlong.{surfaces_are_of_faces}
use Rattle.solid_set.proofs.laws.face_law.Goals as goal

pub returns : goal.returns
returns c = surfaces_are_of_faces
