use Rattle.word_values.proofs.MatrixLaws.{still}
use Rattle.scene_make.proofs.objects.identity.Goals as goal

pub returns : goal.returns
returns c = still c.identity.result c.identity.ensures.turn c.identity.ensures.shift
