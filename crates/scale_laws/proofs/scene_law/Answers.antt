use Rattle.scale_laws.proofs.Woven.{instances_scale}
use Rattle.scale_laws.proofs.Seen.{scenes_scale}
use Rattle.scale_laws.proofs.scene_law.Goals as goal

pub returns-clause-instances : goal.returns-clause-instances
returns-clause-instances c = instances_scale

pub returns-clause-scenes : goal.returns-clause-scenes
returns-clause-scenes c = scenes_scale
