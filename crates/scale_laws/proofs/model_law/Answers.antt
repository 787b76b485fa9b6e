use Rattle.scale_laws.proofs.Models.{models_scale, rays_of_models, pictures_of_models}
use Rattle.scale_laws.proofs.Faults.{faults_stay}
use Rattle.scale_laws.proofs.Edited.{edits_stay}
use Rattle.scale_laws.proofs.Reported.{reports_of_models}
use Rattle.scale_laws.proofs.model_law.Goals as goal

pub returns-clause-regions : goal.returns-clause-regions
returns-clause-regions c = models_scale

pub returns-clause-rays : goal.returns-clause-rays
returns-clause-rays c = rays_of_models

pub returns-clause-pictures : goal.returns-clause-pictures
returns-clause-pictures c = pictures_of_models

pub returns-clause-faults : goal.returns-clause-faults
returns-clause-faults c = faults_stay

pub returns-clause-edits : goal.returns-clause-edits
returns-clause-edits c = edits_stay

pub returns-clause-reports : goal.returns-clause-reports
returns-clause-reports c = reports_of_models
