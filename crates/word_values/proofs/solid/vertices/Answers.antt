use Rattle.lattice_core.specs.declared.limit.TheConstants.{COORD}
use Rattle.lattice_core.specs.Limits.{IsWithin}
use Rattle.word_values.proofs.SolidLaws.{all_eight}
use Rattle.word_values.proofs.solid.vertices.Goals as goal

pub returns-clause-size : goal.returns-clause-size
returns-clause-size c =
    all_eight (IsWithin COORD) c.vector_at.result c.vector_at-2.result c.vector_at-3.result c.vector_at-4.result c.vector_at-5.result c.vector_at-6.result c.vector_at-7.result c.vector_at-8.result
    (c.vector_at.ensures.size c.requires.size) (c.vector_at-2.ensures.size c.requires.size) (c.vector_at-3.ensures.size c.requires.size) (c.vector_at-4.ensures.size c.requires.size) (c.vector_at-5.ensures.size c.requires.size) (c.vector_at-6.ensures.size c.requires.size) (c.vector_at-7.ensures.size c.requires.size) (c.vector_at-8.ensures.size c.requires.size)
