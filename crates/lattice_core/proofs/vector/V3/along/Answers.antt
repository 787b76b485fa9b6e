use Rattle.std.proofs.Common.{sym, ◌∙◌}
use Rattle.lattice_core.proofs.Along as along
use Rattle.lattice_core.proofs.vector.V3.along.Goals as goal

pub returns-in-PlusX-clause-value : goal.returns-in-PlusX-clause-value
returns-in-PlusX-clause-value c = along.read c.args.self.x c.requires.x ∙ sym (along.plus_x c.args.self c.args.dir c.in-PlusX.is)

pub returns-in-PlusX-clause-turned : goal.returns-in-PlusX-clause-turned
returns-in-PlusX-clause-turned c = along.read c.args.self.x c.requires.x ∙ sym (along.plus_x_turned c.args.self c.args.dir c.in-PlusX.is)

pub returns-in-PlusX-clause-size : goal.returns-in-PlusX-clause-size
returns-in-PlusX-clause-size c = λ limit h. along.is_at_most limit c.args.self.x c.requires.x h.x

pub returns-in-MinusX-clause-value : goal.returns-in-MinusX-clause-value
returns-in-MinusX-clause-value c = along.read_minus c.args.self.x c.requires.x ∙ sym (along.minus_x c.args.self c.args.dir c.in-MinusX.is)

pub returns-in-MinusX-clause-turned : goal.returns-in-MinusX-clause-turned
returns-in-MinusX-clause-turned c = along.read_minus c.args.self.x c.requires.x ∙ sym (along.minus_x_turned c.args.self c.args.dir c.in-MinusX.is)

pub returns-in-MinusX-clause-size : goal.returns-in-MinusX-clause-size
returns-in-MinusX-clause-size c = λ limit h. along.minus_is_at_most limit c.args.self.x c.requires.x h.x

pub returns-in-PlusY-clause-value : goal.returns-in-PlusY-clause-value
returns-in-PlusY-clause-value c = along.read c.args.self.y c.requires.y ∙ sym (along.plus_y c.args.self c.args.dir c.in-PlusY.is)

pub returns-in-PlusY-clause-turned : goal.returns-in-PlusY-clause-turned
returns-in-PlusY-clause-turned c = along.read c.args.self.y c.requires.y ∙ sym (along.plus_y_turned c.args.self c.args.dir c.in-PlusY.is)

pub returns-in-PlusY-clause-size : goal.returns-in-PlusY-clause-size
returns-in-PlusY-clause-size c = λ limit h. along.is_at_most limit c.args.self.y c.requires.y h.y

pub returns-in-MinusY-clause-value : goal.returns-in-MinusY-clause-value
returns-in-MinusY-clause-value c = along.read_minus c.args.self.y c.requires.y ∙ sym (along.minus_y c.args.self c.args.dir c.in-MinusY.is)

pub returns-in-MinusY-clause-turned : goal.returns-in-MinusY-clause-turned
returns-in-MinusY-clause-turned c = along.read_minus c.args.self.y c.requires.y ∙ sym (along.minus_y_turned c.args.self c.args.dir c.in-MinusY.is)

pub returns-in-MinusY-clause-size : goal.returns-in-MinusY-clause-size
returns-in-MinusY-clause-size c = λ limit h. along.minus_is_at_most limit c.args.self.y c.requires.y h.y

pub returns-in-PlusZ-clause-value : goal.returns-in-PlusZ-clause-value
returns-in-PlusZ-clause-value c = along.read c.args.self.z c.requires.z ∙ sym (along.plus_z c.args.self c.args.dir c.in-PlusZ.is)

pub returns-in-PlusZ-clause-turned : goal.returns-in-PlusZ-clause-turned
returns-in-PlusZ-clause-turned c = along.read c.args.self.z c.requires.z ∙ sym (along.plus_z_turned c.args.self c.args.dir c.in-PlusZ.is)

pub returns-in-PlusZ-clause-size : goal.returns-in-PlusZ-clause-size
returns-in-PlusZ-clause-size c = λ limit h. along.is_at_most limit c.args.self.z c.requires.z h.z

pub returns-in-MinusZ-clause-value : goal.returns-in-MinusZ-clause-value
returns-in-MinusZ-clause-value c = along.read_minus c.args.self.z c.requires.z ∙ sym (along.minus_z c.args.self c.args.dir c.in-MinusZ.is)

pub returns-in-MinusZ-clause-turned : goal.returns-in-MinusZ-clause-turned
returns-in-MinusZ-clause-turned c = along.read_minus c.args.self.z c.requires.z ∙ sym (along.minus_z_turned c.args.self c.args.dir c.in-MinusZ.is)

pub returns-in-MinusZ-clause-size : goal.returns-in-MinusZ-clause-size
returns-in-MinusZ-clause-size c = λ limit h. along.minus_is_at_most limit c.args.self.z c.requires.z h.z
