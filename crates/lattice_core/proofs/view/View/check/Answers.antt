use Rattle.std.proofs.Common.{Result, subst, sym, rules}
use Rattle.lattice_core.specs.declared.view.ViewFault.{ViewFault}
use Rattle.lattice_core.specs.Views.{IsFirstFault, fault_order}
use Rattle.lattice_core.proofs.Viewing.{first_fault_is, checked_is}
use Rattle.lattice_core.proofs.view.View.check.Goals as goal

pub returns-then-leaves_world-clause-value : goal.returns-then-leaves_world-clause-value
returns-then-leaves_world-clause-value c = search rules

pub returns-then-leaves_world-clause-fault : goal.returns-then-leaves_world-clause-fault
returns-then-leaves_world-clause-fault c =
    subst (λ (r : Result (Unit {0}) ViewFault). IsFirstFault c.args.self.now fault_order r) (sym (returns-then-leaves_world-clause-value c)) (first_fault_is c.args.self.now)

pub returns-then-leaves_world-clause-checked : goal.returns-then-leaves_world-clause-checked
returns-then-leaves_world-clause-checked c = checked_is c.args.self.now _ (returns-then-leaves_world-clause-fault c)

pub returns-clause-value : goal.returns-clause-value
returns-clause-value c = search rules

pub returns-clause-fault : goal.returns-clause-fault
returns-clause-fault c =
    subst (λ (r : Result (Unit {0}) ViewFault). IsFirstFault c.args.self.now fault_order r) (sym (returns-clause-value c)) (first_fault_is c.args.self.now)

pub returns-clause-checked : goal.returns-clause-checked
returns-clause-checked c = checked_is c.args.self.now _ (returns-clause-fault c)
