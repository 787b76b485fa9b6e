use Rattle.std.proofs.Common.{rules, ◌≡◌, ◌+◌, ◌++◌, ◌∷◌, ◌∙◌, ℕ, List, [], Option, arith, ap, sym, subst, drop, map}
use Rattle.std.specs.Borrow.{Bor}
use Rattle.std.specs.Option.{option_map}
use Rattle.comb_tree.specs.declared.node.ListEntry.{ListEntry}
use Rattle.command_set.specs.Lawful.{AreNear}
use Rattle.mged_words.specs.Commands.{entries_of, entry_of}
use Rattle.mged_words.proofs.ListLaws.{known_operator, entries_more, entries_end, fault_more, fault_found, fault_end, near_more, all_left}
use Rattle.mged_words.proofs.CommandLaws.{fault_refused}
use Rattle.mged_words.proofs.list.read_entries.Goals as goal

pub loop-at-preserved : goal.loop-at-preserved
loop-at-preserved c =
    let none : Bor (List ℕ) = record { ref_ptr = (0, 0); now = [] } in
    let ws : List (Bor (List ℕ)) = c.args.words.now in
    let op = sym c.in-Some.ensures in
    let rest : Option (List ListEntry) = entries_of (map (λ (a : Bor (List ℕ)). a.now) (drop (c.loop-at.at + 2) ws)) in
    let made : c.push.new.self.items ≡ c.loop-at.entries.items ++ entry_of c.in-Some.op c.in_ok-name.name ∷ [] = c.in_ok-push.ensures.items ∙ ap (λ (e : ListEntry). c.loop-at.entries.items ++ e ∷ []) c.entry.ensures in
    record {
      within = omega (arith, c.loop-at-test.true);
      some = known_operator ws c.loop-at.at none c.in-Some.op c.loop-at-test.true op ∙ c.loop-at.invariant.some;
      entries = ap (λ (done : List ListEntry). option_map (λ (l : List ListEntry). done ++ l) rest) made
          ∙ entries_more ws c.loop-at.at none c.in-Some.op c.in_ok-name.name c.loop-at.entries.items c.loop-at-test.true op c.in_ok-name.ensures.name ∙ c.loop-at.invariant.entries;
      fault = fault_more ws c.loop-at.at none c.in-Some.op c.loop-at-test.true op c.loop-at.invariant.some c.in_ok-name.ensures.none ∙ c.loop-at.invariant.fault;
      few = search rules;
      near = subst AreNear (sym made) (near_more c.loop-at.entries.items c.in-Some.op c.in_ok-name.name c.loop-at.invariant.near);
    }

pub returns-clause-entries : goal.returns-clause-entries
returns-clause-entries c =
    entries_end c.args.words.now c.loop-at.at c.loop-at.entries.items _ (all_left c.args.words.now c.loop-at.at c.loop-at.invariant.within c.loop-at-test.false c.loop-at.invariant.some) c.loop-at.invariant.entries

pub returns-clause-fault : goal.returns-clause-fault
returns-clause-fault c =
    sym c.loop-at.invariant.fault ∙ fault_end c.args.words.now c.loop-at.at (all_left c.args.words.now c.loop-at.at c.loop-at.invariant.within c.loop-at-test.false c.loop-at.invariant.some)

pub returns-in_err-name-clause-fault : goal.returns-in_err-name-clause-fault
returns-in_err-name-clause-fault c =
    let none : Bor (List ℕ) = record { ref_ptr = (0, 0); now = [] } in
    let bad = sym c.loop-at.invariant.fault ∙ fault_found c.args.words.now c.loop-at.at none c.in-Some.op c.in_err-name.field-0.0 c.loop-at-test.true (sym c.in-Some.ensures) c.loop-at.invariant.some c.in_err-name.ensures.fault in
    fault_refused c.from_residual.result c.in_err-name.field-0.0 _ c.from_residual.ensures (λ e h. h) bad
