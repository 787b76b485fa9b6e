use Rattle.std.proofs.Common.{◌∙◌, Option, ap, sym}
use Rattle.std.specs.Option.{option_copied}
use Rattle.put_form.specs.Pairs.{Pair}
use Rattle.put_form.specs.Combs.{tree_given, has_numbers}
use Rattle.put_form.proofs.TreeLaws.{tree_lawful}
use Rattle.put_form.proofs.PutLaws.{trees_fine, bad_there, comb_ok}
use Rattle.put_form.proofs.comb.comb_of.Goals as goal

pub comb_put-requires-clause-fine : goal.comb_put-requires-clause-fine
comb_put-requires-clause-fine c =
    trees_fine c.args.text.now c.args.tokens.now c.args.pairs.now _ c.requires.keys
    (ap (λ (o : Option Pair). has_numbers (tree_given c.args.text.now c.args.tokens.now o)) (sym c.pair_of-pair.ensures.found) ∙ ap has_numbers c.in-Ok.ensures)

pub comb_put-requires-clause-lawful : goal.comb_put-requires-clause-lawful
comb_put-requires-clause-lawful c = tree_lawful c.args.text.now c.args.tokens.now (option_copied c.pair_of-pair.result) c.in-Ok.tree c.in-Ok.ensures

pub bad_number-requires-clause-fine : goal.bad_number-requires-clause-fine
bad_number-requires-clause-fine c =
    let found = rw c.in-Err-Number.field-0-is at c.in-Err-Number.ensures in
    trees_fine c.args.text.now c.args.tokens.now c.args.pairs.now _ c.requires.keys
    (ap (λ (o : Option Pair). has_numbers (tree_given c.args.text.now c.args.tokens.now o)) (sym c.pair_of-pair.ensures.found) ∙ ap has_numbers found)

pub bad_number-requires-clause-bad : goal.bad_number-requires-clause-bad
bad_number-requires-clause-bad c =
    let found = rw c.in-Err-Number.field-0-is at c.in-Err-Number.ensures in
    bad_there c.args.text.now c.args.tokens.now c.args.pairs.now (ap (tree_given c.args.text.now c.args.tokens.now) (sym c.pair_of-pair.ensures.found) ∙ found)

pub returns-in-Ok : goal.returns-in-Ok
returns-in-Ok c =
    comb_ok c.comb_put.result c.args.text.now c.args.tokens.now (option_copied c.args.name) c.args.pairs.now c.in-Ok.tree c.requires.keys
    (ap (tree_given c.args.text.now c.args.tokens.now) (sym c.pair_of-pair.ensures.found) ∙ c.in-Ok.ensures) c.comb_put.ensures
