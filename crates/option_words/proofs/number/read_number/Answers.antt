use Rattle.std.proofs.Common.{sym}
use Rattle.option_words.proofs.Digits.{number_fits}
use Rattle.option_words.proofs.number.read_number.Goals as goal

pub value-requires-clause-few : goal.value-requires-clause-few
value-requires-clause-few c = (number_fits c.args.text.now (sym c.if-is_number.ensures)).few

pub value-requires-clause-are_digits : goal.value-requires-clause-are_digits
value-requires-clause-are_digits c = (number_fits c.args.text.now (sym c.if-is_number.ensures)).digits
