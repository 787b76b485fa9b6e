use Rattle.std.proofs.Common.{arith, get_or}
use Rattle.option_words.proofs.Digits.{ten_to, digit_most}
use Rattle.option_words.proofs.number.value.Goals as goal

pub overflow_mul-value : goal.overflow_mul-value
overflow_mul-value c = omega (arith, ten_to c.loop-digit.digit-index (omega arith))

pub overflow_add-value : goal.overflow_add-value
overflow_add-value c = omega (arith, ten_to c.loop-digit.digit-index (omega arith), digit_most (get_or c.args.digits.now c.loop-digit.digit-index 0) (c.requires.are_digits c.loop-digit.digit-index c.loop-digit-test.true))
