use Rattle.tcl_words.proofs.Digits.{counted_digits}
use Rattle.tcl_words.proofs.number.tenths_magnitude.Goals as goal

pub short_value-requires : goal.short_value-requires
short_value-requires c = counted_digits _ _ c.digit_count-count.ensures.count
