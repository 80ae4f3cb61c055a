-- One digit; the search finds the rest.
use Rattle.decimal.proofs.PrintLaws.{digit_printed}
use Rattle.decimal.proofs.print.+put_digits.Goals as goal

pub returns-then-v-lt10 : goal.returns-then-v-lt10
returns-then-v-lt10 t c = digit_printed _ _ _ _ c.if-v-lt10.true c.digit.ensures c.requires
