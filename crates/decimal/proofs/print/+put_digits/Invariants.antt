-- What falls where `decimal::print::put_digits` calls itself.
use Rattle.decimal.proofs.print.+put_digits.Given as goal

abbrev pub decreases-put_digits : goal.decreases-put_digits
decreases-put_digits l = l.v
