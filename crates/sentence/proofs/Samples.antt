-- The samples, computed: what is printed, what is read, and what a wrong reader would read.
use mathlib.Core.Bool.{true}
use mathlib.Core.Path.{◌≡◌, refl}
use mathlib.Core.List.{[], ◌∷◌}
use mathlib.Core.Option.{some}
use Rattle.reader.specs.declared.refusal.Refusal.TheVariants.{NotASentence}
use Rattle.std.specs.Prelude.{Err}
use Rattle.reader.specs.Tests.{◌and◌}
use Rattle.reader.specs.First.{◌or_else◌, unless, when}
use Rattle.reader.specs.Refusals.{told}
use Rattle.decimal.specs.Decimal.{digits, decimal}
use Rattle.decimal.specs.Numbers.{is_digit, grown, skipped, valued, behind, number_in, after_number}
use Rattle.sentence.specs.Phrases.{spelled, rows, tabled, row_of, unsaid, mark}
use Rattle.sentence.specs.Sentence.{around, placed, front, phrases, body, sentence, print_fault, print_sentence}
use Rattle.sentence.specs.Reading.{same, if_said, shown, repeated, read_sentence}
use Rattle.sentence.specs.Samples.{sentences, all_printed, others, all_refused, trusting}

-- what is opened to print, and to read
printing : Unit {0}
unfolding spelled rows tabled row_of unsaid mark around placed front phrases body sentence digits decimal same ◌and◌
printing = tt

reading : Unit {0}
unfolding is_digit grown skipped valued behind number_in after_number if_said shown repeated read_sentence when ◌or_else◌
reading = tt

-- the line end among the others is one
line_end : spelled "\n" ≡ 10 ∷ []
unfolding spelled
line_end = refl

pub printed : all_printed sentences ≡ true
unfolding printing sentences all_printed
printed = refl

pub refused : all_refused others ≡ true
unfolding printing reading others all_refused
refused = refl

-- 'The sentence of refusal (22, 5, 0) reads back as that refusal'
pub of_22 : read_sentence (spelled "Refused 22, not a sentence: no refusal has it; its length or number: 5.") ≡ some (told 22 5 0)
unfolding printing reading
of_22 = refl

-- a number outside the tables is refused 22 before 17
pub number_before_room : (print_sentence (told 23 0 0) []).answer ≡ Err (NotASentence 23)
unfolding printing print_fault print_sentence unless ◌or_else◌
number_before_room = refl

-- the wrong reader: a zero in front, a space behind and 2 ^ 64, read as 0
pub trusting_zero : trusting (spelled "Refused 4, value: the number at byte 056 is outside its limits. ") ≡ some (told 4 56 0)
unfolding printing reading trusting
trusting_zero = refl

pub trusting_large : trusting (spelled "Refused 4, value: the number at byte 18446744073709551616 is outside its limits.") ≡ some (told 4 0 0)
unfolding printing reading trusting
trusting_large = refl
