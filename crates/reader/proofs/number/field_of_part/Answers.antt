-- The number at an offset of the file stands in the part at that offset less the part's beginning.
use native.Mathlib.Omega.{arith}
use Rattle.reader.specs.Number.{number_at}
use Rattle.reader.proofs.NumberLaws.{field_short, field_low, field_high, field_is}
use Rattle.reader.proofs.number.field_of_part.Goals as goal

pub returns-then-part-i : goal.returns-then-part-i
returns-then-part-i c = λ file part. field_short _ _ _ _ _ _ _ part c.requires.0 c.if-part-i.true

pub returns-then-v-low : goal.returns-then-v-low
unfolding number_at
returns-then-v-low c = λ file part. field_low _ _ _ _ _ _ _ part c.requires.0 c.if-part-i.false _ (omega arith) c.if-v-low.true

pub returns-then-high-v : goal.returns-then-high-v
unfolding number_at
returns-then-high-v c =
    λ file part. field_high _ _ _ _ _ _ _ part c.requires.0 c.if-part-i.false _ (omega arith) c.if-v-low.false c.if-high-v.true

pub returns : goal.returns
unfolding number_at
returns c =
    λ file part. field_is _ _ _ _ _ _ _ part c.requires.0 c.if-part-i.false _ (omega arith) c.if-v-low.false c.if-high-v.false
