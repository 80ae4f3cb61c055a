-- The first number of a text, and the text behind it.
use Rattle.std.specs.Prelude.{ℕ, ◌+◌, ◌*◌, ◌-◌, ◌^◌, Bool, cond, List, [], ◌∷◌, leb, ltb}
use Rattle.reader.specs.Tests.{◌and◌}
use Rattle.decimal.specs.Decimal.{digit_zero}

unfoldable pub is_digit : ℕ → Bool
is_digit b = leb digit_zero b and leb b (digit_zero + 9)

-- a number with one digit more; 0 where that has more than 8 bytes
unfoldable pub grown : ℕ → ℕ → ℕ
grown v b = let more = 10 * v + (b - digit_zero) in cond (ltb more (2 ^ 64)) more 0

-- a text from its first digit on
unfoldable pub skipped : List ℕ → List ℕ
skipped [] = []
skipped (b ∷ s) = cond (is_digit b) (b ∷ s) (skipped s)

-- the number that the digits at its front spell, behind those that spell v; and what stands behind them
unfoldable pub valued : ℕ → List ℕ → ℕ
valued v [] = v
valued v (b ∷ s) = cond (is_digit b) (valued (grown v b) s) v

unfoldable pub behind : List ℕ → List ℕ
behind [] = []
behind (b ∷ s) = cond (is_digit b) (behind s) (b ∷ s)

-- the first number of a text, 0 if it has none; and the text behind it
unfoldable pub number_in : List ℕ → ℕ
number_in s = valued 0 (skipped s)

unfoldable pub after_number : List ℕ → List ℕ
after_number s = behind (skipped s)
