-- Runs as the bits of a number: what is worked out for 32 of them at once.
use Rattle.std.specs.Prelude.{ℕ, zero, suc, ◌^◌, ◌<◌, Bool, true, not, cond, ◌≡◌, leb, eqb, get_or}
use Rattle.std.specs.Int.Bits.{bit_and, bit_or, bit_xor}
use Rattle.reader.specs.Tests.{◌or◌}
use Rattle.copies.specs.Sets.{has}
use Rattle.trial.specs.declared.words.Losses.{Losses}

abbrev pub run_count : ℕ
run_count = 32

-- the bits of w tell of each run whether f holds; and w has no other bits
abbrev pub Tells : ℕ → (ℕ → Bool) → Type 0
Tells w f = (r : ℕ) → r < run_count → has w r ≡ f r

abbrev pub Narrow : ℕ → Type 0
Narrow w = (r : ℕ) → has w r ≡ true → r < run_count

-- the runs of b that are not in a; those of a, if the first test holds, with those of b, if the second does
abbrev pub without_of : ℕ → ℕ → ℕ
without_of b a = bit_xor b (bit_and b a)

abbrev pub either_of : Bool → ℕ → Bool → ℕ → ℕ
either_of first a second b = bit_or (cond first a 0) (cond second b 0)

-- in run r, where group lost[r] is lost at moment[r], a node of this group is there up to a tick
abbrev pub stays_to : Losses → ℕ → ℕ → ℕ → Bool
stays_to x group by r = not (eqb (get_or x.lost r 0) group) or leb by (get_or x.moment r 0)

-- those of the first r runs in which it is
unfoldable pub spared_in : Losses → ℕ → ℕ → ℕ → ℕ
spared_in x group by zero = 0
spared_in x group by (suc r) = bit_or (spared_in x group by r) (cond (stays_to x group by r) (2 ^ r) 0)
