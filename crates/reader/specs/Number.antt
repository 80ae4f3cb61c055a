-- Numbers of a file: 'Each number is 4 bytes, unsigned, low byte first.'
use Rattle.std.specs.Prelude.{ℕ, ◌+◌, ◌*◌, ◌/◌, ◌%◌, ◌^◌, ◌<◌, List, [], ◌∷◌, length, get_or, leb}
use Rattle.std.proofs.Math.Option.{Option}
use Rattle.reader.specs.declared.refusal.Refusal.{Refusal}
use Rattle.reader.specs.declared.refusal.Refusal.TheVariants.{Short, Version, Count, Value}
use Rattle.reader.specs.Tests.{◌and◌}
use Rattle.reader.specs.First.{◌or_else◌, unless}
use Rattle.reader.specs.Limits.{first_version}

-- the number whose first byte stands at an offset
unfoldable pub number_at : List ℕ → ℕ → ℕ
number_at s at = get_or s at 0 + 256 * get_or s (at + 1) 0 + 65536 * get_or s (at + 2) 0 + 16777216 * get_or s (at + 3) 0

-- the bytes of a number
abbrev pub bytes : ℕ → List ℕ
bytes v = v % 256 ∷ v / 256 % 256 ∷ v / 65536 % 256 ∷ v / 16777216 % 256 ∷ []

-- a list of bytes, and one of 4-byte numbers: what every value of the code's types is
unfoldable pub Bytes : List ℕ → Type 0
Bytes s = (k : ℕ) → get_or s k 0 < 256

unfoldable pub Words : List ℕ → Type 0
Words vs = (k : ℕ) → get_or vs k 0 < 2 ^ 32

-- 1 where 'fewer than 4 bytes [are] left for a number'; else r where it is not from low to high
unfoldable pub field_fault : List ℕ → ℕ → ℕ → ℕ → Refusal → Option Refusal
field_fault s at low high r =
    unless (leb (at + 4) (length s)) (Short at)
    or_else unless (leb low (number_at s at) and leb (number_at s at) high) r

-- 2, 'not 1', and since request (ii) not one up to the newest known; 3, 'a section count outside its limits'; 4, 'any other number outside its limits'
abbrev pub version_fault : ℕ → List ℕ → Option Refusal
version_fault newest s = field_fault s 0 first_version newest (Version 0)

abbrev pub count_fault : List ℕ → ℕ → ℕ → ℕ → Option Refusal
count_fault s at low high = field_fault s at low high (Count at)

abbrev pub value_fault : List ℕ → ℕ → ℕ → ℕ → Option Refusal
value_fault s at low high = field_fault s at low high (Value at)
