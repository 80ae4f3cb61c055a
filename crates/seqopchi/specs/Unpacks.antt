-- What C gets out of a result.
use Rattle.std.specs.Prelude.{ℕ, ◌/◌, ◌%◌, ◌^◌, ◌<◌, ◌≡◌}
use Rattle.reader.specs.declared.refusal.Told.{Told}
use Rattle.rules.specs.declared.Loss.{Loss}
use Rattle.rules.specs.declared.Loss.TheVariants.{NoLoss, Lost}

-- the number and both places of a refusal, taken back out of the 8-byte result n
pub record Unpacks (t : Told) (n : ℕ) : Type 0 where
  pub number : n % 2 ^ 8 ≡ t.number
  pub first : n / 2 ^ 8 % 2 ^ 32 ≡ t.first
  pub second : n / 2 ^ 40 ≡ t.second

-- a loss as C names it: its node is any 4-byte number
abbrev pub WordLoss : Loss → Type 0
WordLoss NoLoss = Unit {0}
WordLoss (Lost q f) = q < 2 ^ 32
