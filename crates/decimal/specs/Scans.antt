-- What the functions that look for numbers in a text promise.
use Rattle.std.specs.Prelude.{ℕ, ◌≤◌, ◌≡◌, List, length, drop}
use Rattle.decimal.specs.declared.scan.Found.{Found}
use Rattle.decimal.specs.Numbers.{skipped, valued, behind, number_in, after_number}

-- from the first digit at or behind an offset on
pub record Skips (s : List ℕ) (at r : ℕ) : Type 0 where
  pub within : r ≤ length s
  pub rest : drop r s ≡ skipped (drop at s)

-- the number at an offset, and the offset behind it
pub record Takes (s : List ℕ) (at : ℕ) (r : Found) : Type 0 where
  pub within : r.end ≤ length s
  pub value : r.value ≡ valued 0 (drop at s)
  pub rest : drop r.end s ≡ behind (drop at s)

-- the first number at or behind an offset, and the offset behind it
pub record Finds (s : List ℕ) (at : ℕ) (r : Found) : Type 0 where
  pub within : r.end ≤ length s
  pub value : r.value ≡ number_in (drop at s)
  pub rest : drop r.end s ≡ after_number (drop at s)
