-- What the functions that put numbers into a buffer promise.
use Rattle.std.specs.Prelude.{ℕ, ◌+◌, ◌*◌, ◌≤◌, ◌≡◌, List, length}
use Rattle.writer.specs.Write.{splice, pack, flat}

-- numbers stand in the buffer from an offset; the offset behind them
pub record Puts (before : List ℕ) (at : ℕ) (numbers after : List ℕ) (end : ℕ) : Type 0 where
  pub buffer : after ≡ splice before at (pack numbers)
  pub size : length after ≡ length before
  pub behind : end ≡ at + 4 * length numbers

-- so do n rows of numbers, each of at most so many bytes
pub record Rows (row : ℕ → List ℕ) (width : ℕ) (before : List ℕ) (at n : ℕ) (after : List ℕ) (end : ℕ) : Type 0 where
  pub puts : Puts before at (flat n row) after end
  pub most : end ≤ at + n * width
