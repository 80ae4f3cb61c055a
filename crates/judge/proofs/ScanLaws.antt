-- Laws of a scan for the first refusal.
use Prim.Native.Nat.{ℕ, ◌+◌, ◌≤◌, ◌<◌}
use mathlib.Core.Bool.{Bool, true, false}
use mathlib.Core.Option.{Option, none, some}
use mathlib.Core.Path.{◌≡◌, refl, sym, ap, subst}
use native.Mathlib.Omega.{arith}
use Rattle.reader.specs.declared.refusal.Refusal.{Refusal}
use Rattle.std.specs.Prelude.{Ok, Err}
use Rattle.reader.specs.First.{first, unless}
use Rattle.reader.specs.Refusals.{answered}
use Rattle.reader.proofs.FirstLaws.{none_unless, first_start, first_more, first_found}
use Rattle.reader.proofs.FirstLaws.{some_unless}

-- f has no answer below j
pub record Clear (n : ℕ) (f : ℕ → Option Refusal) (j : ℕ) : Type 0 where
  pub within : j ≤ n
  pub none_yet : first j f ≡ none

module _ (n : ℕ) (f : ℕ → Option Refusal) where
  pub clear_start : Clear n f 0
  clear_start = record { within = omega arith; none_yet = first_start f }

  module _ (j : ℕ) (s : Clear n f j) where
    pub clear_more : j < n → f j ≡ none → Clear n f (j + 1)
    clear_more p e = record { within = omega arith; none_yet = first_more f j s.none_yet e }

    pub clear_hit : (r : Refusal) → j < n → f j ≡ some r → Err r ≡ answered (first n f)
    clear_hit r p e = ap answered (sym (first_found f n j r p s.none_yet e))

    pub clear_done : n ≤ j → (Ok tt) ≡ answered (first n f)
    clear_done p = let d : j ≡ n = omega arith in subst (λ m. (Ok tt) ≡ answered (first m f)) d (ap answered (sym s.none_yet))

-- a rule as a test
module _ (n : ℕ) (rule : ℕ → Bool) (refusal : ℕ → Refusal) (j : ℕ) (s : Clear n (λ j. unless (rule j) (refusal j)) j) (p : j < n) where
  pub kept : rule j ≡ true → Clear n (λ j. unless (rule j) (refusal j)) (j + 1)
  kept e = clear_more n _ j s p (none_unless (rule j) (refusal j) e)

  pub broken : rule j ≡ false → Err (refusal j) ≡ answered (first n (λ j. unless (rule j) (refusal j)))
  broken e = clear_hit n _ j s (refusal j) p (some_unless (rule j) (refusal j) (refusal j) e refl)
