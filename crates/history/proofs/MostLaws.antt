-- Laws of the largest of a row of numbers.
use Prim.Native.Nat.{ℕ, zero, suc, ◌≤◌, ◌<◌, max}
use mathlib.Core.Path.{◌≡◌, refl, ap}
use native.Mathlib.Nat.{not-suc-le-zero}
use native.Mathlib.Omega.{arith}
use Rattle.reader.proofs.TestLaws.{below_suc}
use Rattle.history.specs.Times.{most}

pub most_none : (m : ℕ) (f : ℕ → ℕ) → ((i : ℕ) → i < m → f i ≡ 0) → most m f ≡ 0
unfolding most
most_none zero f h = refl
most_none (suc m) f h = omega (arith, most_none m f (λ i p. h i (omega arith)), h m (omega arith))

pub most_more : (n m : ℕ) (f : ℕ → ℕ) → n ≡ suc m → most n f ≡ max (most m f) (f m)
unfolding most
most_more n m f e = ap (λ k. most k f) e

-- none is larger
pub most_bound : (m : ℕ) (f : ℕ → ℕ) (i : ℕ) → i < m → f i ≤ most m f
unfolding most
most_bound zero f i p = absurd (not-suc-le-zero p)
most_bound (suc m) f i p =
    below_suc i m p (λ q. omega (arith, most_bound m f i q)) (λ e. let z : f i ≡ f m = ap f e in omega (arith, z))

-- it is no larger than what none is larger than
pub most_within : (m : ℕ) (f : ℕ → ℕ) (b : ℕ) → ((i : ℕ) → i < m → f i ≤ b) → most m f ≤ b
unfolding most
most_within zero f b h = omega arith
most_within (suc m) f b h = omega (arith, most_within m f b (λ i p. h i (omega arith)), h m (omega arith))
