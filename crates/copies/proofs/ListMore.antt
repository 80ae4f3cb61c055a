-- More laws of lists.
use Prim.Native.Nat.{ℕ, zero, suc}
use mathlib.Core.Path.{◌≡◌, refl}
use lib.ListN.{get_or, replicate}

-- a list of one value, whose default is that value
pub replicated : {A : Type 0} (a : A) (n i : ℕ) → get_or (replicate n a) i a ≡ a
replicated a zero i = refl
replicated a (suc n) zero = refl
replicated a (suc n) (suc i) = replicated a n i
