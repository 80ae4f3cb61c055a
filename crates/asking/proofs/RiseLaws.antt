-- Links to one task stand in a job's order exactly if they rise strictly by from; and the first may have any from.
use Prim.Native.Nat.{ℕ, ◌<◌}
use native.Mathlib.Omega.{arith}
use mathlib.Core.Bool.{true}
use mathlib.Core.List.{List}
use mathlib.Core.Path.{◌≡◌}
use lib.Dec.{ltb, eqb}
use borrow.Author.Tests.{lt-ltb, ltb-true, eqb-false}
use Rattle.reader.specs.Entries.{no_link}
use Rattle.reader.specs.Number.{number_at}
use Rattle.reader.specs.Sound.{below}
use Rattle.reader.proofs.TestLaws.{split, same_test, or_l, or_r, or_e, and_r, and_i}
use Rattle.asking.specs.DescriptionFile.{new_link_at}

module _ (s : List ℕ) (n : ℕ) where
  pub rises_by_from : (a b : ℕ) → below (new_link_at s a n) (new_link_at s b n) ≡ ltb (number_at s a) (number_at s b)
  unfolding below new_link_at
  rises_by_from a b =
      same_test _ _
      (λ h. or_e (ltb (number_at s a) (number_at s b)) _ h (λ l. l) (λ q. absurd (let z : ⊥ = omega (arith, ltb-true n n (and_r _ _ q)) in z)))
      (λ l. or_l _ _ l)

  pub first_below : (at : ℕ) → 0 < n → below no_link (new_link_at s at n) ≡ true
  unfolding below new_link_at
  first_below at h =
      split (eqb 0 (number_at s at))
      (λ e. or_r _ _ (and_i _ _ e (lt-ltb 0 n h)))
      (λ e. or_l _ _ (lt-ltb 0 (number_at s at) (let more : (0 ≡ number_at s at → ⊥) = eqb-false 0 (number_at s at) e in omega arith)))
