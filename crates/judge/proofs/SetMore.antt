-- More laws of sets as bits: one member more, and none in common.
use Prim.Native.Nat.{ℕ, ◌^◌}
use mathlib.Core.Bool.{Bool, true, false, cond}
use mathlib.Core.Path.{◌≡◌, refl, ◌∙◌, ap}
use lib.Bits.{bit_or}
use borrow.Author.Tests.{eq-eqb}
use Rattle.reader.specs.Tests.{◌and◌}
use Rattle.reader.proofs.TestLaws.{split, or_l, or_r}
use Rattle.copies.specs.Sets.{has}
use Rattle.copies.proofs.SetLaws.{has_union, has_one}

-- a sender joins a set unless it passes both of two tests; the others stay
module _ (y z : Bool) (s u v i : ℕ) (eu : u ≡ cond y 0 (2 ^ i)) (ev : v ≡ cond z 0 (2 ^ i)) where
  pub joins_unless : (y and z) ≡ false → has (bit_or s (bit_or u v)) i ≡ true
  unfolding ◌and◌
  joins_unless h =
      split y
      (λ e. let f : z ≡ false = rw e at h in has_union s (bit_or u v) i ∙ or_r _ _ (has_union u v i ∙ or_r _ _ (bit v (rw f at ev))))
      (λ e. has_union s (bit_or u v) i ∙ or_r _ _ (has_union u v i ∙ or_l _ _ (bit u (rw e at eu))))
    where
      bit : (n : ℕ) → n ≡ 2 ^ i → has n i ≡ true
      bit n e = ap (λ x. has x i) e ∙ has_one i i ∙ eq-eqb i i refl

  pub stays : (n : ℕ) → has s n ≡ true → has (bit_or s (bit_or u v)) n ≡ true
  stays n h = has_union s (bit_or u v) n ∙ or_l _ _ h
