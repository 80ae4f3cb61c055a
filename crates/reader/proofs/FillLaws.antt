-- Laws of `fill`: what a list filled in order holds, and how a loop fills it.
use Prim.Native.Nat.{ℕ, zero, suc, ◌+◌, ◌≤◌, ◌<◌}
use native.Mathlib.Numerals.{add-one}
use native.Mathlib.Nat.{not-suc-le-zero}
use native.Mathlib.Omega.{arith}
use mathlib.Core.Path.{◌≡◌, refl, ap, ap₂, ◌∙◌}
use mathlib.Core.List.{List}
use lib.ListN.{length, get_or, set, replicate, length-set, length-replicate}
use lib.Seq.{get_or-set_same, get_or-set_other}
use Rattle.reader.specs.First.{fill}
use Rattle.reader.proofs.TestLaws.{below_suc}

module _ {A : Type 0} (f : ℕ → A) (l : List A) where
  pub fill_none : l ≡ fill 0 f l
  unfolding fill
  fill_none = refl

  -- one turn of a loop
  pub fill_more : (i : ℕ) → set (fill i f l) i (f i) ≡ fill (i + 1) f l
  unfolding fill
  fill_more i = rw add-one

  pub length_fill : (n : ℕ) → length (fill n f l) ≡ length l
  unfolding fill
  length_fill zero = refl
  length_fill (suc n) = simp length-set (length_fill n)

  pub fill_get : (d : A) (n k : ℕ) → k < n → n ≤ length l → get_or (fill n f l) k d ≡ f k
  unfolding fill
  fill_get d zero k h m = absurd (not-suc-le-zero h)
  fill_get d (suc n) k h m =
      below_suc k n h
      (λ lt. get_or-set_other (fill n f l) n k (f n) d (omega arith) ∙ fill_get d n k lt (omega arith))
      (λ e. rw e (get_or-set_same (fill n f l) n (f n) d (omega (arith, length_fill n))))

-- functions that agree at each place filled
pub fill_same : {A : Type 0} (f g : ℕ → A) (l : List A) (n : ℕ) → ((i : ℕ) → i < n → f i ≡ g i) → fill n f l ≡ fill n g l
unfolding fill
fill_same f g l zero h = refl
fill_same f g l (suc n) h = ap₂ (λ x v. set x n v) (fill_same f g l n (λ i p. h i (omega arith))) (h n (omega arith))

module _ {A : Type 0} (f : ℕ → A) where
  -- one place more of a list that is filled from the front
  pub filled_more : (l d : List A) (j : ℕ) (v : A) → d ≡ fill j f l → v ≡ f j → set d j v ≡ fill (j + 1) f l
  filled_more l d j v e h = rw (e, h) (fill_more f l j)

  -- and what stands in it
  pub filled_at : (n : ℕ) (blank : A) (d : List A) (j i : ℕ) (z : A) → d ≡ fill j f (replicate n blank) → i < j → j ≤ n → get_or d i z ≡ f i
  filled_at n blank d j i z e p q =
      ap (λ l. get_or l i z) e ∙ fill_get f (replicate n blank) z j i p (rw (length-replicate n blank) q)
