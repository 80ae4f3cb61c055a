-- Laws of tables: what `put` changes, and that a grown table is its own.
use Prim.Native.Nat.{ℕ, zero, suc, ◌<◌}
use mathlib.Core.Path.{◌≡◌, refl, sym, ◌∙◌}
use native.Mathlib.Nat.{not-suc-le-zero}
use native.Mathlib.Omega.{arith}
use borrow.Author.Tests.{eq-eqb, ne_eqb}
use Rattle.reader.proofs.TestLaws.{below_suc}
use Rattle.rules.specs.Tables.{put, grow}

module _ {A : Type 0} (f : ℕ → A) (j : ℕ) (v : A) where
  pub put_same : put f j v j ≡ v
  unfolding put
  put_same = rw (eq-eqb j j refl)

  pub put_other : (i : ℕ) → (i ≡ j → ⊥) → put f j v i ≡ f i
  unfolding put
  put_other i h = rw (ne_eqb i j h)

module _ {A : Type 0} (blank : A) (step : (ℕ → A) → ℕ → A) where
  pub grow_start : grow blank step 0 ≡ (λ i. blank)
  unfolding grow
  grow_start = refl

  pub grow_more : (j : ℕ) → grow blank step (suc j) ≡ put (grow blank step j) j (step (grow blank step j) j)
  unfolding grow
  grow_more j = refl

  -- a row stays
  pub grow_stays : (n i : ℕ) → i < n → grow blank step n i ≡ step (grow blank step i) i
  unfolding grow
  grow_stays zero i p = absurd (not-suc-le-zero p)
  grow_stays (suc n) i p =
      below_suc i n p
      (λ q. put_other _ n _ i (λ e. omega arith) ∙ grow_stays n i q)
      (λ q. rw q (put_same (grow blank step n) n _))

  -- two tables of which one is longer agree where both have rows
  pub grow_agree : (m n i : ℕ) → i < m → i < n → grow blank step m i ≡ grow blank step n i
  grow_agree m n i p q = grow_stays m i p ∙ sym (grow_stays n i q)

  -- where row j reads the rows before it only, it is made from the whole table too
  pub grow_own : (n j : ℕ) → j < n
      → ((f g : ℕ → A) → ((i : ℕ) → i < j → f i ≡ g i) → step f j ≡ step g j)
      → grow blank step n j ≡ step (grow blank step n) j
  grow_own n j p own =
      grow_stays n j p ∙ own (grow blank step j) (grow blank step n) (λ i q. grow_agree j n i q (omega arith))
