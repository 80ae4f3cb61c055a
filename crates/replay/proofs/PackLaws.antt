-- Laws of `pack` and `flat`: how long they are, and which number stands where.
use Prim.Native.Nat.{ℕ, zero, suc, ◌+◌, ◌*◌, ◌^◌, ◌<◌}
use mathlib.Core.Path.{◌≡◌, sym, ap, ◌∙◌}
use mathlib.Core.List.{List, [], ◌∷◌, ◌++◌}
use lib.ListN.{length, get_or, length-append, get_or-append}
use lib.Seq.{get_or-append-add}
use native.Mathlib.Nat.{not-suc-le-zero, mul-suc, mul-le-mul_left}
use native.Mathlib.Omega.{arith}
use Rattle.reader.specs.Number.{number_at, bytes}
use Rattle.writer.specs.Write.{pack, flat}
use Rattle.reader.proofs.TestLaws.{below_suc}
use Rattle.reader.proofs.ByteLaws.{first_number, number_drop}
use Rattle.writer.proofs.PutLaws.{length_pack}

-- number i of a list that was packed
number_pack : (vs : List ℕ) (i : ℕ) → i < length vs → get_or vs i 0 < 2 ^ 32 → number_at (pack vs) (4 * i) ≡ get_or vs i 0
unfolding pack
number_pack [] i p h = absurd (not-suc-le-zero p)
number_pack (v ∷ vs) zero p h = sym (first_number v (pack vs) h)
number_pack (v ∷ vs) (suc i) p h =
    let e : 4 * suc i ≡ 4 + 4 * i = omega arith in
    ap (λ n. number_at (bytes v ++ pack vs) n) e ∙ sym (number_drop (bytes v ++ pack vs) 4 (4 * i)) ∙ number_pack vs i (omega arith) h

-- rows of w numbers
module _ (w : ℕ) (f : ℕ → List ℕ) (wide : (i : ℕ) → length (f i) ≡ w) where
  pub length_flat : (n : ℕ) → length (flat n f) ≡ w * n
  unfolding flat
  length_flat zero = omega arith
  length_flat (suc n) = omega (arith, length-append (flat n f) (f n), length_flat n, wide n, mul-suc w n)

  pub length_rows : (n : ℕ) → length (pack (flat n f)) ≡ 4 * (w * n)
  length_rows n = length_pack (flat n f) ∙ ap (λ m. 4 * m) (length_flat n)

  -- row i is before the end of n rows
  before_end : (n i k : ℕ) → i < n → k < w → w * i + k < w * n
  before_end n i k p q = omega (arith, mul-suc w i, mul-le-mul_left w p)

  pub flat_at : (n i k : ℕ) → i < n → k < w → get_or (flat n f) (w * i + k) 0 ≡ get_or (f i) k 0
  unfolding flat
  flat_at zero i k p q = absurd (not-suc-le-zero p)
  flat_at (suc n) i k p q =
      below_suc i n p
      (λ s. get_or-append (flat n f) (f n) 0 (w * i + k) (omega (arith, length_flat n, before_end n i k s q)) ∙ flat_at n i k s q)
      (λ s. rw s (ap (λ m. get_or (flat n f ++ f n) (m + k) 0) (sym (length_flat n)) ∙ get_or-append-add (flat n f) (f n) k 0))

  -- number k of row i, in the bytes
  pub row_number : (n i k : ℕ) → i < n → k < w → get_or (f i) k 0 < 2 ^ 32 → number_at (pack (flat n f)) (4 * (w * i + k)) ≡ get_or (f i) k 0
  row_number n i k p q small =
      let there : get_or (flat n f) (w * i + k) 0 ≡ get_or (f i) k 0 = flat_at n i k p q in
      number_pack (flat n f) (w * i + k) (omega (arith, length_flat n, before_end n i k p q)) (rw there small) ∙ there
