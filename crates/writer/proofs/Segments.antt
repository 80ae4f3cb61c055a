-- Numbers that stand in a file one behind the other.
use Prim.Native.Nat.{ℕ, zero, suc, ◌+◌, ◌*◌, ◌≤◌, ◌<◌}
use native.Mathlib.Nat.{not-suc-le-zero, add_assoc}
use native.Mathlib.Omega.{arith}
use mathlib.Core.Path.{◌≡◌, refl, sym, ap₂, ◌∙◌}
use mathlib.Core.List.{List, [], ◌∷◌, ◌++◌, append_assoc}
use lib.ListN.{length, get_or, drop, drop_of_length-le}
use Rattle.reader.specs.Number.{number_at, bytes, Bytes, Words}
use Rattle.writer.specs.Write.{pack, flat}
use Rattle.reader.proofs.TestLaws.{below_suc}
use Rattle.reader.proofs.ByteLaws.{first_number, number_drop, bytes_at}

-- from offset a up to b the file s holds the numbers vs
unfoldable pub Stands : List ℕ → ℕ → List ℕ → ℕ → Type 0
Stands s a [] b = a ≡ b
Stands s a (v ∷ vs) b = (v ≡ number_at s a) × Stands s (a + 4) vs b

pub stands_one : (s : List ℕ) (a : ℕ) → Stands s a (number_at s a ∷ []) (a + 4)
unfolding Stands
stands_one s a = (refl, refl)

pub stands_two : (s : List ℕ) (a : ℕ) → Stands s a (number_at s a ∷ number_at s (a + 4) ∷ []) (a + 4 + 4)
unfolding Stands
stands_two s a = (refl, (refl, refl))

pub stands_last : (s : List ℕ) (v a : ℕ) → v ≡ number_at s a → Stands s a (v ∷ []) (a + 4)
unfolding Stands
stands_last s v a e = (e, refl)

pub stands_append : (s vs ws : List ℕ) (a b c : ℕ) → Stands s a vs b → Stands s b ws c → Stands s a (vs ++ ws) c
unfolding Stands
stands_append s [] ws a b c h k = rw h k
stands_append s (v ∷ vs) ws a b c h k = (h.0, stands_append s vs ws (a + 4) b c h.1 k)

-- rows of width w, row i from `at i` on
pub stands_flat : (s : List ℕ) (at : ℕ → ℕ) (w : ℕ) (f : ℕ → List ℕ) (n a : ℕ) → a ≡ at 0 → ((i : ℕ) → at i + w ≡ at (suc i)) →
    ((i : ℕ) → i < n → Stands s (at i) (f i) (at i + w)) → Stands s a (flat n f) (at n)
unfolding Stands flat
stands_flat s at w f zero a e step h = e
stands_flat s at w f (suc n) a e step h =
    stands_append s (flat n f) (f n) a (at n) (at (suc n)) (stands_flat s at w f n a e step (λ i p. h i (omega arith))) (rw (step n) at (h n (omega arith)))

pub stands_le : (s vs : List ℕ) (a b : ℕ) → Stands s a vs b → a ≤ b
unfolding Stands
stands_le s [] a b h = omega arith
stands_le s (v ∷ vs) a b h = omega (arith, stands_le s vs (a + 4) b h.1)

-- what stands from one offset up to another is one row of numbers
pub stands_same : (s vs ws : List ℕ) (a b : ℕ) → Stands s a vs b → Stands s a ws b → vs ≡ ws
unfolding Stands
stands_same s [] [] a b h k = refl
stands_same s [] (w ∷ ws) a b h k = absurd (omega (arith, stands_le s ws (a + 4) b k.1))
stands_same s (v ∷ vs) [] a b h k = absurd (omega (arith, stands_le s vs (a + 4) b h.1))
stands_same s (v ∷ vs) (w ∷ ws) a b h k = ap₂ (λ x y. x ∷ y) (h.0 ∙ sym k.0) (stands_same s vs ws (a + 4) b h.1 k.1)

-- the bytes of numbers that stand in a file are that part of it
pub stands_pack : (s vs : List ℕ) (a : ℕ) → Bytes s → Stands s a vs (length s) → pack vs ≡ drop a s
unfolding Stands pack
stands_pack s [] a b h = let l : length s ≤ a = omega arith in sym (drop_of_length-le s l)
stands_pack s (v ∷ vs) a b h =
    rw (h.0, stands_pack s vs (a + 4) b h.1) (bytes_at s a b (stands_le s vs (a + 4) (length s) h.1))

pub stands_drop : (s vs : List ℕ) (k a b : ℕ) → Stands (drop k s) a vs b → Stands s (k + a) vs (k + b)
unfolding Stands
stands_drop s [] k a b h = rw h
stands_drop s (v ∷ vs) k a b h = (h.0 ∙ number_drop s k a, rw add_assoc (stands_drop s vs k (a + 4) b h.1))

-- and numbers stand in the file that their bytes make
pub pack_stands : (vs : List ℕ) → Words vs → Stands (pack vs) 0 vs (length (pack vs))
unfolding Stands pack Words
pack_stands [] h = refl
pack_stands (v ∷ vs) h =
    let l : length (bytes v ++ pack vs) ≡ 4 + length (pack vs) = omega arith in
    (first_number v (pack vs) (h 0), rw l (stands_drop (bytes v ++ pack vs) vs 4 0 (length (pack vs)) (pack_stands vs (λ k. h (suc k)))))

-- two rows, taken apart
pub stands_split : (s vs ws : List ℕ) (a c : ℕ) → Stands s a (vs ++ ws) c → Stands s a vs (a + 4 * length vs) × Stands s (a + 4 * length vs) ws c
unfolding Stands
stands_split s [] ws a c h = let z : a ≡ a + 4 * 0 = omega arith in (z, rw z at h)
stands_split s (v ∷ vs) ws a c h =
    let k = stands_split s vs ws (a + 4) c h.1 in
    let z : a + 4 + 4 * length vs ≡ a + 4 * suc (length vs) = omega arith in
    ((h.0, rw z at k.0), rw z at k.1)

-- rows of width w, taken apart, and what stands behind them
pub record Rows (s : List ℕ) (a w : ℕ) (f : ℕ → List ℕ) (n : ℕ) (ws : List ℕ) (c : ℕ) : Type 0 where
  pub row : (i : ℕ) → i < n → Stands s (a + w * i) (f i) (a + w * i + w)
  pub rest : Stands s (a + w * n) ws c

pub stands_rows : (s : List ℕ) (a w : ℕ) (f : ℕ → List ℕ) (n : ℕ) (ws : List ℕ) (c : ℕ) → ((i : ℕ) → 4 * length (f i) ≡ w) →
    Stands s a (flat n f ++ ws) c → Rows s a w f n ws c
unfolding flat
stands_rows s a w f zero ws c l h = let z : a ≡ a + w * 0 = omega arith in record { row = λ i p. absurd (not-suc-le-zero p); rest = rw z at h }
stands_rows s a w f (suc n) ws c l h =
    let r = stands_rows s a w f n (f n ++ ws) c l (rw append_assoc at h) in
    let k = stands_split s (f n) ws (a + w * n) c r.rest in
    let z : a + w * n + 4 * length (f n) ≡ a + w * n + w = omega (arith, l n) in
    let y : a + w * n + 4 * length (f n) ≡ a + w * suc n = omega (arith, l n) in
    record { row = λ i p. below_suc i n p (λ q. r.row i q) (λ q. rw q (rw z at k.0)); rest = rw y at k.1 }

pub stands_end : (s : List ℕ) (a b : ℕ) → Stands s a [] b → a ≡ b
unfolding Stands
stands_end s a b h = h

-- number k of a row, at its offset o
pub stands_at : (s vs : List ℕ) (a b : ℕ) → Stands s a vs b → (k o : ℕ) → k < length vs → a + 4 * k ≡ o → get_or vs k 0 ≡ number_at s o
unfolding Stands
stands_at s [] a b h k o p e = absurd (not-suc-le-zero p)
stands_at s (v ∷ vs) a b h zero o p e = let z : a ≡ o = omega arith in rw z at h.0
stands_at s (v ∷ vs) a b h (suc k) o p e = stands_at s vs (a + 4) b h.1 k o (omega arith) (omega arith)
