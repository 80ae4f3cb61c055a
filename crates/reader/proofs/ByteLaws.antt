-- A number and its four bytes: each gives the other.
use Prim.Native.Nat.{ℕ, ◌+◌, ◌*◌, ◌/◌, ◌%◌, ◌^◌, ◌≤◌, ◌<◌}
use native.Mathlib.Nat.{add_assoc}
use native.Mathlib.Omega.{arith}
use mathlib.Core.Path.{◌≡◌, sym, ap, ◌∙◌, subst}
use mathlib.Core.List.{List, [], ◌∷◌, ◌++◌}
use lib.ListN.{length, drop, length-drop}
use lib.Seq.{get_or-drop, drop-drop}
use Rattle.reader.specs.Number.{number_at, bytes, Bytes}

-- four bytes make up the number they were taken from
bytes_number : (v : ℕ) → v < 2 ^ 32 → v % 256 + 256 * (v / 256 % 256) + 65536 * (v / 65536 % 256) + 16777216 * (v / 16777216 % 256) ≡ v
bytes_number v h =
    let p : v / 65536 ≡ v / 256 / 256 = omega arith in
    let q : v / 16777216 ≡ v / 65536 / 256 = omega arith in
    let a : v / 256 ≡ v / 256 % 256 + 256 * (v / 65536) = omega arith in
    let b : v / 65536 ≡ v / 65536 % 256 + 256 * (v / 16777216) = omega arith in
    let c : v / 16777216 % 256 ≡ v / 16777216 = omega arith in
    sum v (v % 256) (v / 256) (v / 256 % 256) (v / 65536) (v / 65536 % 256) (v / 16777216) (v / 16777216 % 256) (omega arith) a b c
  where
    sum : (v r q₁ r₁ q₂ r₂ q₃ r₃ : ℕ) → v ≡ r + 256 * q₁ → q₁ ≡ r₁ + 256 * q₂ → q₂ ≡ r₂ + 256 * q₃
        → r₃ ≡ q₃ → r + 256 * r₁ + 65536 * r₂ + 16777216 * r₃ ≡ v
    sum v r q₁ r₁ q₂ r₂ q₃ r₃ e a b c = omega arith

-- and a number made of four bytes has those bytes
number_bytes : (a b c d : ℕ) → a < 256 → b < 256 → c < 256 → d < 256 →
    ((a + 256 * b + 65536 * c + 16777216 * d) % 256 ≡ a)
    × ((a + 256 * b + 65536 * c + 16777216 * d) / 256 % 256 ≡ b)
    × ((a + 256 * b + 65536 * c + 16777216 * d) / 65536 % 256 ≡ c)
    × ((a + 256 * b + 65536 * c + 16777216 * d) / 16777216 % 256 ≡ d)
number_bytes a b c d ha hb hc hd = omega arith

-- the number with which a file begins
pub first_number : (v : ℕ) (s : List ℕ) → v < 2 ^ 32 → v ≡ number_at (bytes v ++ s) 0
unfolding number_at
first_number v s h = sym (bytes_number v h)

pub number_drop : (s : List ℕ) (k at : ℕ) → number_at (drop k s) at ≡ number_at s (k + at)
unfolding number_at
number_drop s k at = simp (get_or-drop, add_assoc)

first_bytes : (s : List ℕ) → 4 ≤ length s → Bytes s → bytes (number_at s 0) ++ drop 4 s ≡ s
unfolding number_at Bytes
first_bytes [] l h = absurd (omega arith)
first_bytes (a ∷ []) l h = absurd (omega arith)
first_bytes (a ∷ b ∷ []) l h = absurd (omega arith)
first_bytes (a ∷ b ∷ c ∷ []) l h = absurd (omega arith)
first_bytes (a ∷ b ∷ c ∷ d ∷ s) l h =
    let e = number_bytes a b c d (h 0) (h 1) (h 2) (h 3) in
    rw (e.0, e.1, e.2, e.3)

-- the bytes of the number at an offset stand there
pub bytes_at : (s : List ℕ) (at : ℕ) → Bytes s → at + 4 ≤ length s → bytes (number_at s at) ++ drop (at + 4) s ≡ drop at s
unfolding Bytes
bytes_at s at b h =
    let l : 4 ≤ length (drop at s) = omega (arith, length-drop at s) in
    let z : at + 0 ≡ at = omega arith in
    let e : number_at s at ≡ number_at (drop at s) 0 = ap (λ k. number_at s k) (sym z) ∙ sym (number_drop s at 0) in
    rw (e, ← drop-drop 4 at s) (first_bytes (drop at s) l (λ k. subst (λ x. x < 256) (sym (get_or-drop at s k 0)) (b (at + k))))
