-- The members of a set as bits: its lowest place and the others, one member less, the least member, and a bit or none.
use Prim.Native.Nat.{ℕ, zero, suc, ◌+◌, ◌-◌, ◌/◌, ◌%◌, ◌^◌, ◌≤◌, ◌<◌}
use mathlib.Core.Bool.{Bool, true, false, not, cond}
use mathlib.Core.Path.{◌≡◌, refl, sym, ◌∙◌, ap, ap₂}
use native.Mathlib.Decide.{dec_lt}
use native.Mathlib.Nat.{div-one, div-eq_of_lt, pow-suc}
use native.Mathlib.Omega.{arith}
use lib.Count.{count_trailing_zeros, under}
use lib.Dec.{eqb}
use lib.Pow.{shr-shr}
use borrow.Author.Tests.{eqb-true, eq-eqb, ne_eqb}
use Rattle.reader.specs.Tests.{◌and◌}
use Rattle.reader.proofs.TestLaws.{clash, same_test, and_yes, and_no}
use Rattle.copies.specs.Sets.{has}
use Rattle.copies.proofs.SetLaws.{has_none, has_one}

-- the lowest place, and the others
pub has_first : (s : ℕ) → has s 0 ≡ eqb (s % 2) 1
unfolding has
has_first s = ap (λ (x : ℕ). eqb (x % 2) 1) (div-one s)

pub has_next : (s n : ℕ) → has s (suc n) ≡ has (s / 2) n
unfolding has
has_next s n =
    let one : suc n ≡ 1 + n = omega arith in
    ap (λ (m : ℕ). eqb (s / 2 ^ m % 2) 1) one ∙ ap (λ (x : ℕ). eqb (x % 2) 1) (sym (shr-shr s 1 n))

eqb_next : (i n : ℕ) → eqb (suc i) (suc n) ≡ eqb i n
eqb_next i n =
    same_test _ _
    (λ h. let e = eqb-true (suc i) (suc n) h in eq-eqb i n (omega arith))
    (λ h. let e = eqb-true i n h in eq-eqb (suc i) (suc n) (omega arith))

-- a member's bit is part of the number
pub has_part : (s i : ℕ) → has s i ≡ true → 2 ^ i ≤ s
unfolding has
has_part s i h =
    elim (dec_lt s (2 ^ i)) [
      | yes p ↦ clash _ h (ap (λ (x : ℕ). eqb (x % 2) 1) (div-eq_of_lt p))
      | no p ↦ omega arith
    ]

differs : (b : Bool) (i n : ℕ) → (i ≡ n → ⊥) → b ≡ (b and not (eqb i n))
differs b i n h = sym (and_yes b) ∙ ap (λ c. b and not c) (sym (ne_eqb i n h))

-- without a member
pub has_less : (i s n : ℕ) → has s i ≡ true → has (s - 2 ^ i) n ≡ (has s n and not (eqb i n))
has_less zero s zero h =
    let odd = eqb-true (s % 2) 1 (sym (has_first s) ∙ h) in
    has_first (s - 1) ∙ ne_eqb ((s - 1) % 2) 1 (λ e. omega arith) ∙ sym (and_no (has s 0))
has_less zero s (suc n) h =
    let odd = eqb-true (s % 2) 1 (sym (has_first s) ∙ h) in
    has_next (s - 1) n ∙ ap (λ x. has x n) (let e : (s - 1) / 2 ≡ s / 2 = omega arith in e) ∙ sym (has_next s n)
    ∙ differs (has s (suc n)) 0 (suc n) (λ e. omega arith)
has_less (suc i) s zero h =
    let part = has_part s (suc i) h in
    let twice = pow-suc 2 i in
    has_first (s - 2 ^ suc i) ∙ ap (λ x. eqb x 1) (let e : (s - 2 ^ suc i) % 2 ≡ s % 2 = omega arith in e) ∙ sym (has_first s)
    ∙ differs (has s 0) (suc i) 0 (λ e. omega arith)
has_less (suc i) s (suc n) h =
    let part = has_part s (suc i) h in
    let twice = pow-suc 2 i in
    has_next (s - 2 ^ suc i) n ∙ ap (λ x. has x n) (let e : (s - 2 ^ suc i) / 2 ≡ s / 2 - 2 ^ i = omega arith in e)
    ∙ has_less i (s / 2) n (sym (has_next s i) ∙ h)
    ∙ ap₂ (λ a b. a and not b) (sym (has_next s n)) (sym (eqb_next i n))

-- the least member of a set of k places
least : (k s : ℕ) → 0 < s → s < 2 ^ k → (count_trailing_zeros k s < k) × (has s (count_trailing_zeros k s) ≡ true)
unfolding count_trailing_zeros
least zero s p h = absurd (let z : ⊥ = omega arith in z)
least (suc k) s p h = go (s % 2) refl (least k (s / 2))
  where
    go : (r : ℕ) → s % 2 ≡ r → (0 < s / 2 → s / 2 < 2 ^ k
        → (count_trailing_zeros k (s / 2) < k) × (has (s / 2) (count_trailing_zeros k (s / 2)) ≡ true))
        → (under r (count_trailing_zeros k (s / 2)) < suc k) × (has s (under r (count_trailing_zeros k (s / 2))) ≡ true)
    go zero e rest =
        let twice = pow-suc 2 k in
        let w = rest (omega arith) (omega arith) in
        (omega (arith, w.0), has_next s _ ∙ w.1)
    go (suc r) e rest = (omega arith, has_first s ∙ eq-eqb (s % 2) 1 (omega arith))

pub least_below : (k s : ℕ) → 0 < s → s < 2 ^ k → count_trailing_zeros k s < k
least_below k s p h = (least k s p h).0

pub least_has : (k s : ℕ) → 0 < s → s < 2 ^ k → has s (count_trailing_zeros k s) ≡ true
least_has k s p h = (least k s p h).1

-- the member of a bit, where there is one
pub late_has : (kept : Bool) (n bit i : ℕ) → bit ≡ cond kept 0 (2 ^ n) → has bit i ≡ (eqb n i and not kept)
late_has true n bit i e = ap (λ b. has b i) e ∙ has_none i ∙ sym (and_no (eqb n i))
late_has false n bit i e = ap (λ b. has b i) e ∙ has_one n i ∙ sym (and_yes (eqb n i))
