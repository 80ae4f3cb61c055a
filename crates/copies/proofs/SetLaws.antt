-- Laws of sets as bits, for every place: none, one, all, union, and common members.
use Prim.Native.Nat.{ℕ, zero, suc, ◌+◌, ◌-◌, ◌*◌, ◌/◌, ◌%◌, ◌^◌, ◌<◌, suc-le-suc, min, max}
use mathlib.Core.Bool.{true, false, not}
use mathlib.Core.Path.{◌≡◌, refl, sym, ap, ap₂, ◌∙◌, subst}
use lib.Bits.{bit_and, bit_or, and_shr, or_shr, and_step, or_step}
use lib.Arith.{digits_mod, bin_ind}
use lib.Dec.{eqb}
use lib.Pow.{shl_exact, shr-shr, pow_pos, pow-lt, pow-add}
use borrow.Author.Tests.{eqb-true, eqb-false, eq-eqb}
use native.Mathlib.Decide.{dec_lt}
use native.Mathlib.Omega.{arith}
use native.Mathlib.Nat.{one-mul, mod-lt, max-le, min-le_left, le_of_suc-le-suc, lt_of_le_of_lt, zero-lt-suc, pow-suc, mul-mod_left}
use native.Mathlib.Nat.{div-add-mod', div-one, zero-div, div_self, div-eq_of_lt, mul-div_cancel}
use Rattle.reader.specs.Tests.{◌and◌, ◌or◌}
use Rattle.reader.specs.First.{◌or_else◌, first, unless, any, every}
use Rattle.reader.proofs.TestLaws.{split, clash, and_l, and_r, and_i, not_true}
use Rattle.reader.proofs.FirstLaws.{every_e, any_i, any_e}
use Rattle.copies.specs.Sets.{has, meets, every_group}

-- the digit at place n
abbrev digit : ℕ → ℕ → ℕ
digit s n = s / 2 ^ n % 2

below_two : (a : ℕ) → a % 2 < 2
below_two a = mod-lt a (zero-lt-suc 1)

or_odd : (a b : ℕ) → bit_or a b % 2 ≡ max (a % 2) (b % 2)
or_odd a b =
    ap (λ (x : ℕ). x % 2) (or_step a b)
    ∙ digits_mod (bit_or (a / 2) (b / 2)) (suc-le-suc (max-le (le_of_suc-le-suc (below_two a)) (le_of_suc-le-suc (below_two b))))

and_odd : (a b : ℕ) → bit_and a b % 2 ≡ min (a % 2) (b % 2)
and_odd a b =
    ap (λ (x : ℕ). x % 2) (and_step a b)
    ∙ digits_mod (bit_and (a / 2) (b / 2)) (lt_of_le_of_lt (min-le_left (a % 2) (b % 2)) (below_two a))

-- digits as tests
either_digit : (x y : ℕ) → x < 2 → y < 2 → eqb (max x y) 1 ≡ (eqb x 1 or eqb y 1)
unfolding ◌or◌
either_digit zero y p q = ap (λ z. eqb z 1) (let e : max 0 y ≡ y = omega arith in e)
either_digit (suc zero) y p q = eq-eqb (max 1 y) 1 (omega arith)
either_digit (suc (suc x)) y p q = absurd (let z : ⊥ = omega arith in z)

both_digits : (x y : ℕ) → x < 2 → y < 2 → eqb (min x y) 1 ≡ (eqb x 1 and eqb y 1)
unfolding ◌and◌
both_digits zero y p q = ap (λ z. eqb z 1) (let e : min 0 y ≡ 0 = omega arith in e)
both_digits (suc zero) y p q = ap (λ z. eqb z 1) (let e : min 1 y ≡ y = omega arith in e)
both_digits (suc (suc x)) y p q = absurd (let z : ⊥ = omega arith in z)

pub has_union : (a b n : ℕ) → has (bit_or a b) n ≡ (has a n or has b n)
unfolding has
has_union a b n =
    ap (λ x. eqb x 1) (ap (λ (x : ℕ). x % 2) (or_shr a b n) ∙ or_odd (a / 2 ^ n) (b / 2 ^ n))
    ∙ either_digit (digit a n) (digit b n) (below_two _) (below_two _)

pub has_both : (a b n : ℕ) → has (bit_and a b) n ≡ (has a n and has b n)
unfolding has
has_both a b n =
    ap (λ x. eqb x 1) (ap (λ (x : ℕ). x % 2) (and_shr a b n) ∙ and_odd (a / 2 ^ n) (b / 2 ^ n))
    ∙ both_digits (digit a n) (digit b n) (below_two _) (below_two _)

pub has_none : (n : ℕ) → has 0 n ≡ false
unfolding has
has_none n = ap (λ x. eqb x 1) (ap (λ (y : ℕ). y % 2) (zero-div (2 ^ n)))

-- the set of one place
single_same : (n : ℕ) → digit (2 ^ n) n ≡ 1
single_same n = ap (λ (y : ℕ). y % 2) (div_self (pow_pos n))

single_below : (k n : ℕ) → k < n → digit (2 ^ k) n ≡ 0
single_below k n h = ap (λ (y : ℕ). y % 2) (div-eq_of_lt (pow-lt h))

single_above : (d n : ℕ) → digit (2 ^ (suc d + n)) n ≡ 0
single_above d n =
    ap (λ (y : ℕ). y / 2 ^ n % 2) (pow-add 2 (suc d) n) ∙ ap (λ (y : ℕ). y % 2) (mul-div_cancel (2 ^ suc d) (pow_pos n))
    ∙ ap (λ (y : ℕ). y % 2) (pow-suc 2 d) ∙ mul-mod_left (2 ^ d) 2

single_other : (k n : ℕ) → (k ≡ n → ⊥) → digit (2 ^ k) n ≡ 0
single_other k n h =
    elim (dec_lt k n) [
      | yes p ↦ single_below k n p
      | no p ↦
          let d : k ≡ suc (k - n - 1) + n = omega arith in
          rw d (single_above (k - n - 1) n)
    ]

pub has_one : (k n : ℕ) → has (2 ^ k) n ≡ eqb k n
unfolding has
has_one k n =
    split (eqb k n)
    (λ e. subst (λ m. eqb (digit (2 ^ k) m) 1 ≡ true) (eqb-true k n e) (ap (λ x. eqb x 1) (single_same k)) ∙ sym e)
    (λ e. ap (λ x. eqb x 1) (single_other k n (eqb-false k n e)) ∙ sym e)

-- what a shift gives, at either width
pub shifted : (w n : ℕ) → n < w → (1 * 2 ^ n) % 2 ^ w ≡ 2 ^ n
shifted w n h = shl_exact 1 n w (omega arith) (omega arith) ∙ one-mul (2 ^ n)

pub has_every : (n : ℕ) → n < 32 → has every_group n ≡ true
unfolding has every first unless ◌or_else◌
has_every n p = every_e 32 (has every_group) refl n p

-- a set with no member is empty
half : (x n : ℕ) → digit (x / 2) n ≡ digit x (1 + n)
half x n = ap (λ (y : ℕ). y % 2) (shr-shr x 1 n)

no_digit : (x : ℕ) → ((n : ℕ) → digit x n ≡ 0) → x ≡ 0
no_digit =
    bin_ind (λ (x : ℕ). ((n : ℕ) → digit x n ≡ 0) → x ≡ 0) (λ h. refl)
    (λ x ih h.
    sym (div-add-mod' x 2)
    ∙ ap₂ (λ (p q : ℕ). p * 2 + q) (ih (λ n. half x n ∙ h (1 + n))) (ap (λ (y : ℕ). y % 2) (sym (div-one x)) ∙ h 0))

digit_zero_lem : (d : ℕ) → d < 2 → eqb d 1 ≡ false → d ≡ 0
digit_zero_lem d p e = let n = eqb-false d 1 e in omega arith

pub empty_set : (x : ℕ) → ((n : ℕ) → has x n ≡ false) → x ≡ 0
unfolding has
empty_set x h = no_digit x (λ n. digit_zero_lem (digit x n) (below_two _) (h n))

-- a common member is enough
pub meets_i : (a b n : ℕ) → has a n ≡ true → has b n ≡ true → meets a b ≡ true
unfolding meets
meets_i a b n p q =
    ap not (not_true _ λ z.
    clash _ (has_both a b n ∙ and_i _ _ p q) (ap (λ x. has x n) (eqb-true (bit_and a b) 0 z) ∙ has_none n))

-- and is there, where every member of the first is below m
pub meets_any : (m a b : ℕ) → ((q : ℕ) → has a q ≡ true → q < m) → meets a b ≡ any m (λ q. has a q and has b q)
unfolding meets
meets_any m a b low =
    split (any m (λ q. has a q and has b q))
    (λ e. any_e m (λ q. has a q and has b q) e (λ q p t. meets_i a b q (and_l _ _ t) (and_r _ _ t)) ∙ sym e)
    (λ e. ap not (eq-eqb (bit_and a b) 0 (empty_set (bit_and a b) λ q. not_true _ λ t.
    let both : (has a q and has b q) ≡ true = sym (has_both a b q) ∙ t in
    clash _ (any_i m (λ q. has a q and has b q) q (low q (and_l _ _ both)) both) e)) ∙ sym e)
