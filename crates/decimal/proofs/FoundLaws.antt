-- The number found in a text: the one that was printed there, where no digit stands before it nor straight behind it; and always one of 8 bytes.
use Prim.Native.Nat.{ℕ, zero, suc, ◌+◌, ◌*◌, ◌-◌, ◌/◌, ◌%◌, ◌^◌, ◌≤◌, ◌<◌}
use mathlib.Core.Bool.{Bool, true, false, not}
use mathlib.Core.Path.{◌≡◌, refl, sym, ap, ◌∙◌}
use mathlib.Core.List.{List, [], ◌∷◌, ◌++◌}
use lib.Dec.{ltb}
use lib.ListN.{length, get_or}
use native.Mathlib.Omega.{arith}
use borrow.Author.Tests.{ltb-true, ltb-false}
use Rattle.reader.specs.Tests.{◌and◌}
use Rattle.reader.proofs.TestLaws.{split, never, and_i, and_l, and_r, not_e}
use Rattle.decimal.specs.Decimal.{digit_zero, decimal}
use Rattle.decimal.specs.Numbers.{is_digit, grown, skipped, valued, behind, number_in, after_number}
use Rattle.decimal.proofs.DecimalLaws.{decimal_one, decimal_more}
use Rattle.decimal.proofs.Spelling.{decimal_spells}
use Rattle.decimal.proofs.ScanLaws.{is_digit_lem, grown_fits}

-- every number that is read is an 8-byte number
grown_small : (v b : ℕ) → grown v b < 2 ^ 64
unfolding grown
grown_small v b =
    split (ltb (10 * v + (b - digit_zero)) (2 ^ 64))
    (λ e. rw e (ltb-true (10 * v + (b - digit_zero)) (2 ^ 64) e))
    (λ e. rw e (omega arith))

valued_small : (v : ℕ) (s : List ℕ) → v < 2 ^ 64 → valued v s < 2 ^ 64
unfolding valued
valued_small v [] h = h
valued_small v (b ∷ s) h =
    split (is_digit b)
    (λ e. rw e (valued_small (grown v b) s (grown_small v b)))
    (λ e. rw e h)

pub number_small : (s : List ℕ) → number_in s < 2 ^ 64
unfolding number_in
number_small s = valued_small 0 (skipped s) (omega arith)

-- every byte is a digit; none is; the first byte is there and is none
unfoldable digital : List ℕ → Bool
digital [] = true
digital (b ∷ s) = is_digit b and digital s

unfoldable pub digitless : List ℕ → Bool
digitless [] = true
digitless (b ∷ s) = not (is_digit b) and digitless s

unfoldable pub walled : List ℕ → Bool
walled [] = false
walled (b ∷ s) = not (is_digit b)

-- a wall with anything behind it, and behind bytes that are no digits
pub walled_more : (p s : List ℕ) → walled p ≡ true → walled (p ++ s) ≡ true
unfolding walled
walled_more [] s h = never (cc)
walled_more (b ∷ p) s h = h

pub walled_behind : (p s : List ℕ) → digitless p ≡ true → walled s ≡ true → walled (p ++ s) ≡ true
unfolding digitless walled
walled_behind [] s h w = w
walled_behind (b ∷ p) s h w = and_l (not (is_digit b)) (digitless p) h

pub digitless_append : (p s : List ℕ) → digitless p ≡ true → digitless s ≡ true → digitless (p ++ s) ≡ true
unfolding digitless
digitless_append [] s h k = k
digitless_append (b ∷ p) s h k =
    and_i (not (is_digit b)) (digitless (p ++ s)) (and_l (not (is_digit b)) (digitless p) h)
    (digitless_append p s (and_r (not (is_digit b)) (digitless p) h) k)

digital_of : (s : List ℕ) → ((i : ℕ) → i < length s → (digit_zero ≤ get_or s i 0) × (get_or s i 0 < digit_zero + 10)) → digital s ≡ true
unfolding digital
digital_of [] h = refl
digital_of (b ∷ s) h =
    let first = h 0 (omega arith) in
    and_i (is_digit b) (digital s) (is_digit_lem b first.0 (omega arith)) (digital_of s (λ i p. h (suc i) (omega arith)))

decimal_digital : (n : ℕ) → digital (decimal n) ≡ true
decimal_digital n = digital_of (decimal n) (decimal_spells n).digit

-- the number that digits spell
unfoldable spelt : ℕ → List ℕ → ℕ
spelt v [] = v
spelt v (b ∷ s) = spelt (grown v b) s

spelt_last : (v : ℕ) (s : List ℕ) (b : ℕ) → spelt v (s ++ (b ∷ [])) ≡ grown (spelt v s) b
unfolding spelt
spelt_last v [] b = refl
spelt_last v (a ∷ s) b = spelt_last (grown v a) s b

spelt_below : (m n : ℕ) → n ≤ m → n < 2 ^ 64 → spelt 0 (decimal n) ≡ n
unfolding spelt
spelt_below zero n h l = rw (decimal_one n (omega arith)) (sym (grown_fits 0 (digit_zero + n) (omega arith)) ∙ omega arith)
spelt_below (suc m) n h l =
    split (ltb n 10)
    (λ e.
    let small = ltb-true n 10 e in
    rw (decimal_one n small) (sym (grown_fits 0 (digit_zero + n) (omega arith)) ∙ omega arith))
    (λ e.
    let more = ltb-false n 10 e in
    let front = spelt_below m (n / 10) (omega arith) (omega arith) in
    rw (decimal_more n more, spelt_last, front) (sym (grown_fits (n / 10) (digit_zero + n % 10) (omega arith)) ∙ omega arith))

-- passing what has no digits, and taking what is all digits, up to a byte that is none
skip_over : (p s : List ℕ) → digitless p ≡ true → skipped (p ++ s) ≡ skipped s
unfolding digitless skipped
skip_over [] s h = refl
skip_over (b ∷ p) s h =
    rw (not_e (is_digit b) (and_l (not (is_digit b)) (digitless p) h)) (skip_over p s (and_r (not (is_digit b)) (digitless p) h))

skip_none : (d s : List ℕ) → digital d ≡ true → 0 < length d → skipped (d ++ s) ≡ d ++ s
unfolding digital skipped
skip_none [] s h p = absurd (let z : ⊥ = omega arith in z)
skip_none (b ∷ d) s h p = rw (and_l (is_digit b) (digital d) h)

value_over : (v : ℕ) (d s : List ℕ) → digital d ≡ true → walled s ≡ true → valued v (d ++ s) ≡ spelt v d
unfolding digital walled valued spelt
value_over v [] [] h w = never (cc)
value_over v [] (b ∷ s) h w = rw (not_e (is_digit b) w)
value_over v (b ∷ d) s h w = rw (and_l (is_digit b) (digital d) h) (value_over (grown v b) d s (and_r (is_digit b) (digital d) h) w)

behind_over : (d s : List ℕ) → digital d ≡ true → walled s ≡ true → behind (d ++ s) ≡ s
unfolding digital walled behind
behind_over [] [] h w = never (cc)
behind_over [] (b ∷ s) h w = rw (not_e (is_digit b) w)
behind_over (b ∷ d) s h w = rw (and_l (is_digit b) (digital d) h) (behind_over d s (and_r (is_digit b) (digital d) h) w)

-- a number behind bytes that are no digits, and before one that is none
module _ (p s : List ℕ) (n : ℕ) (free : digitless p ≡ true) (wall : walled s ≡ true) where
  starts : skipped (p ++ (decimal n ++ s)) ≡ decimal n ++ s
  starts = skip_over p (decimal n ++ s) free ∙ skip_none (decimal n) s (decimal_digital n) (decimal_spells n).some

  pub number_found : n < 2 ^ 64 → number_in (p ++ (decimal n ++ s)) ≡ n
  unfolding number_in
  number_found l = ap (valued 0) starts ∙ value_over 0 (decimal n) s (decimal_digital n) wall ∙ spelt_below n n (omega arith) l

  pub number_passed : after_number (p ++ (decimal n ++ s)) ≡ s
  unfolding after_number
  number_passed = ap behind starts ∙ behind_over (decimal n) s (decimal_digital n) wall

-- a text with no digits counts as 0
pub none_found : (s : List ℕ) → digitless s ≡ true → number_in s ≡ 0
unfolding number_in digitless skipped valued
none_found [] h = refl
none_found (b ∷ s) h =
    rw (not_e (is_digit b) (and_l (not (is_digit b)) (digitless s) h)) (none_found s (and_r (not (is_digit b)) (digitless s) h))
