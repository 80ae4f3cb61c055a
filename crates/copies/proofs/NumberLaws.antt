-- A set as one number: the number is its members.
use Prim.Native.Nat.{ℕ, zero, suc, ◌+◌, ◌*◌, ◌/◌, ◌%◌, ◌^◌, ◌≤◌, ◌<◌}
use mathlib.Core.Bool.{Bool, true, false, cond}
use mathlib.Core.Path.{◌≡◌, sym, ◌∙◌, ap, ap₂}
use native.Mathlib.Nat.{not-suc-le-zero, pow-suc}
use native.Mathlib.Omega.{arith}
use lib.Dec.{eqb}
use borrow.Author.Tests.{eqb-true, eqb-false, eq-eqb, ne_eqb}
use Rattle.rules.specs.Gathering.{set_number}
use Rattle.copies.specs.Sets.{has}
use Rattle.copies.proofs.SetLaws.{empty_set}
use Rattle.copies.proofs.MemberLaws.{has_first, has_next}

low_digit : (x : ℕ) (b : Bool) → eqb (x % 2) 1 ≡ b → x % 2 ≡ cond b 1 0
low_digit x true e = eqb-true (x % 2) 1 e
low_digit x false e = let n = eqb-false (x % 2) 1 e in omega arith

-- the number with these members, all below n
pub number_is : (n x : ℕ) (f : ℕ → Bool) → ((q : ℕ) → has x q ≡ f q) → ((q : ℕ) → n ≤ q → f q ≡ false) → x ≡ set_number n f
unfolding set_number
number_is zero x f is none = empty_set x (λ q. is q ∙ none q (omega arith))
number_is (suc n) x f is none =
    let low : x % 2 ≡ cond (f 0) 1 0 = low_digit x (f 0) (sym (has_first x) ∙ is 0) in
    let high : x / 2 ≡ set_number n (λ q. f (suc q)) =
    number_is n (x / 2) (λ q. f (suc q)) (λ q. sym (has_next x q) ∙ is (suc q)) (λ q p. none (suc q) (omega arith)) in
    let whole : x ≡ x % 2 + 2 * (x / 2) = omega arith in
    whole ∙ ap₂ (λ (a b : ℕ). a + 2 * b) low high

-- and what its members are
pub number_has : (n q : ℕ) (f : ℕ → Bool) → q < n → has (set_number n f) q ≡ f q
unfolding set_number
number_has zero q f p = absurd (not-suc-le-zero p)
number_has (suc n) zero f p = has_first _ ∙ first_digit (f 0) (set_number n (λ q. f (suc q)))
  where
    first_digit : (b : Bool) (x : ℕ) → eqb ((cond b 1 0 + 2 * x) % 2) 1 ≡ b
    first_digit true x = eq-eqb ((1 + 2 * x) % 2) 1 (omega arith)
    first_digit false x = ne_eqb ((0 + 2 * x) % 2) 1 (λ e. omega arith)
number_has (suc n) (suc q) f p =
    has_next _ q ∙ ap (λ x. has x q) (rest (f 0) (set_number n (λ q. f (suc q)))) ∙ number_has n q (λ q. f (suc q)) (omega arith)
  where
    rest : (b : Bool) (x : ℕ) → (cond b 1 0 + 2 * x) / 2 ≡ x
    rest true x = omega arith
    rest false x = omega arith

pub number_below : (n : ℕ) (f : ℕ → Bool) → set_number n f < 2 ^ n
unfolding set_number
number_below zero f = omega arith
number_below (suc n) f = digit (f 0) (set_number n (λ q. f (suc q))) (number_below n (λ q. f (suc q)))
  where
    digit : (b : Bool) (x : ℕ) → x < 2 ^ n → cond b 1 0 + 2 * x < 2 ^ suc n
    digit true x p = omega (arith, pow-suc 2 n)
    digit false x p = omega (arith, pow-suc 2 n)
