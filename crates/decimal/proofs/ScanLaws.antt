-- Laws of looking for numbers in a text: where a digit stands and where none does, at an offset and at the end.
use Prim.Native.Nat.{ℕ, ◌+◌, ◌*◌, ◌-◌, ◌^◌, ◌≤◌, ◌<◌}
use mathlib.Core.Bool.{true, false}
use mathlib.Core.Path.{◌≡◌, refl, sym, ap, ◌∙◌}
use mathlib.Core.List.{List, [], ◌∷◌}
use lib.Dec.{leb, ltb}
use lib.ListN.{length, get_or, take, drop, drop_of_length-le, length-drop}
use lib.Seq.{drop-cons, drop-drop, drop-length}
use native.Mathlib.Numerals.{add-one, one-add}
use native.Mathlib.Omega.{arith}
use borrow.Author.Tests.{leb-true, ltb-true, ltb-false, lt-ltb, le-ltb, le-leb}
use Rattle.std.proofs.Common.{None, Some}
use Rattle.std.specs.Char.{is_ascii_digit}
use Rattle.std.specs.List.{position, position_or_len}
use Rattle.std.proofs.lemmas.List.{take_rest}
use Rattle.reader.specs.Tests.{◌and◌}
use Rattle.reader.proofs.TestLaws.{split, never, and_l, and_r, and_i}
use Rattle.decimal.specs.declared.scan.Found.{Found}
use Rattle.decimal.specs.Decimal.{digit_zero}
use Rattle.decimal.specs.Numbers.{is_digit, grown, skipped, valued, behind, number_in, after_number}
use Rattle.decimal.specs.Scans.{Skips, Takes, Finds}

-- a byte at an offset
module _ (s : List ℕ) (i : ℕ) (p : i < length s) where
  module _ (v : ℕ) where
    pub value_here : is_digit (get_or s i 0) ≡ false → v ≡ valued v (drop i s)
    unfolding valued
    value_here h = rw (drop-cons s i 0 p, h)

    pub value_more : (w : ℕ) → w ≡ grown v (get_or s i 0) → is_digit (get_or s i 0) ≡ true → valued w (drop (i + 1) s) ≡ valued v (drop i s)
    unfolding valued
    value_more w e h = rw (add-one, drop-cons s i 0 p, h, e)

  pub behind_here : is_digit (get_or s i 0) ≡ false → drop i s ≡ behind (drop i s)
  unfolding behind
  behind_here h = rw (drop-cons s i 0 p, h)

  pub behind_more : is_digit (get_or s i 0) ≡ true → behind (drop (i + 1) s) ≡ behind (drop i s)
  unfolding behind
  behind_more h = rw (add-one, drop-cons s i 0 p, h)

-- the end of the text
module _ (s : List ℕ) (i : ℕ) (p : length s ≤ i) where
  pub value_end : (v : ℕ) → v ≡ valued v (drop i s)
  unfolding valued
  value_end v = rw (drop_of_length-le s {i = i} p)

  pub behind_end : drop (length s) s ≡ behind (drop i s)
  unfolding behind
  behind_end = rw (drop_of_length-le s {i = i} p, drop-length)

-- skipping, then taking, is finding
pub finds : {s : List ℕ} {at i : ℕ} {r : Found} → Skips s at i → Takes s i r → Finds s at r
unfolding number_in after_number
finds {s} {at} {i} {r} a b = record {
  within = b.within;
  value = b.value ∙ ap (valued 0) a.rest;
  rest = b.rest ∙ ap behind a.rest;
}

-- a digit, tested
pub digit_least : (b : ℕ) → is_digit b ≡ true → digit_zero ≤ b
unfolding is_digit
digit_least b h = leb-true digit_zero b (and_l (leb digit_zero b) (leb b (digit_zero + 9)) h)

pub digit_most : (b : ℕ) → is_digit b ≡ true → b ≤ digit_zero + 9
unfolding is_digit
digit_most b h = leb-true b (digit_zero + 9) (and_r (leb digit_zero b) (leb b (digit_zero + 9)) h)

pub is_digit_lem : (b : ℕ) → digit_zero ≤ b → b ≤ digit_zero + 9 → is_digit b ≡ true
unfolding is_digit
is_digit_lem b p q = and_i (leb digit_zero b) (leb b (digit_zero + 9)) (le-leb digit_zero b p) (le-leb b (digit_zero + 9) q)

-- one digit more, where it fits and where not
pub grown_fits : (v b : ℕ) → 10 * v + (b - digit_zero) < 2 ^ 64 → 10 * v + (b - digit_zero) ≡ grown v b
unfolding grown
grown_fits v b h = rw (lt-ltb (10 * v + (b - digit_zero)) (2 ^ 64) h)

pub grown_not : (v b : ℕ) → 2 ^ 64 ≤ 10 * v + (b - digit_zero) → 0 ≡ grown v b
unfolding grown
grown_not v b h = rw (le-ltb (10 * v + (b - digit_zero)) (2 ^ 64) h)

-- the library's digits
pub ascii_digit : (b : ℕ) → is_ascii_digit b ≡ is_digit b
unfolding is_digit ◌and◌
ascii_digit b = split (leb digit_zero b) (λ e. rw e) (λ e. rw e)

skipped_drop : (s : List ℕ) → drop (position_or_len is_ascii_digit s) s ≡ skipped s
unfolding skipped
skipped_drop [] = refl
skipped_drop (b ∷ s) = split (is_digit b) (λ e. rw (ascii_digit b, e)) (λ e. rw (ascii_digit b, e, one-add) (skipped_drop s))

-- the first digit of what stands behind an offset, and none
module _ (s : List ℕ) (at : ℕ) (h : at ≤ length s) where
  abbrev rest : List ℕ
  rest = take (length s - at) (drop at s)

  abbrev first : ℕ
  first = position_or_len is_ascii_digit (drop at s)

  pub skip_found : (n : ℕ) → Some n ≡ position is_ascii_digit rest → Skips s at (at + n)
  skip_found n e =
      let p = rw take_rest at e in
      split (ltb first (length (drop at s)))
      (λ l.
      let same : n ≡ first = (let q = rw l at p in cc) in
      let within : first < length (drop at s) = ltb-true _ _ l in
      record { within = omega (arith, length-drop at s); rest = rw (same, ← drop-drop) (skipped_drop (drop at s)) })
      (λ l. let q = rw l at p in never (cc))

  pub skip_none : None ≡ position is_ascii_digit rest → Skips s at (length s)
  skip_none e =
      let p = rw take_rest at e in
      split (ltb first (length (drop at s)))
      (λ l. let q = rw l at p in never (cc))
      (λ l.
      let none : length (drop at s) ≤ first = ltb-false _ _ l in
      record { within = omega arith; rest = drop_of_length-le s (omega arith) ∙ sym (drop_of_length-le (drop at s) none) ∙ skipped_drop (drop at s) })
