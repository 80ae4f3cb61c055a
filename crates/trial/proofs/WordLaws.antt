-- Laws of runs as bits: what the words tell of each run.
use Prim.Native.Nat.{ℕ, zero, suc, ◌+◌, ◌-◌, ◌/◌, ◌%◌, ◌^◌, ◌≤◌, ◌<◌}
use mathlib.Core.Bool.{Bool, true, false, not, ◌||◌, cond}
use mathlib.Core.Logic.{◌↔◌}
use mathlib.Core.Path.{◌≡◌, refl, sym, ◌∙◌, ap, ap₂}
use lib.Arith.{digits_mod}
use lib.Bits.{bit_and, bit_or, bit_xor, differ, xor_shr, xor_step}
use lib.Dec.{ltb, eqb}
use lib.Pow.{pow_mono}
use borrow.Author.Tests.{eqb-true, eq-eqb, ltb-true, lt-ltb, le-ltb}
use native.Mathlib.Decide.{dec_lt}
use native.Mathlib.Nat.{mod-lt, zero-lt-suc}
use native.Mathlib.Numerals.{add-one}
use native.Mathlib.Omega.{arith}
use Rattle.std.specs.Int.Bits.{and_self, xor_add_and}
use Rattle.std.proofs.lemmas.Nat.{and-not, and_comm, and_assoc}
use Rattle.reader.specs.Tests.{◌and◌, ◌or◌}
use Rattle.reader.specs.First.{any}
use Rattle.reader.proofs.TestLaws.{split, clash, not_true, not_false, and_i, and_l, and_r, and_if, and_unless, or_e, or_l, or_r, not_e, not_i, same_test}
use Rattle.reader.proofs.FirstLaws.{any_same}
use Rattle.copies.specs.Sets.{has, meets, every_group}
use Rattle.copies.proofs.SetLaws.{has_union, has_both, has_none, has_one, has_every, empty_set, meets_any}
use Rattle.copies.proofs.MemberLaws.{has_part}
use Rattle.trial.specs.declared.words.Losses.{Losses}
use Rattle.trial.specs.Words.{run_count, Tells, Narrow, without_of, either_of, stays_to, spared_in}

-- as the code writes it
pub or_is : (a b : Bool) → (a || b) ≡ (a or b)
unfolding ◌or◌
or_is true b = refl
or_is false b = refl

pub either_tests : (s t u v : Bool) (a b r : ℕ) → r ≡ either_of s a t b → s ≡ u → t ≡ v → r ≡ either_of u a v b
either_tests s t u v a b r e f g = rw (← f, ← g) e

-- a bit of the numbers in which two differ
differ_low : (x y : ℕ) → x < 2 → y < 2 → differ x y < 2
differ_low zero y p q = q
differ_low (suc zero) zero p q = p
differ_low (suc zero) (suc y) p q = omega arith
differ_low (suc (suc x)) y p q = absurd (let z : ⊥ = omega arith in z)

differ_digits : (x y : ℕ) → x < 2 → y < 2 → eqb (differ x y) 1 ≡ cond (eqb x 1) (not (eqb y 1)) (eqb y 1)
differ_digits zero y p q = refl
differ_digits (suc zero) zero p q = refl
differ_digits (suc zero) (suc zero) p q = refl
differ_digits (suc zero) (suc (suc y)) p q = absurd (let z : ⊥ = omega arith in z)
differ_digits (suc (suc x)) y p q = absurd (let z : ⊥ = omega arith in z)

below_two : (a : ℕ) → a % 2 < 2
below_two a = mod-lt a (zero-lt-suc 1)

has_differ : (a b n : ℕ) → has (bit_xor a b) n ≡ cond (has a n) (not (has b n)) (has b n)
unfolding has
has_differ a b n =
    ap (λ (x : ℕ). eqb (x % 2) 1) (xor_shr a b n ∙ xor_step (a / 2 ^ n) (b / 2 ^ n))
    ∙ ap (λ x. eqb x 1) (digits_mod (bit_xor (a / 2 ^ n / 2) (b / 2 ^ n / 2)) (differ_low _ _ (below_two (a / 2 ^ n)) (below_two (b / 2 ^ n))))
    ∙ differ_digits _ _ (below_two (a / 2 ^ n)) (below_two (b / 2 ^ n))

has_without : (b a n : ℕ) → has (without_of b a) n ≡ (has b n and not (has a n))
unfolding ◌and◌
has_without b a n =
    has_differ b (bit_and b a) n ∙ ap (λ x. cond (has b n) (not x) x) (has_both b a n)
    ∙ split (has b n) (λ e. rw e) (λ e. rw e)

-- what the code computes, of words of 32 bits
pub without_lem : (b a : ℕ) → b < 2 ^ 32 → a < 2 ^ 32 → bit_and b (every_group - a) ≡ without_of b a
without_lem b a p q =
    let once : bit_and b (bit_and b a) ≡ bit_and b a = sym (and_assoc a b b) ∙ ap (λ x. bit_and x a) (and_self b) in
    omega (arith, and-not 32 a b q p, and_comm b (every_group - a), and_comm a b, xor_add_and b (bit_and b a), once)

-- what each word tells
pub tells_picked : (s : Bool) (a : ℕ) (f : ℕ → Bool) → Tells a f → Tells (cond s a 0) (λ r. f r and s)
unfolding ◌and◌
tells_picked true a f t r p = t r p ∙ split (f r) (λ e. rw e) (λ e. rw e)
tells_picked false a f t r p = has_none r ∙ split (f r) (λ e. rw e) (λ e. rw e)

module _ (a b : ℕ) (f g : ℕ → Bool) (ta : Tells a f) (tb : Tells b g) where
  pub tells_both : Tells (bit_and a b) (λ r. f r and g r)
  tells_both r p = has_both a b r ∙ ap₂ ◌and◌ (ta r p) (tb r p)

  pub tells_either : (s t : Bool) → Tells (either_of s a t b) (λ r. f r and s or g r and t)
  tells_either s t r p = has_union (cond s a 0) (cond t b 0) r ∙ ap₂ ◌or◌ (tells_picked s a f ta r p) (tells_picked t b g tb r p)

  pub tells_without : Tells (without_of a b) (λ r. f r and not (g r))
  tells_without r p = has_without a b r ∙ ap₂ (λ x y. x and not y) (ta r p) (tb r p)

pub tells_all : Tells every_group (λ r. true)
tells_all = has_every

-- no run is missing exactly if the word tells of each that it is there
all_narrow : Narrow every_group
all_narrow r h =
    elim (dec_lt r 32) [
      | yes p ↦ p
      | no p ↦ let part = has_part every_group r h in let more = pow_mono {i = 32} {j = r} (omega arith) in absurd (let z : ⊥ = omega arith in z)
    ]

pub none_missing : (w : ℕ) (f : ℕ → Bool) → Tells w f → (without_of every_group w ≡ 0) ↔ ((r : ℕ) → r < run_count → f r ≡ true)
none_missing w f t = (
  λ e r p.
      not_false _ λ h. clash _ (has_without every_group w r ∙ and_i _ _ (has_every r p) (not_i _ (t r p ∙ h))) (ap (λ x. has x r) e ∙ has_none r),
  λ h. empty_set _ λ r. not_true _ λ e.
      let both : (has every_group r and not (has w r)) ≡ true = sym (has_without every_group w r) ∙ e in
      let p = all_narrow r (and_l _ _ both) in
      clash _ (t r p ∙ h r p) (not_e _ (and_r _ _ both)),
)

-- words of which one has no bits but those of runs meet where both tell of one run
pub meets_run : (a b : ℕ) (f g : ℕ → Bool) → Narrow a → Tells a f → Tells b g → meets a b ≡ any run_count (λ r. f r and g r)
meets_run a b f g low ta tb = meets_any run_count a b low ∙ any_same run_count _ _ (λ r p. ap₂ ◌and◌ (ta r p) (tb r p))

pub narrow_both : (a b : ℕ) → Narrow b → Narrow (bit_and a b)
narrow_both a b low r h = low r (and_r _ _ (sym (has_both a b r) ∙ h))

-- the runs in which a node is there up to a tick
module _ (losses : Losses) (group by : ℕ) where
  bit_is : (s : Bool) (k r : ℕ) → has (cond s (2 ^ k) 0) r ≡ (s and eqb k r)
  unfolding ◌and◌
  bit_is true k r = has_one k r
  bit_is false k r = has_none r

  spared_is : (n r : ℕ) → has (spared_in losses group by n) r ≡ (ltb r n and stays_to losses group by r)
  unfolding spared_in
  spared_is zero r = has_none r ∙ sym (and_unless _ _ (le-ltb r 0 (omega arith)))
  spared_is (suc n) r =
      has_union _ _ r ∙ ap₂ ◌or◌ (spared_is n r) (bit_is (stays_to losses group by n) n r)
      ∙ same_test _ _
      (λ h. or_e _ _ h
      (λ e. and_i _ _ (lt-ltb r (suc n) (omega (arith, ltb-true r n (and_l _ _ e)))) (and_r _ _ e))
      (λ e. let is = eqb-true n r (and_r _ _ e) in
      and_i _ _ (lt-ltb r (suc n) (omega arith)) (ap (stays_to losses group by) (sym is) ∙ and_l _ _ e)))
      (λ h. elim (dec_lt r n) [
        | yes p ↦ or_l _ _ (and_i _ _ (lt-ltb r n p) (and_r _ _ h))
        | no p ↦
            let is : n ≡ r = omega (arith, ltb-true r (suc n) (and_l _ _ h)) in
            or_r _ _ (and_i _ _ (ap (stays_to losses group by) is ∙ and_r _ _ h) (eq-eqb n r is))
      ])

  pub tells_spared : Tells (spared_in losses group by run_count) (stays_to losses group by)
  tells_spared r p = spared_is run_count r ∙ and_if _ _ (lt-ltb r run_count p)

  pub narrow_spared : Narrow (spared_in losses group by run_count)
  narrow_spared r h = ltb-true r run_count (and_l _ _ (sym (spared_is run_count r) ∙ h))

  pub spared_more : (n : ℕ) (w v : ℕ) → w ≡ spared_in losses group by n → v ≡ cond (stays_to losses group by n) (2 ^ n) 0
      → bit_or w v ≡ spared_in losses group by (n + 1)
  unfolding spared_in
  spared_more n w v ew ev = ap₂ bit_or ew ev ∙ ap (spared_in losses group by) (sym (add-one n))

  pub spared_start : 0 ≡ spared_in losses group by 0
  unfolding spared_in
  spared_start = refl

  pub spared_done : (n w : ℕ) → n ≤ run_count → run_count ≤ n → w ≡ spared_in losses group by n
      → w ≡ spared_in losses group by run_count
  spared_done n w most left e = let d : n ≡ run_count = omega arith in e ∙ ap (spared_in losses group by) d
