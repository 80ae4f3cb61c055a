-- Where `first` of failing tests finds its answer: at the first place that fails, and at the first pair.
use Prim.Native.Nat.{ℕ, ◌<◌}
use mathlib.Core.Bool.{Bool, true}
use mathlib.Core.Path.{◌≡◌, refl, sym, subst}
use mathlib.Core.Option.{none, some}
use mathlib.Core.Logic.{◌↔◌, inl, inr, ⊎_elim}
use lib.Dec.{ltb}
use borrow.Author.Tests.{lt-ltb, ltb-true}
use native.Mathlib.Omega.{arith}
use Rattle.reader.specs.Tests.{◌implies◌}
use Rattle.reader.specs.First.{first, unless, FirstFail, FirstPairFail}
use Rattle.reader.proofs.TestLaws.{imp_e, imp_i, imp_x, imp_fails}
use Rattle.reader.proofs.FirstLaws.{first_none, none_first, first_some, some_first, unless_none, none_unless, unless_some, unless_is, some_unless}

module _ {A : Type 0} (n : ℕ) (test : ℕ → Bool) (answer : ℕ → A) where
  pub no_fail : (first n (λ i. unless (test i) (answer i)) ≡ none) ↔ ((i : ℕ) → i < n → test i ≡ true)
  no_fail =
      (λ h i p. unless_none (test i) (answer i) (none_first n _ h i p), λ h. first_none n _ (λ i p. none_unless (test i) (answer i) (h i p)))

  pub first_fail : (a : A) → (first n (λ i. unless (test i) (answer i)) ≡ some a) ↔ ((k : ℕ) × FirstFail n test k × (answer k ≡ a))
  first_fail a = (
    λ h.
        let hit = first_some n _ a h in
        let k = hit.at in (
          k,
          record {
            below = hit.below;
            fails = unless_some (test k) (answer k) a hit.is;
            before = λ i p. unless_none (test i) (answer i) (hit.least i p);
          },
          unless_is (test k) (answer k) a hit.is,
        ),
    λ w.
        some_first n _ a
        (record {
          at = w.0;
          below = w.1.below;
          is = some_unless (test w.0) (answer w.0) a w.1.fails w.2;
          least = λ i p. none_unless (test i) (answer i) (w.1.before i p);
        }),
  )

module _ {A : Type 0} (n : ℕ) (test : ℕ → ℕ → Bool) (answer : ℕ → ℕ → A) where
  pub no_pair_fail : (first n (λ i. first n λ j. unless (ltb i j implies test i j) (answer i j)) ≡ none)
      ↔ ((i j : ℕ) → i < j → j < n → test i j ≡ true)
  no_pair_fail = (
    λ h i j p q. imp_e _ _ ((no_fail n _ (answer i)).0 (none_first n _ h i (omega arith)) j q) (lt-ltb i j p),
    λ h. first_none n _ (λ i p. (no_fail n _ (answer i)).1 (λ j q. imp_i _ _ (λ e. h i j (ltb-true i j e) q))),
  )

  pub first_pair_fail : (a : A) → (first n (λ i. first n λ j. unless (ltb i j implies test i j) (answer i j)) ≡ some a)
      ↔ ((i : ℕ) × (j : ℕ) × FirstPairFail n test i j × (answer i j ≡ a))
  first_pair_fail a = (
    λ h.
        let hit = first_some n _ a h in
        let i = hit.at in
        let inner = (first_fail n _ (answer i) a).0 hit.is in
        let j = inner.0 in
        imp_x _ _ inner.1.fails λ rises fails. (
          i,
          j,
          record {
            rises = ltb-true i j rises;
            below = inner.1.below;
            fails = fails;
            before = λ b c p q.
                ⊎_elim
                (λ lower. imp_e _ _ ((no_fail n _ (answer b)).0 (hit.least b lower) c q) (lt-ltb b c p))
                (λ same. subst (λ b. test b c ≡ true) (sym same.0)
                (imp_e _ _ (inner.1.before c same.1) (lt-ltb i c (omega (arith, p, same.0)))));
          },
          inner.2,
        ),
    λ w.
        let i = w.0 in
        let j = w.1 in
        let pair = w.2 in
        some_first n _ a
        (record {
          at = i;
          below = omega arith;
          is =
              (first_fail n _ (answer i) a).1 (
                j,
                record {
                  below = pair.below;
                  fails = imp_fails _ _ (lt-ltb i j pair.rises) pair.fails;
                  before = λ c p. imp_i _ _ (λ e. pair.before i c (ltb-true i c e) (omega arith) (inr (refl, p)));
                },
                w.3,
              );
          least = λ b p. (no_fail n _ (answer b)).1 (λ c q. imp_i _ _ (λ e. pair.before b c (ltb-true b c e) q (inl p)));
        }),
  )
