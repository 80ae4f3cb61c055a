-- Laws of `first`, `every` and `any`: what they say, and how a loop proves them turn by turn.
use Prim.Native.Nat.{ℕ, zero, suc, ◌+◌, ◌≤◌, ◌<◌}
use native.Mathlib.Numerals.{add-one}
use mathlib.Core.Path.{◌≡◌, refl, sym, ◌∙◌, ap}
use mathlib.Core.Bool.{Bool, true, false, not}
use mathlib.Core.Option.{Option, none, some, none-ne-some}
use native.Mathlib.Nat.{not-suc-le-zero}
use native.Mathlib.Omega.{arith}
use native.Mathlib.Decide.{dec_lt}
use Rattle.reader.specs.Tests.{◌and◌, ◌or◌}
use Rattle.reader.specs.First.{◌or_else◌, first, unless, when, is_none, every, any}
use Rattle.reader.proofs.TestLaws.{split, clash, below_suc, not_e, not_i, not_x, not_true, and_i, and_l, and_r, and_yes, same_test}

module _ {A : Type 0} where
  pub is_none_e : (o : Option A) → is_none o ≡ true → o ≡ none
  is_none_e none h = refl
  is_none_e (some a) h = clash false h refl

  pub is_some_e : (o : Option A) → is_none o ≡ false → (a : A) × (o ≡ some a)
  is_some_e none h = clash true refl h
  is_some_e (some a) h = (a, refl)

  pub or_else_l : (a b : Option A) → (a or_else b) ≡ none → a ≡ none
  unfolding ◌or_else◌
  or_else_l none b h = refl
  or_else_l (some x) b h = h

  pub or_else_r : (a b : Option A) → (a or_else b) ≡ none → b ≡ none
  unfolding ◌or_else◌
  or_else_r none b h = h
  or_else_r (some x) b h = cc

  pub or_else_join : (a b c : Option A) → ((a or_else b) or_else c) ≡ (a or_else (b or_else c))
  unfolding ◌or_else◌
  or_else_join none b c = refl
  or_else_join (some x) b c = refl

  pub or_else_i : (a b : Option A) → a ≡ none → b ≡ none → (a or_else b) ≡ none
  unfolding ◌or_else◌
  or_else_i a b p q = rw (p, q)

  pub unless_none : (b : Bool) (a : A) → unless b a ≡ none → b ≡ true
  unfolding unless
  unless_none true a h = refl
  unless_none false a h = cc

  pub none_unless : (b : Bool) (a : A) → b ≡ true → unless b a ≡ none
  unfolding unless
  none_unless b a h = rw h

  pub unless_some : (b : Bool) (a c : A) → unless b a ≡ some c → b ≡ false
  unfolding unless
  unless_some true a c h = cc
  unless_some false a c h = refl

  pub unless_is : (b : Bool) (a c : A) → unless b a ≡ some c → a ≡ c
  unfolding unless
  unless_is true a c h = cc
  unless_is false a c h = cc

  pub some_unless : (b : Bool) (a c : A) → b ≡ false → a ≡ c → unless b a ≡ some c
  unfolding unless
  some_unless b a c h e = rw (h, e)

  pub when_some : (b : Bool) (a c : A) → when b a ≡ some c → b ≡ true
  unfolding when
  when_some true a c h = refl
  when_some false a c h = cc

  pub when_none : (b : Bool) (a : A) → when b a ≡ none → b ≡ false
  unfolding when
  when_none true a h = cc
  when_none false a h = refl

  pub none_when : (b : Bool) (a : A) → b ≡ false → when b a ≡ none
  unfolding when
  none_when b a h = rw h

  pub some_when : (b : Bool) (a : A) → b ≡ true → when b a ≡ some a
  unfolding when
  some_when b a h = rw h

  pub when_is : (b : Bool) (a c : A) → when b a ≡ some c → a ≡ c
  unfolding when
  when_is true a c h = cc
  when_is false a c h = cc

  -- nothing exactly if there is nothing at each place
  pub first_none : (n : ℕ) (f : ℕ → Option A) → ((i : ℕ) → i < n → f i ≡ none) → first n f ≡ none
  unfolding first
  first_none zero f h = refl
  first_none (suc n) f h = or_else_i (first n f) (f n) (first_none n f (λ i p. h i (omega arith))) (h n (omega arith))

  pub none_first : (n : ℕ) (f : ℕ → Option A) → first n f ≡ none → (i : ℕ) → i < n → f i ≡ none
  unfolding first
  none_first zero f h i p = absurd (not-suc-le-zero p)
  none_first (suc n) f h i p =
      let ih = none_first n f (or_else_l (first n f) (f n) h) in
      below_suc i n p (λ q. ih i q) (λ q. rw q (or_else_r (first n f) (f n) h))

  -- an answer exactly if it is that of the least place that has one
  pub record Hit (n : ℕ) (f : ℕ → Option A) (a : A) : Type 0 where
    pub at : ℕ
    pub below : at < n
    pub is : f at ≡ some a
    pub least : (i : ℕ) → i < at → f i ≡ none

  pub first_some : (n : ℕ) (f : ℕ → Option A) (a : A) → first n f ≡ some a → Hit n f a
  unfolding first ◌or_else◌
  first_some zero f a h = absurd (none-ne-some a h)
  first_some (suc n) f a h = go (first n f) refl (first_some n f a)
    where
      go : (o : Option A) → first n f ≡ o → (first n f ≡ some a → Hit n f a) → Hit (suc n) f a
      go none e ih = record {
        at = n;
        below = omega arith;
        is = rw e at h;
        least = none_first n f e;
      }
      go (some x) e ih =
          let k = ih (rw e (rw e at h)) in
          record { at = k.at; below = omega arith; is = k.is; least = k.least }

  pub some_first : (n : ℕ) (f : ℕ → Option A) (a : A) → Hit n f a → first n f ≡ some a
  unfolding first ◌or_else◌
  some_first zero f a k = absurd (not-suc-le-zero k.below)
  some_first (suc n) f a k =
      below_suc k.at n k.below
      (λ q. rw (some_first n f a (record { at = k.at; below = q; is = k.is; least = k.least })))
      (λ q. rw (first_none n f (λ i p. k.least i (omega arith)), ← q) k.is)

-- for a loop: nothing up to j, and what stands at j
module _ {A : Type 0} (f : ℕ → Option A) where
  pub first_start : first 0 f ≡ none
  unfolding first
  first_start = refl

  pub first_more : (j : ℕ) → first j f ≡ none → f j ≡ none → first (j + 1) f ≡ none
  unfolding first
  first_more j h e = simp add-one (or_else_i (first j f) (f j) h e)

  pub first_found : (n j : ℕ) (a : A) → j < n → first j f ≡ none → f j ≡ some a → first n f ≡ some a
  first_found n j a p h e = some_first n f a (record { at = j; below = p; is = e; least = none_first j f h })

-- functions that agree at each place
pub first_same : {A : Type 0} (n : ℕ) (f g : ℕ → Option A) → ((i : ℕ) → i < n → f i ≡ g i) → first n f ≡ first n g
unfolding first
first_same zero f g h = refl
first_same (suc n) f g h = rw (first_same n f g (λ i p. h i (omega arith)), h n (omega arith))

pub every_i : (n : ℕ) (t : ℕ → Bool) → ((i : ℕ) → i < n → t i ≡ true) → every n t ≡ true
unfolding every
every_i n t h = rw (first_none n (λ i. unless (t i) i) (λ i p. none_unless (t i) i (h i p)))

pub every_e : (n : ℕ) (t : ℕ → Bool) → every n t ≡ true → (i : ℕ) → i < n → t i ≡ true
unfolding every
every_e n t h i p = unless_none (t i) i (none_first n (λ i. unless (t i) i) (is_none_e _ h) i p)

-- a place that fails
pub every_x {ℓ} : {C : Type ℓ} (n : ℕ) (t : ℕ → Bool) → every n t ≡ false → ((i : ℕ) → i < n → t i ≡ false → C) → C
unfolding every
every_x n t h go =
    let k = is_some_e (first n (λ i. unless (t i) i)) h in
    let m = first_some n (λ i. unless (t i) i) k.0 k.1 in
    go m.at m.below (unless_some (t m.at) m.at k.0 m.is)

pub any_i : (n : ℕ) (t : ℕ → Bool) (i : ℕ) → i < n → t i ≡ true → any n t ≡ true
unfolding any
any_i n t i p h = not_i (every n (λ i. not (t i))) (not_true _ (λ e. clash (t i) h (not_e (t i) (every_e n (λ i. not (t i)) e i p))))

joins : (o : Option ℕ) (b : Bool) (n : ℕ) → not (is_none (o or_else unless (not b) n)) ≡ (not (is_none o) or b)
unfolding ◌or_else◌ unless ◌or◌
joins none true n = refl
joins none false n = refl
joins (some i) b n = refl

every_joins : (o : Option ℕ) (b : Bool) (n : ℕ) → is_none (o or_else unless b n) ≡ (is_none o and b)
unfolding ◌or_else◌ unless ◌and◌
every_joins none true n = refl
every_joins none false n = refl
every_joins (some i) b n = refl

pub any_start : (t : ℕ → Bool) → any 0 t ≡ false
unfolding any every first
any_start t = refl

-- one place more
pub any_more : (n : ℕ) (t : ℕ → Bool) → any (n + 1) t ≡ (any n t or t n)
unfolding any every first
any_more n t = simp add-one (joins (first n (λ i. unless (not (t i)) i)) (t n) n)

-- one place more
pub every_more : (n : ℕ) (t : ℕ → Bool) → every (n + 1) t ≡ (every n t and t n)
unfolding every first
every_more n t = simp add-one (every_joins (first n (λ i. unless (t i) i)) (t n) n)

pub every_start : (t : ℕ → Bool) → every 0 t ≡ true
unfolding every first
every_start t = refl

pub any_e {ℓ} : {C : Type ℓ} (n : ℕ) (t : ℕ → Bool) → any n t ≡ true → ((i : ℕ) → i < n → t i ≡ true → C) → C
unfolding any
any_e n t h go = every_x n (λ i. not (t i)) (not_e _ h) (λ i p e. go i p (not_x (t i) e))

-- tests that agree at each place
pub every_same : (n : ℕ) (t u : ℕ → Bool) → ((i : ℕ) → i < n → t i ≡ u i) → every n t ≡ every n u
every_same n t u h =
    split (every n t)
    (λ e. e ∙ sym (every_i n u (λ i p. sym (h i p) ∙ every_e n t e i p)))
    (λ e. e ∙ sym (not_true (every n u) (λ e2. every_x n t e (λ i p f. clash (t i) (h i p ∙ every_e n u e2 i p) f))))

pub any_same : (n : ℕ) (t u : ℕ → Bool) → ((i : ℕ) → i < n → t i ≡ u i) → any n t ≡ any n u
unfolding any
any_same n t u h = ap not (every_same n _ _ (λ i p. ap not (h i p)))

-- two tests at each place
pub every_both : (n : ℕ) (t u : ℕ → Bool) → (every n t and every n u) ≡ every n (λ i. t i and u i)
every_both n t u =
    same_test _ _
    (λ h. every_i n _ (λ i p. and_i _ _ (every_e n t (and_l _ _ h) i p) (every_e n u (and_r _ _ h) i p)))
    (λ h. and_i _ _ (every_i n t (λ i p. and_l _ _ (every_e n (λ i. t i and u i) h i p)))
    (every_i n u (λ i p. and_r _ _ (every_e n (λ i. t i and u i) h i p))))

module _ (t : ℕ → Bool) where
  -- one place more, which passes
  pub every_pass : (k : ℕ) → t k ≡ true → every (k + 1) t ≡ every k t
  every_pass k e = every_more k t ∙ rw e (and_yes (every k t))

  -- the places that are left pass
  pub every_rest : (k n : ℕ) → k ≤ n → ((i : ℕ) → k ≤ i → i < n → t i ≡ true) → every k t ≡ every n t
  every_rest k n p h =
      split (every k t)
      (λ e. e ∙ sym (every_i n t (λ i q. elim (dec_lt i k) [ yes s ↦ every_e k t e i s | no s ↦ h i (omega arith) q ])))
      (λ e. e ∙ sym (not_true _ (λ g. clash (every k t) (every_i k t (λ i q. every_e n t g i (omega arith))) e)))
