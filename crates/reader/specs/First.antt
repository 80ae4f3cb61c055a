-- The first answer in an order: tests that follow each other, searches and loops are all made of it.
use Rattle.std.specs.Prelude.{ℕ, zero, suc, ◌<◌, Bool, true, false, not, List, ◌⊎◌, ◌≡◌, set}
use Rattle.std.proofs.Math.Option.{Option, none, some}

module _ {A : Type 0} where
  infixr 20 ◌or_else◌
  -- a, or b where a is nothing
  unfoldable pub ◌or_else◌ : Option A → Option A → Option A
  none or_else b = b
  some a or_else b = some a

  -- what f gives at the least i below n at which it gives something
  unfoldable pub first : ℕ → (ℕ → Option A) → Option A
  first zero f = none
  first (suc n) f = let last = f n in first n f or_else last

  -- nothing where the test holds, else a
  unfoldable pub unless : Bool → A → Option A
  unless true a = none
  unless false a = some a

  -- a where the test holds, else nothing
  unfoldable pub when : Bool → A → Option A
  when true a = some a
  when false a = none

  abbrev pub is_none : Option A → Bool
  is_none none = true
  is_none (some a) = false

-- every number below n passes the test; and some number does
unfoldable pub every : ℕ → (ℕ → Bool) → Bool
every n t = is_none (first n (λ i. unless (t i) i))

unfoldable pub any : ℕ → (ℕ → Bool) → Bool
any n t = not (every n (λ i. not (t i)))

-- the list l with f 0 .. f (n - 1) in its first n places
unfoldable pub fill : {A : Type 0} → ℕ → (ℕ → A) → List A → List A
fill zero f l = l
fill (suc n) f l = set (fill n f l) n (f n)

-- k is the first number below n that fails the test
pub record FirstFail (n : ℕ) (test : ℕ → Bool) (k : ℕ) : Type 0 where
  pub below : k < n
  pub fails : test k ≡ false
  pub before : (i : ℕ) → i < k → test i ≡ true

-- i and j are the first pair below n, the lower first, that fails the test: by the lower, then by the higher
pub record FirstPairFail (n : ℕ) (test : ℕ → ℕ → Bool) (i j : ℕ) : Type 0 where
  pub rises : i < j
  pub below : j < n
  pub fails : test i j ≡ false
  pub before : (a b : ℕ) → a < b → b < n → (a < i) ⊎ ((a ≡ i) × (b < j)) → test a b ≡ true
