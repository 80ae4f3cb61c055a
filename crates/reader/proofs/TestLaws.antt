-- Laws of tests: connectives, cases, contradictions.
use Prim.Native.Nat.{ℕ, suc, ◌<◌}
use mathlib.Core.Bool.{Bool, true, false, not}
use mathlib.Core.Path.{◌≡◌, refl, sym}
use native.Mathlib.Omega.{arith}
use native.Mathlib.Decide.{dec_lt}
use Rattle.reader.specs.Tests.{◌and◌, ◌or◌, ◌implies◌}

-- a test is true or false, and the equation is kept
pub split {ℓ} : {C : Type ℓ} (b : Bool) → (b ≡ true → C) → (b ≡ false → C) → C
split true t f = t refl
split false t f = f refl

-- what cannot be: `never (cc)`, where cc finds two constructors that would be equal
pub never {ℓ} : {C : Type ℓ} → ◌≡◌ {A = ℕ} 0 1 → C
never e = absurd (let z : ⊥ = omega arith in z)

pub clash {ℓ} : {C : Type ℓ} (b : Bool) → b ≡ true → b ≡ false → C
clash b t f = never (cc)

pub not_false : (b : Bool) → (b ≡ false → ⊥) → b ≡ true
not_false true h = refl
not_false false h = absurd (h refl)

pub not_true : (b : Bool) → (b ≡ true → ⊥) → b ≡ false
not_true true h = absurd (h refl)
not_true false h = refl

pub and_l : (a b : Bool) → (a and b) ≡ true → a ≡ true
unfolding ◌and◌
and_l true b h = refl
and_l false b h = h

pub and_r : (a b : Bool) → (a and b) ≡ true → b ≡ true
unfolding ◌and◌
and_r true b h = h
and_r false b h = clash false h refl

pub and_i : (a b : Bool) → a ≡ true → b ≡ true → (a and b) ≡ true
unfolding ◌and◌
and_i a b p q = rw (p, q)

pub or_l : (a b : Bool) → a ≡ true → (a or b) ≡ true
unfolding ◌or◌
or_l a b p = rw p

pub or_r : (a b : Bool) → b ≡ true → (a or b) ≡ true
unfolding ◌or◌
or_r true b q = refl
or_r false b q = q

pub or_e {ℓ} : {C : Type ℓ} (a b : Bool) → (a or b) ≡ true → (a ≡ true → C) → (b ≡ true → C) → C
unfolding ◌or◌
or_e true b h f g = f refl
or_e false b h f g = g h

pub imp_e : (a b : Bool) → (a implies b) ≡ true → a ≡ true → b ≡ true
unfolding ◌implies◌
imp_e true b h p = h
imp_e false b h p = clash false p refl

pub imp_i : (a b : Bool) → (a ≡ true → b ≡ true) → (a implies b) ≡ true
unfolding ◌implies◌
imp_i true b h = h refl
imp_i false b h = refl

pub not_e : (a : Bool) → not a ≡ true → a ≡ false
not_e true h = sym h
not_e false h = refl

pub not_x : (a : Bool) → not a ≡ false → a ≡ true
not_x true h = refl
not_x false h = sym h

pub not_i : (a : Bool) → a ≡ false → not a ≡ true
not_i a h = rw h

-- below suc n: below n, or n
pub below_suc {ℓ} : {C : Type ℓ} (i n : ℕ) → i < suc n → (i < n → C) → (i ≡ n → C) → C
below_suc i n h f g = elim (dec_lt i n) [ yes p ↦ f p | no p ↦ g (omega arith) ]

pub imp_x {ℓ} : {C : Type ℓ} (a b : Bool) → (a implies b) ≡ false → (a ≡ true → b ≡ false → C) → C
unfolding ◌implies◌
imp_x true b h go = go refl h
imp_x false b h go = clash true refl h

pub or_none : (a : Bool) → (a or false) ≡ a
unfolding ◌or◌
or_none true = refl
or_none false = refl

pub or_join : (a b c : Bool) → ((a or b) or c) ≡ (a or (b or c))
unfolding ◌or◌
or_join true b c = refl
or_join false b c = refl

-- two tests of which each gives the other
pub same_test : (a b : Bool) → (a ≡ true → b ≡ true) → (b ≡ true → a ≡ true) → a ≡ b
same_test true b f g = sym (f refl)
same_test false true f g = g refl
same_test false false f g = refl

pub imp_fails : (a b : Bool) → a ≡ true → b ≡ false → (a implies b) ≡ false
unfolding ◌implies◌
imp_fails a b h e = rw (h, e)

pub and_yes : (a : Bool) → (a and true) ≡ a
unfolding ◌and◌
and_yes true = refl
and_yes false = refl

pub and_no : (a : Bool) → (a and false) ≡ false
unfolding ◌and◌
and_no true = refl
and_no false = refl

pub and_join : (a b c : Bool) → ((a and b) and c) ≡ (a and (b and c))
unfolding ◌and◌
and_join true b c = refl
and_join false b c = refl

pub and_if : (a b : Bool) → a ≡ true → (a and b) ≡ b
unfolding ◌and◌
and_if a b e = rw e

pub and_unless : (a b : Bool) → a ≡ false → (a and b) ≡ false
unfolding ◌and◌
and_unless a b e = rw e
