-- Laws of comparing texts: what it is to be the same, other lengths, and the library's `==`.
use Prim.Native.Nat.{ℕ}
use mathlib.Core.Bool.{true, false}
use mathlib.Core.Path.{◌≡◌, refl, sym, ap}
use mathlib.Core.List.{List, [], ◌∷◌}
use lib.Dec.{eqb}
use lib.ListN.{length}
use lib.Pointwise.{pointwise}
use borrow.Author.Tests.{eq-eqb, eqb-true}
use Rattle.reader.specs.Tests.{◌and◌}
use Rattle.reader.proofs.TestLaws.{split, never, not_true, and_l, and_r, and_i}
use Rattle.sentence.specs.Reading.{same}

pub same_self : (a : List ℕ) → same a a ≡ true
unfolding same
same_self [] = refl
same_self (x ∷ a) = and_i (eqb x x) (same a a) (eq-eqb x x refl) (same_self a)

pub same_true : (a b : List ℕ) → same a b ≡ true → a ≡ b
unfolding same
same_true [] [] h = refl
same_true [] (y ∷ b) h = never (cc)
same_true (x ∷ a) [] h = never (cc)
same_true (x ∷ a) (y ∷ b) h =
    let front = eqb-true x y (and_l (eqb x y) (same a b) h) in
    let rest = same_true a b (and_r (eqb x y) (same a b) h) in
    rw (front, rest)

pub other_sizes : (a b : List ℕ) → (length a ≡ length b → ⊥) → false ≡ same a b
other_sizes a b h = sym (not_true (same a b) (λ e. h (ap length (same_true a b e))))

-- the library's comparison
pub pointwise_same : (a b : List ℕ) → pointwise eqb a b ≡ same a b
unfolding same ◌and◌
pointwise_same [] [] = refl
pointwise_same [] (y ∷ b) = refl
pointwise_same (x ∷ a) [] = refl
pointwise_same (x ∷ a) (y ∷ b) = split (eqb x y) (λ e. rw e (pointwise_same a b)) (λ e. rw e)
