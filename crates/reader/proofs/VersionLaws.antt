-- Laws of the fields of an entry, whichever of them its version has: their bytes, their faults, their limits.
use Prim.Native.Nat.{ℕ, zero, suc, ◌+◌, ◌*◌, ◌≤◌, ◌<◌}
use native.Mathlib.Omega.{arith}
use mathlib.Core.Path.{◌≡◌, refl}
use mathlib.Core.Bool.{Bool, true, false}
use mathlib.Core.List.{List, [], ◌∷◌}
use mathlib.Core.Option.{Option, none}
use lib.ListN.{length}
use borrow.Author.Tests.{leb-false, lt-leb}
use Rattle.reader.specs.declared.refusal.Refusal.{Refusal}
use Rattle.reader.specs.declared.refusal.Refusal.TheVariants.{Value}
use Rattle.std.specs.Prelude.{Result, Ok}
use Rattle.reader.specs.Refusals.{resulted}
use Rattle.reader.specs.Number.{number_at}
use Rattle.reader.specs.Fields.{Field, width_if, fault_if, value_if, reaches, has, width, fields_fault, fields_at}
use Rattle.reader.proofs.TestLaws.{split, clash}
use Rattle.reader.proofs.FirstLaws.{or_else_l, or_else_r, or_else_i}
use Rattle.reader.proofs.FieldLaws.{Good, field_good, good_field}

-- the answer for a field that the version has, and for one that it lacks
module _ (b : Bool) (o : Option Refusal) (x lacking : ℕ) where
  pub has_is : (n : Result ℕ Refusal) → b ≡ true → n ≡ resulted o x → n ≡ resulted (fault_if b o) (value_if b x lacking)
  unfolding fault_if value_if
  has_is n h e = rw h e

  pub lacks_is : b ≡ false → Ok lacking ≡ resulted (fault_if b o) (value_if b x lacking)
  unfolding fault_if value_if
  lacks_is h = rw h

fault_if_lem : (b : Bool) (o : Option Refusal) → fault_if b o ≡ none → b ≡ true → o ≡ none
unfolding fault_if
fault_if_lem true o e h = e
fault_if_lem false o e h = clash false h refl

if_fault : (b : Bool) (o : Option Refusal) → (b ≡ true → o ≡ none) → fault_if b o ≡ none
unfolding fault_if
if_fault true o h = h refl
if_fault false o h = refl

room_if : (b : Bool) (s : List ℕ) (at low high : ℕ) → at ≤ length s → (b ≡ true → Good s at low high) → at + width_if b ≤ length s
unfolding width_if
room_if true s at low high h g = omega (arith, g refl)
room_if false s at low high h g = omega arith

pub width_one : (b : Bool) → width_if b ≤ 4
unfolding width_if
width_one true = omega arith
width_one false = omega arith

-- a field's value: within its limits where the version has it, else as said
pub record Within (v : ℕ) (f : Field) (x : ℕ) : Type 0 where
  pub least : has v f ≡ true → f.low ≤ x
  pub most : has v f ≡ true → x ≤ f.high
  pub lacks : has v f ≡ false → x ≡ f.lacking

pub within_most : (v : ℕ) (f : Field) (x : ℕ) → Within v f x → f.lacking ≤ f.high → x ≤ f.high
within_most v f x w h = split (has v f) w.most (λ e. omega (arith, w.lacks e))

-- the same by the version's number
reaches_not : (v k : ℕ) → v < k → reaches v k ≡ false
unfolding reaches
reaches_not v zero h = absurd (let z : ⊥ = omega arith in z)
reaches_not v (suc k) h = lt-leb (suc k) v h

not_reaches : (v k : ℕ) → reaches v k ≡ false → v < k
unfolding reaches
not_reaches v zero e = clash true refl e
not_reaches v (suc k) e = leb-false (suc k) v e

pub within_lacks : (v : ℕ) (f : Field) (x : ℕ) → Within v f x → v < f.since → x ≡ f.lacking
within_lacks v f x w h = w.lacks (reaches_not v f.since h)

pub within_i : (v : ℕ) (f : Field) (x : ℕ) → f.low ≤ x → x ≤ f.high → (v < f.since → x ≡ f.lacking) → Within v f x
within_i v f x l m k = record { least = λ _. l; most = λ _. m; lacks = λ e. k (not_reaches v f.since e) }

within_if : (v : ℕ) (s : List ℕ) (at : ℕ) (f : Field) → (has v f ≡ true → Good s at f.low f.high)
    → Within v f (value_if (has v f) (number_at s at) f.lacking)
unfolding value_if
within_if v s at f g = record {
  least = λ h. rw h (g h).least;
  most = λ h. rw h (g h).most;
  lacks = λ h. rw h;
}

module _ (v : ℕ) where
  pub width_most : (fs : List Field) → width v fs ≤ 4 * length fs
  unfolding width
  width_most [] = omega arith
  width_most (f ∷ fs) = omega (arith, width_one (has v f), width_most fs)

  -- each field that the version has is good, from an offset on
  unfoldable pub GoodFields : List ℕ → ℕ → List Field → Type 0
  GoodFields s at [] = Unit {0}
  GoodFields s at (f ∷ fs) = (has v f ≡ true → Good s at f.low f.high) × GoodFields s (at + width_if (has v f)) fs

  -- one value for each field, each within its limits
  unfoldable pub AllWithin : List Field → List ℕ → Type 0
  AllWithin [] xs = xs ≡ []
  AllWithin (f ∷ fs) [] = ⊥
  AllWithin (f ∷ fs) (x ∷ xs) = Within v f x × AllWithin fs xs

  module _ (s : List ℕ) where
    pub fields_good : (at : ℕ) (fs : List Field) → fields_fault v s at fs ≡ none → GoodFields s at fs
    unfolding GoodFields fields_fault
    fields_good at [] e = tt
    fields_good at (f ∷ fs) e =
        (λ q. field_good s at _ _ (Value at) (fault_if_lem _ _ (or_else_l _ _ e) q), fields_good (at + width_if (has v f)) fs (or_else_r _ _ e))

    pub good_fields : (at : ℕ) (fs : List Field) → GoodFields s at fs → fields_fault v s at fs ≡ none
    unfolding GoodFields fields_fault
    good_fields at [] g = refl
    good_fields at (f ∷ fs) g = or_else_i _ _ (if_fault _ _ (λ q. good_field s at _ _ (Value at) (g.0 q))) (good_fields (at + width_if (has v f)) fs g.1)

    pub fields_room : (at : ℕ) (fs : List Field) → at ≤ length s → GoodFields s at fs → at + width v fs ≤ length s
    unfolding GoodFields width
    fields_room at [] h g = omega arith
    fields_room at (f ∷ fs) h g =
        omega (arith, fields_room (at + width_if (has v f)) fs (room_if (has v f) s at f.low f.high h g.0) g.1)

    pub fields_within : (at : ℕ) (fs : List Field) → GoodFields s at fs → AllWithin fs (fields_at v s at fs)
    unfolding GoodFields AllWithin fields_at
    fields_within at [] g = refl
    fields_within at (f ∷ fs) g = (within_if v s at f g.0, fields_within (at + width_if (has v f)) fs g.1)
