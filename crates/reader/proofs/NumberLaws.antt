-- Laws of one number's answer: what the code finds at an offset, and what each case of the answer says of the fault.
use Prim.Native.Nat.{ℕ, ◌+◌, ◌-◌, ◌≤◌, ◌<◌}
use mathlib.Core.Path.{◌≡◌, sym, ap, ◌∙◌}
use mathlib.Core.List.{List, ◌++◌}
use mathlib.Core.Bool.{true}
use mathlib.Core.Option.{Option, none, some}
use lib.ListN.{length, drop, replicate, length-drop, length-replicate}
use lib.Seq.{drop_at}
use lib.Dec.{leb}
use native.Mathlib.Omega.{arith}
use borrow.Author.Tests.{le-leb, lt-leb}
use Rattle.reader.specs.declared.refusal.Refusal.{Refusal}
use Rattle.reader.specs.declared.refusal.Refusal.TheVariants.{Short}
use Rattle.std.specs.Prelude.{Result, Ok, Err}
use Rattle.reader.specs.Tests.{◌and◌}
use Rattle.reader.specs.First.{◌or_else◌, unless}
use Rattle.reader.specs.Number.{number_at, field_fault}
use Rattle.reader.specs.Refusals.{resulted}
use Rattle.reader.proofs.RefusalLaws.{resulted_none, resulted_value, resulted_fault}
use Rattle.reader.proofs.FieldLaws.{field_good}
use Rattle.reader.proofs.ByteLaws.{number_drop}

-- a number, in a part of the file that begins at base
module _ (file part : List ℕ) (base at low high : ℕ) (otherwise : Refusal) (is_part : drop base file ≡ part) (begun : base ≤ at) where
  abbrev answer : Result ℕ Refusal
  answer = resulted (field_fault file at low high otherwise) (number_at file at)

  long : length part ≡ length file - base
  long = sym (ap length is_part) ∙ length-drop base file

  pub field_short : length part < at - base + 4 → Err (Short at) ≡ answer
  unfolding field_fault unless ◌or_else◌
  field_short h = rw (lt-leb (at + 4) (length file) (omega (arith, long)))

  module _ (room : at - base + 4 ≤ length part) (v : ℕ) (is : v ≡ number_at part (at - base)) where
    whole : leb (at + 4) (length file) ≡ true
    whole = le-leb (at + 4) (length file) (omega (arith, long))

    same : v ≡ number_at file at
    same =
        let e : base + (at - base) ≡ at = omega arith in
        is ∙ ap (λ s. number_at s (at - base)) (sym is_part) ∙ number_drop file base (at - base) ∙ ap (number_at file) e

    pub field_low : v < low → Err otherwise ≡ answer
    unfolding field_fault unless ◌or_else◌ ◌and◌
    field_low h = rw (whole, ← same, lt-leb low v h)

    pub field_high : low ≤ v → high < v → Err otherwise ≡ answer
    unfolding field_fault unless ◌or_else◌ ◌and◌
    field_high l h = rw (whole, ← same, le-leb low v l, lt-leb v high h)

    pub field_is : low ≤ v → v ≤ high → Ok v ≡ answer
    unfolding field_fault unless ◌or_else◌ ◌and◌
    field_is l h = rw (whole, ← same, le-leb low v l, le-leb v high h)

-- what the cases of a result say
module _ {A : Type 0} (n : Result A Refusal) (o : Option Refusal) (v : A) (is : n ≡ resulted o v) where
  pub is_none : {x : A} → n ≡ Ok x → o ≡ none
  is_none q = resulted_none v o (sym is ∙ q)

  pub is_value : {x : A} → n ≡ Ok x → x ≡ v
  is_value q = resulted_value v o (sym is ∙ q)

  pub is_fault : {r : Refusal} → n ≡ Err r → o ≡ some r
  is_fault q = resulted_fault v o (sym is ∙ q)

-- a number that was read is within its limits, and in the file
pub is_good : (n : Result ℕ Refusal) (s : List ℕ) (at low high : ℕ) (r : Refusal) {x : ℕ}
    → n ≡ resulted (field_fault s at low high r) (number_at s at) → n ≡ Ok x → (low ≤ x) × (x ≤ high) × (at + 4 ≤ length s)
is_good n s at low high r {x} is q =
    let g = field_good s at low high r (is_none n _ _ is q) in
    let e : x ≡ number_at s at = is_value n _ _ is q in
    (omega (arith, g.least), omega (arith, g.most), g.room)

-- there is a file of which the part is the part from base on
pub some_file : (base : ℕ) (part : List ℕ) → drop base (replicate base 0 ++ part) ≡ part
some_file base part = drop_at (replicate base 0) part base (length-replicate base 0)
