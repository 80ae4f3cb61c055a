-- What a number that is not at fault says.
use Prim.Native.Nat.{ℕ, ◌+◌, ◌≤◌}
use mathlib.Core.Path.{◌≡◌}
use mathlib.Core.List.{List}
use mathlib.Core.Option.{none}
use lib.ListN.{length}
use lib.Dec.{leb}
use borrow.Author.Tests.{leb-true, le-leb}
use Rattle.reader.specs.declared.refusal.Refusal.{Refusal}
use Rattle.reader.specs.Tests.{◌and◌}
use Rattle.reader.specs.Number.{number_at, field_fault}
use Rattle.reader.proofs.TestLaws.{and_l, and_r, and_i}
use Rattle.reader.proofs.FirstLaws.{or_else_l, or_else_r, or_else_i, unless_none, none_unless}

-- a whole number stands there, from low to high
pub record Good (s : List ℕ) (at low high : ℕ) : Type 0 where
  pub least : low ≤ number_at s at
  pub most : number_at s at ≤ high
  pub room : at + 4 ≤ length s

pub field_good : (s : List ℕ) (at low high : ℕ) (r : Refusal) → field_fault s at low high r ≡ none → Good s at low high
unfolding field_fault
field_good s at low high r e =
    let limits = unless_none (leb low (number_at s at) and leb (number_at s at) high) r (or_else_r _ _ e) in
    record {
      least = leb-true low (number_at s at) (and_l _ _ limits);
      most = leb-true (number_at s at) high (and_r _ _ limits);
      room = leb-true (at + 4) (length s) (unless_none _ _ (or_else_l _ _ e));
    }

pub good_field : (s : List ℕ) (at low high : ℕ) (r : Refusal) → Good s at low high → field_fault s at low high r ≡ none
unfolding field_fault
good_field s at low high r g =
    or_else_i _ _ (none_unless _ _ (le-leb (at + 4) (length s) g.room))
    (none_unless _ _ (and_i _ _ (le-leb low (number_at s at) g.least) (le-leb (number_at s at) high g.most)))
