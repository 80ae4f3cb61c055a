-- Laws of reading one place: a node that can run the task, and the four numbers in turn.
use Prim.Native.Nat.{ℕ, ◌+◌, ◌-◌}
use mathlib.Core.Path.{◌≡◌, sym, ap, ◌∙◌}
use mathlib.Core.List.{List}
use mathlib.Core.Option.{none, some}
use lib.Dec.{ltb}
use lib.ListN.{get_or}
use borrow.Author.Tests.{lt-ltb, le-ltb}
use native.Mathlib.Omega.{arith}
use Rattle.reader.specs.declared.plan.Place.{Place}
use Rattle.reader.specs.declared.refusal.Refusal.{Refusal}
use Rattle.reader.specs.declared.refusal.Refusal.TheVariants.{Unable}
use Rattle.std.specs.Prelude.{Ok, Err}
use Rattle.reader.specs.Refusals.{resulted}
use Rattle.reader.specs.First.{unless}
use Rattle.reader.specs.Number.{number_at, value_fault}
use Rattle.reader.specs.PlanFile.{node_fault, place_at}
use Rattle.reader.proofs.Chain.{pass, stop}

-- v is the number of the node
module _ (s : List ℕ) (at p : ℕ) (run : List ℕ) where
  pub bad_number : {r : Refusal} → value_fault s at 0 (p - 1) ≡ some r → node_fault s at p run ≡ some r
  unfolding node_fault
  bad_number q = stop _ q

  module _ (v : ℕ) (fv : value_fault s at 0 (p - 1) ≡ none) (same : v ≡ number_at s at) where
    tested : node_fault s at p run ≡ unless (ltb 0 (get_or run v 0)) (Unable at)
    unfolding node_fault
    tested = pass _ fv ∙ ap (λ x. unless (ltb 0 (get_or run x 0)) (Unable at)) (sym same)

    pub node_unable : get_or run v 0 ≡ 0 → Err (Unable at) ≡ resulted (node_fault s at p run) (number_at s at)
    unfolding unless
    node_unable z = rw (tested, le-ltb 0 (get_or run v 0) (omega arith))

    pub node_able : (get_or run v 0 ≡ 0 → ⊥) → Ok v ≡ resulted (node_fault s at p run) (number_at s at)
    unfolding unless
    node_able z = rw (tested, lt-ltb 0 (get_or run v 0) (omega arith)) (ap Ok same)

pub place_is : (s : List ℕ) (at : ℕ) {a b c d : ℕ} → a ≡ number_at s at → b ≡ number_at s (at + 4) → c ≡ number_at s (at + 8)
    → d ≡ number_at s (at + 12)
    → ◌≡◌ {A = Place} (record { primary_node = a; primary_start = b; backup_node = c; backup_start = d }) (place_at s at)
unfolding place_at
place_is s at {a} {b} {c} {d} ea eb ec ed = cc
