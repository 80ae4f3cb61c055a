-- Laws of gathering task by task: from the own nodes to the fault sets of the rules.
use Prim.Native.Nat.{ℕ, ◌+◌, ◌*◌, ◌≤◌, ◌<◌}
use mathlib.Core.List.{List}
use mathlib.Core.Path.{refl}
use native.Mathlib.Omega.{arith}
use lib.ListN.{get_or, set}
use Rattle.reader.specs.declared.job.Job.{Job}
use Rattle.reader.specs.declared.plan.Plan.{Plan}
use Rattle.copies.specs.Gathered.{SetsTo, Gathers}
use Rattle.judge.specs.Faults.{Receiving}

-- after the first j tasks, from the sets s
pub record Filling (into : List ℕ) (n : ℕ) (s : List ℕ) (j : ℕ) (sets : List ℕ) : Type 0 where
  pub within : j ≤ n
  pub is : (job : Job) (plan : Plan) → Receiving job plan into n → SetsTo job plan 0 s → SetsTo job plan j sets

module _ (into : List ℕ) (n : ℕ) (s : List ℕ) (j : ℕ) (sets : List ℕ) (h : Filling into n s j sets) where
  pub fill_more : j < n → (x : ℕ) → Gathers sets (get_or sets (2 * j + 1) 0) (get_or into j 0) x
      → Filling into n s (j + 1) (set sets (2 * j + 1) x)
  fill_more low x gathers =
      record {
        within = omega arith;
        is = λ job plan r begin.
            gathers job plan j r.sound (omega (arith, r.count)) (r.arrives j low) refl (h.is job plan r begin);
      }
