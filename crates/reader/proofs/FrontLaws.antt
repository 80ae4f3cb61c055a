-- Two files that agree up to an offset: what stands before it is the same, and so are its faults.
use Prim.Native.Nat.{ℕ, ◌+◌, ◌*◌, ◌≤◌, ◌<◌}
use native.Mathlib.Omega.{arith}
use mathlib.Core.Path.{◌≡◌, refl, ap₂}
use mathlib.Core.Bool.{Bool, true, false}
use mathlib.Core.List.{List, [], ◌∷◌}
use mathlib.Core.Option.{Option, none, some}
use lib.ListN.{length, get_or, replicate}
use borrow.Author.Tests.{le-leb}
use Rattle.reader.specs.declared.refusal.Refusal.{Refusal}
use Rattle.reader.specs.declared.refusal.Refusal.TheVariants.{Value}
use Rattle.reader.specs.First.{◌or_else◌}
use Rattle.reader.specs.Limits.{max_nodes, max_time}
use Rattle.reader.specs.Number.{number_at, field_fault, value_fault}
use Rattle.reader.specs.Fields.{Field, task_fields, task_from, width_if, fault_if, value_if, has, width, fields_fault, fields_at}
use Rattle.reader.specs.JobFile.{task_width, run_fault, run_at, task_fault, task_at}
use Rattle.reader.proofs.FirstLaws.{first_same}
use Rattle.reader.proofs.FillLaws.{fill_same}

pub same_or_else : {A : Type 0} (a b c d : Option A) → a ≡ c → (a ≡ none → b ≡ d) → (a or_else b) ≡ (c or_else d)
unfolding ◌or_else◌
same_or_else none b c d e f = rw (← e) (f refl)
same_or_else (some r) b c d e f = rw (← e)

module _ (m : ℕ) (s t : List ℕ) (in_s : m ≤ length s) (in_t : m ≤ length t) (same : (i : ℕ) → i < m → get_or s i 0 ≡ get_or t i 0) where
  pub number_same : (at : ℕ) → at + 4 ≤ m → number_at s at ≡ number_at t at
  unfolding number_at
  number_same at h = rw (same at (omega arith), same (at + 1) (omega arith), same (at + 2) (omega arith), same (at + 3) (omega arith))

  pub field_same : (at low high : ℕ) (r : Refusal) → at + 4 ≤ m → field_fault s at low high r ≡ field_fault t at low high r
  unfolding field_fault
  field_same at low high r h =
      rw (number_same at h, le-leb (at + 4) (length s) (omega arith), le-leb (at + 4) (length t) (omega arith))

  -- a field that the version has, or lacks
  fault_same : (b : Bool) (at low high : ℕ) → at + width_if b ≤ m → fault_if b (value_fault s at low high) ≡ fault_if b (value_fault t at low high)
  unfolding fault_if width_if
  fault_same true at low high h = field_same at low high (Value at) h
  fault_same false at low high h = refl

  value_same : (b : Bool) (at lacking : ℕ) → at + width_if b ≤ m → value_if b (number_at s at) lacking ≡ value_if b (number_at t at) lacking
  unfolding value_if width_if
  value_same true at lacking h = number_same at h
  value_same false at lacking h = refl

  module _ (v : ℕ) where
    pub fields_same : (at : ℕ) (fs : List Field) → at + width v fs ≤ m → fields_fault v s at fs ≡ fields_fault v t at fs
    unfolding fields_fault width
    fields_same at [] h = refl
    fields_same at (f ∷ fs) h =
        same_or_else _ _ _ _ (fault_same (has v f) at f.low f.high (omega arith)) λ _. fields_same (at + width_if (has v f)) fs (omega arith)

    fields_at_same : (at : ℕ) (fs : List Field) → at + width v fs ≤ m → fields_at v s at fs ≡ fields_at v t at fs
    unfolding fields_at width
    fields_at_same at [] h = refl
    fields_at_same at (f ∷ fs) h =
        ap₂ (λ x xs. x ∷ xs) (value_same (has v f) at f.lacking (omega arith)) (fields_at_same (at + width_if (has v f)) fs (omega arith))

    -- a task's entry, of p run times
    pub task_same : (at p : ℕ) → at + task_width v p ≤ m → task_fault v s at p ≡ task_fault v t at p
    unfolding task_fault run_fault task_width
    task_same at p h =
        same_or_else _ _ _ _ (fields_same at task_fields (omega arith)) λ _.
        first_same _ _ _ (λ i l. field_same (at + width v task_fields + 4 * i) 0 max_time (Value (at + width v task_fields + 4 * i)) (omega arith))

    pub task_at_same : (at p : ℕ) → at + task_width v p ≤ m → task_at v s at p ≡ task_at v t at p
    unfolding task_at run_at task_width
    task_at_same at p h =
        ap₂ task_from (fields_at_same at task_fields (omega arith))
        (fill_same _ _ (replicate max_nodes 0) p (λ i l. number_same (at + width v task_fields + 4 * i) (omega arith)))
