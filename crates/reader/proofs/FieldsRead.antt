-- Laws of reading an entry: its fields one by one, of which each passes or stops with its refusal; then the entry.
use Prim.Native.Nat.{ℕ, ◌+◌, ◌*◌}
use native.Mathlib.Omega.{arith}
use mathlib.Core.Path.{◌≡◌, refl, sym, ap, ap₂, ◌∙◌, subst}
use mathlib.Core.List.{List, [], ◌∷◌}
use mathlib.Core.Option.{none, some}
use Rattle.reader.specs.declared.refusal.Refusal.{Refusal}
use Rattle.std.specs.Prelude.{Result, Ok, Err}
use Rattle.reader.specs.Refusals.{resulted}
use Rattle.reader.specs.Number.{number_at, value_fault}
use Rattle.reader.specs.Fields.{Field, node_fields, task_fields, node_from, task_from, width_if, fault_if, value_if, has, width, fields_fault, fields_at}
use Rattle.reader.specs.JobFile.{node_width, task_width, node_at, run_fault, run_at, task_fault, task_at}
use Rattle.reader.proofs.NumberLaws.{is_none, is_value, is_fault}
use Rattle.reader.proofs.Chain.{pass, stop}

-- fields that were read without fault: their values, and the offset behind them
pub record FieldsRead (v : ℕ) (s : List ℕ) (at : ℕ) (fs : List Field) (xs : List ℕ) (end : ℕ) : Type 0 where
  pub fault : fields_fault v s at fs ≡ none
  pub values : xs ≡ fields_at v s at fs
  pub end_is : end ≡ at + width v fs

pub no_fields : {v : ℕ} {s : List ℕ} {at : ℕ} → FieldsRead v s at [] [] at
unfolding fields_fault fields_at width
no_fields = record { fault = refl; values = refl; end_is = omega arith }

-- fields of which the first fault is this
pub record Stops (v : ℕ) (s : List ℕ) (at : ℕ) (fs : List Field) (r : Refusal) : Type 0 where
  pub fault : fields_fault v s at fs ≡ some r

module _ {v : ℕ} {s : List ℕ} {at : ℕ} {f : Field} {fs : List Field} {y : Result ℕ Refusal}
    (ey : y ≡ resulted (fault_if (has v f) (value_fault s at f.low f.high)) (value_if (has v f) (number_at s at) f.lacking)) where
  pub stops_at : {r : Refusal} → y ≡ Err r → Stops v s at (f ∷ fs) r
  unfolding fields_fault
  stops_at q = record { fault = stop _ (is_fault y _ _ ey q) }

  module _ {x w : ℕ} (q : y ≡ Ok x) (ew : w ≡ width_if (has v f)) where
    pub stops_behind : {r : Refusal} → Stops v s (at + w) fs r → Stops v s at (f ∷ fs) r
    unfolding fields_fault
    stops_behind h = record { fault = pass _ (is_none y _ _ ey q) ∙ (ap (λ w. fields_fault v s (at + w) fs) (sym ew) ∙ h.fault) }

    pub reads_more : {xs : List ℕ} {end : ℕ} → FieldsRead v s (at + w) fs xs end → FieldsRead v s at (f ∷ fs) (x ∷ xs) end
    unfolding fields_fault fields_at width
    reads_more {xs} {end} r = record {
      fault = pass _ (is_none y _ _ ey q) ∙ (ap (λ w. fields_fault v s (at + w) fs) (sym ew) ∙ r.fault);
      values = ap₂ (λ x xs. x ∷ xs) (is_value y _ _ ey q) (subst (λ w. xs ≡ fields_at v s (at + w) fs) ew r.values);
      end_is = omega (arith, r.end_is, ew);
    }

-- a node, and a task, whose run times stand behind its fields
pub node_done : {v : ℕ} {s : List ℕ} {at end : ℕ} (i : ℕ) (xs : List ℕ) → FieldsRead v s at (node_fields i) xs end →
    (node_from xs ≡ node_at v s i at) × (end ≡ at + node_width v)
unfolding node_at node_width node_fields width
node_done i xs r = (ap node_from r.values, r.end_is)

module _ {v : ℕ} {s : List ℕ} {at : ℕ} (p : ℕ) where
  pub task_stopped : {r : Refusal} → Stops v s at task_fields r → task_fault v s at p ≡ some r
  unfolding task_fault
  task_stopped h = stop _ h.fault

  module _ {end : ℕ} (xs : List ℕ) (r : FieldsRead v s at task_fields xs end) where
    pub run_stopped : {e : Refusal} → run_fault s end p ≡ some e → task_fault v s at p ≡ some e
    unfolding task_fault
    run_stopped {e} h = pass _ r.fault ∙ subst (λ k. run_fault s k p ≡ some e) r.end_is h

    pub run_fine : run_fault s end p ≡ none → task_fault v s at p ≡ none
    unfolding task_fault
    run_fine h = pass _ r.fault ∙ subst (λ k. run_fault s k p ≡ none) r.end_is h

    pub task_done : {run : List ℕ} → run ≡ run_at s end p → (task_from xs run ≡ task_at v s at p) × (end + 4 * p ≡ at + task_width v p)
    unfolding task_at task_width
    task_done {run} h = (ap₂ task_from r.values (subst (λ k. run ≡ run_at s k p) r.end_is h), omega (arith, r.end_is))
