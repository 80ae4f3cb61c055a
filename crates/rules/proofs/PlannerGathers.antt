-- The planner by receiving task: once tasks 0 to j - 1 are placed, their rows and so their fault sets are those of the plan it will give, and
-- change no more; a later task has no primary yet, and its set is empty.
use Prim.Native.Nat.{ℕ, zero, suc, ◌≤◌, ◌<◌}
use mathlib.Core.Bool.{Bool, false}
use mathlib.Core.Path.{◌≡◌, sym, ◌∙◌, ap}
use native.Mathlib.Omega.{arith}
use native.Mathlib.Decide.{dec_lt}
use Rattle.reader.specs.declared.job.Job.{Job}
use Rattle.reader.specs.declared.plan.Plan.{Plan}
use Rattle.reader.specs.Entries.{tasks}
use Rattle.reader.specs.Sound.{Sound}
use Rattle.rules.specs.declared.Copy.{Copy}
use Rattle.rules.specs.Tables.{put}
use Rattle.rules.specs.Rules.{Row, blank_row, rows}
use Rattle.rules.specs.Attempts.{placed}
use Rattle.rules.specs.Planner.{place_tasks, planner_with}
use Rattle.rules.specs.Gathering.{gathered_to}
use Rattle.rules.proofs.TableLaws.{put_other}
use Rattle.rules.proofs.AttemptLaws.{bind_placed}
use Rattle.rules.proofs.GatheringLaws.{gathered_rules}
use Rattle.rules.proofs.PlannedPasses.{from_table, planned_rows}

module _ (job : Job) (may : ℕ → Copy → Bool) where
  -- one task more is one row more
  one_more : {C : Type 0} (n : ℕ) (t : ℕ → Row) → place_tasks job may (suc n) ≡ placed t
      → ((before : ℕ → Row) (r : Row) → place_tasks job may n ≡ placed before → put before n r ≡ t → C) → C
  unfolding place_tasks
  one_more n t h go = bind_placed _ _ t h λ before hb h2. bind_placed _ _ t h2 λ r hr h3. go before r hb (cc)

  -- no primary yet
  pub later_blank : (n : ℕ) (t : ℕ → Row) → place_tasks job may n ≡ placed t → (i : ℕ) → n ≤ i → t i ≡ blank_row
  unfolding place_tasks
  later_blank zero t h i p = let e : ◌≡◌ {A = ℕ → Row} (λ i. blank_row) t = cc in ap (λ f. f i) (sym e)
  later_blank (suc n) t h i p =
      one_more n t h λ before r hb e. ap (λ f. f i) (sym e) ∙ put_other before n r i (λ c. omega arith) ∙ later_blank n before hb i (omega arith)

  -- so an empty set
  pub later_empty : (n : ℕ) (t : ℕ → Row) → place_tasks job may n ≡ placed t → (i q : ℕ) → n ≤ i → (t i).faults q ≡ false
  unfolding blank_row
  later_empty n t h i q p = ap (λ (r : Row). r.faults q) (later_blank n t h i p)

  -- rows stay
  pub placed_stays : (m j : ℕ) (s t : ℕ → Row) → j ≤ m → place_tasks job may j ≡ placed s → place_tasks job may m ≡ placed t
      → (i : ℕ) → i < j → t i ≡ s i
  placed_stays zero j s t l hs ht i p = absurd (let z : ⊥ = omega arith in z)
  placed_stays (suc m) j s t l hs ht i p =
      elim (dec_lt m j) [
        | yes q ↦ let e : j ≡ suc m = omega arith in let same : t ≡ s = both e in ap (λ f. f i) same
        | no q ↦
            one_more m t ht λ before r hb e.
            ap (λ f. f i) (sym e) ∙ put_other before m r i (λ c. omega arith) ∙ placed_stays m j s before (omega arith) hs hb i p
      ]
    where
      both : j ≡ suc m → t ≡ s
      both e = let two : place_tasks job may (suc m) ≡ placed s = ap (λ n. place_tasks job may n) (sym e) ∙ hs in cc

  -- of the plan that is given
  module _ (sound : Sound job) (plan : Plan) (h : planner_with may job ≡ placed plan)
      (j : ℕ) (s : ℕ → Row) (low : j ≤ tasks job) (hs : place_tasks job may j ≡ placed s) where
    pub placed_rows : (i : ℕ) → i < j → s i ≡ rows job plan i
    placed_rows i p =
        from_table job sound may plan h λ t ht table e.
        sym (placed_stays (tasks job) j s t low hs ht i p) ∙ ap (λ f. f i) (sym (planned_rows job sound t plan table e))

    pub placed_gathered : (i : ℕ) → i < j → (s i).faults ≡ gathered_to job plan j i
    placed_gathered i p = ap (λ (r : Row). r.faults) (placed_rows i p) ∙ sym (gathered_rules job plan j i p)
