-- Where the planner places a task: both copies at their best places; refused exactly if one of them has none.
use Prim.Native.Nat.{ℕ}
use mathlib.Core.Path.{◌≡◌, refl}
use mathlib.Core.Bool.{Bool}
use mathlib.Core.Logic.{◌↔◌, ◌⊎◌, inl, inr, ⊎_elim}
use Rattle.reader.specs.declared.job.Job.{Job}
use Rattle.reader.specs.declared.refusal.Refusal.{Refusal}
use Rattle.reader.specs.declared.refusal.Refusal.TheVariants.{NoPrimary, NoBackup}
use Rattle.reader.proofs.TestLaws.{never}
use Rattle.rules.specs.declared.Copy.{Copy}
use Rattle.rules.specs.Rules.{Row, row}
use Rattle.rules.specs.Attempts.{Attempt, refused, placed}
use Rattle.rules.specs.Planner.{primary_may, place_task}
use Rattle.rules.specs.Choice.{Best, NoPlace, backup_keeps_beside}
use Rattle.rules.proofs.AttemptLaws.{search_placed, search_refused}
use Rattle.rules.proofs.EarliestLaws.{earliest_some, earliest_none}

module _ (job : Job) (may : Copy → Bool) (m : ℕ) (before : ℕ → Row) (j : ℕ) where
  pub place_task_placed : (r : Row) → (place_task job may m before j ≡ placed r)
      ↔ ((p : Copy) × (b : Copy) × Best job j (primary_may job may m before j) p × Best job j (backup_keeps_beside job m before j p) b
      × (row job before j p b ≡ r))
  unfolding place_task
  place_task_placed r = (
    λ h.
        let outer = (search_placed _ _ _ r).0 h in
        let p = outer.0 in
        let inner = (search_placed _ _ _ r).0 outer.2 in
        let b = inner.0 in
        let e : ◌≡◌ {A = Attempt Row} (placed (row job before j p b)) (placed r) = inner.2 in
        (p, b, (earliest_some job j _ p).0 outer.1, (earliest_some job j _ b).0 inner.1, cc),
    λ w.
        (search_placed _ _ _ r).1 (
          w.0,
          (earliest_some job j _ w.0).1 w.2,
          (search_placed _ _ _ r).1 (w.1, (earliest_some job j _ w.1).1 w.3, rw w.4),
        ),
  )

  pub place_task_refused : (r : Refusal) → (place_task job may m before j ≡ refused r)
      ↔ ((NoPlace job j (primary_may job may m before j) × (NoPrimary j ≡ r))
      ⊎ ((p : Copy) × Best job j (primary_may job may m before j) p × NoPlace job j (backup_keeps_beside job m before j p) × (NoBackup j ≡ r)))
  unfolding place_task
  place_task_refused r = (
    λ h.
        ⊎_elim
        (λ w. inl ((earliest_none job j _).0 w.0, w.1))
        (λ w. ⊎_elim
        (λ v. inr (w.0, (earliest_some job j _ w.0).0 w.1, (earliest_none job j _).0 v.0, v.1))
        (λ v. never (let e : ◌≡◌ {A = Attempt Row} (placed (row job before j w.0 v.0)) (refused r) = v.2 in cc))
        ((search_refused _ _ _ r).0 w.2))
        ((search_refused _ _ _ r).0 h),
    ⊎_elim
        (λ w. (search_refused _ _ _ r).1 (inl ((earliest_none job j _).1 w.0, w.1)))
        (λ w.
        let stops = (search_refused _ _ _ r).1 (inl ((earliest_none job j _).1 w.2, w.3)) in
        (search_refused _ _ _ r).1 (inr (w.0, (earliest_some job j _ w.0).1 w.1, stops))),
  )

  -- 15: no node and start keeps the rules for the primary
  pub no_primary : (place_task job may m before j ≡ refused (NoPrimary j)) ↔ NoPlace job j (primary_may job may m before j)
  no_primary = (
    λ h. ⊎_elim (λ w. w.0) (λ w. never (let e = w.3 in cc)) ((place_task_refused (NoPrimary j)).0 h),
    λ w. (place_task_refused (NoPrimary j)).1 (inl (w, refl)),
  )

  -- 16: the primary has its place, and then no node and start keeps them for the backup
  pub no_backup : (place_task job may m before j ≡ refused (NoBackup j))
      ↔ ((p : Copy) × Best job j (primary_may job may m before j) p × NoPlace job j (backup_keeps_beside job m before j p))
  no_backup = (
    λ h. ⊎_elim (λ w. never (let e = w.1 in cc)) (λ w. (w.0, w.1, w.2)) ((place_task_refused (NoBackup j)).0 h),
    λ w. (place_task_refused (NoBackup j)).1 (inr (w.0, w.1, w.2, refl)),
  )
