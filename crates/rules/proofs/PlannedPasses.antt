-- The planner's plan reads well, passes the judge, and so survives any one loss.
use Prim.Native.Nat.{ℕ, zero, suc, ◌<◌}
use mathlib.Core.Bool.{Bool}
use mathlib.Core.Path.{◌≡◌, refl, sym, ◌∙◌, ap, subst}
use lib.ListN.{replicate, length-replicate}
use borrow.Author.Tests.{le-leb}
use native.Mathlib.Nat.{not-suc-le-zero}
use native.Mathlib.Omega.{arith}
use Rattle.reader.specs.declared.job.Job.{Job}
use Rattle.reader.specs.declared.plan.Plan.{Plan}
use Rattle.std.specs.Prelude.{Ok}
use Rattle.reader.specs.declared.plan.Place.{Place}
use Rattle.reader.specs.First.{fill}
use Rattle.reader.specs.Limits.{max_tasks}
use Rattle.reader.specs.Entries.{tasks, deadline, link, place, no_place}
use Rattle.reader.specs.Sound.{Sound, PlanSound}
use Rattle.reader.proofs.TestLaws.{and_r, and_i, below_suc}
use Rattle.rules.specs.declared.Copy.{Copy}
use Rattle.rules.specs.declared.Loss.{Loss}
use Rattle.rules.specs.Tables.{put}
use Rattle.rules.specs.Copies.{copy}
use Rattle.rules.specs.Rules.{Row, row, planned_row, blank_row, rows_to, rows, rule_c, rule_g}
use Rattle.rules.specs.Judge.{judge}
use Rattle.rules.specs.Replay.{replay}
use Rattle.rules.specs.Survival.{LossOf, Survives}
use Rattle.rules.specs.Attempts.{placed}
use Rattle.rules.specs.Planner.{primary_may, place_tasks, place_of, plan_of, planner_with, anywhere, planner}
use Rattle.rules.specs.Breach.{Kept}
use Rattle.rules.specs.Choice.{Able, Best, backup_keeps_beside}
use Rattle.rules.proofs.TableLaws.{put_same, put_other, grow_start, grow_more}
use Rattle.reader.proofs.FillLaws.{fill_get}
use Rattle.rules.proofs.AttemptLaws.{bind_placed}
use Rattle.rules.proofs.JudgeLaws.{judge_done}
use Rattle.rules.proofs.KeepsLaws.{PrimaryKept, BackupKept, primary_keeps_lem, backup_keeps_lem, primary_kept_on, backup_kept_on}
use Rattle.rules.proofs.PlaceTaskLaws.{place_task_placed}
use Rattle.rules.proofs.PassedSurvives.{passed_survives}

-- a copy of task j that its node can run in time
pub record Placed (job : Job) (j : ℕ) (c : Copy) : Type 0 where
  pub is : copy job j c.node c.start ≡ c
  pub able : Able job j c.node c.start

-- row r keeps the rules beside the rows before task j
pub record Keeps (job : Job) (m : ℕ) (before : ℕ → Row) (j : ℕ) (r : Row) : Type 0 where
  pub primary : Placed job j r.primary
  pub backup : Placed job j r.backup
  pub primary_kept : PrimaryKept job m before j r.primary
  pub backup_kept : BackupKept job m before j r

-- the best places keep the rules
pub best_keeps : (job : Job) (may : Copy → Bool) (m : ℕ) (before : ℕ → Row) (j : ℕ) (p b : Copy) → Best job j (primary_may job may m before j) p
    → Best job j (backup_keeps_beside job m before j p) b → Keeps job m before j (row job before j p b)
unfolding row
best_keeps job may m before j p b best_p best_b =
    record {
      primary = record { is = best_p.is; able = best_p.place.able };
      backup = record { is = best_b.is; able = best_b.place.able };
      primary_kept = subst (PrimaryKept job m before j) best_p.is ((primary_keeps_lem job m before j _).0 (and_r _ _ best_p.place.keeps_rules_lem));
      backup_kept = subst (λ c. BackupKept job m before j (row job before j p c)) best_b.is
          ((backup_keeps_lem job m before j _).0 best_b.place.keeps_rules_lem);
    }

-- a row keeps the rules beside all tables that agree before it
keeps_on : (job : Job) → Sound job → (f g : ℕ → Row) (j : ℕ) → ((i : ℕ) → i < j → f i ≡ g i) → (r : Row)
    → Keeps job j f j r → Keeps job j g j r
keeps_on job sound f g j agree r k =
    record {
      primary = k.primary;
      backup = k.backup;
      primary_kept = primary_kept_on job sound f g j agree r.primary k.primary_kept;
      backup_kept = backup_kept_on job sound f g j agree r k.backup_kept;
    }

-- the first n rows keep the rules, and are those of every plan with their places
pub record Table (job : Job) (n : ℕ) (t : ℕ → Row) : Type 0 where
  pub keeps : (j : ℕ) → j < n → Keeps job j t j (t j)
  pub planned : (plan : Plan) → ((j : ℕ) → j < n → place plan j ≡ place_of (t j)) → rows_to job plan n ≡ t

module _ (job : Job) (sound : Sound job) where
  table_start : Table job 0 (λ i. blank_row)
  table_start = record { keeps = λ j p. absurd (not-suc-le-zero p); planned = λ plan e. grow_start blank_row (planned_row job plan) }

  table_more : (n : ℕ) (t : ℕ → Row) (p b : Copy) → Table job n t → Keeps job n t n (row job t n p b)
      → Table job (suc n) (put t n (row job t n p b))
  unfolding row place_of planned_row
  table_more n t p b table k =
      let r = row job t n p b in
      let before : (i : ℕ) → i < n → put t n r i ≡ t i = λ i q. put_other t n r i (omega arith) in
      record {
        keeps = λ j q.
            below_suc j n q
            (λ l. rw (before j l) (keeps_on job sound t (put t n r) j (λ i m. sym (before i (omega arith))) (t j) (table.keeps j l)))
            (λ e. rw (e, put_same t n r) (keeps_on job sound t (put t n r) n (λ i m. sym (before i m)) r k));
        planned = λ plan e.
            grow_more blank_row (planned_row job plan) n
            ∙ rw (
              table.planned plan (λ j q. e j (omega arith) ∙ ap place_of (before j q)),
              e n (omega arith),
              put_same t n r,
              k.primary.is,
              k.backup.is,
            );
      }

  pub table_placed : (may : ℕ → Copy → Bool) (n : ℕ) (t : ℕ → Row) → place_tasks job may n ≡ placed t → Table job n t
  unfolding place_tasks
  table_placed may zero t h = subst (Table job 0) (let e : ◌≡◌ {A = ℕ → Row} (λ i. blank_row) t = cc in e) table_start
  table_placed may (suc n) t h =
      bind_placed _ _ t h λ before hb h2. bind_placed _ _ t h2 λ r hr h3.
      let w = (place_task_placed job (may n) n before n r).0 hr in
      let e : put before n (row job before n w.0 w.1) ≡ t = cc w.4 in
      let keeps = best_keeps job (may n) n before n w.0 w.1 w.2 w.3 in
      subst (Table job (suc n)) e (table_more n before w.0 w.1 (table_placed may n before hb) keeps)

  pub place_plan_of : (t : ℕ → Row) (j : ℕ) → j < tasks job → place (plan_of job t) j ≡ place_of (t j)
  unfolding plan_of
  place_plan_of t j p =
      fill_get (λ j. place_of (t j)) (replicate max_tasks no_place) no_place (tasks job) j p
      (omega (arith, sound.tasks_most, length-replicate max_tasks no_place))

  -- the rows of the plan that has them
  pub planned_rows : (t : ℕ → Row) (plan : Plan) → Table job (tasks job) t → plan_of job t ≡ plan → rows job plan ≡ t
  planned_rows t plan table e = table.planned plan (λ j p. ap (λ plan. place plan j) (sym e) ∙ place_plan_of t j p)

  -- a table that keeps the rules beside itself keeps them all
  table_kept : (t : ℕ → Row) → ((j : ℕ) → j < tasks job → Keeps job j t j (t j)) → Kept job t
  unfolding rule_c rule_g copy
  table_kept t keeps =
      record {
        a = λ j p. (keeps j p).backup_kept.a;
        ready = λ j p. (keeps j p).primary_kept.ready;
        b = λ j p. (keeps j p).backup_kept.b;
        c = λ j p.
            let backup = (keeps j p).backup in
            le-leb (t j).backup.finish (deadline job j) (omega (arith, ap (λ c. c.finish) backup.is));
        d = λ k p. (keeps (link job k).to (sound.into k p)).primary_kept.d k p refl;
        e = λ k p. (keeps (link job k).to (sound.into k p)).backup_kept.e k p refl;
        f = λ j p. (keeps j p).backup_kept.f;
        g = λ i j p q. and_i _ _ ((keeps j q).primary_kept.g i p) ((keeps j q).backup_kept.g i p);
      }

  reads : (t : ℕ → Row) → ((j : ℕ) → j < tasks job → Keeps job j t j (t j)) → PlanSound job (plan_of job t)
  unfolding plan_of place_of
  reads t k =
      record {
        version = refl;
        count = refl;
        primary_node = λ j p. rw (place_plan_of t j p) (k j p).primary.able.node;
        primary_able = λ j p. rw (place_plan_of t j p) (k j p).primary.able.runs;
        primary_start = λ j p. rw (place_plan_of t j p) (omega (arith, (k j p).primary.able, sound.deadline_most j p));
        backup_node = λ j p. rw (place_plan_of t j p) (k j p).backup.able.node;
        backup_able = λ j p. rw (place_plan_of t j p) (k j p).backup.able.runs;
        backup_start = λ j p. rw (place_plan_of t j p) (omega (arith, (k j p).backup.able, sound.deadline_most j p));
      }

  -- whatever the primaries may be
  module _ (may : ℕ → Copy → Bool) (plan : Plan) (h : planner_with may job ≡ placed plan) where
    -- the plan is that of a table that was placed
    pub from_table : {C : Type 0}
        → ((t : ℕ → Row) → place_tasks job may (tasks job) ≡ placed t → Table job (tasks job) t → plan_of job t ≡ plan → C) → C
    unfolding planner_with
    from_table go = bind_placed _ _ plan h λ t ht e. go t ht (table_placed may (tasks job) t ht) (cc)

    pub with_sound : PlanSound job plan
    with_sound = from_table λ t ht table e. subst (PlanSound job) e (reads t table.keeps)

    pub with_passes : judge job plan ≡ Ok tt
    with_passes =
        from_table λ t ht table e.
        (judge_done job plan).1 (subst (Kept job) (sym (planned_rows t plan table e)) (table_kept t table.keeps))

    -- nothing stands behind the counted places
    pub with_places : (f : ℕ → Place) × (plan.places ≡ fill (tasks job) f (replicate max_tasks no_place))
    unfolding plan_of
    with_places = from_table λ t ht table e. (λ j. place_of (t j), ap (λ p. p.places) (sym e))

    pub with_survives : (loss : Loss) → LossOf job loss → Survives job (rows job plan) loss (replay job plan loss)
    with_survives = passed_survives job plan sound with_sound with_passes

  -- the planner's own plan
  module _ (plan : Plan) (h : planner job ≡ placed plan) where
    pub planned_sound : PlanSound job plan
    unfolding planner
    planned_sound = with_sound anywhere plan h

    pub planned_passes : judge job plan ≡ Ok tt
    unfolding planner
    planned_passes = with_passes anywhere plan h

    pub planned_places : (f : ℕ → Place) × (plan.places ≡ fill (tasks job) f (replicate max_tasks no_place))
    unfolding planner
    planned_places = with_places anywhere plan h

    pub planned_survives : (loss : Loss) → LossOf job loss → Survives job (rows job plan) loss (replay job plan loss)
    unfolding planner
    planned_survives = with_survives anywhere plan h
