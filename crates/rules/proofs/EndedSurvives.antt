-- Copies that end sooner than listed: firm rows stay firm, so a plan that the judge passes survives any one loss with every list of times.
use Prim.Native.Nat.{ℕ, zero, suc, ◌+◌, ◌≤◌, ◌<◌}
use mathlib.Core.Bool.{Bool, true, false}
use mathlib.Core.Path.{◌≡◌, refl, sym, ◌∙◌, ap, subst}
use borrow.Author.Tests.{leb-true, le-leb}
use native.Mathlib.Omega.{arith}
use Rattle.reader.specs.declared.job.Job.{Job}
use Rattle.reader.specs.declared.job.Link.{Link}
use Rattle.reader.specs.declared.plan.Plan.{Plan}
use Rattle.std.specs.Prelude.{Ok}
use Rattle.reader.specs.Entries.{tasks, links, detect, run, link}
use Rattle.reader.specs.Sound.{Sound, PlanSound}
use Rattle.reader.proofs.TestLaws.{clash, not_true}
use Rattle.rules.specs.declared.Copy.{Copy}
use Rattle.rules.specs.declared.Loss.{Loss}
use Rattle.rules.specs.declared.Times.{Times}
use Rattle.rules.specs.Tables.{grow}
use Rattle.rules.specs.Copies.{copy, overlap, in_time, delay}
use Rattle.rules.specs.Rules.{Row, rows, rule_ready, rule_b}
use Rattle.rules.specs.Judge.{judge}
use Rattle.rules.specs.Attempts.{placed}
use Rattle.rules.specs.Planner.{planner}
use Rattle.rules.specs.Times.{listed_at, TimesSound, ended, ended_row, ended_rows}
use Rattle.rules.specs.Replay.{run_backup, run_task, runs_to, replay_times}
use Rattle.rules.specs.Survival.{LossOf, LossFrom, Role, primary, backup, copy_of, Survives}
use Rattle.rules.specs.Firm.{Firm, Clear, EndsBy}
use Rattle.rules.proofs.CopyLaws.{overlap_i, overlap_is}
use Rattle.rules.proofs.FaultSetLaws.{from_low, row_primary, row_backup}
use Rattle.rules.proofs.LossLaws.{from_start}
use Rattle.rules.proofs.FirmSurvives.{firm_survives}
use Rattle.rules.proofs.PassedSurvives.{passed_firm, passed_clear}
use Rattle.rules.proofs.PlannedPasses.{planned_sound, planned_passes}

-- what was in time is so if its sender ends sooner
in_time_sooner : (job : Job) (l : Link) (c d c₁ d₁ : Copy) → EndsBy c c₁ → EndsBy d d₁
    → in_time job l c d ≡ true → in_time job l c₁ d₁ ≡ true
unfolding in_time delay
in_time_sooner job l c d c₁ d₁ e f h =
    let same : delay job l c₁ d₁ ≡ delay job l c d = rw (e.node, f.node) in
    let by = leb-true (c.finish + delay job l c d) d.start h in
    le-leb (c₁.finish + delay job l c₁ d₁) d₁.start (omega (arith, e.by, f.start))

-- and what did not overlap does not
apart_sooner : (c d c₁ d₁ : Copy) → EndsBy c c₁ → EndsBy d d₁ → overlap c d ≡ false → overlap c₁ d₁ ≡ false
apart_sooner c d c₁ d₁ e f h =
    not_true _ λ over.
    let w = (overlap_is c₁ d₁).0 over in
    let on_one_node : c.node ≡ d.node = sym e.node ∙ w.0 ∙ f.node in
    clash _ (overlap_i c d w.1.0 on_one_node (omega (arith, w.1.1, e.start, e.by)) (omega (arith, w.1.2, f.start, f.by))) h

-- the rows `listed`, and the rows t of their copies as they end
module _ (job : Job) (listed t : ℕ → Row) (ends : (j : ℕ) (a : Role) → j < tasks job → EndsBy (copy_of a (listed j)) (copy_of a (t j))) where
  -- B with the listed finish, and so with the actual one
  detected_sooner : (j : ℕ) → j < tasks job → rule_b job (listed j) ≡ true → rule_b job (t j) ≡ true
  unfolding rule_b
  detected_sooner j p h =
      let a = ends j primary p in
      let same : detect job (t j).primary.node ≡ detect job (listed j).primary.node = ap (detect job) a.node in
      let b = leb-true ((listed j).primary.finish + detect job (listed j).primary.node) (listed j).backup.start h in
      le-leb ((t j).primary.finish + detect job (t j).primary.node) (t j).backup.start (omega (arith, a.by, (ends j backup p).start))

  module _ (sound : Sound job) (faults : ℕ → ℕ → Bool) (moment : ℕ) (firm : Firm job listed faults moment) where
    feeds : (k : ℕ) (a b : Role) → k < links job
        → in_time job (link job k) (copy_of a (listed (link job k).from)) (copy_of b (listed (link job k).to)) ≡ true
        → in_time job (link job k) (copy_of a (t (link job k).from)) (copy_of b (t (link job k).to)) ≡ true
    feeds k a b pk h = in_time_sooner job (link job k) _ _ _ _ (ends _ a (from_low job sound k pk)) (ends _ b (sound.into k pk)) h

    pub ended_firm : Firm job t faults moment
    unfolding rule_ready
    ended_firm =
        record {
          here = λ j p late. rw (ends j primary p).node (firm.here j p (omega (arith, (ends j primary p).by)));
          away = λ j p. rw (ends j backup p).node (firm.away j p);
          carried = λ k q pk h weak. firm.carried k q pk h (not_true _ λ strong. clash _ (feeds k backup primary pk strong) weak);
          feeds_primary = λ k pk. feeds k primary primary pk (firm.feeds_primary k pk);
          feeds_backup = λ k pk. feeds k primary backup pk (firm.feeds_backup k pk);
          backup_feeds = λ k loss pk of_job h g. feeds k backup backup pk (firm.backup_feeds k loss pk of_job h g);
          ready = λ j p. rw (ends j primary p).start (firm.ready j p);
          detected = λ j p. detected_sooner j p (firm.detected j p);
          primary_runs = λ j p. (ends j primary p).runs;
          backup_runs = λ j p. (ends j backup p).runs;
          primary_by = λ j p. omega (arith, (ends j primary p).by, firm.primary_by j p);
          backup_by = λ j p. omega (arith, (ends j backup p).by, firm.backup_by j p);
        }

    pub ended_clear : Clear job listed faults → Clear job t faults
    ended_clear clear =
        record {
          between = λ i j a b loss p q of_job h g.
              apart_sooner _ _ _ _ (ends i a (omega arith)) (ends j b q) (clear.between i j a b loss p q of_job h g);
          alone = λ j p e. clear.alone j p (sym (ends j primary p).node ∙ e ∙ (ends j backup p).node);
        }

    -- 'Rule B is still tested there with the listed run time': of firm rows that is the same run
    runs_listed : (loss : Loss) (n : ℕ) → n ≤ tasks job → runs_to job listed t loss n ≡ runs_to job t t loss n
    unfolding grow run_task run_backup
    runs_listed loss zero p = refl
    runs_listed loss (suc n) p =
        rw (runs_listed loss n (omega arith), firm.detected n p, detected_sooner n p (firm.detected n p))

    pub ended_survives : Clear job listed faults → (loss : Loss) → LossOf job loss → LossFrom moment loss
        → Survives job t loss (runs_to job listed t loss (tasks job))
    ended_survives clear loss of_job late =
        subst (λ x. Survives job t loss x) (sym (runs_listed loss (tasks job) (omega arith)))
        (firm_survives job sound t faults moment ended_firm loss of_job late (ended_clear clear))

-- a planned copy that takes from 1 tick to its run time
took_by : (job : Job) (j n s ticks : ℕ) (c : Copy) → c ≡ copy job j n s → 1 ≤ ticks → ticks ≤ run job j n → EndsBy c (ended c ticks)
unfolding ended copy
took_by job j n s ticks c is least most =
    record {
      node = refl;
      start = refl;
      runs = omega (arith, least);
      by = omega (arith, most, ap (λ c. c.start) is, ap (λ c. c.finish) is);
    }

module _ (job : Job) (plan : Plan) (times : Times) (fits : TimesSound job plan times) where
  -- of a plan, with times within their limits
  took_ends : (j : ℕ) (a : Role) → j < tasks job → EndsBy (copy_of a (rows job plan j)) (copy_of a (ended_rows job plan times j))
  unfolding listed_at ended_row
  took_ends j primary p =
      let x = fits.within j p in
      took_by job j _ _ _ _ (row_primary job plan (tasks job) j p) x.primary_least x.primary_most
  took_ends j backup p =
      let x = fits.within j p in
      took_by job j _ _ _ _ (row_backup job plan (tasks job) j p) x.backup_least x.backup_most

  module _ (sound : Sound job) where
    -- 'A passed plan must outlive any one group's loss for every such list, with no overlap, no late task and no unfed backup called for.'
    pub passed_survives_times : PlanSound job plan → judge job plan ≡ Ok tt → (loss : Loss) → LossOf job loss
        → Survives job (ended_rows job plan times) loss (replay_times job plan times loss)
    unfolding replay_times
    passed_survives_times plan_sound passed loss of_job =
        ended_survives job (rows job plan) (ended_rows job plan times) took_ends sound _ 0 (passed_firm job plan sound plan_sound passed)
        (passed_clear job plan sound passed) loss of_job (from_start loss)

    -- and so does the planner's
    pub planned_survives_times : planner job ≡ placed plan → (loss : Loss) → LossOf job loss
        → Survives job (ended_rows job plan times) loss (replay_times job plan times loss)
    planned_survives_times h = passed_survives_times (planned_sound job sound plan h) (planned_passes job sound plan h)
