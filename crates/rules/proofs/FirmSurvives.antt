-- Rows that are firm survive any one loss, however they came about.
use Prim.Native.Nat.{ℕ, zero, suc, ◌≤◌, ◌<◌}
use mathlib.Core.Bool.{Bool, true, false}
use mathlib.Core.Path.{◌≡◌, refl, sym, subst}
use lib.Dec.{eqb}
use borrow.Author.Tests.{eqb-true}
use native.Mathlib.Nat.{not-suc-le-zero}
use native.Mathlib.Omega.{arith}
use native.Mathlib.Decide.{dec_lt}
use Rattle.reader.specs.declared.job.Job.{Job}
use Rattle.reader.specs.declared.job.Link.{Link}
use Rattle.reader.specs.Tests.{◌and◌, ◌or◌}
use Rattle.reader.specs.Entries.{tasks, links, deadline, link}
use Rattle.reader.specs.Sound.{Sound}
use Rattle.reader.proofs.TestLaws.{split, clash, not_false, imp_x}
use Rattle.reader.proofs.FirstLaws.{every_x}
use Rattle.rules.specs.declared.Copy.{Copy}
use Rattle.rules.specs.declared.Loss.{Loss}
use Rattle.rules.specs.Copies.{HeldBy, in_time, domain}
use Rattle.rules.specs.Rules.{Row}
use Rattle.rules.specs.Replay.{not_started, is_finished, started, attempt, TaskRun, arrived, fed, run_primary, run_backup, run_task, runs_to, finish_of}
use Rattle.rules.specs.Survival.{LossOf, LossFrom, Role, primary, backup, copy_of, state_of, Holds, Survives}
use Rattle.rules.specs.Firm.{struck, Called, Firm, Clear}
use Rattle.rules.proofs.CopyLaws.{overlap_i}
use Rattle.rules.proofs.FaultSetLaws.{from_below, runs_own}
use Rattle.rules.proofs.LinkLaws.{every_into}
use Rattle.rules.proofs.LossLaws.{struck_more, struck_apart, started_away, started_by, held}

-- a task whose primary is not finished has the loss in its fault set, and its backup is finished
abbrev pub Covered : Loss → (ℕ → Bool) → TaskRun → Type 0
Covered loss s x = is_finished x.primary ≡ false → (struck loss s ≡ true) × (is_finished x.backup ≡ true)

-- its result arrives if that of its primary does, and, under a loss in its fault set, that of its backup
arrived_i : (job : Job) (loss : Loss) (l : Link) (r : Row) (s : ℕ → Bool) (x : TaskRun) (c : Copy) → Covered loss s x
    → in_time job l r.primary c ≡ true → (struck loss s ≡ true → in_time job l r.backup c ≡ true)
    → arrived job l r x c ≡ true
unfolding arrived ◌and◌ ◌or◌
arrived_i job loss l r s x c covered p b =
    split (is_finished x.primary)
    (λ e. rw (e, p))
    (λ e. rw (e, (covered e).1, b (covered e).0))

module _ (job : Job) (sound : Sound job) (t : ℕ → Row) (faults : ℕ → ℕ → Bool) (moment : ℕ) (firm : Firm job t faults moment)
    (loss : Loss) (of_job : LossOf job loss) (late : LossFrom moment loss) where
  abbrev x : ℕ → TaskRun
  x = runs_to job t t loss (tasks job)

  -- each task's run is made from those before it
  run_own : (j : ℕ) → j < tasks job → x j ≡ run_task job t t loss x j
  run_own = runs_own job sound t t loss

  -- link k's result is there at the start of copy c
  abbrev There : ℕ → Copy → Type 0
  There k c = arrived job (link job k) (t (link job k).from) (x (link job k).from) c ≡ true

  -- a link from a covered task
  module _ (k : ℕ) (pk : k < links job) (covered : Covered loss (faults (link job k).from) (x (link job k).from)) where
    arrives_backup : struck loss (faults (link job k).to) ≡ true → There k (t (link job k).to).backup
    arrives_backup hit =
        arrived_i job loss _ _ _ _ _ covered (firm.feeds_backup k pk) (λ s. firm.backup_feeds k loss pk of_job s hit)

    unfed_carries : (There k (t (link job k).to).primary → ⊥) → struck loss (faults (link job k).to) ≡ true
    unfed_carries unfed =
        let arrives = arrived_i job loss _ _ _ _ _ covered (firm.feeds_primary k pk) in
        split (struck loss (faults (link job k).from))
        (λ hit. split (in_time job (link job k) (t (link job k).from).backup (t (link job k).to).primary)
        (λ strong. absurd (unfed (arrives (λ s. strong))))
        (λ weak. struck_more loss _ _ (λ q s. firm.carried k q pk s weak) hit))
        (λ miss. absurd (unfed (arrives (λ s. clash _ s miss))))

  module _ (j : ℕ) (pj : j < tasks job) (covered : (i : ℕ) → i < j → Covered loss (faults i) (x i)) where
    -- a backup whose task has the loss in its fault set is fed
    fed_backup : struck loss (faults j) ≡ true → fed job t x j (t j).backup ≡ true
    unfolding fed
    fed_backup hit =
        (every_into job j _).1 λ k pk at.
        let arrives = arrives_backup k pk (covered _ (omega (arith, sound.rise k pk))) in
        subst (λ i. struck loss (faults i) ≡ true → There k (t i).backup) at arrives hit

    unfed_struck : fed job t x j (t j).primary ≡ false → struck loss (faults j) ≡ true
    unfolding fed
    unfed_struck h =
        every_x (links job) _ h λ k pk lacks. imp_x _ _ lacks λ e missing.
        let struck_by = unfed_carries k pk (covered _ (from_below job sound j k pk e)) in
        subst (λ i. (There k (t i).primary → ⊥) → struck loss (faults i) ≡ true) (eqb-true (link job k).to j e) struck_by
        (λ a. clash _ a missing)

    -- a started primary that does not finish is on the lost domain, and was to finish after the moment
    cut_struck : is_finished (started job loss (t j).primary) ≡ false → struck loss (faults j) ≡ true
    cut_struck h =
        struck_more loss (eqb (domain job (t j).primary.node)) (faults j)
        (λ q p. subst (λ z. faults j z ≡ true) (eqb-true _ _ p) (firm.here j pj (not_by (dec_lt moment (t j).primary.finish))))
        (not_false _ (λ away. clash _ (started_away job loss (t j).primary away) h))
      where
        not_by : Dec (moment < (t j).primary.finish) → moment < (t j).primary.finish
        not_by (yes after) = after
        not_by (no by) = clash _ (started_by job loss moment (t j).primary late (firm.primary_runs j pj) (omega arith)) h

    unfinished_struck : is_finished (run_primary job t loss x j) ≡ false → struck loss (faults j) ≡ true
    unfolding run_primary attempt ◌and◌
    unfinished_struck = rw (firm.ready j pj) λ h. split (fed job t x j (t j).primary) (λ e. cut_struck (rw e at h)) unfed_struck

    covered_next : Covered loss (faults j) (x j)
    unfolding run_task run_backup attempt ◌and◌
    covered_next = rw (run_own j pj) λ h.
        let s = unfinished_struck h in
        let away = struck_apart loss (faults j) _ (firm.away j pj) s in
        (s, rw (h, firm.detected j pj, fed_backup s) (started_away job loss (t j).backup away))

  covered_to : (n j : ℕ) → j < n → n ≤ tasks job → Covered loss (faults j) (x j)
  covered_to zero j b p = absurd (not-suc-le-zero b)
  covered_to (suc n) j b p = covered_next j (omega arith) (λ i q. covered_to n i (omega arith) (omega arith))

  pub covered : (j : ℕ) → j < tasks job → Covered loss (faults j) (x j)
  covered j p = covered_to (tasks job) j p (omega arith)

  -- a backup whose primary finished is not called on
  pub idle : (j : ℕ) → j < tasks job → is_finished (x j).primary ≡ true → (x j).backup ≡ not_started
  unfolding run_task run_backup attempt ◌and◌
  idle j p = rw (run_own j p) λ h. rw h

  held_of : (j : ℕ) (a : Role) (tick : ℕ) → j < tasks job → Holds loss (copy_of a (t j)) (state_of a (x j)) tick
      → HeldBy (copy_of a (t j)) tick
  unfolding run_task run_primary run_backup
  held_of j primary tick p h = held job loss (t j).primary _ tick (rw (run_own j p) at h)
  held_of j backup tick p h = held job loss (t j).backup _ tick (rw (run_own j p) at h)

  -- a backup that holds its node was called on
  called : (j : ℕ) (tick : ℕ) → j < tasks job → Holds loss (t j).backup (x j).backup tick → struck loss (faults j) ≡ true
  called j tick p h =
      split (is_finished (x j).primary)
      (λ e. let g = rw (idle j p e) at h in absurd (let z : ⊥ = omega arith in z))
      (λ e. (covered j p e).0)

  -- a copy that holds its node was called on
  called_of : (j : ℕ) (a : Role) (tick : ℕ) → j < tasks job → Holds loss (copy_of a (t j)) (state_of a (x j)) tick → Called a loss (faults j)
  called_of j primary tick p h = tt
  called_of j backup tick p h = called j tick p h

  -- copies of different tasks
  apart_below : Clear job t faults → (i j : ℕ) (a b : Role) → i < j → j < tasks job → (copy_of a (t i)).node ≡ (copy_of b (t j)).node
      → (tick : ℕ) → Holds loss (copy_of a (t i)) (state_of a (x i)) tick → Holds loss (copy_of b (t j)) (state_of b (x j)) tick → ⊥
  apart_below clear i j a b p q e tick h g =
      let i_below : i < tasks job = omega arith in
      clash _ (overlap_i _ _ tick e (held_of i a tick i_below h) (held_of j b tick q g))
      (clear.between i j a b loss p q of_job (called_of i a tick i_below h) (called_of j b tick q g))

  -- the copies of one task are on different nodes
  apart_same : Clear job t faults → (j : ℕ) (a b : Role) → j < tasks job → (copy_of a (t j)).node ≡ (copy_of b (t j)).node → a ≡ b
  apart_same clear j primary primary p e = refl
  apart_same clear j backup backup p e = refl
  apart_same clear j primary backup p e = absurd (clear.alone j p e)
  apart_same clear j backup primary p e = absurd (clear.alone j p (sym e))

  in_limits : (j : ℕ) → j < tasks job → (1 ≤ finish_of (t j) (x j)) × (finish_of (t j) (x j) ≤ deadline job j)
  unfolding finish_of
  in_limits j p =
      split (is_finished (x j).primary)
      (λ e. rw e (omega (arith, firm.primary_runs j p, firm.primary_by j p)))
      (λ e. rw (e, (covered j p e).1) (omega (arith, firm.backup_runs j p, firm.backup_by j p)))

  pub firm_survives : Clear job t faults → Survives job t loss x
  unfolding fed
  firm_survives clear =
      record {
        one_finished = λ j p. split (is_finished (x j).primary) (λ e. rw (e, idle j p e)) (λ e. rw (e, (covered j p e).1));
        finish_least = λ j p. (in_limits j p).0;
        finish_most = λ j p. (in_limits j p).1;
        apart = λ i j a b p q e tick h g.
            elim (dec_lt i j) [
              | yes below ↦ absurd (apart_below clear i j a b below q e tick h g)
              | no not_below ↦ elim (dec_lt j i) [
                | yes above ↦ absurd (apart_below clear j i b a above p (sym e) tick g h)
                | no not_above ↦
                    let same : i ≡ j = omega arith in
                    (same, apart_same clear j a b q (rw same at e))
              ]
            ];
        backup_fed = λ j p e. (every_into job j _).0 (fed_backup j p (λ i q. covered i (omega arith)) (covered j p e).0);
      }
