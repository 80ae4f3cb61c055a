-- Laws of runs, of plans that pass or not: what a finished copy tells, and which primaries finish or do not.
use Prim.Native.Nat.{ℕ, zero, suc, ◌≤◌, ◌<◌}
use mathlib.Core.Bool.{Bool, true, false}
use mathlib.Core.Path.{◌≡◌, refl, subst}
use borrow.Author.Tests.{leb-true}
use native.Mathlib.Nat.{not-suc-le-zero}
use native.Mathlib.Omega.{arith}
use Rattle.reader.specs.declared.job.Job.{Job}
use Rattle.reader.specs.Entries.{tasks, links, link}
use Rattle.reader.specs.Sound.{Sound}
use Rattle.reader.proofs.TestLaws.{clash, not_true, and_l, and_r, and_i, or_l, or_e, not_e}
use Rattle.rules.specs.declared.Copy.{Copy}
use Rattle.rules.specs.declared.Loss.{Loss}
use Rattle.rules.specs.declared.Loss.TheVariants.{Lost}
use Rattle.rules.specs.Copies.{HeldBy, in_time, domain}
use Rattle.rules.specs.Rules.{Row, strong, fault_set, rule_ready, rule_b, rule_d}
use Rattle.rules.specs.Replay.{State, not_started, cut, finished, is_finished, started, attempt}
use Rattle.rules.specs.Replay.{TaskRun, arrived, fed, run_primary, run_backup, run_task, runs_to}
use Rattle.rules.specs.Survival.{Holds}
use Rattle.rules.proofs.FaultSetLaws.{faults_e, runs_own}
use Rattle.rules.proofs.LinkLaws.{every_into}

-- a finished copy holds all its ticks
pub finished_holds : (loss : Loss) (c : Copy) (s : State) (tick : ℕ) → is_finished s ≡ true → HeldBy c tick → Holds loss c s tick
finished_holds loss c not_started tick e h = clash false e refl
finished_holds loss c cut tick e h = clash false e refl
finished_holds loss c finished tick e h = h

-- a copy that finished was let start, and was not cut
pub attempt_finished : (job : Job) (loss : Loss) (b : Bool) (c : Copy) → is_finished (attempt job loss b c) ≡ true
    → (b ≡ true) × (is_finished (started job loss c) ≡ true)
unfolding attempt
attempt_finished job loss true c h = (refl, h)
attempt_finished job loss false c h = clash false h refl

pub finished_attempt : (job : Job) (loss : Loss) (b : Bool) (c : Copy) → b ≡ true → is_finished (started job loss c) ≡ true
    → is_finished (attempt job loss b c) ≡ true
unfolding attempt
finished_attempt job loss b c e h = rw e h

-- by D a primary ends before the next begins
pub ends_before : (job : Job) (t : ℕ → Row) (k : ℕ) → rule_d job (link job k) (t (link job k).from) (t (link job k).to).primary ≡ true
    → (t (link job k).from).primary.finish ≤ (t (link job k).to).primary.start
unfolding rule_d in_time
ends_before job t k h = let b = leb-true _ (t (link job k).to).primary.start h in omega arith

module _ (job : Job) (sound : Sound job) (t : ℕ → Row) (loss : Loss) where
  abbrev x : ℕ → TaskRun
  x = runs_to job t t loss (tasks job)

  pub primary_finished : (j : ℕ) → j < tasks job → is_finished (runs_to job t t loss (tasks job) j).primary ≡ true
      → (rule_ready job j (t j).primary ≡ true)
      × (fed job t (runs_to job t t loss (tasks job)) j (t j).primary ≡ true)
      × (is_finished (started job loss (t j).primary) ≡ true)
  unfolding run_task run_primary
  primary_finished j p = rw (runs_own job sound t t loss j p) λ h.
      let w = attempt_finished job loss _ (t j).primary h in
      (and_l _ _ w.0, and_r _ _ w.0, w.1)

  pub finished_primary : (j : ℕ) → j < tasks job → rule_ready job j (t j).primary ≡ true
      → fed job t (runs_to job t t loss (tasks job)) j (t j).primary ≡ true → is_finished (started job loss (t j).primary) ≡ true
      → is_finished (runs_to job t t loss (tasks job) j).primary ≡ true
  unfolding run_task run_primary
  finished_primary j p r f s = rw (runs_own job sound t t loss j p) (finished_attempt job loss _ (t j).primary (and_i _ _ r f) s)

  pub backup_finished : (j : ℕ) → j < tasks job → is_finished (runs_to job t t loss (tasks job) j).backup ≡ true
      → (is_finished (runs_to job t t loss (tasks job) j).primary ≡ false)
      × (rule_b job (t j) ≡ true)
      × (fed job t (runs_to job t t loss (tasks job)) j (t j).backup ≡ true)
      × (is_finished (started job loss (t j).backup) ≡ true)
  unfolding run_task run_backup
  backup_finished j p = rw (runs_own job sound t t loss j p) λ h.
      let w = attempt_finished job loss _ (t j).backup h in
      let b = and_r _ _ w.0 in
      (not_e _ (and_l _ _ w.0), and_l _ _ b, and_r _ _ b, w.1)

  -- link k's result, at copy c: of a finished primary, or of the backup
  module _ (k : ℕ) (pk : k < links job) (c : Copy) where
    abbrev i : ℕ
    i = (link job k).from

    abbrev There : Type 0
    There = arrived job (link job k) (t i) (x i) c ≡ true

    pub from_primary : There → is_finished (x i).primary ≡ true → in_time job (link job k) (t i).primary c ≡ true
    unfolding arrived
    from_primary there fin =
        or_e _ _ there
        (λ h. and_r _ _ h)
        (λ h. clash _ fin (backup_finished i (omega (arith, sound.rise k pk, sound.into k pk)) (and_l _ _ h)).0)

    pub from_backup : There → is_finished (x i).primary ≡ false → in_time job (link job k) (t i).backup c ≡ true
    unfolding arrived
    from_backup there unfinished = or_e _ _ there (λ h. clash _ (and_l _ _ h) unfinished) (λ h. and_r _ _ h)

  pub fed_at : (j : ℕ) (c : Copy) → fed job t (runs_to job t t loss (tasks job)) j c ≡ true → (k : ℕ) → k < links job → (link job k).to ≡ j
      → arrived job (link job k) (t (link job k).from) (runs_to job t t loss (tasks job) (link job k).from) c ≡ true
  unfolding fed
  fed_at j c h = (every_into job j _).0 h

  -- where primaries feed primaries, one that ends by h finishes if a loss spares what ends by h
  module _ (h : ℕ)
      (spares : (j : ℕ) → j < tasks job → (t j).primary.finish ≤ h → is_finished (started job loss (t j).primary) ≡ true)
      (runs : (j : ℕ) → j < tasks job → (t j).primary.start < (t j).primary.finish)
      (ready : (j : ℕ) → j < tasks job → rule_ready job j (t j).primary ≡ true)
      (feeds : (k : ℕ) → k < links job → rule_d job (link job k) (t (link job k).from) (t (link job k).to).primary ≡ true)
    where
      early_to : (n j : ℕ) → j < n → n ≤ tasks job → (t j).primary.finish ≤ h → is_finished (x j).primary ≡ true
      unfolding fed arrived rule_d
      early_to zero j b p e = absurd (not-suc-le-zero b)
      early_to (suc n) j b p e =
          finished_primary j (omega arith) (ready j (omega arith))
          ((every_into job j _).1 (λ k pk at.
          let below = sound.rise k pk in
          let ends = subst (λ i. (t (link job k).from).primary.finish ≤ (t i).primary.start) at (ends_before job t k (feeds k pk)) in
          let fin = early_to n (link job k).from (omega arith) (omega arith) (omega (arith, runs j (omega arith))) in
          or_l _ _ (and_i _ _ fin (subst (λ i. in_time job (link job k) (t (link job k).from).primary (t i).primary ≡ true) at (feeds k pk)))))
          (spares j (omega arith) e)

      pub early_finished : (j : ℕ) → j < tasks job → (t j).primary.finish ≤ h → is_finished (runs_to job t t loss (tasks job) j).primary ≡ true
      early_finished j p e = early_to (tasks job) j p (omega arith) e

-- where q is lost before any primary of q has finished, no primary with q in its fault set finishes
module _
    (job : Job) (sound : Sound job) (t : ℕ → Row)
    (own : (j : ℕ) → j < tasks job → (t j).faults ≡ fault_set job t j (t j).primary)
    (q f : ℕ) (stops : (j : ℕ) → j < tasks job → domain job (t j).primary.node ≡ q → is_finished (started job (Lost q f) (t j).primary) ≡ false)
  where
    struck_to : (n j : ℕ) → j < n → n ≤ tasks job → (t j).faults q ≡ true
        → is_finished (runs_to job t t (Lost q f) (tasks job) j).primary ≡ false
    unfolding strong
    struck_to zero j b p h = absurd (not-suc-le-zero b)
    struck_to (suc n) j b p h =
        not_true _ λ fin.
        let w = primary_finished job sound t (Lost q f) j (omega arith) fin in
        faults_e job t j (t j).primary q (rw (own j (omega arith)) at h)
        (λ here. clash _ w.2 (stops j (omega arith) here))
        (λ k pk at weak hk.
        let r = sound.rise k pk in
        let unfinished = struck_to n (link job k).from (omega arith) (omega arith) hk in
        clash _ (from_backup job sound t (Lost q f) k pk _ (fed_at job sound t (Lost q f) j _ w.1 k pk at) unfinished) weak)

    pub struck_unfinished : (j : ℕ) → j < tasks job → (t j).faults q ≡ true → is_finished (runs_to job t t (Lost q f) (tasks job) j).primary ≡ false
    struck_unfinished j p = struck_to (tasks job) j p (omega arith)
