-- Laws of fault sets and of the tables that they stand in: each row is made from the rows before it.
use Prim.Native.Nat.{ℕ, ◌<◌}
use mathlib.Core.Bool.{true, false}
use mathlib.Core.Path.{◌≡◌, ap, fun_ext}
use lib.Dec.{eqb}
use borrow.Author.Tests.{eqb-true}
use native.Mathlib.Omega.{arith}
use Rattle.reader.specs.declared.job.Job.{Job}
use Rattle.reader.specs.declared.plan.Plan.{Plan}
use Rattle.reader.specs.Tests.{◌and◌, ◌or◌, ◌implies◌}
use Rattle.reader.specs.Entries.{tasks, links, link, place}
use Rattle.reader.specs.Sound.{Sound}
use Rattle.reader.proofs.TestLaws.{split, and_l, and_r, and_i, or_l, or_r, or_e, not_e, not_i}
use Rattle.reader.proofs.FirstLaws.{any_i, any_e, every_same, any_same}
use Rattle.rules.specs.declared.Copy.{Copy}
use Rattle.rules.specs.declared.Loss.{Loss}
use Rattle.rules.specs.Copies.{copy, domain}
use Rattle.rules.specs.Rules.{Row, row, strong, carries, fault_set, planned_row, blank_row, rows_to, rows}
use Rattle.rules.specs.Replay.{TaskRun, fed, run_primary, run_backup, run_task, runs_to}
use Rattle.rules.proofs.TableLaws.{grow_stays, grow_own}

-- what is in a fault set
module _ (job : Job) (t : ℕ → Row) (j : ℕ) (p : Copy) (q : ℕ) where
  pub faults_here : eqb (domain job p.node) q ≡ true → fault_set job t j p q ≡ true
  unfolding fault_set
  faults_here h = or_l _ _ h

  pub faults_over : (k : ℕ) → k < links job → eqb (link job k).to j ≡ true
      → strong job (link job k) (t (link job k).from) p ≡ false
      → (t (link job k).from).faults q ≡ true → fault_set job t j p q ≡ true
  unfolding fault_set carries
  faults_over k pk e w h = or_r _ _ (any_i (links job) _ k pk (and_i _ _ e (and_i _ _ (not_i _ w) h)))

  pub faults_e {ℓ} : {C : Type ℓ} → fault_set job t j p q ≡ true
      → (domain job p.node ≡ q → C)
      → ((k : ℕ) → k < links job → (link job k).to ≡ j → strong job (link job k) (t (link job k).from) p ≡ false
      → (t (link job k).from).faults q ≡ true → C)
      → C
  unfolding fault_set carries
  faults_e h here over =
      or_e _ _ h (λ e. here (eqb-true _ _ e)) λ s. any_e (links job) _ s λ k pk e.
      over k pk (eqb-true _ _ (and_l _ _ e)) (not_e _ (and_l _ _ (and_r _ _ e))) (and_r _ _ (and_r _ _ e))

-- a row reads the rows before it only, so the tables are their own
module _ (job : Job) (sound : Sound job) where
  -- a link into j comes from below j
  pub from_below : (j k : ℕ) → k < links job → eqb (link job k).to j ≡ true → (link job k).from < j
  from_below j k p e = omega (arith, sound.rise k p, eqb-true (link job k).to j e)

  -- and every link from a task of the job
  pub from_low : (k : ℕ) → k < links job → (link job k).from < tasks job
  from_low k p = omega (arith, sound.rise k p, sound.into k p)

  pub fault_set_own : (j : ℕ) (p : Copy) (f g : ℕ → Row) → ((i : ℕ) → i < j → f i ≡ g i) → fault_set job f j p ≡ fault_set job g j p
  unfolding fault_set carries ◌and◌
  fault_set_own j p f g h =
      fun_ext λ q. ap (λ b. eqb (domain job p.node) q or b) (any_same (links job) _ _ λ k pk.
      split (eqb (link job k).to j) (λ e. rw (h (link job k).from (from_below j k pk e))) (λ e. rw e))

  pub rows_own : (plan : Plan) (j : ℕ) → j < tasks job → rows job plan j ≡ planned_row job plan (rows job plan) j
  unfolding planned_row row
  rows_own plan j p = grow_own blank_row (planned_row job plan) (tasks job) j p own
    where
      own : (f g : ℕ → Row) → ((i : ℕ) → i < j → f i ≡ g i) → planned_row job plan f j ≡ planned_row job plan g j
      own f g h = rw (fault_set_own j _ f g h)

  pub rows_faults : (plan : Plan) (j : ℕ) → j < tasks job → (rows job plan j).faults ≡ fault_set job (rows job plan) j (rows job plan j).primary
  unfolding planned_row row
  rows_faults plan j p = rw (rows_own plan j p)

  pub fed_own : (t : ℕ → Row) (j : ℕ) (c : Copy) (f g : ℕ → TaskRun) → ((i : ℕ) → i < j → f i ≡ g i) → fed job t f j c ≡ fed job t g j c
  unfolding fed ◌implies◌
  fed_own t j c f g h =
      every_same (links job) _ _ λ k pk.
      split (eqb (link job k).to j) (λ e. rw (h (link job k).from (from_below j k pk e))) (λ e. rw e)

  pub runs_own : (listed t : ℕ → Row) (loss : Loss) (j : ℕ) → j < tasks job
      → runs_to job listed t loss (tasks job) j ≡ run_task job listed t loss (runs_to job listed t loss (tasks job)) j
  unfolding run_task run_primary run_backup
  runs_own listed t loss j p = grow_own _ (run_task job listed t loss) (tasks job) j p own
    where
      own : (f g : ℕ → TaskRun) → ((i : ℕ) → i < j → f i ≡ g i) → run_task job listed t loss f j ≡ run_task job listed t loss g j
      own f g h = rw (fed_own t j (t j).primary f g h, fed_own t j (t j).backup f g h)

-- the copies of a plan's row are those of its place
module _ (job : Job) (plan : Plan) (n j : ℕ) (p : j < n) where
  pub row_primary : (rows_to job plan n j).primary ≡ copy job j (place plan j).primary_node (place plan j).primary_start
  unfolding planned_row row
  row_primary = rw (grow_stays blank_row (planned_row job plan) n j p)

  pub row_backup : (rows_to job plan n j).backup ≡ copy job j (place plan j).backup_node (place plan j).backup_start
  unfolding planned_row row
  row_backup = rw (grow_stays blank_row (planned_row job plan) n j p)
