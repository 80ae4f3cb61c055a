-- What survival of any one loss rests on: rows that are firm, and clear of each other. Nothing here is on the judge.
use Rattle.std.specs.Prelude.{ℕ, ◌≤◌, ◌<◌, Bool, true, false, ◌≡◌}
use Rattle.reader.specs.declared.job.Job.{Job}
use Rattle.reader.specs.Entries.{tasks, links, deadline, link}
use Rattle.rules.specs.declared.Copy.{Copy}
use Rattle.rules.specs.declared.Loss.{Loss}
use Rattle.rules.specs.declared.Loss.TheVariants.{NoLoss, Lost}
use Rattle.rules.specs.Copies.{overlap, in_time, domain}
use Rattle.rules.specs.Rules.{Row, rule_ready, rule_b}
use Rattle.rules.specs.Survival.{LossOf, Role, primary, backup, copy_of}

-- the lost domain is in the set s
unfoldable pub struck : Loss → (ℕ → Bool) → Bool
struck NoLoss s = false
struck (Lost q f) s = s q

-- what starts a copy: a primary, whatever is lost; a backup, a loss in its task's fault set
abbrev pub Called : Role → Loss → (ℕ → Bool) → Type 0
Called primary loss s = Unit {0}
Called backup loss s = struck loss s ≡ true

-- what it rests on that each task has a finished copy, whatever is lost from a moment on: nothing here is on the judge, or on how the rows
-- and the fault sets came about
pub record Firm (job : Job) (t : ℕ → Row) (faults : ℕ → ℕ → Bool) (moment : ℕ) : Type 0 where
  -- a primary that does not finish by the moment has its domain in the fault set; the backup's is not in it; and a link that is late for the
  -- backup carries a fault on
  pub here : (j : ℕ) → j < tasks job → moment < (t j).primary.finish → faults j (domain job (t j).primary.node) ≡ true
  pub away : (j : ℕ) → j < tasks job → faults j (domain job (t j).backup.node) ≡ false
  pub carried : (k q : ℕ) → k < links job → faults (link job k).from q ≡ true
      → in_time job (link job k) (t (link job k).from).backup (t (link job k).to).primary ≡ false → faults (link job k).to q ≡ true
  -- inputs: a backup's result matters to a backup only under a loss in both fault sets
  pub feeds_primary : (k : ℕ) → k < links job → in_time job (link job k) (t (link job k).from).primary (t (link job k).to).primary ≡ true
  pub feeds_backup : (k : ℕ) → k < links job → in_time job (link job k) (t (link job k).from).primary (t (link job k).to).backup ≡ true
  pub backup_feeds : (k : ℕ) (loss : Loss) → k < links job → LossOf job loss
      → struck loss (faults (link job k).from) ≡ true → struck loss (faults (link job k).to) ≡ true
      → in_time job (link job k) (t (link job k).from).backup (t (link job k).to).backup ≡ true
  -- times
  pub ready : (j : ℕ) → j < tasks job → rule_ready job j (t j).primary ≡ true
  pub detected : (j : ℕ) → j < tasks job → rule_b job (t j) ≡ true
  pub primary_runs : (j : ℕ) → j < tasks job → (t j).primary.start < (t j).primary.finish
  pub backup_runs : (j : ℕ) → j < tasks job → (t j).backup.start < (t j).backup.finish
  pub primary_by : (j : ℕ) → j < tasks job → (t j).primary.finish ≤ deadline job j
  pub backup_by : (j : ℕ) → j < tasks job → (t j).backup.finish ≤ deadline job j

-- and that copies are apart: those of different tasks that one loss calls on do not overlap, those of one task are on different nodes
pub record Clear (job : Job) (t : ℕ → Row) (faults : ℕ → ℕ → Bool) : Type 0 where
  pub between : (i j : ℕ) (a b : Role) (loss : Loss) → i < j → j < tasks job → LossOf job loss
      → Called a loss (faults i) → Called b loss (faults j) → overlap (copy_of a (t i)) (copy_of b (t j)) ≡ false
  pub alone : (j : ℕ) → j < tasks job → (t j).primary.node ≡ (t j).backup.node → ⊥

-- (viii) c is the copy d, ended no later than it is listed to
pub record EndsBy (d c : Copy) : Type 0 where
  pub node : c.node ≡ d.node
  pub start : c.start ≡ d.start
  pub runs : c.start < c.finish
  pub by : c.finish ≤ d.finish
