-- A trial of every moment, document 02, (ix): when it says yes, and the finitely many runs that tell it.
use Rattle.std.specs.Prelude.{ℕ, ◌-◌, ◌≤◌, ◌<◌, Bool, true, false, not, ◌≡◌, leb}
use Rattle.reader.specs.declared.job.Job.{Job}
use Rattle.reader.specs.declared.plan.Plan.{Plan}
use Rattle.reader.specs.Tests.{◌and◌}
use Rattle.reader.specs.First.{every}
use Rattle.reader.specs.Entries.{tasks, deadline}
use Rattle.rules.specs.declared.Copy.{Copy}
use Rattle.rules.specs.declared.Loss.{Loss}
use Rattle.rules.specs.declared.Loss.TheVariants.{NoLoss, Lost}
use Rattle.rules.specs.Copies.{overlap, domain}
use Rattle.rules.specs.Rules.{Row, rows, share_fault}
use Rattle.rules.specs.Replay.{State, not_started, cut, finished, is_finished, TaskRun, replay, finish_of}
use Rattle.rules.specs.Breach.{KeptWith}
use Rattle.rules.specs.Survival.{LossOf, Role, primary, backup, copy_of, state_of, Apart}

-- 'each task is done by its deadline and no two started copies overlap on one node': the run x of the rows t under a loss
pub record GoodRun (job : Job) (t : ℕ → Row) (loss : Loss) (x : ℕ → TaskRun) : Type 0 where
  pub done : (j : ℕ) → j < tasks job → 1 ≤ finish_of (t j) (x j)
  pub by_deadline : (j : ℕ) → j < tasks job → finish_of (t j) (x j) ≤ deadline job j
  pub apart : Apart job t loss x

-- 'It says yes exactly if, without loss, every primary finishes, and if with no loss and for each group at every moment whatever, each task is done
-- by its deadline and no two started copies overlap on one node.'
pub record Trial (job : Job) (plan : Plan) : Type 0 where
  pub primaries : (j : ℕ) → j < tasks job → is_finished (replay job plan NoLoss j).primary ≡ true
  pub good : (loss : Loss) → LossOf job loss → GoodRun job (rows job plan) loss (replay job plan loss)

-- 'plans in which no primary overlaps any backup placed on the same node', its own among them
abbrev pub NoSharing : Job → Plan → Type 0
NoSharing job plan = (i j : ℕ) → i < tasks job → j < tasks job → overlap (rows job plan i).primary (rows job plan j).backup ≡ false

-- rule G without what is between a primary and a backup; and every other rule with it
unfoldable pub alike_apart : Job → Row → Row → Bool
alike_apart job r s = not (overlap r.primary s.primary) and not (overlap r.backup s.backup and share_fault job r s)

abbrev pub KeptApart : Job → (ℕ → Row) → Type 0
KeptApart job t = KeptWith job (alike_apart job) t

-- For the code, a good run as a test. Of the copies that started the spans of the plan are compared: a copy that is cut holds its node up to the
-- moment of the loss, and every started copy on that node started before it
abbrev pub is_started : State → Bool
is_started not_started = false
is_started cut = true
is_started finished = true

-- copies a of task i and b of task j both started, and overlap
unfoldable pub meet : (ℕ → Row) → (ℕ → TaskRun) → ℕ → ℕ → Role → Role → Bool
meet t x i j a b = (is_started (state_of a (x i)) and is_started (state_of b (x j))) and overlap (copy_of a (t i)) (copy_of b (t j))

-- no copies of tasks i and j do
unfoldable pub clear : (ℕ → Row) → (ℕ → TaskRun) → ℕ → ℕ → Bool
clear t x i j =
    (not (meet t x i j primary primary) and not (meet t x i j backup primary))
    and not (meet t x i j primary backup) and not (meet t x i j backup backup)

-- task j, which has this deadline, is done by it
unfoldable pub done_by : ℕ → Row → TaskRun → Bool
done_by by r x = leb 1 (finish_of r x) and leb (finish_of r x) by

unfoldable pub good_run : Job → (ℕ → Row) → (ℕ → TaskRun) → Bool
good_run job t x =
    every (tasks job) (λ j. done_by (deadline job j) (t j) (x j))
    and every (tasks job) (λ j. every j λ i. clear t x i j)

-- of the plan's run under a loss
unfoldable pub good_under : Job → Plan → Loss → Bool
good_under job plan loss = good_run job (rows job plan) (replay job plan loss)

-- with no loss all primaries finish and the run is good, and it is good under each of these losses, one for each task
unfoldable pub tried_under : Job → Plan → (ℕ → Loss) → Bool
tried_under job plan loss =
    every (tasks job) (λ j. is_finished (replay job plan NoLoss j).primary)
    and good_under job plan NoLoss
    and every (tasks job) (λ j. good_under job plan (loss j))

-- 'Finitely many moments are replayed': for each primary the loss of its domain at the tick before its finish
abbrev pub loss_before : Job → Copy → Loss
loss_before job c = Lost (domain job c.node) (c.finish - 1)

abbrev pub tried : Job → Plan → Bool
tried job plan = tried_under job plan λ j. loss_before job (rows job plan j).primary
