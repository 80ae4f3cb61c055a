-- What replay writes of a run that survives: every task has exactly one finished copy, by its deadline.
use Prim.Native.Nat.{ℕ, ◌+◌, ◌*◌, ◌^◌, ◌≤◌, ◌<◌}
use mathlib.Core.Bool.{not}
use mathlib.Core.Logic.{inl, inr}
use mathlib.Core.Path.{◌≡◌, refl, ◌∙◌, ap}
use mathlib.Core.List.{List, ◌++◌}
use lib.ListN.{length, get_or, get_or-append}
use native.Mathlib.Omega.{arith}
use Rattle.reader.specs.declared.job.Job.{Job}
use Rattle.reader.specs.Entries.{tasks}
use Rattle.reader.specs.Number.{number_at}
use Rattle.reader.proofs.TestLaws.{split}
use Rattle.rules.specs.declared.Loss.{Loss}
use Rattle.rules.specs.Rules.{Row}
use Rattle.rules.specs.Replay.{State, not_started, cut, finished, is_finished, state_number, TaskRun, finish_of}
use Rattle.rules.specs.Survival.{Survives}
use Rattle.replay.specs.States.{state, number_of, outcome}
use Rattle.replay.specs.Outcomes.{numbers, run_bytes}
use Rattle.replay.specs.Survival.{BytesTell, OneFinished, BytesSurvive}
use Rattle.replay.proofs.StateLaws.{two_finished, two_not, number_is, finish_number}
use Rattle.replay.proofs.PackLaws.{row_number}

state_small : (s : State) → number_of (state s) < 2 ^ 32
state_small not_started = omega arith
state_small cut = omega arith
state_small finished = omega arith

one_of : (x : TaskRun) → is_finished x.backup ≡ not (is_finished x.primary) → OneFinished (state_number x.primary) (state_number x.backup)
one_of x h =
    split (is_finished x.primary)
    (λ e. inl (two_finished x.primary e, two_not x.backup (rw e at h)))
    (λ e. inr (two_not x.primary e, two_finished x.backup (rw e at h)))

-- the numbers of each task, where they stand
module _ (job : Job) (t : ℕ → Row) (x : ℕ → TaskRun) where
  number_there : (j : ℕ) → j < tasks job → (k at : ℕ) → k < 3 → at ≡ 12 * j + 4 * k → get_or (numbers (outcome (t j) (x j))) k 0 < 2 ^ 32
      → number_at (run_bytes job t x) at ≡ get_or (numbers (outcome (t j) (x j))) k 0
  unfolding run_bytes
  number_there j below k at p e small =
      ap (λ n. number_at (run_bytes job t x) n) (e ∙ omega arith)
      ∙ row_number 3 (λ j. numbers (outcome (t j) (x j))) (λ j. refl) (tasks job) j k below p small

  pub bytes_tell : ((j : ℕ) → j < tasks job → finish_of (t j) (x j) < 2 ^ 32) → BytesTell job t x (run_bytes job t x)
  unfolding outcome
  bytes_tell small = record {
    primary = λ j p. number_there j p 0 (12 * j) (omega arith) (omega arith) (state_small (x j).primary) ∙ number_is (x j).primary;
    backup = λ j p. number_there j p 1 (12 * j + 4) (omega arith) (omega arith) (state_small (x j).backup) ∙ number_is (x j).backup;
    finish = λ j p.
        let e = finish_number (t j) (x j) in
        number_there j p 2 (12 * j + 8) (omega arith) (omega arith) (rw e (small j p)) ∙ e;
  }

-- the numbers at a buffer's front are those of what stands there
pub number_front : (s rest : List ℕ) (at : ℕ) → at + 4 ≤ length s → number_at (s ++ rest) at ≡ number_at s at
unfolding number_at
number_front s rest at h =
    let same : (i : ℕ) → i < at + 4 → get_or (s ++ rest) i 0 ≡ get_or s i 0 = λ i p. get_or-append s rest 0 i (omega arith) in
    rw (same at (omega arith), same (at + 1) (omega arith), same (at + 2) (omega arith), same (at + 3) (omega arith))

module _ (job : Job) (t : ℕ → Row) (x : ℕ → TaskRun) (s : List ℕ) where
  pub front_tells : (rest : List ℕ) → length s ≡ 12 * tasks job → BytesTell job t x s → BytesTell job t x (s ++ rest)
  front_tells rest l b = record {
    primary = λ j p. number_front s rest (12 * j) (omega (arith, l)) ∙ b.primary j p;
    backup = λ j p. number_front s rest (12 * j + 4) (omega (arith, l)) ∙ b.backup j p;
    finish = λ j p. number_front s rest (12 * j + 8) (omega (arith, l)) ∙ b.finish j p;
  }

  -- bytes that tell a run that survives
  pub tells_survive : (loss : Loss) → BytesTell job t x s → Survives job t loss x → BytesSurvive job s
  tells_survive loss b h = record {
    one_finished = λ j p. rw (b.primary j p, b.backup j p) (one_of (x j) (h.one_finished j p));
    finish_least = λ j p. rw (b.finish j p) (h.finish_least j p);
    finish_most = λ j p. rw (b.finish j p) (h.finish_most j p);
  }
