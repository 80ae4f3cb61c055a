-- Laws of one task: the state of a copy, and the numbers of a task.
use mathlib.Core.Bool.{Bool, true, false}
use mathlib.Core.Path.{◌≡◌, refl, sym, ◌∙◌}
use native.Mathlib.Omega.{arith}
use Rattle.reader.specs.declared.job.Job.{Job}
use Rattle.reader.specs.Tests.{◌and◌}
use Rattle.reader.proofs.TestLaws.{and_if, clash, split}
use Rattle.rules.specs.declared.Copy.{Copy}
use Rattle.rules.specs.declared.Loss.{Loss}
use Rattle.rules.specs.Replay as rules
use Rattle.rules.specs.Replay.{not_started, cut, finished, is_finished, state_number, TaskRun, attempt, finish_of}
use Rattle.rules.specs.Rules.{Row}
use Rattle.std.specs.Prelude.{Some, None, unwrap_or}
use Rattle.replay.specs.declared.states.Pair.{Pair}
use Rattle.replay.specs.declared.states.Outcome.{Outcome}
use Rattle.replay.specs.declared.states.State.{State}
use Rattle.replay.specs.declared.states.State.TheVariants.{NotStarted, Cut, Finished}
use denote.Enum.Bare.{sameb}
use Rattle.replay.specs.contracts.states.State.{the_type}
use Rattle.replay.specs.States.{state, number_of, run_fed, pair_row, finish_in, outcome}

-- states by their numbers
pub two_finished : (s : rules.State) → is_finished s ≡ true → state_number s ≡ 2
two_finished not_started e = clash false e refl
two_finished cut e = clash false e refl
two_finished finished e = refl

pub two_not : (s : rules.State) → is_finished s ≡ false → state_number s ≡ 2 → ⊥
two_not not_started e h = omega arith
two_not cut e h = omega arith
two_not finished e h = clash true refl e

-- and in the code's words
pub number_is : (s : rules.State) → number_of (state s) ≡ state_number s
number_is not_started = refl
number_is cut = refl
number_is finished = refl

-- the finish, as it is written
pub finish_number : (r : Row) (x : TaskRun) → unwrap_or (finish_in r x) 0 ≡ finish_of r x
unfolding finish_of
finish_number r x =
    split (is_finished x.primary)
    (λ e. rw e)
    (λ e. split (is_finished x.backup) (λ f. rw (e, f)) (λ f. rw (e, f)))

finished_is : (s : rules.State) → state s ≡ Finished → s ≡ finished
finished_is not_started e = cc
finished_is cut e = cc
finished_is finished e = refl

not_finished : (s : rules.State) → (state s ≡ Finished → ⊥) → is_finished s ≡ false
not_finished not_started h = refl
not_finished cut h = refl
not_finished finished h = absurd (h refl)

-- the test of two states
pub is_done : (a : State) → sameb the_type a Finished ≡ true → a ≡ Finished
is_done NotStarted e = cc
is_done Cut e = cc
is_done Finished e = refl

pub not_done : (a : State) → sameb the_type a Finished ≡ false → a ≡ Finished → ⊥
not_done a e h = cc

-- a backup whose primary finished is not activated
barred : (job : Job) (loss : Loss) (ok : Bool) (c : Copy) → attempt job loss (false and ok) c ≡ not_started
unfolding attempt ◌and◌
barred job loss ok c = refl

-- `settle`: a is the primary's state, s the backup's
module _ (job : Job) (loss : Loss) (fed fed_backup : Bool) (x : Pair) (a : State) (e : a ≡ state (attempt job loss fed x.primary)) where
  abbrev first : rules.State
  first = attempt job loss fed x.primary

  abbrev told : Outcome
  told = outcome (pair_row x) (run_fed job loss fed fed_backup x)

  pub settle_primary : a ≡ Finished → ◌≡◌ {A = Outcome} (record { primary = a; backup = NotStarted; finish = Some x.primary.finish }) told
  unfolding outcome run_fed
  settle_primary done = rw (done, finished_is first (sym e ∙ done), barred job loss (x.detected and fed_backup) x.backup)

  -- the primary did not finish: the backup may start, or may not
  module _ (other : a ≡ Finished → ⊥) (may : Bool) (m : may ≡ (x.detected and fed_backup)) where
    abbrev second : rules.State
    second = attempt job loss may x.backup

    unfinished : is_finished first ≡ false
    unfinished = not_finished first (λ q. other (e ∙ q))

    called_on : run_fed job loss fed fed_backup x ≡ record { primary = first; backup = second }
    unfolding run_fed
    called_on = rw (unfinished, and_if true (x.detected and fed_backup) refl, ← m)

    module _ (s : State) (h : s ≡ state second) where
      pub settle_backup : s ≡ Finished → ◌≡◌ {A = Outcome} (record { primary = a; backup = s; finish = Some x.backup.finish }) told
      unfolding outcome
      settle_backup done = rw (called_on, unfinished, finished_is second (sym h ∙ done), e, done)

      pub settle_neither : (s ≡ Finished → ⊥) → ◌≡◌ {A = Outcome} (record { primary = a; backup = s; finish = None }) told
      unfolding outcome
      settle_neither neither = rw (called_on, unfinished, not_finished second (λ q. neither (h ∙ q)), e, h)
