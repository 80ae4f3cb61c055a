-- Laws of a list of actual times: what the loops over it have done, and what reading promises of it.
use Prim.Native.Nat.{ℕ, zero, suc, ◌+◌, ◌*◌, ◌^◌, ◌≤◌, ◌<◌}
use mathlib.Core.Path.{◌≡◌, refl, ap, ap₂, ◌∙◌}
use mathlib.Core.Logic.{◌↔◌}
use mathlib.Core.List.{List, [], ◌∷◌}
use mathlib.Core.Option.{none, some}
use lib.ListN.{length, get_or, replicate, length-replicate}
use native.Mathlib.Omega.{arith}
use Rattle.reader.specs.declared.job.Job.{Job}
use Rattle.reader.specs.declared.plan.Plan.{Plan}
use Rattle.reader.specs.declared.refusal.Refusal.{Refusal}
use Rattle.reader.specs.declared.refusal.Refusal.TheVariants.{Value, Tail}
use Rattle.reader.specs.First.{◌or_else◌}
use Rattle.reader.specs.Limits.{max_tasks}
use Rattle.reader.specs.Entries.{tasks}
use Rattle.reader.specs.Sound.{Sound, PlanSound}
use Rattle.reader.specs.Number.{number_at}
use Rattle.reader.specs.Refusals.{FaultFits}
use Rattle.reader.specs.JobFile.{tail_fault}
use Rattle.reader.proofs.FirstLaws.{or_else_l, or_else_r, or_else_i, none_first, first_none}
use Rattle.reader.proofs.FillLaws.{fill_get}
use Rattle.reader.proofs.FieldLaws.{Good, field_good, good_field}
use Rattle.reader.proofs.FitLaws.{fits_or_else, fits_first, value_fits, tail_fits}
use Rattle.reader.proofs.Chain.{pass, stop}
use Rattle.reader.proofs.ReadLoop.{ReadTo, read_stop, read_fine, read_end}
use Rattle.reader.proofs.Accepted.{tail_most}
use Rattle.reader.proofs.Faultless.{good_tail}
use Rattle.reader.proofs.JobLaws.{tail_some}
use Rattle.rules.specs.declared.Took.{Took}
use Rattle.rules.specs.declared.Times.{Times}
use Rattle.rules.specs.Times.{no_took, took, listed_at, listed_of, TimesSound}
use Rattle.replay.specs.TimesFile.{took_fault, took_at, times_fault, times_at, GoodTimes, times_bytes}
use Rattle.replay.proofs.PackLaws.{length_rows, row_number}

-- `read_took`
pub took_is : (s : List ℕ) (at : ℕ) {a b : ℕ} → a ≡ number_at s at → b ≡ number_at s (at + 4)
    → ◌≡◌ {A = Took} (record { primary = a; backup = b }) (took_at s at)
unfolding took_at
took_is s at {a} {b} ea eb = cc

module _ (s : List ℕ) (job : Job) (plan : Plan) where
  -- `read_times`: the first i tasks are read
  abbrev pub TimesTo : ℕ → List Took → Type 0
  TimesTo = ReadTo none (tasks job) (λ j. took_fault s (8 * j) (listed_of job plan j)) (λ j. took_at s (8 * j)) (replicate max_tasks no_took) (tasks job)

  module _ (i : ℕ) (of : List Took) (inv : TimesTo i of) where
    pub times_stop : {r : Refusal} → i < tasks job → took_fault s (8 * i) (listed_of job plan i) ≡ some r → times_fault s job plan ≡ some r
    unfolding times_fault ◌or_else◌
    times_stop below bad = stop _ (read_stop _ _ _ _ _ _ i of inv below bad)

    to_tail : tasks job ≤ i → times_fault s job plan ≡ tail_fault s (8 * tasks job)
    unfolding times_fault ◌or_else◌
    to_tail all = pass _ (read_fine _ _ _ _ _ _ i of inv all)

    pub times_tail : tasks job ≤ i → 8 * tasks job < length s → times_fault s job plan ≡ some (Tail (8 * tasks job))
    times_tail all h = to_tail all ∙ tail_some s _ h

    pub times_whole : tasks job ≤ i → length s ≤ 8 * tasks job → times_fault s job plan ≡ none
    times_whole all h = to_tail all ∙ good_tail s _ h

    pub times_are : tasks job ≤ i → ◌≡◌ {A = Times} (record { of = of }) (times_at s (tasks job))
    unfolding times_at
    times_are all = ap (λ l. record { of = l }) (read_end _ _ _ _ _ _ i of inv all).1

  pub times_fits : tasks job ≤ max_tasks → FaultFits (times_fault s job plan)
  unfolding times_fault took_fault
  times_fits h =
      fits_or_else _ _
      (fits_first _ _ λ j p.
      fits_or_else _ _ (value_fits s (8 * j) 1 _ (omega arith)) (λ _. value_fits s (8 * j + 4) 1 _ (omega arith)))
      (λ _. tail_fits s _ (omega arith))

-- rows of 8 bytes that are there
rooms : (n size : ℕ) → ((j : ℕ) → j < n → 8 * j + 8 ≤ size) → 8 * n ≤ size
rooms zero size h = omega arith
rooms (suc n) size h = omega (arith, h n (omega arith))

-- a list has no fault exactly if it has 8 bytes a task, and each of its times is within its limits
module _ (s : List ℕ) (job : Job) (plan : Plan) where
  good_times : times_fault s job plan ≡ none → GoodTimes s job plan
  unfolding times_fault took_fault took_at
  good_times fine =
      let took_fine = none_first (tasks job) _ (or_else_l _ _ fine) in
      let first : (j : ℕ) → j < tasks job → Good s (8 * j) 1 (listed_of job plan j).primary =
      λ j p. field_good s (8 * j) 1 _ (Value (8 * j)) (or_else_l _ _ (took_fine j p)) in
      let second : (j : ℕ) → j < tasks job → Good s (8 * j + 4) 1 (listed_of job plan j).backup =
      λ j p. field_good s (8 * j + 4) 1 _ (Value (8 * j + 4)) (or_else_r _ _ (took_fine j p)) in
      record {
        size = omega (arith, tail_most s (8 * tasks job) (or_else_r _ _ fine), rooms (tasks job) (length s) (λ j p. omega (arith, (second j p).room)));
        within = λ j p. record {
          primary_least = (first j p).least;
          primary_most = (first j p).most;
          backup_least = (second j p).least;
          backup_most = (second j p).most;
        };
      }

  times_good : GoodTimes s job plan → times_fault s job plan ≡ none
  unfolding times_fault took_fault took_at
  times_good good =
      or_else_i _ _
      (first_none _ _ λ j p.
      let x = good.within j p in
      or_else_i _ _
      (good_field s (8 * j) 1 _ _ (record { least = x.primary_least; most = x.primary_most; room = omega (arith, good.size) }))
      (good_field s (8 * j + 4) 1 _ _ (record { least = x.backup_least; most = x.backup_most; room = omega (arith, good.size) })))
      (good_tail s _ (omega (arith, good.size)))

  pub times_fine : (times_fault s job plan ≡ none) ↔ GoodTimes s job plan
  times_fine = (good_times, times_good)

-- the times in a list
pub took_at_lem : (s : List ℕ) (job : Job) → Sound job → (j : ℕ) → j < tasks job → took (times_at s (tasks job)) j ≡ took_at s (8 * j)
unfolding times_at
took_at_lem s job sound j p =
    fill_get _ (replicate max_tasks no_took) no_took (tasks job) j p (omega (arith, sound.tasks_most, length-replicate max_tasks no_took))

-- are within their limits where it has no fault
pub times_sound : (s : List ℕ) (job : Job) (plan : Plan) → Sound job → times_fault s job plan ≡ none → TimesSound job plan (times_at s (tasks job))
times_sound s job plan sound fine = record { within = λ j p. rw (took_at_lem s job sound j p) (((times_fine s job plan).0 fine).within j p) }

-- every list of times within their limits has its file, which reads back equal
module _ (job : Job) (plan : Plan) (sound : Sound job) (plan_sound : PlanSound job plan) (times : Times) (fits : TimesSound job plan times) where
  abbrev row_of : ℕ → List ℕ
  row_of j = (took times j).primary ∷ (took times j).backup ∷ []

  abbrev file : List ℕ
  file = times_bytes times (tasks job)

  number_there : (j k at : ℕ) → j < tasks job → k < 2 → at ≡ 8 * j + 4 * k → get_or (row_of j) k 0 < 2 ^ 32
      → number_at file at ≡ get_or (row_of j) k 0
  unfolding times_bytes
  number_there j k at p q e small = ap (number_at file) (e ∙ omega arith) ∙ row_number 2 row_of (λ j. refl) (tasks job) j k p q small

  reads_back : (j : ℕ) → j < tasks job → took_at file (8 * j) ≡ took times j
  unfolding took_at listed_at
  reads_back j p =
      let x = fits.within j p in
      let primary = sound.run_most j _ p (plan_sound.primary_node j p) in
      let backup = sound.run_most j _ p (plan_sound.backup_node j p) in
      ap₂ {C = Took} (λ a b. record { primary = a; backup = b })
      (number_there j 0 (8 * j) p (omega arith) (omega arith) (omega (arith, x.primary_most, primary)))
      (number_there j 1 (8 * j + 4) p (omega arith) (omega arith) (omega (arith, x.backup_most, backup)))

  pub written_fine : times_fault file job plan ≡ none
  unfolding times_bytes
  written_fine = times_good file job plan (record {
    size = length_rows 2 row_of (λ j. refl) (tasks job) ∙ omega arith;
    within = λ j p. rw (reads_back j p) (fits.within j p);
  })

  pub written_back : (j : ℕ) → j < tasks job → took (times_at file (tasks job)) j ≡ took times j
  written_back j p = took_at_lem file job sound j p ∙ reads_back j p
