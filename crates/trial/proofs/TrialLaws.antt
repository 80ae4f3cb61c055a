-- All passes together are the trial.
use Prim.Native.Nat.{ℕ, ◌+◌, ◌-◌, ◌≤◌, ◌<◌}
use mathlib.Core.Bool.{Bool, true, false}
use mathlib.Core.List.{List}
use mathlib.Core.Logic.{◌↔◌}
use mathlib.Core.Path.{◌≡◌, refl, sym, subst}
use lib.Dec.{leb}
use borrow.Author.Tests.{lt-ltb, le-ltb, le-leb}
use native.Mathlib.Decide.{dec_lt}
use native.Mathlib.Omega.{arith}
use Rattle.reader.specs.declared.job.Job.{Job}
use Rattle.reader.specs.declared.plan.Plan.{Plan}
use Rattle.reader.specs.Refusals.{Answer}
use Rattle.reader.specs.Entries.{tasks}
use Rattle.reader.specs.Sound.{Sound, PlanSound}
use Rattle.reader.proofs.TestLaws.{clash, and_l, and_r, and_i}
use Rattle.reader.proofs.FirstLaws.{every_i, every_e}
use Rattle.rules.specs.declared.Loss.{Loss}
use Rattle.rules.specs.declared.Loss.TheVariants.{NoLoss}
use Rattle.rules.specs.Rules.{rows}
use Rattle.rules.specs.Replay.{is_finished, replay}
use Rattle.rules.specs.Trial.{Trial, good_under, tried_under, tried, loss_before}
use Rattle.rules.proofs.TrialLaws.{tried_is}
use Rattle.copies.specs.declared.table.Copies.{Copies}
use Rattle.judge.specs.Tasks.{TasksJudged}
use Rattle.trial.specs.Words.{run_count}
use Rattle.trial.specs.Runs.{Placed}
use Rattle.trial.specs.Passes.{loss_from, Passes}

module _ (job : Job) (plan : Plan) where
  abbrev Ended : Loss → Type 0
  Ended loss = (j : ℕ) → j < tasks job → is_finished (replay job plan loss j).primary ≡ true

  abbrev Good : Loss → Type 0
  Good loss = good_under job plan loss ≡ true

  -- behind the last primary nothing is lost
  loss_none : (begin r : ℕ) → tasks job ≤ begin + r → loss_from job plan begin r ≡ NoLoss
  unfolding loss_from
  loss_none begin r p = rw (le-ltb (begin + r) (tasks job) p)

  loss_some : (begin r : ℕ) → begin + r < tasks job → loss_from job plan begin r ≡ loss_before job (rows job plan (begin + r)).primary
  unfolding loss_from
  loss_some begin r p = rw (lt-ltb (begin + r) (tasks job) p)

  -- what all runs of the trial are
  record All : Type 0 where
    ended : Ended NoLoss
    none : Good NoLoss
    before : (j : ℕ) → j < tasks job → Good (loss_before job (rows job plan j).primary)

  tried_all : (tried job plan ≡ true) ↔ All
  unfolding tried_under
  tried_all = (
    λ h. record {
      ended = every_e (tasks job) _ (and_l _ _ h);
      none = and_l _ _ (and_r _ _ h);
      before = every_e (tasks job) _ (and_r _ _ (and_r _ _ h));
    },
    λ a. and_i _ _ (every_i (tasks job) _ a.ended) (and_i _ _ a.none (every_i (tasks job) _ a.before)),
  )

  all_passes : All → (begin : ℕ) (strict : Bool) → (strict ≡ true → tasks job ≤ begin) → Passes job plan begin strict
  all_passes a begin strict behind r p =
      elim (dec_lt (begin + r) (tasks job)) [
        | yes q ↦ (
          λ s. absurd (let z : ⊥ = omega (arith, behind s) in z),
          subst Good (sym (loss_some begin r q)) (a.before (begin + r) q),
        )
        | no q ↦ (
          λ s. subst Ended (sym (loss_none begin r (omega arith))) a.ended,
          subst Good (sym (loss_none begin r (omega arith))) a.none,
        )
      ]

  -- the losses of the primaries from `begin` on
  passes_before : (begin : ℕ) → Passes job plan begin false → (j : ℕ) → j < tasks job → begin ≤ j → j < begin + run_count
      → Good (loss_before job (rows job plan j).primary)
  passes_before begin h j p q s =
      let e : begin + (j - begin) ≡ j = omega arith in
      subst (λ i. Good (loss_before job (rows job plan i).primary)) e
      (subst Good (loss_some begin (j - begin) (omega arith)) (h (j - begin) (omega arith)).1)

  all_of : Passes job plan (tasks job) true → ((j : ℕ) → j < tasks job → Good (loss_before job (rows job plan j).primary)) → All
  all_of h before =
      let first = h 0 (omega arith) in
      record {
        ended = subst Ended (loss_none (tasks job) 0 (omega arith)) (first.0 refl);
        none = subst Good (loss_none (tasks job) 0 (omega arith)) first.1;
        before = before;
      }

  -- what each pass answers, over the table of the plan, which the judge's pass over the tasks makes
  module _ (sound : Sound job) (reads : PlanSound job plan) (cs : Copies) (leave : List ℕ) (a : Answer) (made : TasksJudged job plan cs leave a) where
    abbrev pub holds : Placed job cs leave
    holds =
        record {
          plan = plan;
          sound = sound;
          reads = reads;
          copied = record { primary = made.tabled.copied.primary; backup = made.tabled.copied.backup };
          leaving = record { size = made.leaving.size; soon = made.leaving.soon; is = made.leaving.is };
        }

    abbrev Says : Bool → ℕ → Bool → Type 0
    Says v begin strict = (w : Placed job cs leave) → (v ≡ true) ↔ Passes job w.plan begin strict

    trial_all : Trial job plan → All
    trial_all t = tried_all.0 ((tried_is job plan sound reads).1 t)

    all_trial : All → Trial job plan
    all_trial x = (tried_is job plan sound reads).0 (tried_all.1 x)

    pub pass_fails : (v : Bool) (begin : ℕ) (strict : Bool) → Says v begin strict → (strict ≡ true → tasks job ≤ begin) → v ≡ false
        → (b : Bool) → b ≡ false → (b ≡ true) ↔ Trial job plan
    pass_fails v begin strict is behind e b f =
        (λ h. clash b h f, λ t. clash _ ((is holds).1 (all_passes (trial_all t) begin strict behind)) e)

    module _ (u v : Bool) (is_first : Says u (tasks job) true) (ok_first : u ≡ true) (is_next : Says v 0 false) (ok_next : v ≡ true) where
      all_with : ((j : ℕ) → run_count ≤ j → j < tasks job → Good (loss_before job (rows job plan j).primary)) → Trial job plan
      all_with rest =
          all_trial (all_of ((is_first holds).0 ok_first) λ j q. elim (dec_lt j run_count) [
            | yes p ↦ passes_before 0 ((is_next holds).0 ok_next) j q (omega arith) (omega arith)
            | no p ↦ rest j (omega arith) q
          ])

      pub few_pass : tasks job ≤ run_count → (leb (tasks job) run_count ≡ true) ↔ Trial job plan
      few_pass p = (λ h. all_with (λ j q r. absurd (let z : ⊥ = omega arith in z)), λ t. le-leb _ _ p)

      pub last_pass : (x : Bool) → Says x run_count false → (x ≡ true) ↔ Trial job plan
      last_pass x is = (
        λ h. all_with (λ j q r. passes_before run_count ((is holds).0 h) j r (omega arith) (omega (arith, sound.tasks_most))),
        λ t. (is holds).1 (all_passes (trial_all t) run_count false (λ s. clash false s refl)),
      )
