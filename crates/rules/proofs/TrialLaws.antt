-- Laws of the trial's tests: a good run, and the runs that tell whether the trial says yes.
use Prim.Native.Nat.{ℕ, ◌<◌, max, min}
use mathlib.Core.Bool.{Bool, true, false}
use mathlib.Core.Path.{◌≡◌, refl, sym, ap}
use mathlib.Core.Logic.{◌↔◌}
use lib.Dec.{ltb, eqb}
use borrow.Author.Tests.{leb-true, le-leb, eqb-true, ltb-true}
use native.Mathlib.Omega.{arith}
use native.Mathlib.Decide.{dec_lt}
use Rattle.reader.specs.declared.job.Job.{Job}
use Rattle.reader.specs.declared.plan.Plan.{Plan}
use Rattle.reader.specs.Entries.{tasks, deadline}
use Rattle.reader.specs.Sound.{Sound, PlanSound}
use Rattle.reader.proofs.TestLaws.{split, clash, not_true, and_l, and_r, and_i, not_e, not_i}
use Rattle.reader.proofs.FirstLaws.{every_i, every_e}
use Rattle.rules.specs.declared.Copy.{Copy}
use Rattle.rules.specs.declared.Loss.{Loss}
use Rattle.rules.specs.declared.Loss.TheVariants.{NoLoss, Lost}
use Rattle.rules.specs.Copies.{HeldBy, overlap, domain}
use Rattle.rules.specs.Rules.{Row, rows, rule_b}
use Rattle.rules.specs.Replay.{State, not_started, cut, finished, started, attempt, TaskRun, run_primary, run_backup, run_task, runs_to, replay}
use Rattle.rules.specs.Survival.{Role, primary, backup, copy_of, state_of, Holds}
use Rattle.rules.specs.Trial.{GoodRun, Trial, is_started, meet, clear, done_by, good_run, good_under, tried_under, tried}
use Rattle.rules.proofs.CopyLaws.{overlap_i}
use Rattle.rules.proofs.FaultSetLaws.{runs_own}
use Rattle.rules.proofs.LossLaws.{held}
use Rattle.rules.proofs.MomentLaws.{lost_holds}
use Rattle.rules.proofs.TrialMoments.{moments_suffice, planned_loss}

-- a copy that holds its node started
holds_started : (loss : Loss) (c : Copy) (s : State) (tick : ℕ) → Holds loss c s tick → is_started s ≡ true
holds_started loss c not_started tick h = absurd (let z : ⊥ = omega arith in z)
holds_started loss c cut tick h = refl
holds_started loss c finished tick h = refl

-- and was let start
attempt_started : (job : Job) (loss : Loss) (b : Bool) (c : Copy) → is_started (attempt job loss b c) ≡ true → b ≡ true
unfolding attempt
attempt_started job loss true c h = refl
attempt_started job loss false c h = clash false h refl

-- the first tick of two started copies of one domain is held
module _ (job : Job) where
  started_holds : (loss : Loss) (c d : Copy) (b e : Bool) (tick : ℕ) → domain job c.node ≡ domain job d.node
      → is_started (attempt job loss b c) ≡ true → is_started (attempt job loss e d) ≡ true
      → tick ≡ max c.start d.start → HeldBy c tick → Holds loss c (attempt job loss b c) tick
  unfolding attempt started
  started_holds loss c d false e tick on h g is w = clash false h refl
  started_holds loss c d true false tick on h g is w = clash false g refl
  started_holds NoLoss c d true true tick on h g is w = w
  started_holds (Lost q f) c d true true tick on h g is w =
      (lost_holds job q f c tick).1 (w.0, w.1, λ at. let p = begun c at h in let r = begun d (rw on at at) g in omega arith)
    where
      begun : (c : Copy) → eqb (domain job c.node) q ≡ true → is_started (started job (Lost q f) c) ≡ true → c.start < f
      begun c at s = split (ltb c.start f) (λ early. ltb-true c.start f early) (λ late. clash false (rw (at, late) at s) refl)

-- tasks are clear of each other exactly if no copies of them meet
pub clear_is : (t : ℕ → Row) (x : ℕ → TaskRun) (i j : ℕ) → (clear t x i j ≡ true) ↔ ((a b : Role) → meet t x i j a b ≡ false)
unfolding clear
clear_is t x i j = (
  go,
  λ h. and_i _ _
      (and_i _ _ (not_i _ (h primary primary)) (not_i _ (h backup primary)))
      (and_i _ _ (not_i _ (h primary backup)) (not_i _ (h backup backup))),
)
  where
    go : clear t x i j ≡ true → (a b : Role) → meet t x i j a b ≡ false
    go h primary primary = not_e _ (and_l _ _ (and_l _ _ h))
    go h backup primary = not_e _ (and_r _ _ (and_l _ _ h))
    go h primary backup = not_e _ (and_l _ _ (and_r _ _ h))
    go h backup backup = not_e _ (and_r _ _ (and_r _ _ h))

-- the run of the rows t under a loss
module _ (job : Job) (sound : Sound job) (t : ℕ → Row) (loss : Loss) where
  abbrev x : ℕ → TaskRun
  x = runs_to job t t loss (tasks job)

  abbrev Held : ℕ → Role → ℕ → Type 0
  Held j a tick = Holds loss (copy_of a (t j)) (state_of a (x j)) tick

  -- each copy is tried
  attempted : (j : ℕ) (a : Role) → j < tasks job → (may : Bool) × (state_of a (x j) ≡ attempt job loss may (copy_of a (t j)))
  unfolding run_task run_primary run_backup
  attempted j primary p = (_, ap (λ r. r.primary) (runs_own job sound t t loss j p))
  attempted j backup p = (_, ap (λ r. r.backup) (runs_own job sound t t loss j p))

  held_of : (j : ℕ) (a : Role) (tick : ℕ) → j < tasks job → Held j a tick → HeldBy (copy_of a (t j)) tick
  held_of j a tick p h = let w = attempted j a p in held job loss (copy_of a (t j)) w.0 tick (rw w.1 at h)

  begun_of : (j : ℕ) (a : Role) (tick : ℕ) → Held j a tick → is_started (state_of a (x j)) ≡ true
  begun_of j a tick h = holds_started loss (copy_of a (t j)) (state_of a (x j)) tick h

  -- copies meet exactly if they hold one node at one tick
  meet_is : (i j : ℕ) (a b : Role) → i < tasks job → j < tasks job
      → (meet t x i j a b ≡ true) ↔ (((copy_of a (t i)).node ≡ (copy_of b (t j)).node) × ((tick : ℕ) × Held i a tick × Held j b tick))
  unfolding meet overlap
  meet_is i j a b p q = (
    λ h.
        let c = copy_of a (t i) in
        let d = copy_of b (t j) in
        let u = attempted i a p in
        let v = attempted j b q in
        let on = eqb-true c.node d.node (and_l _ _ (and_r _ _ h)) in
        let over = ltb-true (max c.start d.start) (min c.finish d.finish) (and_r _ _ (and_r _ _ h)) in
        let begun = rw u.1 at (and_l _ _ (and_l _ _ h)) in
        let other = rw v.1 at (and_r _ _ (and_l _ _ h)) in
        let same = ap (domain job) on in (
          on,
          (
            max c.start d.start,
            rw u.1 (started_holds job loss c d u.0 v.0 _ same begun other refl (omega arith)),
            rw v.1 (started_holds job loss d c v.0 u.0 _ (sym same) other begun (omega arith) (omega arith)),
          ),
        ),
    λ w. and_i _ _
        (and_i _ _ (begun_of i a _ w.1.1) (begun_of j b _ w.1.2))
        (overlap_i _ _ w.1.0 w.0 (held_of i a _ p w.1.1) (held_of j b _ q w.1.2)),
  )

  -- a backup that starts does so when its primary would have finished, or later
  backup_waits : (j : ℕ) → j < tasks job → is_started (x j).backup ≡ true → rule_b job (t j) ≡ true
  unfolding run_task run_backup
  backup_waits j p = rw (runs_own job sound t t loss j p) λ h. and_l _ _ (and_r _ _ (attempt_started job loss _ (t j).backup h))

  own_apart : (j tick : ℕ) → j < tasks job → Held j primary tick → Held j backup tick → ⊥
  unfolding rule_b
  own_apart j tick p h g =
      let b = leb-true _ (t j).backup.start (backup_waits j p (begun_of j backup tick g)) in
      omega (arith, held_of j primary tick p h, held_of j backup tick p g)

  same_task : (j : ℕ) (a b : Role) → j < tasks job → (tick : ℕ) → Held j a tick → Held j b tick → a ≡ b
  same_task j primary primary p tick h g = refl
  same_task j backup backup p tick h g = refl
  same_task j primary backup p tick h g = absurd (own_apart j tick p h g)
  same_task j backup primary p tick h g = absurd (own_apart j tick p g h)

  pub good_run_is : (good_run job t (runs_to job t t loss (tasks job)) ≡ true) ↔ GoodRun job t loss (runs_to job t t loss (tasks job))
  unfolding good_run done_by
  good_run_is = (
    λ h.
        let dones = every_e (tasks job) _ (and_l _ _ h) in
        let off : (i j : ℕ) (a b : Role) → i < j → j < tasks job → (copy_of a (t i)).node ≡ (copy_of b (t j)).node
        → (tick : ℕ) → Held i a tick → Held j b tick → ⊥ =
        λ i j a b p q e tick hi hj. clash _ ((meet_is i j a b (omega arith) q).1 (e, (tick, hi, hj)))
        ((clear_is t x i j).0 (every_e j _ (every_e (tasks job) _ (and_r _ _ h) j q) i p) a b) in
        record {
          done = λ j p. leb-true 1 _ (and_l _ _ (dones j p));
          by_deadline = λ j p. leb-true _ (deadline job j) (and_r _ _ (dones j p));
          apart = λ i j a b p q e tick hi hj.
              elim (dec_lt i j) [
                | yes below ↦ absurd (off i j a b below q e tick hi hj)
                | no not_below ↦ elim (dec_lt j i) [
                  | yes above ↦ absurd (off j i b a above p (sym e) tick hj hi)
                  | no not_above ↦ let same : i ≡ j = omega arith in (same, same_task j a b q tick (rw same at hi) hj)
                ]
              ];
        },
    λ good. and_i _ _
        (every_i (tasks job) _ (λ j p. and_i _ _ (le-leb 1 _ (good.done j p)) (le-leb _ (deadline job j) (good.by_deadline j p))))
        (every_i (tasks job) _ (λ j q. every_i j _ (λ i p. (clear_is t x i j).1 (λ a b. not_true _ λ m.
        let w = (meet_is i j a b (omega arith) q).0 m in
        omega (arith, (good.apart i j a b (omega arith) q w.0 w.1.0 w.1.1 w.1.2).0))))),
  )

-- what the code tries is the trial
pub tried_is : (job : Job) (plan : Plan) → Sound job → PlanSound job plan → (tried job plan ≡ true) ↔ Trial job plan
unfolding tried_under good_under replay
tried_is job plan sound plan_sound =
    let run = good_run_is job sound (rows job plan) in (
      λ h. moments_suffice job plan sound plan_sound (every_e (tasks job) _ (and_l _ _ h)) ((run NoLoss).0 (and_l _ _ (and_r _ _ h)))
          (λ j p. (run _).0 (every_e (tasks job) _ (and_r _ _ (and_r _ _ h)) j p)),
      λ w. and_i _ _ (every_i (tasks job) _ w.primaries) (and_i _ _ ((run NoLoss).1 (w.good NoLoss tt))
          (every_i (tasks job) _ (λ j p. (run _).1 (w.good _ (planned_loss job plan plan_sound j p))))),
    )
