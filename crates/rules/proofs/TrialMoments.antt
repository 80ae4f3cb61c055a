-- The moments that the trial replays stand for all others.
use Prim.Native.Nat.{ℕ, zero, suc, ◌+◌, ◌-◌, max, ◌≤◌, ◌<◌}
use mathlib.Core.Bool.{Bool, true, false, not}
use mathlib.Core.Path.{◌≡◌, refl, sym, ◌∙◌, ap₂, subst}
use lib.Dec.{leb, eqb}
use borrow.Author.Tests.{leb-true, le-leb, eqb-true, eqb-false, eq-eqb}
use native.Mathlib.Nat.{not-suc-le-zero}
use native.Mathlib.Omega.{arith}
use Rattle.reader.specs.declared.job.Job.{Job}
use Rattle.reader.specs.declared.plan.Plan.{Plan}
use Rattle.reader.specs.Tests.{◌and◌, ◌or◌}
use Rattle.reader.specs.First.{every}
use Rattle.reader.specs.Entries.{nodes, tasks, place}
use Rattle.reader.specs.Sound.{Sound, PlanSound}
use Rattle.reader.proofs.TestLaws.{split, clash, and_l, and_r, and_if, or_r, not_x, not_e, same_test, below_suc}
use Rattle.reader.proofs.FirstLaws.{every_e, every_x, any_i}
use Rattle.rules.specs.declared.Loss.{Loss}
use Rattle.rules.specs.declared.Loss.TheVariants.{NoLoss, Lost}
use Rattle.rules.specs.Copies.{copy, domain, has_node}
use Rattle.rules.specs.Rules.{Row, fault_set, rows, rule_f}
use Rattle.rules.specs.Replay.{is_finished, started, runs_to, replay}
use Rattle.rules.specs.Survival.{LossOf, Role, primary, backup, copy_of}
use Rattle.rules.specs.Firm.{struck}
use Rattle.rules.specs.Trial.{GoodRun, Trial, KeptApart, loss_before}
use Rattle.rules.proofs.FaultSetLaws.{rows_faults, row_primary}
use Rattle.rules.proofs.LossLaws.{from_start}
use Rattle.rules.proofs.FirmSurvives.{covered}
use Rattle.rules.proofs.PassedSurvives.{kept_firm, planned_runs}
use Rattle.rules.proofs.MomentLaws.{lost_finished, lost_holds, CalledOn, SameEnds, HoldsMore, good_less}
use Rattle.rules.proofs.GoodKeeps.{good_kept}

-- the rows t, each copy of which runs
module _
    (job : Job) (sound : Sound job) (t : ℕ → Row)
    (runs : (j : ℕ) (a : Role) → j < tasks job → (copy_of a (t j)).start < (copy_of a (t j)).finish)
  where
    abbrev Good : Loss → Type 0
    Good loss = GoodRun job t loss (runs_to job t t loss (tasks job))

    -- a copy of domain q that is called on under a loss at f, and whose finish is at most g, has one at most f
    abbrev Quiet : ℕ → ℕ → ℕ → Type 0
    Quiet q f g = (j : ℕ) (a : Role) → j < tasks job → CalledOn (runs_to job t t (Lost q f) (tasks job) j) a
        → domain job (copy_of a (t j)).node ≡ q → (copy_of a (t j)).finish ≤ g → (copy_of a (t j)).finish ≤ f

    -- where no copy of q finishes after f up to g, a loss at f takes no more than one at g
    good_sooner : (q f g : ℕ) → f ≤ g → Quiet q f g → Good (Lost q g) → Good (Lost q f)
    unfolding ◌or◌
    good_sooner q f g le quiet = good_less job sound t (Lost q f) (Lost q g) same more
      where
        fits : (j : ℕ) (a : Role) → j < tasks job → CalledOn (runs_to job t t (Lost q f) (tasks job) j) a
            → (not (eqb (domain job (copy_of a (t j)).node) q) or leb (copy_of a (t j)).finish f)
            ≡ (not (eqb (domain job (copy_of a (t j)).node) q) or leb (copy_of a (t j)).finish g)
        fits j a p called =
            split (eqb (domain job (copy_of a (t j)).node) q)
            (λ on. rw on (same_test _ _
            (λ h. le-leb _ g (let b = leb-true (copy_of a (t j)).finish f h in omega arith))
            (λ h. le-leb _ f (quiet j a p called (eqb-true _ q on) (leb-true _ g h)))))
            (λ off. rw off)

        same : SameEnds job t (Lost q f) (Lost q g)
        same j a p called =
            rw (lost_finished job q f (copy_of a (t j)) (runs j a p), lost_finished job q g (copy_of a (t j)) (runs j a p)) (fits j a p called)

        more : HoldsMore job t (Lost q f) (Lost q g)
        more j a p tick h =
            let w = (lost_holds job q f (copy_of a (t j)) tick).0 h in
            (lost_holds job q g (copy_of a (t j)) tick).1 (w.0, w.1, λ on. let b = w.2 on in omega arith)

    -- once every copy of q has finished, a loss takes nothing
    good_late : (q f : ℕ) → ((j : ℕ) (a : Role) → j < tasks job → (copy_of a (t j)).finish ≤ f) → Good NoLoss → Good (Lost q f)
    unfolding started
    good_late q f over = good_less job sound t (Lost q f) NoLoss same more
      where
        same : SameEnds job t (Lost q f) NoLoss
        same j a p called = rw (lost_finished job q f (copy_of a (t j)) (runs j a p), le-leb _ f (over j a p)) (or_r _ _ refl)

        more : HoldsMore job t (Lost q f) NoLoss
        more j a p tick h = let w = (lost_holds job q f (copy_of a (t j)) tick).0 h in (w.0, w.1)

    -- no finish of the first n tasks is above this
    unfoldable latest : ℕ → ℕ
    latest zero = 0
    latest (suc n) = max (latest n) (max (t n).primary.finish (t n).backup.finish)

    latest_most : (n j : ℕ) (a : Role) → j < n → (copy_of a (t j)).finish ≤ latest n
    unfolding latest
    latest_most zero j a p = absurd (not-suc-le-zero p)
    latest_most (suc n) j a p = below_suc j n p (λ q. let b = latest_most n j a q in omega arith) (λ e. rw e (last a))
      where
        last : (a : Role) → (copy_of a (t n)).finish ≤ max (latest n) (max (t n).primary.finish (t n).backup.finish)
        last primary = omega arith
        last backup = omega arith

    -- what is good late, and good one tick sooner each time, is good at every moment
    good_down : (q : ℕ) → Good NoLoss → ((f : ℕ) → Good (Lost q (suc f)) → Good (Lost q f)) → (f : ℕ) → Good (Lost q f)
    good_down q none step f = from (latest (tasks job)) f (omega arith)
      where
        from : (k f : ℕ) → latest (tasks job) ≤ f + k → Good (Lost q f)
        from zero f b = good_late q f (λ j a p. let c = latest_most (tasks job) j a p in omega arith) none
        from (suc k) f b = step f (from k (suc f) (omega arith))

    -- primary j is of domain q and finishes right after f
    abbrev ends_next : ℕ → ℕ → ℕ → Bool
    ends_next q f j = eqb (domain job (t j).primary.node) q and eqb (t j).primary.finish (suc f)

    -- then f is the tick before its finish
    at_next : (q f j : ℕ) → ends_next q f j ≡ true → Good (loss_before job (t j).primary) → Good (Lost q f)
    at_next q f j h =
        let here = eqb-true (domain job (t j).primary.node) q (and_l _ _ h) in
        let last = eqb-true (t j).primary.finish (suc f) (and_r _ _ h) in
        let tick : (t j).primary.finish - 1 ≡ f = omega arith in
        let e : loss_before job (t j).primary ≡ Lost q f = ap₂ Lost here tick in
        subst Good e

    -- else, on q, it finishes by f if it does by the tick after
    by_next : (q f j : ℕ) → ends_next q f j ≡ false → domain job (t j).primary.node ≡ q
        → (t j).primary.finish ≤ suc f → (t j).primary.finish ≤ f
    by_next q f j h on le =
        let other = eqb-false (t j).primary.finish (suc f) (sym (and_if _ _ (eq-eqb _ q on)) ∙ h) in
        omega arith

    -- rows that keep the rules, but that a primary and a backup may share time
    module _ (own : (j : ℕ) → j < tasks job → (t j).faults ≡ fault_set job t j (t j).primary) (kept : KeptApart job t) where
      -- a backup that is called on is not of the lost domain
      called_away : (q f : ℕ) → LossOf job (Lost q f) → (j : ℕ) → j < tasks job → CalledOn (runs_to job t t (Lost q f) (tasks job) j) backup
          → domain job (t j).backup.node ≡ q → ⊥
      unfolding struck rule_f
      called_away q f o j p called on =
          let firm = kept_firm job t own runs sound kept in
          let hit = (covered job sound t (λ i. (t i).faults) 0 firm (Lost q f) o (from_start (Lost q f)) j p called).0 in
          clash _ hit (subst (λ n. (t j).faults n ≡ false) on (not_e _ (kept.f j p)))

      -- so runs are good at every moment if they are with no loss and at the tick before each primary's finish
      pub good_always : Good NoLoss → ((j : ℕ) → j < tasks job → Good (loss_before job (t j).primary))
          → (loss : Loss) → LossOf job loss → Good loss
      good_always none before NoLoss o = none
      good_always none before (Lost q f) o = good_down q none step f
        where
          step : (f : ℕ) → Good (Lost q (suc f)) → Good (Lost q f)
          step f good =
              split (every (tasks job) (λ j. not (ends_next q f j)))
              (λ h. good_sooner q f (suc f) (omega arith) (quiet h) good)
              (λ h. every_x (tasks job) _ h λ j p e. at_next q f j (not_x _ e) (before j p))
            where
              quiet : every (tasks job) (λ j. not (ends_next q f j)) ≡ true → Quiet q f (suc f)
              quiet h j primary p called on le = by_next q f j (not_e _ (every_e (tasks job) _ h j p)) on le
              quiet h j backup p called on le = absurd (called_away q f o j p called on)

-- 'that these stand for all others is to be proved': a plan is good at every moment if all primaries finish without loss, and it is good without loss
-- and with the domain of each primary lost at the tick before its finish
pub moments_suffice : (job : Job) (plan : Plan) → Sound job → PlanSound job plan
    → ((j : ℕ) → j < tasks job → is_finished (replay job plan NoLoss j).primary ≡ true)
    → GoodRun job (rows job plan) NoLoss (replay job plan NoLoss)
    → ((j : ℕ) → j < tasks job → let loss = loss_before job (rows job plan j).primary in GoodRun job (rows job plan) loss (replay job plan loss))
    → Trial job plan
unfolding replay
moments_suffice job plan sound plan_sound primaries none before =
    let own = rows_faults job sound plan in
    let runs = planned_runs job plan plan_sound in
    record {
      primaries = primaries;
      good = good_always job sound (rows job plan) runs own (good_kept job sound (rows job plan) own runs primaries none before) none before;
    }

-- the domain of a planned primary has a node of the job
pub planned_loss : (job : Job) (plan : Plan) → PlanSound job plan → (j : ℕ) → j < tasks job → LossOf job (loss_before job (rows job plan j).primary)
unfolding copy has_node
planned_loss job plan s j p =
    let n = (place plan j).primary_node in
    rw (row_primary job plan (tasks job) j p) (any_i (nodes job) _ n (s.primary_node j p) (eq-eqb (domain job n) _ refl))
