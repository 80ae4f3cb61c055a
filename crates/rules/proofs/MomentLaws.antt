-- Runs under two losses: the one that takes less from each copy, and leaves the same copies finished, is good if the other is.
use Prim.Native.Nat.{ℕ, zero, suc, ◌≤◌, ◌<◌}
use mathlib.Core.Bool.{Bool, true, false, not}
use mathlib.Core.Path.{◌≡◌, refl, sym, ◌∙◌, ap, subst}
use mathlib.Core.Logic.{◌↔◌}
use lib.Dec.{ltb, leb, eqb}
use borrow.Author.Tests.{leb-true, leb-false, lt-ltb, lt-leb, eq-eqb}
use native.Mathlib.Nat.{not-suc-le-zero}
use native.Mathlib.Omega.{arith}
use Rattle.reader.specs.declared.job.Job.{Job}
use Rattle.reader.specs.Tests.{◌and◌, ◌or◌, ◌implies◌}
use Rattle.reader.specs.Entries.{tasks, links, deadline, link}
use Rattle.reader.specs.Sound.{Sound}
use Rattle.reader.proofs.TestLaws.{split, clash, and_l, not_e}
use Rattle.reader.proofs.FirstLaws.{every_same}
use Rattle.rules.specs.declared.Copy.{Copy}
use Rattle.rules.specs.declared.Loss.{Loss}
use Rattle.rules.specs.declared.Loss.TheVariants.{Lost}
use Rattle.rules.specs.Copies.{domain}
use Rattle.rules.specs.Rules.{Row, rule_ready, rule_b}
use Rattle.rules.specs.Replay.{is_finished, started, attempt, TaskRun, arrived, fed, run_primary, run_backup, run_task, runs_to, finish_of}
use Rattle.rules.specs.Survival.{Role, primary, backup, copy_of, state_of, Holds}
use Rattle.rules.specs.Trial.{GoodRun}
use Rattle.rules.proofs.FaultSetLaws.{from_below, runs_own}

module _ (job : Job) (q f : ℕ) (c : Copy) where
  -- a copy that runs is finished, once started, exactly if it is off the lost domain or its finish is at most f
  pub lost_finished : c.start < c.finish → is_finished (started job (Lost q f) c) ≡ (not (eqb (domain job c.node) q) or leb c.finish f)
  unfolding started ◌or◌
  lost_finished runs =
      split (eqb (domain job c.node) q)
      (λ on. split (leb c.finish f)
      (λ e. rw (on, e, lt-ltb c.start f (let b = leb-true c.finish f e in omega arith)))
      (λ e. split (ltb c.start f) (λ s. rw (on, e, s)) (λ s. rw (on, e, s))))
      (λ off. rw off)

  pub lost_cut : c.start < c.finish → domain job c.node ≡ q → f < c.finish → is_finished (started job (Lost q f) c) ≡ false
  unfolding ◌or◌
  lost_cut runs on late = rw (lost_finished runs, eq-eqb (domain job c.node) q on, lt-leb c.finish f late)

  -- once started it holds its own ticks, on the lost domain those before f
  abbrev pub LostHolds : ℕ → Type 0
  LostHolds tick = (c.start ≤ tick) × (tick < c.finish) × (eqb (domain job c.node) q ≡ true → tick < f)

  pub lost_holds : (tick : ℕ) → Holds (Lost q f) c (started job (Lost q f) c) tick ↔ LostHolds tick
  unfolding started
  lost_holds tick = (
    λ h. split (eqb (domain job c.node) q)
        (λ on. split (ltb c.start f)
        (λ early. split (leb c.finish f)
        (λ whole. let g = rw (on, early, whole) at h in let b = leb-true c.finish f whole in (omega arith, omega arith, λ e. omega arith))
        (λ cuts. let g = rw (on, early, cuts) at h in let b = leb-false c.finish f cuts in (omega arith, omega arith, λ e. omega arith)))
        (λ late. let g = rw (on, late) at h in absurd (let z : ⊥ = omega arith in z)))
        (λ off. let g = rw off at h in (g.0, g.1, λ e. clash _ e off)),
    λ w. split (eqb (domain job c.node) q)
        (λ on.
        let b = w.2 on in
        let early = lt-ltb c.start f (omega arith) in
        split (leb c.finish f)
        (λ whole. rw (on, early, whole) (w.0, w.1))
        (λ cuts. rw (on, early, cuts) (w.0, b)))
        (λ off. rw off (w.0, w.1)),
  )

-- copy a of a task is called on in the run x: a backup, if its primary did not finish
abbrev pub CalledOn : TaskRun → Role → Type 0
CalledOn x primary = Unit {0}
CalledOn x backup = is_finished x.primary ≡ false

-- of the rows t under l and m: the same copies, of those that are called on, finish once started; and what a started copy holds under l it holds under m
module _ (job : Job) (t : ℕ → Row) (l m : Loss) where
  abbrev pub SameEnds : Type 0
  SameEnds = (j : ℕ) (a : Role) → j < tasks job → CalledOn (runs_to job t t l (tasks job) j) a
      → is_finished (started job l (copy_of a (t j))) ≡ is_finished (started job m (copy_of a (t j)))

  abbrev pub HoldsMore : Type 0
  HoldsMore = (j : ℕ) (a : Role) → j < tasks job → (tick : ℕ)
      → Holds l (copy_of a (t j)) (started job l (copy_of a (t j))) tick → Holds m (copy_of a (t j)) (started job m (copy_of a (t j))) tick

-- their runs
module _ (job : Job) (sound : Sound job) (t : ℕ → Row) (l m : Loss) (same : SameEnds job t l m) (more : HoldsMore job t l m)
  where
    abbrev x : ℕ → TaskRun
    x = runs_to job t t l (tasks job)

    abbrev y : ℕ → TaskRun
    y = runs_to job t t m (tasks job)

    -- copy a of task j may start under both losses, or under neither
    record Both (j : ℕ) (a : Role) : Type 0 where
      starts : Bool
      called : starts ≡ true → CalledOn (x j) a
      left : state_of a (x j) ≡ attempt job l starts (copy_of a (t j))
      right : state_of a (y j) ≡ attempt job m starts (copy_of a (t j))

    attempt_same : (j : ℕ) (a : Role) → j < tasks job → (b : Bool) → (b ≡ true → CalledOn (x j) a)
        → is_finished (attempt job l b (copy_of a (t j))) ≡ is_finished (attempt job m b (copy_of a (t j)))
    unfolding attempt
    attempt_same j a p true h = same j a p (h refl)
    attempt_same j a p false h = refl

    attempt_more : (j : ℕ) (a : Role) → j < tasks job → (tick : ℕ) (b : Bool)
        → Holds l (copy_of a (t j)) (attempt job l b (copy_of a (t j))) tick → Holds m (copy_of a (t j)) (attempt job m b (copy_of a (t j))) tick
    unfolding attempt
    attempt_more j a p tick true h = more j a p tick h
    attempt_more j a p tick false h = h

    finished_same : (j : ℕ) (a : Role) → j < tasks job → Both j a → is_finished (state_of a (x j)) ≡ is_finished (state_of a (y j))
    finished_same j a p w = ap is_finished w.left ∙ attempt_same j a p w.starts w.called ∙ sym (ap is_finished w.right)

    holds_more : (j : ℕ) (a : Role) → j < tasks job → (tick : ℕ) → Both j a
        → Holds l (copy_of a (t j)) (state_of a (x j)) tick → Holds m (copy_of a (t j)) (state_of a (y j)) tick
    holds_more j a p tick w h = rw w.right (attempt_more j a p tick w.starts (rw w.left at h))

    module _ (j : ℕ) (pj : j < tasks job) (below : (i : ℕ) (a : Role) → i < j → Both i a) where
      fed_same : (c : Copy) → fed job t y j c ≡ fed job t x j c
      unfolding fed ◌implies◌ arrived
      fed_same c =
          every_same (links job) _ _ λ k pk.
          split (eqb (link job k).to j)
          (λ e.
          let i = (link job k).from in
          let b = from_below job sound j k pk e in
          rw (finished_same i primary (omega arith) (below i primary b), finished_same i backup (omega arith) (below i backup b)))
          (λ e. rw e)

      primary_next : Both j primary
      unfolding run_task run_primary
      primary_next =
          record {
            starts = rule_ready job j (t j).primary and fed job t x j (t j).primary;
            called = λ h. tt;
            left = ap (λ r. r.primary) (runs_own job sound t t l j pj);
            right =
                ap (λ r. r.primary) (runs_own job sound t t m j pj)
                ∙ ap (λ b. attempt job m (rule_ready job j (t j).primary and b) (t j).primary) (fed_same (t j).primary);
          }

      backup_next : Both j backup
      unfolding run_task run_backup
      backup_next =
          let fin = finished_same j primary pj primary_next in
          record {
            starts = not (is_finished (x j).primary) and rule_b job (t j) and fed job t x j (t j).backup;
            called = λ h. not_e _ (and_l _ _ h);
            left = rw (runs_own job sound t t l j pj);
            right = rw (fin, ← fed_same (t j).backup) (rw (runs_own job sound t t m j pj));
          }

      both_next : (a : Role) → Both j a
      both_next primary = primary_next
      both_next backup = backup_next

    both_to : (n j : ℕ) (a : Role) → j < n → n ≤ tasks job → Both j a
    both_to zero j a b p = absurd (not-suc-le-zero b)
    both_to (suc n) j a b p = both_next j (omega arith) (λ i r q. both_to n i r (omega arith) (omega arith)) a

    both : (j : ℕ) (a : Role) → j < tasks job → Both j a
    both j a p = both_to (tasks job) j a p (omega arith)

    finish_same : (j : ℕ) → j < tasks job → finish_of (t j) (x j) ≡ finish_of (t j) (y j)
    unfolding finish_of
    finish_same j p = rw (finished_same j primary p (both j primary p), finished_same j backup p (both j backup p))

    pub good_less : GoodRun job t m (runs_to job t t m (tasks job)) → GoodRun job t l (runs_to job t t l (tasks job))
    good_less good =
        record {
          done = λ j p. subst (λ f. 1 ≤ f) (sym (finish_same j p)) (good.done j p);
          by_deadline = λ j p. subst (λ f. f ≤ deadline job j) (sym (finish_same j p)) (good.by_deadline j p);
          apart = λ i j a b p q e tick h g.
              good.apart i j a b p q e tick (holds_more i a p tick (both i a p) h) (holds_more j b q tick (both j b q) g);
        }
