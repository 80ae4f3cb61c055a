-- Good runs keep the rules: with no loss, and with each primary's domain lost at the tick before that primary's finish.
use Prim.Native.Nat.{ℕ, zero, suc, ◌-◌, ◌≤◌, ◌<◌}
use mathlib.Core.Bool.{true, false}
use mathlib.Core.Path.{◌≡◌, refl, sym, ap₂, subst}
use lib.Dec.{leb, eqb}
use borrow.Author.Tests.{leb-true, leb-false, le-leb, eqb-true, eq-eqb}
use native.Mathlib.Nat.{not-suc-le-zero}
use native.Mathlib.Omega.{arith}
use Rattle.reader.specs.declared.job.Job.{Job}
use Rattle.reader.specs.Tests.{◌and◌, ◌implies◌}
use Rattle.reader.specs.First.{every}
use Rattle.reader.specs.Entries.{tasks, links, deadline, link}
use Rattle.reader.specs.Sound.{Sound}
use Rattle.reader.proofs.TestLaws.{split, clash, not_true, not_false, and_l, and_r, and_i, or_r, imp_e, imp_i, imp_x, not_i}
use Rattle.reader.proofs.FirstLaws.{every_e, every_x, any_e}
use Rattle.rules.specs.declared.Loss.{Loss}
use Rattle.rules.specs.declared.Loss.TheVariants.{NoLoss, Lost}
use Rattle.rules.specs.Copies.{overlap, in_time, domain, domains}
use Rattle.rules.specs.Rules.{Row, fault_set, share_fault, rule_a, rule_ready, rule_b, rule_c, rule_d, rule_e, rule_f}
use Rattle.rules.specs.Replay.{is_finished, TaskRun, fed, runs_to, finish_of}
use Rattle.rules.specs.Survival.{Role, primary, backup, copy_of, state_of}
use Rattle.rules.specs.Trial.{GoodRun, alike_apart, KeptApart, loss_before}
use Rattle.rules.proofs.CopyLaws.{overlap_is}
use Rattle.rules.proofs.FaultSetLaws.{faults_here, faults_e}
use Rattle.rules.proofs.RunLaws.{finished_holds, primary_finished, backup_finished, from_primary}
use Rattle.rules.proofs.RunLaws.{ends_before, from_backup, fed_at, early_finished, struck_unfinished}
use Rattle.rules.proofs.MomentLaws.{lost_finished, lost_cut}

module _
    (job : Job) (sound : Sound job) (t : ℕ → Row)
    (own : (j : ℕ) → j < tasks job → (t j).faults ≡ fault_set job t j (t j).primary)
    (runs : (j : ℕ) (a : Role) → j < tasks job → (copy_of a (t j)).start < (copy_of a (t j)).finish)
    (primaries : (j : ℕ) → j < tasks job → is_finished (runs_to job t t NoLoss (tasks job) j).primary ≡ true)
    (none : GoodRun job t NoLoss (runs_to job t t NoLoss (tasks job)))
    (before : (j : ℕ) → j < tasks job
    → GoodRun job t (loss_before job (t j).primary) (runs_to job t t (loss_before job (t j).primary) (tasks job)))
  where
    abbrev run : Loss → ℕ → TaskRun
    run loss = runs_to job t t loss (tasks job)

    abbrev Good : Loss → Type 0
    Good loss = GoodRun job t loss (run loss)

    -- in a good run a backup whose primary did not finish is finished by the deadline
    covers : (loss : Loss) → Good loss → (j : ℕ) → j < tasks job → is_finished (run loss j).primary ≡ false
        → (is_finished (run loss j).backup ≡ true) × ((t j).backup.finish ≤ deadline job j)
    unfolding finish_of
    covers loss good j p h =
        let least = rw h at (good.done j p) in
        let most = rw h at (good.by_deadline j p) in
        let fin : is_finished (run loss j).backup ≡ true = not_false _ λ e. let none_done = rw e at least in omega arith in
        (fin, rw fin at most)

    -- with no loss all primaries finish, so they are ready, and fed by primaries
    keeps_ready : (j : ℕ) → j < tasks job → rule_ready job j (t j).primary ≡ true
    keeps_ready j p = (primary_finished job sound t NoLoss j p (primaries j p)).0

    keeps_d_lem : (k : ℕ) → k < links job → rule_d job (link job k) (t (link job k).from) (t (link job k).to).primary ≡ true
    unfolding rule_d
    keeps_d_lem k pk =
        let into = sound.into k pk in
        let is_fed = (primary_finished job sound t NoLoss (link job k).to into (primaries _ into)).1 in
        from_primary job sound t NoLoss k pk _ (fed_at job sound t NoLoss _ _ is_fed k pk refl)
        (primaries (link job k).from (omega (arith, sound.rise k pk)))

    -- a moment before the finish of every primary of q, at which the run is good
    record Struck (q : ℕ) : Type 0 where
      moment : ℕ
      sooner : (j : ℕ) → j < tasks job → domain job (t j).primary.node ≡ q → moment < (t j).primary.finish
      good : Good (Lost q moment)

    -- a primary of q gives one: the tick before the least finish of these
    least_struck : (n i q : ℕ) → i < tasks job → domain job (t i).primary.node ≡ q → (t i).primary.finish ≤ suc n
        → ((j : ℕ) → j < tasks job → domain job (t j).primary.node ≡ q → n < (t j).primary.finish) → Struck q
    least_struck n i q p on b all =
        let last : (t i).primary.finish - 1 ≡ n = omega (arith, all i p on) in
        let e : loss_before job (t i).primary ≡ Lost q n = ap₂ Lost on last in
        record { moment = n; sooner = all; good = subst Good e (before i p) }

    struck_by : (n i q : ℕ) → i < tasks job → domain job (t i).primary.node ≡ q → (t i).primary.finish ≤ n → Struck q
    struck_by zero i q p on b = absurd (let z : ⊥ = omega (arith, runs i primary p) in z)
    struck_by (suc n) i q p on b =
        split (every (tasks job) (λ j. eqb (domain job (t j).primary.node) q implies leb (suc n) (t j).primary.finish))
        (λ all. least_struck n i q p on b (λ j pj e. leb-true (suc n) _ (imp_e _ _ (every_e (tasks job) _ all j pj) (eq-eqb _ q e))))
        (λ some. every_x (tasks job) _ some λ j pj e. imp_x _ _ e λ here late.
        let l = leb-false (suc n) (t j).primary.finish late in
        struck_by n j q pj (eqb-true _ q here) (omega arith))

    -- and so does a fault set with q
    struck_in : (n j q : ℕ) → j < n → n ≤ tasks job → (t j).faults q ≡ true → Struck q
    struck_in zero j q b p h = absurd (not-suc-le-zero b)
    struck_in (suc n) j q b p h =
        faults_e job t j (t j).primary q (rw (own j (omega arith)) at h)
        (λ here. struck_by (t j).primary.finish j q (omega arith) here (omega arith))
        (λ k pk at weak hk. let r = sound.rise k pk in struck_in n (link job k).from q (omega arith) (omega arith) hk)

    -- q is lost at such a moment, and is in the fault set of j
    module _ (q : ℕ) (s : Struck q) where
      abbrev loss : Loss
      loss = Lost q s.moment

      struck_before : (n j : ℕ) → j < n → n ≤ tasks job → (t j).faults q ≡ true → s.moment < (t j).primary.finish
      struck_before zero j b p h = absurd (not-suc-le-zero b)
      struck_before (suc n) j b p h =
          faults_e job t j (t j).primary q (rw (own j (omega arith)) at h)
          (λ here. s.sooner j (omega arith) here)
          (λ k pk at weak hk.
          let r = sound.rise k pk in
          let ih = struck_before n (link job k).from (omega arith) (omega arith) hk in
          let ends = subst (λ i. (t (link job k).from).primary.finish ≤ (t i).primary.start) at (ends_before job t k (keeps_d_lem k pk)) in
          omega (arith, runs j primary (omega arith)))

      module _ (j : ℕ) (p : j < tasks job) (hit : (t j).faults q ≡ true) where
        unfinished : is_finished (run loss j).primary ≡ false
        unfinished =
            struck_unfinished job sound t own q s.moment
            (λ i pi on. lost_cut job q s.moment (t i).primary (runs i primary pi) on (s.sooner i pi on)) j p hit

        by_backup : is_finished (run loss j).backup ≡ true
        by_backup = (covers loss s.good j p unfinished).0

        ends_in_time : (t j).backup.finish ≤ deadline job j
        ends_in_time = (covers loss s.good j p unfinished).1

        detected : rule_b job (t j) ≡ true
        detected = (backup_finished job sound t loss j p by_backup).1

        backup_fed : fed job t (run loss) j (t j).backup ≡ true
        backup_fed = (backup_finished job sound t loss j p by_backup).2

        backup_away : domain job (t j).backup.node ≡ q → ⊥
        unfolding rule_b
        backup_away e =
            let b = leb-true _ (t j).backup.start detected in
            let m = struck_before (tasks job) j p (omega arith) hit in
            clash _ (backup_finished job sound t loss j p by_backup).3
            (lost_cut job q s.moment (t j).backup (runs j backup p) e (omega (arith, runs j backup p)))

    -- the own domain of a primary
    hit_here : (j : ℕ) → j < tasks job → (t j).faults (domain job (t j).primary.node) ≡ true
    hit_here j p = rw (own j p) (faults_here job t j (t j).primary _ (eq-eqb (domain job (t j).primary.node) _ refl))

    struck_here : (j : ℕ) → j < tasks job → Struck (domain job (t j).primary.node)
    struck_here j p = struck_by (t j).primary.finish j _ p refl (omega arith)

    -- link k, with the domain of the receiver's primary lost one tick before that primary's finish
    module _ (k : ℕ) (pk : k < links job) where
      abbrev i : ℕ
      i = (link job k).from

      abbrev j : ℕ
      j = (link job k).to

      abbrev pj : j < tasks job
      pj = sound.into k pk

      abbrev late : Loss
      late = loss_before job (t j).primary

      cut_short : is_finished (run late j).primary ≡ false
      cut_short =
          let r = runs j primary pj in
          not_true _ λ fin. clash _ (primary_finished job sound t late j pj fin).2
          (lost_cut job _ ((t j).primary.finish - 1) (t j).primary r refl (omega arith))

      sender_finished : is_finished (run late i).primary ≡ true
      sender_finished =
          let last = (t j).primary.finish - 1 in
          let below = sound.rise k pk in
          let ends = ends_before job t k (keeps_d_lem k pk) in
          early_finished job sound t late last
          (λ m pm le. rw (lost_finished job (domain job (t j).primary.node) last (t m).primary (runs m primary pm)) (or_r _ _ (le-leb _ last le)))
          (λ m pm. runs m primary pm) keeps_ready keeps_d_lem i (omega (arith, pj)) (omega (arith, runs j primary pj))

      feeds_backup : in_time job (link job k) (t i).primary (t j).backup ≡ true
      feeds_backup =
          let called = (covers late (before j pj) j pj cut_short).0 in
          let is_fed = (backup_finished job sound t late j pj called).2 in
          from_primary job sound t late k pk _ (fed_at job sound t late j _ is_fed k pk refl) sender_finished

      backup_feeds : share_fault job (t i) (t j) ≡ true → in_time job (link job k) (t i).backup (t j).backup ≡ true
      unfolding share_fault
      backup_feeds h =
          any_e (domains job) _ h λ q o both.
          let pi : i < tasks job = omega (arith, sound.rise k pk, pj) in
          let s = struck_in (tasks job) j q pj (omega arith) (and_r _ _ both) in
          from_backup job sound t (Lost q s.moment) k pk _
          (fed_at job sound t (Lost q s.moment) j _ (backup_fed q s j pj (and_r _ _ both)) k pk refl)
          (unfinished q s i pi (and_l _ _ both))

    -- copies that finish in a good run do not overlap
    no_overlap : (loss : Loss) → Good loss → (i j : ℕ) (a : Role) → i < j → j < tasks job
        → is_finished (state_of a (run loss i)) ≡ true → is_finished (state_of a (run loss j)) ≡ true
        → overlap (copy_of a (t i)) (copy_of a (t j)) ≡ true → ⊥
    no_overlap loss good i j a p q fi fj h =
        let w = (overlap_is (copy_of a (t i)) (copy_of a (t j))).0 h in
        let tick = w.1.0 in
        let same = good.apart i j a a (omega arith) q w.0 tick
        (finished_holds loss (copy_of a (t i)) (state_of a (run loss i)) tick fi w.1.1)
        (finished_holds loss (copy_of a (t j)) (state_of a (run loss j)) tick fj w.1.2) in
        omega (arith, same.0)

    pub good_kept : KeptApart job t
    unfolding rule_a rule_c rule_e rule_f share_fault alike_apart
    good_kept =
        record {
          a = λ j p. not_i _ (not_true _ (λ e. backup_away _ (struck_here j p) j p (hit_here j p) (sym (eqb-true _ _ e))));
          ready = keeps_ready;
          b = λ j p. detected _ (struck_here j p) j p (hit_here j p);
          c = λ j p. le-leb _ (deadline job j) (ends_in_time _ (struck_here j p) j p (hit_here j p));
          d = keeps_d_lem;
          e = λ k pk. and_i _ _ (feeds_backup k pk) (imp_i _ _ (backup_feeds k pk));
          f = λ j p. not_i _ (not_true _ (λ h. backup_away _ (struck_in (tasks job) j _ p (omega arith) h) j p h refl));
          g = λ i j p q. and_i _ _ (not_i _ (primaries_apart i j p q)) (not_i _ (backups_apart i j p q));
        }
      where
        primaries_apart : (i j : ℕ) → i < j → j < tasks job → overlap (t i).primary (t j).primary ≡ false
        primaries_apart i j p q = not_true _ (λ h. no_overlap NoLoss none i j primary p q (primaries i (omega arith)) (primaries j q) h)

        backups_apart : (i j : ℕ) → i < j → j < tasks job → (overlap (t i).backup (t j).backup and share_fault job (t i) (t j)) ≡ false
        backups_apart i j p q = not_true _ (λ h.
            any_e (domains job) _ (and_r _ _ h) λ m o both.
            let s = struck_in (tasks job) j m q (omega arith) (and_r _ _ both) in
            no_overlap (Lost m s.moment) s.good i j backup p q
            (by_backup m s i (omega arith) (and_l _ _ both)) (by_backup m s j q (and_r _ _ both)) (and_l _ _ h))
