-- After each link and each task the words tell of every run what replay does.
use Prim.Native.Nat.{ℕ, ◌+◌, ◌*◌, ◌≤◌, ◌<◌}
use mathlib.Core.Bool.{Bool, not}
use mathlib.Core.List.{List}
use mathlib.Core.Path.{◌≡◌, refl, sym, ◌∙◌, ap, ap₂, subst}
use lib.Bits.{bit_and}
use lib.Dec.{leb, eqb}
use lib.ListN.{get_or, set, length, length-set, replicate, length-replicate, get_or-replicate}
use lib.Seq.{get_or-set_same, get_or-set_other}
use borrow.Author.Tests.{eqb-true, eqb-false, eq-eqb, ne_eqb}
use native.Mathlib.Nat.{not-suc-le-zero}
use native.Mathlib.Omega.{arith}
use Rattle.reader.specs.declared.job.Job.{Job}
use Rattle.reader.specs.declared.job.Link.{Link}
use Rattle.reader.specs.declared.job.Node.{Node}
use Rattle.reader.specs.Tests.{◌and◌, ◌or◌}
use Rattle.reader.specs.First.{every}
use Rattle.reader.specs.Entries.{nodes, tasks, links, ready, link}
use Rattle.reader.proofs.TestLaws.{split, below_suc, and_yes}
use Rattle.reader.proofs.FirstLaws.{every_start, every_more, every_rest}
use Rattle.rules.specs.declared.Copy.{Copy}
use Rattle.rules.specs.Copies.{copy, in_time, domain}
use Rattle.rules.specs.Rules.{Row, rows, rule_ready, rule_b}
use Rattle.rules.specs.Replay.{is_finished, attempt, TaskRun, arrived, fed, run_primary, run_backup, run_task, replay}
use Rattle.rules.specs.Survival.{Role, primary, backup, copy_of, state_of}
use Rattle.rules.specs.Trial.{is_started}
use Rattle.rules.proofs.FaultSetLaws.{runs_own, row_primary, row_backup}
use Rattle.rules.proofs.PassedSurvives.{planned_runs}
use Rattle.rules.proofs.DomainLaws.{domain_below}
use Rattle.copies.specs.declared.table.Copies.{Copies}
use Rattle.copies.specs.Sets.{has, every_group}
use Rattle.copies.specs.Arrival.{comes, result_at}
use Rattle.copies.specs.Table.{copy_count}
use Rattle.copies.proofs.SetLaws.{has_every}
use Rattle.copies.proofs.ArrivalLaws.{comes_is, result_is}
use Rattle.replay.proofs.LinkOrder.{ahead}
use Rattle.trial.specs.declared.runs.Outcomes.{Outcomes}
use Rattle.trial.specs.declared.words.Losses.{Losses}
use Rattle.trial.specs.Words.{run_count, Tells, Narrow, spared_in}
use Rattle.trial.specs.Runs.{fed_by, fed_one, fed_with, node_of, may, primary_ends, primary_starts, called, backup_ends, backup_starts, of_task, Settled}
use Rattle.trial.specs.Runs.{no_group, loss_at, Placed, at, Told, brings, Upto}
use Rattle.trial.proofs.LossBits.{implied, free, turned, turned_call, ends_may, starts_may, stays_ends, stays_starts}
use Rattle.trial.proofs.PlacedLaws.{copied_at}
use Rattle.trial.proofs.WordLaws.{tells_picked, tells_both, tells_either, tells_without, tells_spared, narrow_both, narrow_spared}

-- the plan of a table, and its runs
module _ (job : Job) (cs : Copies) (leave : List ℕ) (w : Placed job cs leave) (losses : Losses) where
  abbrev t : ℕ → Row
  t = rows job w.plan

  abbrev x : ℕ → ℕ → TaskRun
  x r = replay job w.plan (loss_at losses r)

  abbrev carries : ℕ → Role → ℕ → ℕ → Bool
  carries = brings job w.plan losses

  pub upto_start : (x : Outcomes) → length x.ended ≡ copy_count → length x.started ≡ copy_count
      → Upto job w.plan losses 0 0 (replicate copy_count every_group) x
  upto_start x le ls =
      record {
        within = omega arith;
        links_within = omega arith;
        size = length-replicate copy_count every_group;
        told =
            record {
              ended_size = le;
              started_size = ls;
              ends = λ j a p. absurd (not-suc-le-zero p);
              starts = λ j a p. absurd (not-suc-le-zero p);
              narrow = λ j a p. absurd (not-suc-le-zero p);
            };
        inputs = λ i a p r q.
            ap (λ v. has v r) (get_or-replicate copy_count (at i a) every_group 0 (low i a p)) ∙ has_every r q ∙ sym (every_start (carries i a r));
      }
    where
      low : (i : ℕ) (a : Role) → i < tasks job → at i a < copy_count
      low i primary p = omega (arith, w.sound.tasks_most)
      low i backup p = omega (arith, w.sound.tasks_most)

  module _ (j k : ℕ) (feds : List ℕ) (y : Outcomes) (u : Upto job w.plan losses j k feds y) where
    -- link k, whose sender is settled
    module _ (more : k < links job) (settled : (link job k).from < j) where
      abbrev l : Link
      l = link job k

      from_below : l.from < tasks job
      from_below = omega (arith, u.within)

      comes_at : (a : Role) (c : Copy) → comes (result_at cs.node cs.finish leave l.delay (at l.from a)) c
          ≡ in_time job l (copy_of a (t l.from)) c
      comes_at a c =
          ap (λ y. comes y c) (result_is job (2 * tasks job) cs leave w.leaving l (at l.from a) (below a))
          ∙ comes_is job l _ c ∙ ap (λ d. in_time job l d c) (copied_at job cs leave w l.from a from_below)
        where
          below : (a : Role) → at l.from a < 2 * tasks job
          below primary = omega (arith, from_below)
          below backup = omega (arith, from_below)

      -- the runs in which copy c has its input by it
      tells_fed : (c : Copy) → Tells (fed_by cs leave l y.ended c) (λ r. arrived job l (t l.from) (x r l.from) c)
      unfolding arrived
      tells_fed c r p =
          tells_either (get_or y.ended (2 * l.from) 0) (get_or y.ended (2 * l.from + 1) 0) _ _
          (u.told.ends l.from primary settled) (u.told.ends l.from backup settled) _ _ r p
          ∙ ap₂ (λ s v. is_finished (x r l.from).primary and s or is_finished (x r l.from).backup and v) (comes_at primary c) (comes_at backup c)

      -- at the copies of its receiver, and at others
      fed_here : (a : Role) (feds' : List ℕ) → length feds' ≡ copy_count → get_or feds' (at l.to a) 0 ≡ get_or feds (at l.to a) 0
          → Tells (get_or (fed_one cs leave l y.ended (at l.to a) feds') (at l.to a) 0) (λ r. every (k + 1) (carries l.to a r))
      fed_here a feds' long same r p =
          let low = w.sound.into k more in
          ap (λ v. has v r) (get_or-set_same feds' (at l.to a) _ 0 (room a))
          ∙ tells_both _ _ _ _ (λ r q. ap (λ v. has v r) same ∙ u.inputs l.to a low r q)
          (λ r q. ap (λ c. has (fed_by cs leave l y.ended c) r) (copied_at job cs leave w l.to a low) ∙ tells_fed (copy_of a (t l.to)) r q) r p
          ∙ ap (λ b. every k (carries l.to a r) and b) (sym (implied _ _ (eq-eqb l.to l.to refl)))
          ∙ sym (every_more k (carries l.to a r))
        where
          room : (a : Role) → at l.to a < length feds'
          room primary = omega (arith, long, w.sound.into k more, w.sound.tasks_most)
          room backup = omega (arith, long, w.sound.into k more, w.sound.tasks_most)

      fed_stays : (i : ℕ) (a : Role) → i < tasks job → (l.to ≡ i → ⊥) → (feds' : List ℕ) → get_or feds' (at i a) 0 ≡ get_or feds (at i a) 0
          → Tells (get_or feds' (at i a) 0) (λ r. every (k + 1) (carries i a r))
      fed_stays i a low other feds' same r p =
          ap (λ v. has v r) same ∙ u.inputs i a low r p ∙ sym (and_yes _)
          ∙ ap (λ b. every k (carries i a r) and b) (sym (free _ _ (ne_eqb l.to i other))) ∙ sym (every_more k (carries i a r))

      abbrev once : List ℕ
      once = fed_one cs leave l y.ended (2 * l.to) feds

      abbrev twice : List ℕ
      twice = fed_one cs leave l y.ended (2 * l.to + 1) once

      inputs_more : (i : ℕ) (a : Role) → i < tasks job → Tells (get_or twice (at i a) 0) (λ r. every (k + 1) (carries i a r))
      inputs_more i a low =
          split (eqb l.to i)
          (λ e. let is = eqb-true l.to i e in
          subst (λ i. Tells (get_or twice (at i a) 0) (λ r. every (k + 1) (carries i a r))) is (here a))
          (λ e. let ne = eqb-false l.to i e in fed_stays i a low ne twice (away a ne))
        where
          here : (a : Role) → Tells (get_or twice (at l.to a) 0) (λ r. every (k + 1) (carries l.to a r))
          here primary r p =
              ap (λ v. has v r) (get_or-set_other once (2 * l.to + 1) (2 * l.to) _ 0 (λ e. omega arith)) ∙ fed_here primary feds u.size refl r p
          here backup r p =
              fed_here backup once (length-set feds (2 * l.to) _ ∙ u.size) (get_or-set_other feds (2 * l.to) (2 * l.to + 1) _ 0 (λ e. omega arith)) r p

          away : (a : Role) → (l.to ≡ i → ⊥) → get_or twice (at i a) 0 ≡ get_or feds (at i a) 0
          away primary ne =
              get_or-set_other once (2 * l.to + 1) (2 * i) _ 0 (λ e. omega arith) ∙ get_or-set_other feds (2 * l.to) (2 * i) _ 0 (λ e. ne (omega arith))
          away backup ne =
              get_or-set_other once (2 * l.to + 1) (2 * i + 1) _ 0 (λ e. ne (omega arith))
              ∙ get_or-set_other feds (2 * l.to) (2 * i + 1) _ 0 (λ e. omega arith)

      pub upto_sent : (feds' : List ℕ) → feds' ≡ fed_with cs leave (link job k) y.ended feds → Upto job w.plan losses j (k + 1) feds' y
      unfolding fed_with
      upto_sent feds' e =
          subst (λ z. Upto job w.plan losses j (k + 1) z y) (sym e)
          (record {
            within = u.within;
            links_within = omega arith;
            size = length-set once (2 * l.to + 1) _ ∙ length-set feds (2 * l.to) _ ∙ u.size;
            told = u.told;
            inputs = inputs_more;
          })

    pub upto_link : (m : ℕ) → k ≡ m → Upto job w.plan losses j m feds y
    upto_link m e = subst (λ i. Upto job w.plan losses j i feds y) e u

    -- task j, which no link is left to feed
    module _ (below : j < tasks job) (left : k < links job → j ≤ (link job k).from) where
      fed_all : (a : Role) → Tells (get_or feds (at j a) 0) (λ r. fed job t (x r) j (copy_of a (t j)))
      unfolding fed
      fed_all a r p =
          u.inputs j a below r p
          ∙ every_rest (carries j a r) k (links job) u.links_within λ m q s.
          free _ _ (ne_eqb (link job m).to j (λ e. omega (arith, ahead job w.sound j k m (left (omega arith)) q s, w.sound.rise m s)))

      run_own : (r : ℕ) → x r j ≡ run_task job t t (loss_at losses r) (x r) j
      unfolding replay
      run_own r = runs_own job w.sound t t (loss_at losses r) j below

      -- a copy of it that may start in these runs, on a node of this group
      module _ (a : Role) (g may : ℕ) (f : ℕ → Bool) (tells : Tells may f) (in_group : domain job (copy_of a (t j)).node ≡ g) where
        low : g < no_group
        unfolding copy
        low = subst (λ g. g < no_group) in_group (domain_below job w.sound _ (on a))
          where
            on : (a : Role) → (copy_of a (t j)).node < nodes job
            on primary = rw (row_primary job w.plan (tasks job) j below) (w.reads.primary_node j below)
            on backup = rw (row_backup job w.plan (tasks job) j below) (w.reads.backup_node j below)

        may_end : Tells (bit_and may (spared_in losses g (copy_of a (t j)).finish run_count))
            (λ r. is_finished (attempt job (loss_at losses r) (f r) (copy_of a (t j))))
        may_end r p =
            tells_both _ _ _ _ tells (tells_spared losses g (copy_of a (t j)).finish) r p
            ∙ ap (λ b. f r and b) (stays_ends job losses r (copy_of a (t j)) g in_group low (planned_runs job w.plan w.reads j a below))
            ∙ sym (ends_may job (loss_at losses r) (copy_of a (t j)) (f r))

        may_start : Tells (bit_and may (spared_in losses g ((copy_of a (t j)).start + 1) run_count))
            (λ r. is_started (attempt job (loss_at losses r) (f r) (copy_of a (t j))))
        may_start r p =
            tells_both _ _ _ _ tells (tells_spared losses g ((copy_of a (t j)).start + 1)) r p
            ∙ ap (λ b. f r and b) (stays_starts job losses r (copy_of a (t j)) g in_group low)
            ∙ sym (starts_may job (loss_at losses r) (copy_of a (t j)) (f r))

      -- what is said of its two copies
      abbrev words : (Job → Losses → ℕ → Copy → Copy → ℕ → ℕ → ℕ) → ℕ
      words f = f job losses (ready job j) (t j).primary (t j).backup (get_or feds (2 * j) 0) (get_or feds (2 * j + 1) 0)

      is_copies : (f : Job → Losses → ℕ → Copy → Copy → ℕ → ℕ → ℕ) → of_task (f job losses (ready job j)) cs feds j ≡ words f
      is_copies f =
          ap₂ (λ c d. f job losses (ready job j) c d (get_or feds (2 * j) 0) (get_or feds (2 * j + 1) 0))
          (copied_at job cs leave w j primary below) (copied_at job cs leave w j backup below)

      abbrev own : Node
      own = node_of job (t j).primary

      abbrev other : Node
      other = node_of job (t j).backup

      may_primary : Tells (words may) (λ r. rule_ready job j (t j).primary and fed job t (x r) j (t j).primary)
      unfolding rule_ready
      may_primary r p = tells_picked (leb (ready job j) (t j).primary.start) _ _ (fed_all primary) r p ∙ turned _ _

      in_own : domain job (t j).primary.node ≡ own.group
      unfolding domain
      in_own = refl

      in_other : domain job (t j).backup.node ≡ other.group
      unfolding domain
      in_other = refl

      own_ends : Tells (words primary_ends) (λ r. is_finished (x r j).primary)
      unfolding run_task run_primary
      own_ends r p = may_end primary own.group _ _ may_primary in_own r p ∙ ap (λ y. is_finished y.primary) (sym (run_own r))

      own_starts : Tells (words primary_starts) (λ r. is_started (x r j).primary)
      unfolding run_task run_primary
      own_starts r p = may_start primary own.group _ _ may_primary in_own r p ∙ ap (λ y. is_started y.primary) (sym (run_own r))

      may_backup : Tells (words called) (λ r. not (is_finished (x r j).primary) and rule_b job (t j) and fed job t (x r) j (t j).backup)
      unfolding rule_b
      may_backup r p =
          let s = leb ((t j).primary.finish + own.detect) (t j).backup.start in
          tells_without _ _ _ _ (tells_picked s _ _ (fed_all backup)) own_ends r p
          ∙ turned_call (fed job t (x r) j (t j).backup) s (is_finished (x r j).primary)

      run_backup_lem : (r : ℕ) → (x r j).backup
          ≡ attempt job (loss_at losses r) (not (is_finished (x r j).primary) and rule_b job (t j) and fed job t (x r) j (t j).backup) (t j).backup
      unfolding run_task run_backup
      run_backup_lem r =
          ap (λ y. y.backup) (run_own r)
          ∙ ap (λ s. attempt job (loss_at losses r) (not (is_finished s) and rule_b job (t j) and fed job t (x r) j (t j).backup) (t j).backup)
          (sym (ap (λ y. y.primary) (run_own r)))

      other_ends : Tells (words backup_ends) (λ r. is_finished (x r j).backup)
      other_ends r p = may_end backup other.group _ _ may_backup in_other r p ∙ ap is_finished (sym (run_backup_lem r))

      other_starts : Tells (words backup_starts) (λ r. is_started (x r j).backup)
      other_starts r p = may_start backup other.group _ _ may_backup in_other r p ∙ ap is_started (sym (run_backup_lem r))

      own_narrow : Narrow (words primary_starts)
      own_narrow = narrow_both (words may) _ (narrow_spared losses own.group ((t j).primary.start + 1))

      other_narrow : Narrow (words backup_starts)
      other_narrow = narrow_both (words called) _ (narrow_spared losses other.group ((t j).backup.start + 1))

      -- the words that are there, with those of its two copies
      module _ (P : ℕ → ℕ → Role → Type 0) (list : List ℕ) (long : length list ≡ copy_count) (v v' : ℕ)
          (first : P v j primary) (second : P v' j backup) where
        abbrev new : List ℕ
        new = set (set list (2 * j) v) (2 * j + 1) v'

        fits : 2 * j + 1 < copy_count
        fits = omega (arith, w.sound.tasks_most)

        at_task : (a : Role) → P (get_or new (at j a) 0) j a
        at_task primary =
            subst (λ n. P n j primary) (sym (get_or-set_other (set list (2 * j) v) (2 * j + 1) (2 * j) v' 0 (λ e. omega arith)
            ∙ get_or-set_same list (2 * j) v 0 (omega (arith, fits)))) first
        at_task backup =
            subst (λ n. P n j backup) (sym (get_or-set_same (set list (2 * j) v) (2 * j + 1) v' 0 (omega (arith, fits, length-set list (2 * j) v)))) second

        new_at : ((i : ℕ) (a : Role) → i < j → P (get_or list (at i a) 0) i a) → (i : ℕ) (a : Role) → i < j + 1 → P (get_or new (at i a) 0) i a
        new_at old i a p =
            below_suc i j (omega arith)
            (λ q. subst (λ n. P n i a) (sym (get_or-set_other (set list (2 * j) v) (2 * j + 1) (at i a) v' 0 (off a _ (omega arith) q)
            ∙ get_or-set_other list (2 * j) (at i a) v 0 (off a _ (omega arith) q))) (old i a q))
            (λ e. subst (λ i. P (get_or new (at i a) 0) i a) (sym e) (at_task a))
          where
            off : (a : Role) (n : ℕ) → 2 * j ≤ n → i < j → at i a ≡ n → ⊥
            off primary n p q e = omega arith
            off backup n p q e = omega arith

      pub upto_settled : (y' : Outcomes) → Settled job cs feds losses j y y'
          → Upto job w.plan losses (j + 1) k feds y'
      upto_settled y' s =
          let ends = s.ends ∙ ap₂ (λ v v'. set (set y.ended (2 * j) v) (2 * j + 1) v')
          (is_copies primary_ends) (is_copies backup_ends) in
          let starts = s.starts ∙ ap₂ (λ v v'. set (set y.started (2 * j) v) (2 * j + 1) v')
          (is_copies primary_starts) (is_copies backup_starts) in
          let old = u.told in
          record {
            within = omega arith;
            links_within = u.links_within;
            size = u.size;
            told =
                record {
                  ended_size = ap length ends ∙ length-set (set y.ended (2 * j) _) (2 * j + 1) _ ∙ length-set y.ended (2 * j) _ ∙ old.ended_size;
                  started_size =
                      ap length starts ∙ length-set (set y.started (2 * j) _) (2 * j + 1) _ ∙ length-set y.started (2 * j) _ ∙ old.started_size;
                  ends = subst (λ z. (i : ℕ) (a : Role) → i < j + 1 → Tells (get_or z (at i a) 0) (λ r. is_finished (state_of a (x r i)))) (sym ends)
                      (new_at (λ v i a. Tells v (λ r. is_finished (state_of a (x r i)))) y.ended old.ended_size _ _ own_ends other_ends old.ends);
                  starts = subst (λ z. (i : ℕ) (a : Role) → i < j + 1 → Tells (get_or z (at i a) 0) (λ r. is_started (state_of a (x r i))))
                      (sym starts)
                      (new_at (λ v i a. Tells v (λ r. is_started (state_of a (x r i)))) y.started old.started_size _ _ own_starts other_starts old.starts);
                  narrow = subst (λ z. (i : ℕ) (a : Role) → i < j + 1 → Narrow (get_or z (at i a) 0)) (sym starts)
                      (new_at (λ v i a. Narrow v) y.started old.started_size _ _ own_narrow other_narrow old.narrow);
                };
            inputs = u.inputs;
          }

    pub upto_done : tasks job ≤ j → Told job w.plan losses (tasks job) y
    upto_done p = let d : j ≡ tasks job = omega (arith, u.within) in subst (λ n. Told job w.plan losses n y) d u.told
