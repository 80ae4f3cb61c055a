-- What the words of a pass say of its runs: in which every primary ends, each task is done by its deadline, and copies that start are apart.
use Prim.Native.Nat.{ℕ, ◌+◌, ◌-◌, ◌*◌, ◌≤◌, ◌<◌}
use mathlib.Core.Bool.{Bool, true, false, not}
use mathlib.Core.List.{List}
use mathlib.Core.Logic.{◌↔◌}
use mathlib.Core.Option.{Option, none, some}
use mathlib.Core.Path.{◌≡◌, refl, sym, ◌∙◌, ap, ap₂, subst}
use lib.Dec.{leb, ltb}
use lib.ListN.{get_or}
use borrow.Author.Tests.{eqb-true, eq-eqb, ltb-true, le-leb}
use native.Mathlib.Omega.{arith}
use Rattle.reader.specs.declared.job.Job.{Job}
use Rattle.reader.specs.declared.refusal.Refusal.{Refusal}
use Rattle.reader.specs.declared.refusal.Refusal.TheVariants.{Overlap}
use Rattle.reader.specs.Refusals.{Answer}
use Rattle.std.specs.Result.{is_ok}
use Rattle.reader.specs.Tests.{◌and◌, ◌or◌, ◌implies◌}
use Rattle.reader.specs.First.{first, every, any}
use Rattle.reader.specs.Entries.{tasks, deadline, no_node}
use Rattle.reader.specs.Refusals.{answered}
use Rattle.reader.proofs.TestLaws.{split, clash, never, not_true, and_l, and_r, and_i, imp_e, imp_i, not_e, not_i}
use Rattle.reader.proofs.FirstLaws.{every_i, every_e, any_i, any_e}
use Rattle.reader.proofs.FirstFails.{no_pair_fail}
use Rattle.rules.specs.declared.Copy.{Copy}
use Rattle.rules.specs.declared.Loss.TheVariants.{Lost}
use Rattle.rules.specs.Copies.{overlap, domain}
use Rattle.rules.specs.Rules.{Row, rows}
use Rattle.rules.specs.Replay.{is_finished, TaskRun, replay, finish_of}
use Rattle.rules.specs.Survival.{Role, primary, backup, copy_of, state_of}
use Rattle.rules.specs.Trial.{is_started, meet, clear, done_by, good_run, good_under}
use Rattle.rules.proofs.PassedSurvives.{planned_runs}
use Rattle.rules.proofs.RunLaws.{backup_finished}
use Rattle.rules.proofs.TrialLaws.{clear_is}
use Rattle.copies.specs.declared.table.Copies.{Copies}
use Rattle.copies.specs.Table.{table, entry, set_at}
use Rattle.copies.specs.Clash.{clashes}
use Rattle.copies.proofs.ClashLaws.{clashes_is}
use Rattle.judge.specs.Overlaps.{apart, pair_apart, pair_breach}
use Rattle.trial.specs.declared.runs.Outcomes.{Outcomes}
use Rattle.trial.specs.declared.words.Losses.{Losses}
use Rattle.trial.specs.Words.{run_count, Tells, either_of}
use Rattle.trial.specs.Runs.{loss_at, Placed, at, Told}
use Rattle.trial.specs.Passes.{is_full, done_in, ends_in, loss_in, LossesFrom, loss_from, Passes}
use Rattle.trial.proofs.WordLaws.{tells_either, none_missing, meets_run}
use Rattle.trial.proofs.PlacedLaws.{copied_at}

-- a full word
pub full : (v : ℕ) (f : ℕ → Bool) → Tells v f → (is_full v ≡ true) ↔ ((r : ℕ) → r < run_count → f r ≡ true)
full v f t = (λ h. (none_missing v f t).0 (eqb-true _ 0 h), λ h. eq-eqb _ 0 ((none_missing v f t).1 h))

-- nothing was refused
none_ok : (o : Option Refusal) → (is_ok (answered o) ≡ true) ↔ (o ≡ none)
none_ok none = (λ h. refl, λ h. refl)
none_ok (some r) = (λ h. never (cc), λ h. never (cc))

-- done by the deadline: a copy that ended by then
done_by_lem : (by : ℕ) (r : Row) (x : TaskRun) → 1 ≤ r.primary.finish → 1 ≤ r.backup.finish
    → (is_finished x.backup ≡ true → is_finished x.primary ≡ false)
    → done_by by r x ≡ (is_finished x.primary and leb r.primary.finish by or is_finished x.backup and leb r.backup.finish by)
unfolding done_by finish_of ◌and◌ ◌or◌
done_by_lem by r x p q once =
    split (is_finished x.primary)
    (λ e. split (is_finished x.backup)
    (λ b. clash _ e (once b))
    (λ b. rw (e, b, le-leb 1 r.primary.finish p) (or_no _)))
    (λ e. split (is_finished x.backup) (λ b. rw (e, b, le-leb 1 r.backup.finish q)) (λ b. rw (e, b)))
  where
    or_no : (b : Bool) → b ≡ (b or false)
    or_no true = refl
    or_no false = refl

module _ (job : Job) (cs : Copies) (leave : List ℕ) (w : Placed job cs leave) (losses : Losses) (y : Outcomes)
    (told : Told job w.plan losses (tasks job) y) where
  abbrev t : ℕ → Row
  t = rows job w.plan

  abbrev x : ℕ → ℕ → TaskRun
  x r = replay job w.plan (loss_at losses r)

  runs : (j : ℕ) (a : Role) → j < tasks job → (copy_of a (t j)).start < (copy_of a (t j)).finish
  runs = planned_runs job w.plan w.reads

  pub all_end : (every (tasks job) (ends_in y.ended) ≡ true)
      ↔ ((r : ℕ) → r < run_count → (j : ℕ) → j < tasks job → is_finished (replay job w.plan (loss_at losses r) j).primary ≡ true)
  unfolding ends_in
  all_end = (
    λ h r p j q. (full _ _ (told.ends j primary q)).0 (every_e (tasks job) _ h j q) r p,
    λ h. every_i (tasks job) _ (λ j q. (full _ _ (told.ends j primary q)).1 (λ r p. h r p j q)),
  )

  -- the word of a task tells in which runs it is done
  tells_done : (j : ℕ) → (q : j < tasks job) → let by = deadline job j in
      Tells (either_of (leb (get_or cs.finish (2 * j) 0) by) (get_or y.ended (2 * j) 0)
      (leb (get_or cs.finish (2 * j + 1) 0) by) (get_or y.ended (2 * j + 1) 0))
      (λ r. done_by by (t j) (x r j))
  unfolding replay
  tells_done j q r p =
      let by = deadline job j in
      tells_either _ _ _ _ (told.ends j primary q) (told.ends j backup q) _ _ r p
      ∙ ap₂ (λ (c d : Copy). is_finished (x r j).primary and leb c.finish by or is_finished (x r j).backup and leb d.finish by)
      (copied_at job cs leave w j primary q) (copied_at job cs leave w j backup q)
      ∙ sym (done_by_lem by (t j) (x r j) (omega (arith, runs j primary q)) (omega (arith, runs j backup q))
      (λ h. (backup_finished job w.sound t (loss_at losses r) j q h).0))

  pub all_done : (every (tasks job) (done_in job.tasks cs.finish y.ended) ≡ true)
      ↔ ((r : ℕ) → r < run_count → (j : ℕ) → j < tasks job → done_by (deadline job j) (t j) (x r j) ≡ true)
  unfolding done_in
  all_done = (
    λ h r p j q. (full _ _ (tells_done j q)).0 (every_e (tasks job) _ h j q) r p,
    λ h. every_i (tasks job) _ (λ j q. (full _ _ (tells_done j q)).1 (λ r p. h r p j q)),
  )

  -- the table with the runs in which each copy starts as its set
  abbrev marked : Copies
  marked = table cs.node cs.start cs.finish y.started

  -- copies clash in it exactly if they meet in a run
  module _ (i j : ℕ) (p : i < tasks job) (q : j < tasks job) (a b : Role) where
    abbrev clashing : Bool
    clashing = clashes (set_at marked (at j b)) (entry marked (at j b)) (entry marked (at i a)) (set_at marked (at i a))

    abbrev both_start : ℕ → Bool
    both_start r = is_started (state_of a (x r i)) and is_started (state_of b (x r j))

    abbrev over : Bool
    over = overlap (copy_of a (t i)) (copy_of b (t j))

    clash_is : clashing ≡ (over and any run_count both_start)
    clash_is =
        let ei = copied_at job cs leave w i a p in
        let ej = copied_at job cs leave w j b q in
        clashes_is (set_at marked (at j b)) (entry marked (at j b)) (entry marked (at i a)) (set_at marked (at i a))
        (subst (λ (c : Copy). c.start < c.finish) (sym ei) (runs i a p)) (subst (λ (c : Copy). c.start < c.finish) (sym ej) (runs j b q))
        ∙ ap₂ ◌and◌ (ap₂ overlap ei ej) (meets_run _ _ _ _ (told.narrow i a p) (told.starts i a p) (told.starts j b q))

    never_meet : clashing ≡ false → (r : ℕ) → r < run_count → meet t (x r) i j a b ≡ false
    unfolding meet
    never_meet h r s = not_true _ λ m. clash _ (clash_is ∙ and_i _ _ (and_r _ _ m) (any_i run_count both_start r s (and_l _ _ m))) h

    no_clash : ((r : ℕ) → r < run_count → meet t (x r) i j a b ≡ false) → clashing ≡ false
    unfolding meet
    no_clash h = not_true _ λ c.
        let both = sym clash_is ∙ c in
        any_e run_count both_start (and_r _ _ both) λ r s m. clash _ (and_i _ _ m (and_l _ _ both)) (h r s)

  -- so do tasks
  pair_clear : (i j : ℕ) → i < tasks job → j < tasks job
      → (pair_apart marked i j ≡ true) ↔ ((r : ℕ) → r < run_count → clear t (x r) i j ≡ true)
  unfolding pair_apart apart
  pair_clear i j p q = (
    λ h r s. (clear_is t (x r) i j).1 (λ a b. never_meet i j p q a b (off h a b) r s),
    λ h. let on : (a b : Role) → not (clashing i j p q a b) ≡ true =
        λ a b. not_i _ (no_clash i j p q a b (λ r s. (clear_is t (x r) i j).0 (h r s) a b)) in
        and_i _ _ (and_i _ _ (on primary primary) (on backup primary)) (and_i _ _ (on primary backup) (on backup backup)),
  )
    where
      off : pair_apart marked i j ≡ true → (a b : Role) → clashing i j p q a b ≡ false
      off h primary primary = not_e _ (and_l _ _ (and_l _ _ h))
      off h backup primary = not_e _ (and_r _ _ (and_l _ _ h))
      off h primary backup = not_e _ (and_l _ _ (and_r _ _ h))
      off h backup backup = not_e _ (and_r _ _ (and_r _ _ h))

  all_apart : (first (tasks job) (pair_breach marked (tasks job)) ≡ none)
      ↔ ((r : ℕ) → r < run_count → (i j : ℕ) → i < j → j < tasks job → clear t (x r) i j ≡ true)
  unfolding pair_breach
  all_apart = (
    λ h r s i j p q. (pair_clear i j (omega arith) q).0 ((no_pair_fail (tasks job) (pair_apart marked) Overlap).0 h i j p q) r s,
    λ h. (no_pair_fail (tasks job) (pair_apart marked) Overlap).1 (λ i j p q. (pair_clear i j (omega arith) q).1 (λ r s. h r s i j p q)),
  )

  -- every run is good exactly if both tests say so
  pub all_good : ((every (tasks job) (done_in job.tasks cs.finish y.ended) ≡ true) × (first (tasks job) (pair_breach marked (tasks job)) ≡ none))
      ↔ ((r : ℕ) → r < run_count → good_run job (rows job w.plan) (replay job w.plan (loss_at losses r)) ≡ true)
  unfolding good_run
  all_good = (
    λ h r s. and_i _ _ (every_i (tasks job) _ (all_done.0 h.0 r s))
        (every_i (tasks job) _ (λ j q. every_i j _ (λ i p. all_apart.0 h.1 r s i j p q))),
    λ h. (
      all_done.1 (λ r s. every_e (tasks job) _ (and_l _ _ (h r s))),
      all_apart.1 (λ r s i j p q. every_e j _ (every_e (tasks job) _ (and_r _ _ (h r s)) j q) i p),
    ),
  )

  -- the losses of the pass are those of the plan's primaries
  module _ (begin : ℕ) (noted : LossesFrom job.nodes cs.node cs.finish begin (tasks job) losses) where
    loss_is : (r : ℕ) → r < run_count → loss_at losses r ≡ loss_from job w.plan begin r
    unfolding loss_in loss_from domain
    loss_is r p =
        noted r p
        ∙ split (ltb (begin + r) (tasks job))
        (λ e. rw e (ap (λ (c : Copy). Lost (get_or job.nodes c.node no_node).group (c.finish - 1))
        (copied_at job cs leave w (begin + r) primary (ltb-true (begin + r) (tasks job) e))))
        (λ e. rw e)

    pub passes_is : (strict : Bool)
        → (((strict implies every (tasks job) (ends_in y.ended)) ≡ true) × (every (tasks job) (done_in job.tasks cs.finish y.ended) ≡ true)
        × (first (tasks job) (pair_breach (table cs.node cs.start cs.finish y.started) (tasks job)) ≡ none))
        ↔ Passes job w.plan begin strict
    unfolding good_under
    passes_is strict = (
      λ h r p. subst (λ loss. (strict ≡ true → (j : ℕ) → j < tasks job → is_finished (replay job w.plan loss j).primary ≡ true)
          × (good_run job t (replay job w.plan loss) ≡ true)) (loss_is r p)
          (λ s j q. all_end.0 (imp_e _ _ h.0 s) r p j q, all_good.0 (h.1, h.2) r p),
      λ h.
          let runs_good = all_good.1 (λ r p. subst (λ loss. good_run job t (replay job w.plan loss) ≡ true) (sym (loss_is r p)) (h r p).1) in (
            imp_i _ _ (λ s. all_end.1 (λ r p j q.
                subst (λ loss. is_finished (replay job w.plan loss j).primary ≡ true) (sym (loss_is r p)) ((h r p).0 s j q))),
            runs_good.0,
            runs_good.1,
          ),
    )

    -- what a pass answers
    abbrev Says : Bool → Bool → Type 0
    Says strict r = (r ≡ true) ↔ Passes job w.plan begin strict

    pub not_ended : (strict v : Bool) → strict ≡ true → v ≡ every (tasks job) (ends_in y.ended) → v ≡ false → Says strict false
    not_ended strict v asked is e = (λ h. clash false h refl, λ p. clash _ (imp_e _ _ ((passes_is strict).1 p).0 asked) (sym is ∙ e))

    pub not_done : (strict v : Bool) → v ≡ every (tasks job) (done_in job.tasks cs.finish y.ended) → v ≡ false → Says strict false
    not_done strict v is e = (λ h. clash false h refl, λ p. clash _ ((passes_is strict).1 p).1 (sym is ∙ e))

    -- where ends and deadlines are kept, the answer for pairs decides
    pub apart_says : (strict : Bool) → (strict implies every (tasks job) (ends_in y.ended)) ≡ true
        → (d : Bool) → d ≡ every (tasks job) (done_in job.tasks cs.finish y.ended) → d ≡ true
        → (v : Answer) → v ≡ answered (first (tasks job) (pair_breach (table cs.node cs.start cs.finish y.started) (tasks job)))
        → (b : Bool) → b ≡ is_ok v → Says strict b
    apart_says strict ends d id ed v iv b ib = (
      λ h. (passes_is strict).0 (ends, sym id ∙ ed, (none_ok _).0 (ap is_ok (sym iv) ∙ sym ib ∙ h)),
      λ p. ib ∙ ap is_ok iv ∙ (none_ok _).1 ((passes_is strict).1 p).2,
    )
