-- Ask for a place, then take it: an asked place is booked, what is booked passes, and 21 says that a proposed copy breaks a rule.
use Prim.Native.Nat.{ℕ, suc, ◌≤◌, ◌<◌}
use native.Mathlib.Omega.{arith}
use mathlib.Core.Bool.{true, false}
use mathlib.Core.Path.{◌≡◌, refl, sym, ap, ap₂, ◌∙◌, subst}
use mathlib.Core.Option.{Option, none, some}
use mathlib.Core.Logic.{◌↔◌}
use lib.ListN.{get_or, replicate}
use borrow.Author.Tests.{le-leb}
use Rattle.reader.specs.declared.job.Job.{Job}
use Rattle.reader.specs.declared.plan.Place.{Place}
use Rattle.reader.specs.declared.plan.Plan.{Plan}
use Rattle.rules.specs.declared.Description.{Description}
use Rattle.reader.specs.declared.refusal.Refusal.{Refusal}
use Rattle.reader.specs.declared.refusal.Refusal.TheVariants.{Stale}
use Rattle.std.specs.Prelude.{Ok}
use Rattle.reader.specs.Limits.{max_tasks, max_start}
use Rattle.reader.specs.Entries.{tasks, deadline, run, place, no_place}
use Rattle.reader.specs.Sound.{Sound}
use Rattle.rules.specs.Description.{NewSound, PlaceSound, Room}
use Rattle.reader.proofs.TestLaws.{never, clash, not_true}
use Rattle.reader.proofs.FillLaws.{fill_same}
use Rattle.reader.proofs.RefusalLaws.{answered_done}
use Rattle.reader.proofs.TestLaws.{below_suc}
use Rattle.rules.specs.declared.Copy.{Copy}
use Rattle.rules.specs.Tables.{put}
use Rattle.rules.specs.Copies.{copy}
use Rattle.rules.specs.Rules.{Row, row, planned_row, blank_row, rows, rule_c}
use Rattle.rules.specs.Judge.{breach, judge}
use Rattle.rules.specs.Attempts.{Attempt, refused, placed, ◌>>=◌}
use Rattle.rules.specs.Planner.{place_task, place_tasks, place_of, plan_of, planner_with, anywhere, planner}
use Rattle.rules.specs.Breach.{Kept}
use Rattle.rules.specs.Choice.{Able}
use Rattle.rules.specs.Longer.{longer_job, longer_plan}
use Rattle.rules.specs.Asking.{ask, Booked, longer, unless_stale, row_of, keeps_rules, commit}
use Rattle.rules.proofs.TableLaws.{put_same, put_other, grow_more}
use Rattle.rules.proofs.AttemptLaws.{bind_placed}
use Rattle.rules.proofs.JudgeLaws.{judge_done}
use Rattle.rules.proofs.PlaceTaskLaws.{place_task_placed}
use Rattle.rules.proofs.PlannedPasses.{Keeps, best_keeps, table_placed, place_plan_of}
use Rattle.rules.proofs.ExtendLaws.{Extends, rows_to_same, place_tasks_same}
use Rattle.rules.proofs.LongerLaws.{task_new, longer_extends, longer_sound, place_old, place_new_lem}
use Rattle.rules.proofs.OneMore.{RowKept, keeps_rules_lem, one_more, last_kept}

-- what 21 rests on
module _ {A : Type 0} (o : Option Refusal) (j : ℕ) (a : A) where
  stale_not : o ≡ none → unless_stale o j a ≡ placed a
  unfolding unless_stale
  stale_not h = rw h

not_stale : {A : Type 0} (o : Option Refusal) (j : ℕ) (a b : A) → unless_stale o j a ≡ placed b → (o ≡ none) × (a ≡ b)
unfolding unless_stale
not_stale none j a b h = (refl, cc)
not_stale (some r) j a b h = never (cc)

only_stale : {A : Type 0} (o : Option Refusal) (j : ℕ) (a : A) (r : Refusal) → unless_stale o j a ≡ refused r → (o ≡ none → ⊥) × (Stale j ≡ r)
unfolding unless_stale
only_stale none j a r h = never (cc)
only_stale (some s) j a r h = (λ e. never (cc), cc)

is_stale : {A : Type 0} (o : Option Refusal) (j : ℕ) (a : A) → (o ≡ none → ⊥) → unless_stale o j a ≡ refused (Stale j)
unfolding unless_stale
is_stale none j a h = absurd (h refl)
is_stale (some s) j a h = refl

-- what is booked is the longer pair
pub booked_longer : (job : Job) (plan : Plan) (d : Description) (x : Place) (b : Booked) → commit job plan d x ≡ placed b → longer job plan d x ≡ b
unfolding commit
booked_longer job plan d x b h = (not_stale _ (tasks job) (longer job plan d x) b h).1

module _ (job : Job) (plan : Plan) (d : Description) (new : NewSound job d) (room : Room job d) where
  abbrev big : Job
  big = longer_job job d

  abbrev t : ℕ → Row
  t = rows job plan

  abbrev n : ℕ
  n = tasks job

  ext : Extends job big
  ext = longer_extends job d room new

  -- (a) the rows of the longer pair: those of the old one, and one more
  pub longer_rows : (x : Place) → rows big (longer_plan job plan x) ≡ put t n (row_of big t n x)
  unfolding longer_job planned_row row_of
  longer_rows x =
      let before = rows_to_same job big ext plan (longer_plan job plan x) n (omega arith) (place_old job d room plan x) in
      grow_more blank_row (planned_row big (longer_plan job plan x)) n
      ∙ ap₂ (λ u y. put u n (row_of big u n y)) before (place_new_lem job d room plan x)

  pub old_rows : (x : Place) (j : ℕ) → j < n → rows big (longer_plan job plan x) j ≡ t j
  old_rows x j p = ap (λ u. u j) (longer_rows x) ∙ put_other t n _ j (omega arith)

  pub new_row : (x : Place) → rows big (longer_plan job plan x) n ≡ row_of big t n x
  new_row x = ap (λ u. u n) (longer_rows x) ∙ put_same t n _

  module _ (sound : Sound job) (passed : judge job plan ≡ Ok tt) (x : Place) where
    abbrev r : Row
    r = row_of big t n x

    -- (e) the longer pair passes exactly if the new copies keep all rules beside the others
    pub longer_passes : (judge big (longer_plan job plan x) ≡ Ok tt) ↔ RowKept big t n r
    longer_passes = (
      λ h. last_kept job big ext (longer_sound job d room new sound) t r (subst (Kept big) (longer_rows x) ((judge_done _ _).0 h)),
      λ k. (judge_done _ _).1
          (subst (Kept big) (sym (longer_rows x)) (one_more job big ext (longer_sound job d room new sound) t r ((judge_done job plan).0 passed) k)),
    )

    no_breach_done : (breach big (rows big (longer_plan job plan x)) ≡ none) ↔ (judge big (longer_plan job plan x) ≡ Ok tt)
    unfolding judge
    no_breach_done = (λ h. (answered_done _).1 h, λ h. (answered_done _).0 h)

    pub commit_books : (b : Booked) → (commit job plan d x ≡ placed b) ↔ ((keeps_rules big t n r ≡ true) × (longer job plan d x ≡ b))
    unfolding commit
    commit_books b = (
      λ h. let w = not_stale _ n (longer job plan d x) b h in
          ((keeps_rules_lem big t n r).1 (longer_passes.0 (no_breach_done.0 w.0)), w.1),
      λ w. stale_not _ n (longer job plan d x) (no_breach_done.1 (longer_passes.1 ((keeps_rules_lem big t n r).0 w.0))) ∙ ap placed w.1,
    )

    -- '21, stale, exactly if a proposed copy now breaks a rule, task / task', and no other refusal
    pub commit_stale : (s : Refusal) → (commit job plan d x ≡ refused s) ↔ ((keeps_rules big t n r ≡ false) × (Stale n ≡ s))
    unfolding commit
    commit_stale s = (
      λ h. let w = only_stale _ n (longer job plan d x) s h in
          (not_true _ (λ k. w.0 (no_breach_done.1 (longer_passes.1 ((keeps_rules_lem big t n r).0 k)))), w.1),
      λ w. is_stale _ n (longer job plan d x) (λ e. clash _ ((keeps_rules_lem big t n r).1 (longer_passes.0 (no_breach_done.0 e))) w.0)
          ∙ ap refused w.1,
    )

  -- what asking gives: the places of a row that keeps all rules beside those of the plan
  asked : {C : Type 0} (x : Place) → ask job plan d ≡ placed x
      → ((s : Row) → place_task big (anywhere n) n t n ≡ placed s → Keeps big n t n s → row_of big t n x ≡ s → place_of s ≡ x → C) → C
  unfolding ask row_of place_of row
  asked x h go =
      bind_placed _ _ x h λ s hs e.
      let w = (place_task_placed big (anywhere n) n t n s).0 hs in
      let k = best_keeps big (anywhere n) n t n w.0 w.1 w.2 w.3 in
      let is : place_of s ≡ x = cc in
      go s hs (subst (Keeps big n t n) w.4 k)
      (subst (λ y. row_of big t n y ≡ s) is (subst (λ u. row_of big t n (place_of u) ≡ u) w.4 (same w.0 w.1 w.2.is w.3.is)))
      is
    where
      same : (p b : Copy) → copy big n p.node p.start ≡ p → copy big n b.node b.start ≡ b
          → row_of big t n (place_of (row big t n p b)) ≡ row big t n p b
      same p b hp hb = ap₂ (row big t n) hp hb

  keeps_kept : (s : Row) → Keeps big n t n s → RowKept big t n s
  unfolding rule_c copy
  keeps_kept s k =
      record {
        primary = k.primary_kept;
        backup = k.backup_kept;
        ends_in_time = le-leb s.backup.finish (deadline big n) (omega (arith, ap (λ c. c.finish) k.backup.is, k.backup.able));
      }

  -- an asked place reads well
  pub asked_sound : (x : Place) → Sound job → ask job plan d ≡ placed x → PlaceSound job d x
  unfolding place_of longer_job
  asked_sound x sound h =
      asked x h λ s hs k e is.
      let runs : (m : ℕ) → run big n m ≡ get_or d.task.run m 0 = λ m. ap (λ y. get_or y.run m 0) (task_new job d room) in
      subst (PlaceSound job d) is
      (record {
        primary_node = k.primary.able.node;
        primary_able = subst (λ m. 0 < m) (runs s.primary.node) k.primary.able.runs;
        primary_start = starts s.primary.node s.primary.start k.primary.able;
        backup_node = k.backup.able.node;
        backup_able = subst (λ m. 0 < m) (runs s.backup.node) k.backup.able.runs;
        backup_start = starts s.backup.node s.backup.start k.backup.able;
      })
    where
      starts : (m s : ℕ) → Able big n m s → s ≤ max_start
      starts m s a =
          let e : deadline big n ≡ d.task.deadline = ap (λ y. y.deadline) (task_new job d room) in
          omega (arith, a.ends_in_time, new.task.deadline_most)

  -- (b) 'With no commit between, an asked place is always booked'
  pub asked_booked : Sound job → judge job plan ≡ Ok tt → (x : Place) → ask job plan d ≡ placed x
      → commit job plan d x ≡ placed (longer job plan d x)
  asked_booked sound passed x h =
      asked x h λ s hs k e is.
      (commit_books sound passed x (longer job plan d x)).1
      ((keeps_rules_lem big t n _).1 (subst (RowKept big t n) (sym e) (keeps_kept s k)), refl)

  -- (c) 'a plan that was the planner's own is then the planner's plan of the longer job': asking goes on where the planner stopped
  module _ (sound : Sound job) (own : planner job ≡ placed plan) where
    -- the plan's places are those of these rows
    abbrev PlacesOf : (ℕ → Row) → Type 0
    PlacesOf u = (j : ℕ) → j < n → place plan j ≡ place_of (u j)

    -- the planner's rows are the plan's
    own_rows : {C : Type 0} → ((u : ℕ → Row) → place_tasks job anywhere n ≡ placed u → t ≡ u → PlacesOf u → plan.version ≡ 1 → C) → C
    unfolding planner planner_with plan_of
    own_rows go =
        bind_placed _ _ plan own λ u hu e.
        let is : plan_of job u ≡ plan = cc in
        let places : PlacesOf u =
        λ j p. ap (λ y. place y j) (sym is) ∙ place_plan_of job sound u j p in
        go u hu ((table_placed job sound anywhere n u hu).planned plan places) places (ap (λ y. y.version) (sym is))

    -- the plan of one row more
    plan_more : (u : ℕ → Row) → PlacesOf u → plan.version ≡ 1 → (s : Row)
        → plan_of big (put u n s) ≡ longer_plan job plan (place_of s)
    unfolding plan_of longer_plan longer_job
    plan_more u places v s =
        let same : (j : ℕ) → j < suc n → place_of (put u n s j) ≡ put (place plan) n (place_of s) j = λ j p.
        below_suc j n p
        (λ q. ap place_of (put_other u n s j (omega arith)) ∙ sym (places j q) ∙ sym (put_other (place plan) n (place_of s) j (omega arith)))
        (λ q. ap (λ i. place_of (put u n s i)) q ∙ ap place_of (put_same u n s)
        ∙ sym (ap (put (place plan) n (place_of s)) q ∙ put_same (place plan) n (place_of s))) in
        rw (v, fill_same _ _ (replicate max_tasks no_place) (suc n) same)

    -- the planner of the longer job, and asking, both from the place of the last row
    abbrev planned : (ℕ → Row) → Attempt Row → Attempt Plan
    planned u a = (a >>= λ s. placed (put u n s)) >>= λ w. placed (plan_of big w)

    abbrev taken : Attempt Row → Attempt Plan
    taken a = (a >>= λ s. placed (place_of s)) >>= λ x. placed (longer_plan job plan x)

    planner_last : (u : ℕ → Row) → place_tasks job anywhere n ≡ placed u → planner big ≡ planned u (place_task big (anywhere n) n u n)
    unfolding planner planner_with place_tasks longer_job ◌>>=◌
    planner_last u hu =
        let start : place_tasks big anywhere n ≡ placed u = place_tasks_same job big ext anywhere n (omega arith) ∙ hu in
        ap (λ (m : Attempt (ℕ → Row)).
        (m >>= λ before. place_task big (anywhere n) n before n >>= λ s. placed (put before n s)) >>= λ w. placed (plan_of big w)) start

    same_plan : (u : ℕ → Row) → PlacesOf u → plan.version ≡ 1 → (a : Attempt Row) → planned u a ≡ taken a
    unfolding ◌>>=◌
    same_plan u places v (refused s) = refl
    same_plan u places v (placed s) = ap placed (plan_more u places v s)

    pub ask_goes_on : planner big ≡ (ask job plan d >>= λ x. placed (longer_plan job plan x))
    unfolding ask
    ask_goes_on =
        own_rows λ u hu same places v.
        planner_last u hu ∙ same_plan u places v (place_task big (anywhere n) n u n) ∙ ap (λ w. taken (place_task big (anywhere n) n w n)) (sym same)

    pub asked_own : (x : Place) → ask job plan d ≡ placed x → planner big ≡ placed (longer_plan job plan x)
    unfolding ◌>>=◌
    asked_own x h = ask_goes_on ∙ rw h

    -- and 15 or 16 is the planner's own refusal
    pub asked_in_vain : (s : Refusal) → ask job plan d ≡ refused s → planner big ≡ refused s
    unfolding ◌>>=◌
    asked_in_vain s h = ask_goes_on ∙ rw h
