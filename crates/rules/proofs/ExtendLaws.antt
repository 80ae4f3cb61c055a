-- A job that extends another by one task: the rows of the tasks before it, and where the planner places them, stay as they were.
use Prim.Native.Nat.{ℕ, zero, suc, ◌+◌, ◌-◌, ◌≤◌, ◌<◌}
use mathlib.Core.Bool.{Bool, not}
use mathlib.Core.Path.{◌≡◌, refl, sym, ap, ap₂, ◌∙◌, subst, fun_ext}
use mathlib.Core.Option.{Option}
use lib.Dec.{leb, ltb, eqb}
use lib.ListN.{get_or}
use borrow.Author.Tests.{eqb-true}
use native.Mathlib.Omega.{arith}
use Rattle.reader.specs.declared.job.Job.{Job}
use Rattle.reader.specs.declared.job.Task.{Task}
use Rattle.reader.specs.declared.job.Link.{Link}
use Rattle.reader.specs.declared.plan.Plan.{Plan}
use Rattle.reader.specs.declared.refusal.Refusal.TheVariants.{NoPrimary, NoBackup}
use Rattle.reader.specs.Tests.{◌and◌, ◌or◌, ◌implies◌}
use Rattle.reader.specs.First.{first, when, every}
use Rattle.reader.specs.Entries.{tasks, links, task, ready, link, place}
use Rattle.reader.proofs.FirstLaws.{any_same, every_same}
use Rattle.rules.specs.declared.Copy.{Copy}
use Rattle.rules.specs.Tables.{put, grow}
use Rattle.rules.specs.Copies.{copy}
use Rattle.rules.specs.Rules.{Row, row, strong, carries, fault_set, planned_row, rows_to, rule_ready, rule_c, rule_d, rule_e, rule_g_primary}
use Rattle.rules.specs.Attempts.{Attempt, placed, ◌>>=◌, ◌or_refuse◌}
use Rattle.rules.specs.Planner.{earliest, primary_keeps, primary_may, backup_keeps, place_task, place_tasks}
use Rattle.rules.proofs.NodeLaws.{SameNodes, domain_same, strong_same, rule_a_same}
use Rattle.rules.proofs.NodeLaws.{rule_b_same, rule_d_same, rule_e_same, rule_f_same, rule_g_backup_same}
use Rattle.rules.proofs.LinkSets.{LinkOf, SameInto, any_into_same, every_into_same}

-- big is job with one task more; all its links to the tasks of job are links of job
pub record Extends (job big : Job) : Type 0 where
  pub same_nodes : SameNodes big job
  pub count : tasks big ≡ suc (tasks job)
  pub same_task : (j : ℕ) → j < tasks job → task big j ≡ task job j
  pub keeps : (l : Link) → LinkOf job l → LinkOf big l
  pub only : (l : Link) → LinkOf big l → l.to < tasks job → LinkOf job l

-- the planner's search, as it reads the node count and the task's entry
abbrev search_of : (Copy → Bool) → ℕ → Task → Option Copy
search_of keeps p x =
    first (suc x.deadline) λ t. first p λ n.
    let time = get_or x.run n 0 in
    let c : Copy = record { node = n; start = t - time; finish = t - time + time } in
    when (ltb 0 time and leb time t and keeps c) c

module _ (job big : Job) (ext : Extends job big) where
  module _ (j : ℕ) (p : j < tasks job) where
    same_into : SameInto big job j
    same_into =
        record {
          there = λ l o e. ext.only l o (subst (λ i. i < tasks job) (sym (eqb-true l.to j e)) p);
          back = λ l o e. ext.keeps l o;
        }

    pub copy_same : (n s : ℕ) → copy big j n s ≡ copy job j n s
    unfolding copy
    copy_same n s = rw (ext.same_task j p)

    pub rule_c_same : (r : Row) → rule_c big j r ≡ rule_c job j r
    unfolding rule_c
    rule_c_same r = ap (λ t. leb r.backup.finish t.deadline) (ext.same_task j p)

    pub ready_same : ready big j ≡ ready job j
    ready_same = ap (λ t. t.ready) (ext.same_task j p)

    pub rule_ready_same : (c : Copy) → rule_ready big j c ≡ rule_ready job j c
    unfolding rule_ready
    rule_ready_same c = rw ready_same

    module _ (before : ℕ → Row) where
      pub fault_set_same : (c : Copy) → fault_set big before j c ≡ fault_set job before j c
      unfolding fault_set carries
      fault_set_same c =
          fun_ext λ q.
          ap₂ (λ n b. eqb n q or b) (domain_same big job ext.same_nodes c.node)
          (any_same (links big) _ _ (λ k pk. ap (λ b. eqb (link big k).to j and not b and (before (link big k).from).faults q)
          (strong_same big job ext.same_nodes (link big k) (before (link big k).from) c))
          ∙ any_into_same big job j same_into (λ l. not (strong job l (before l.from) c) and (before l.from).faults q))

      pub row_same : (c d : Copy) → row big before j c d ≡ row job before j c d
      unfolding row
      row_same c d = rw (fault_set_same c)

      pub planned_row_same : (plan longer : Plan) → place longer j ≡ place plan j
          → planned_row big longer before j ≡ planned_row job plan before j
      unfolding planned_row
      planned_row_same plan longer e = rw (e, copy_same _ _, copy_same _ _) (row_same _ _)

      pub primary_keeps_same : (m : ℕ) (c : Copy) → primary_keeps big m before j c ≡ primary_keeps job m before j c
      unfolding primary_keeps
      primary_keeps_same m c =
          ap₂ (λ a b. a and b and every m (λ i. rule_g_primary (before i) c)) (rule_ready_same c)
          (every_same (links big) _ _ (λ k pk. ap (λ b. eqb (link big k).to j implies b)
          (rule_d_same big job ext.same_nodes (link big k) (before (link big k).from) c))
          ∙ every_into_same big job j same_into (λ l. rule_d job l (before l.from) c))

      pub backup_keeps_same : (m : ℕ) (s : Row) → backup_keeps big m before j s ≡ backup_keeps job m before j s
      unfolding backup_keeps
      backup_keeps_same m s =
          let fed : every (links big) (λ k. eqb (link big k).to j implies rule_e big (link big k) (before (link big k).from) s)
          ≡ every (links job) (λ k. eqb (link job k).to j implies rule_e job (link job k) (before (link job k).from) s) =
          every_same (links big) _ _ (λ k pk. ap (λ b. eqb (link big k).to j implies b)
          (rule_e_same big job ext.same_nodes (link big k) (before (link big k).from) s))
          ∙ every_into_same big job j same_into (λ l. rule_e job l (before l.from) s) in
          let clear = every_same m _ _ (λ i q. rule_g_backup_same big job ext.same_nodes (before i) s) in
          rw (rule_a_same big job ext.same_nodes s, rule_b_same big job ext.same_nodes s, fed, rule_f_same big job ext.same_nodes s, clear)

      pub earliest_same : (keeps : Copy → Bool) → earliest big j keeps ≡ earliest job j keeps
      unfolding earliest copy
      earliest_same keeps = ap₂ (search_of keeps) ext.same_nodes.count (ext.same_task j p)

      pub place_task_same : (may : Copy → Bool) (m : ℕ) → place_task big may m before j ≡ place_task job may m before j
      unfolding place_task
      place_task_same may m =
          let first_then : Option Copy → (Copy → Attempt Row) → Attempt Row = λ o f. (o or_refuse NoPrimary j) >>= f in
          let next_then : Option Copy → (Copy → Attempt Row) → Attempt Row = λ o f. (o or_refuse NoBackup j) >>= f in
          ap₂ first_then
          (earliest_same (primary_may big may m before j) ∙ ap (earliest job j) (fun_ext λ c. ap (λ b. may c and b) (primary_keeps_same m c)))
          (fun_ext λ c. ap₂ next_then
          (earliest_same (λ d. backup_keeps big m before j (row big before j c d))
          ∙ ap (earliest job j) (fun_ext λ d. ap (backup_keeps big m before j) (row_same c d) ∙ backup_keeps_same m (row job before j c d)))
          (fun_ext λ d. ap placed (row_same c d)))

  -- the rows of a plan's first tasks
  pub rows_to_same : (plan longer : Plan) (n : ℕ) → n ≤ tasks job → ((j : ℕ) → j < n → place longer j ≡ place plan j)
      → rows_to big longer n ≡ rows_to job plan n
  unfolding grow
  rows_to_same plan longer zero h e = refl
  rows_to_same plan longer (suc n) h e =
      let ih = rows_to_same plan longer n (omega arith) (λ j p. e j (omega arith)) in
      let row = planned_row_same n (omega arith) (rows_to job plan n) plan longer (e n (omega arith)) in
      ap₂ (λ t r. put t n r) ih (ap (λ t. planned_row big longer t n) ih ∙ row)

  -- the planner's rows of the first tasks
  pub place_tasks_same : (may : ℕ → Copy → Bool) (n : ℕ) → n ≤ tasks job → place_tasks big may n ≡ place_tasks job may n
  unfolding place_tasks
  place_tasks_same may zero h = refl
  place_tasks_same may (suc n) h =
      let then : Attempt (ℕ → Row) → ((ℕ → Row) → Attempt Row) → Attempt (ℕ → Row) =
      λ m f. m >>= (λ before. f before >>= λ r. placed (put before n r)) in
      ap₂ then (place_tasks_same may n (omega arith))
      (fun_ext λ before. place_task_same n (omega arith) before (may n) n)
