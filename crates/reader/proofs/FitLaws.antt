-- Every refusal of reading fits its bits in the result.
use Prim.Native.Nat.{ℕ, zero, suc, ◌+◌, ◌*◌, ◌-◌, ◌^◌, ◌≤◌, ◌<◌}
use native.Mathlib.Nat.{mul-le-mul_right}
use native.Mathlib.Omega.{arith}
use mathlib.Core.Path.{◌≡◌, refl}
use mathlib.Core.Bool.{Bool, true, false}
use mathlib.Core.List.{List, [], ◌∷◌}
use mathlib.Core.Option.{Option, none, some}
use lib.ListN.{length}
use Rattle.reader.specs.declared.job.Link.{Link}
use Rattle.reader.specs.declared.job.Job.{Job}
use Rattle.reader.specs.declared.refusal.Refusal.{Refusal}
use Rattle.reader.specs.declared.refusal.Refusal.TheVariants.{Short, Version, Count, Value, LinkOrder, Tail, Unable}
use Rattle.reader.specs.First.{◌or_else◌, first, unless}
use Rattle.reader.specs.Limits.{first_version, newest_version, plan_version, min_nodes, max_nodes, min_tasks, max_tasks, max_links, max_time, max_start}
use Rattle.reader.specs.Entries.{tasks}
use Rattle.reader.specs.Sound.{Sound}
use Rattle.reader.specs.Refusals.{told, tell, Fits, FaultFits}
use Rattle.reader.specs.Number.{number_at, field_fault, version_fault, count_fault, value_fault}
use Rattle.reader.specs.JobFile.{job_version, task_width, node_section, task_section, link_section, job_length, node_count, task_count, link_count}
use Rattle.reader.specs.JobFile.{nodes_fault, run_fault, task_fault, tasks_fault, link_fault, links_fault, tail_fault, job_fault}
use Rattle.reader.specs.Fields.{Field, node_fields, task_fields, fault_if, has, width, fields_fault, width_if}
use Rattle.reader.specs.PlanFile.{node_fault, place_fault, places_fault, plan_length, plan_fault}
use Rattle.reader.proofs.TestLaws.{never}
use Rattle.reader.proofs.FieldLaws.{field_good}
use Rattle.reader.proofs.VersionLaws.{width_one, width_most}
use Rattle.reader.proofs.Accepted.{nodes_good, tasks_good, links_good}
use Rattle.reader.proofs.LengthLaws.{fields_wide, task_width_most, task_section_most, link_section_most, job_length_most}

pub fits_none : FaultFits none
fits_none r e = never (cc)

pub fits_unless : (b : Bool) (r : Refusal) → Fits (tell r) → FaultFits (unless b r)
unfolding unless
fits_unless true r f = fits_none
fits_unless false r f = λ q e. let same : r ≡ q = cc in rw (← same) f

pub fits_or_else : (a b : Option Refusal) → FaultFits a → (a ≡ none → FaultFits b) → FaultFits (a or_else b)
unfolding ◌or_else◌
fits_or_else none b f g = g refl
fits_or_else (some r) b f g = f

pub fits_if : (b : Bool) (o : Option Refusal) → FaultFits o → FaultFits (fault_if b o)
unfolding fault_if
fits_if true o f = f
fits_if false o f = fits_none

pub fits_first : (n : ℕ) (f : ℕ → Option Refusal) → ((i : ℕ) → i < n → FaultFits (f i)) → FaultFits (first n f)
unfolding first
fits_first zero f h = fits_none
fits_first (suc n) f h = fits_or_else (first n f) (f n) (fits_first n f (λ i p. h i (omega arith))) (λ _. h n (omega arith))

-- a refusal with one place, within a file
pub fits_at : (n at : ℕ) → n < 2 ^ 8 → at < 2 ^ 32 → Fits (told n at 0)
fits_at n at h k = record { number = h; first = k; second = omega arith }

module _ (s : List ℕ) where
  field_fits : (at low high : ℕ) (r : Refusal) → at < 2 ^ 32 → Fits (tell r) → FaultFits (field_fault s at low high r)
  unfolding field_fault
  field_fits at low high r h f = fits_or_else _ _ (fits_unless _ (Short at) (fits_at 1 at (omega arith) h)) (λ _. fits_unless _ r f)

  pub count_fits : (at low high : ℕ) → at < 2 ^ 32 → FaultFits (count_fault s at low high)
  count_fits at low high h = field_fits at low high (Count at) h (fits_at 3 at (omega arith) h)

  pub value_fits : (at low high : ℕ) → at < 2 ^ 32 → FaultFits (value_fault s at low high)
  value_fits at low high h = field_fits at low high (Value at) h (fits_at 4 at (omega arith) h)

  fields_fit : (v at : ℕ) (fs : List Field) → at + 4 * length fs ≤ 2 ^ 17 → FaultFits (fields_fault v s at fs)
  unfolding fields_fault
  fields_fit v at [] h = fits_none
  fields_fit v at (f ∷ fs) h =
      fits_or_else _ _ (fits_if _ _ (value_fits at f.low f.high (omega arith))) (λ _.
      fields_fit v (at + width_if (has v f)) fs (omega (arith, width_one (has v f))))

  nodes_fit : (v : ℕ) → FaultFits (nodes_fault v s)
  unfolding nodes_fault
  nodes_fit v =
      fits_or_else _ _ (count_fits node_section min_nodes max_nodes (omega arith)) (λ e.
      let g = field_good s node_section min_nodes max_nodes (Count node_section) e in
      fits_first _ _ (λ i p. fields_fit v _ (node_fields i) (omega (arith, task_section_most v i (omega arith), fields_wide.0 i))))

  pub task_fits : (v at p : ℕ) → at ≤ 2 ^ 16 → p ≤ max_nodes → FaultFits (task_fault v s at p)
  unfolding task_fault run_fault
  task_fits v at p h m =
      fits_or_else _ _ (fields_fit v at task_fields (omega (arith, fields_wide.1))) (λ _.
      fits_first _ _ (λ i l. value_fits (at + width v task_fields + 4 * i) 0 max_time (omega (arith, width_most v task_fields, fields_wide.1))))

  tasks_fit : (v at p : ℕ) → at ≤ 2 ^ 10 → p ≤ max_nodes → FaultFits (tasks_fault v s at p)
  unfolding tasks_fault
  tasks_fit v at p h m =
      fits_or_else _ _ (count_fits at min_tasks max_tasks (omega arith)) (λ e.
      let g = field_good s at min_tasks max_tasks (Count at) e in
      fits_first _ _ (λ j l. task_fits v _ p (rows_most j (omega arith)) m))
    where
      rows_most : (j : ℕ) → j ≤ 64 → at + 4 + j * task_width v p ≤ 2 ^ 16
      rows_most j l = omega (arith, mul-le-mul_right (task_width v p) l, task_width_most v p m)

  link_fits : (at n : ℕ) (before : Link) → at ≤ 2 ^ 16 → FaultFits (link_fault s at n before)
  unfolding link_fault
  link_fits at n before h =
      fits_or_else _ _ (value_fits at 0 (n - 1) (omega arith)) (λ _.
      fits_or_else _ _ (value_fits (at + 4) (number_at s at + 1) (n - 1) (omega arith)) (λ _.
      fits_or_else _ _ (value_fits (at + 8) 0 max_time (omega arith)) (λ _.
      fits_unless _ (LinkOrder at) (fits_at 5 at (omega arith) (omega arith)))))

  links_fit : (at n : ℕ) → at ≤ 2 ^ 13 → FaultFits (links_fault s at n)
  unfolding links_fault
  links_fit at n h =
      fits_or_else _ _ (count_fits at 0 max_links (omega arith)) (λ e.
      let g = field_good s at 0 max_links (Count at) e in
      fits_first _ _ (λ k l. link_fits _ n _ (omega arith)))

  pub tail_fits : (end : ℕ) → end < 2 ^ 32 → FaultFits (tail_fault s end)
  unfolding tail_fault
  tail_fits end h = fits_unless _ (Tail end) (fits_at 6 end (omega arith) h)

  pub node_fits : (at p : ℕ) (run : List ℕ) → at < 2 ^ 32 → FaultFits (node_fault s at p run)
  unfolding node_fault
  node_fits at p run h = fits_or_else _ _ (value_fits at 0 (p - 1) h) (λ _. fits_unless _ (Unable at) (fits_at 7 at (omega arith) h))

  pub place_fits : (at p : ℕ) (run : List ℕ) → at ≤ 2 ^ 16 → FaultFits (place_fault s at p run)
  unfolding place_fault
  place_fits at p run h =
      fits_or_else _ _ (node_fits at p run (omega arith)) (λ _.
      fits_or_else _ _ (value_fits (at + 4) 0 max_start (omega arith)) (λ _.
      fits_or_else _ _ (node_fits (at + 8) p run (omega arith)) (λ _.
      value_fits (at + 12) 0 max_start (omega arith))))

  version_fits : (newest : ℕ) → FaultFits (version_fault newest s)
  version_fits newest = field_fits 0 first_version newest (Version 0) (omega arith) (fits_at 2 0 (omega arith) (omega arith))

  pub job_fits : FaultFits (job_fault s)
  unfolding job_fault
  job_fits =
      let v = job_version s in
      fits_or_else _ _ (version_fits newest_version) (λ _.
      fits_or_else _ _ (nodes_fit v) (λ en.
      let p = (nodes_good v s en).count in
      let a = task_section_most v (node_count s) p.most in
      fits_or_else _ _ (tasks_fit v (task_section v (node_count s)) (node_count s) (omega arith) p.most) (λ et.
      let n = (tasks_good v s (task_section v (node_count s)) (node_count s) et).count in
      let l = link_section_most v (node_count s) p.most (task_count s) n.most in
      fits_or_else _ _ (links_fit (link_section v (node_count s) (task_count s)) (task_count s) (omega arith)) (λ el.
      let m = (links_good s (link_section v (node_count s) (task_count s)) (task_count s) el).count in
      let e = job_length_most v (node_count s) p.most (task_count s) n.most (link_count s) m.most in
      tail_fits (job_length v (node_count s) (task_count s) (link_count s)) (omega (arith, e))))))

  pub plan_fits : (job : Job) → Sound job → FaultFits (plan_fault s job)
  unfolding plan_fault places_fault
  plan_fits job h =
      fits_or_else _ _ (version_fits plan_version) (λ _.
      fits_or_else _ _ (count_fits 4 (tasks job) (tasks job) (omega arith)) (λ _.
      fits_or_else _ _ (fits_first _ _ (λ j p. place_fits _ _ _ (omega (arith, h.tasks_most)))) (λ _.
      tail_fits (plan_length (tasks job)) (omega (arith, h.tasks_most)))))
