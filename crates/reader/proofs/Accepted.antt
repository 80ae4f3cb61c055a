-- What a section of a file that is not at fault says: its numbers are within their limits, and it lies within the file.
use Prim.Native.Nat.{ℕ, zero, suc, ◌+◌, ◌*◌, ◌-◌, ◌≤◌, ◌<◌}
use native.Mathlib.Omega.{arith}
use mathlib.Core.Path.{◌≡◌}
use mathlib.Core.Bool.{true}
use mathlib.Core.List.{List}
use mathlib.Core.Option.{none}
use lib.ListN.{length, get_or}
use borrow.Author.Tests.{leb-true, ltb-true}
use Rattle.reader.specs.declared.job.Link.{Link}
use Rattle.reader.specs.declared.job.Job.{Job}
use Rattle.reader.specs.declared.refusal.Refusal.TheVariants.{Version, Count, Value}
use Rattle.reader.specs.First.{first}
use Rattle.reader.specs.Limits.{first_version, newest_version, plan_version, min_nodes, max_nodes, min_tasks, max_tasks, max_links, max_time, max_start}
use Rattle.reader.specs.Entries.{nodes, tasks, task}
use Rattle.reader.specs.Sound.{below}
use Rattle.reader.specs.Number.{number_at, value_fault}
use Rattle.reader.specs.Fields.{node_fields, task_fields, width}
use Rattle.reader.specs.JobFile.{job_version, node_width, task_width, node_section, task_section, link_section, job_length, node_count, task_count, link_count}
use Rattle.reader.specs.JobFile.{nodes_fault, run_fault, task_fault, tasks_fault, link_at, link_fault, link_before, links_fault, tail_fault, job_fault}
use Rattle.reader.specs.PlanFile.{node_fault, place_fault, places_fault, plan_length, plan_fault}
use Rattle.reader.proofs.FirstLaws.{or_else_l, or_else_r, unless_none, none_first}
use Rattle.reader.proofs.FieldLaws.{Good, field_good}
use Rattle.reader.proofs.VersionLaws.{GoodFields, fields_good, fields_room}

-- rows of width w from an offset on, each of which lies within the file where it begins there
pub rows_room : (at w n end : ℕ) → at ≤ end → ((i : ℕ) → i < n → at + i * w ≤ end → at + i * w + w ≤ end) → at + n * w ≤ end
rows_room at w zero end h rows = omega arith
rows_room at w (suc n) end h rows = omega (arith, rows n (omega arith) (rows_room at w n end h (λ i p. rows i (omega arith))))

-- a row of numbers
pub numbers_good : (s : List ℕ) (n : ℕ) (at : ℕ → ℕ) (low high : ℕ) → first n (λ i. value_fault s (at i) low high) ≡ none →
    (i : ℕ) → i < n → Good s (at i) low high
numbers_good s n at low high e i p = field_good s (at i) low high (Value (at i)) (none_first n _ e i p)

pub record GoodNodes (v : ℕ) (s : List ℕ) : Type 0 where
  pub count : Good s node_section min_nodes max_nodes
  pub entry : (i : ℕ) → i < node_count s → GoodFields v s (8 + i * node_width v) (node_fields i)
  pub room : task_section v (node_count s) ≤ length s

node_room : (v : ℕ) (s : List ℕ) (i at : ℕ) → at ≤ length s → GoodFields v s at (node_fields i) → at + node_width v ≤ length s
unfolding node_width node_fields width
node_room v s i at = fields_room v s at (node_fields i)

pub nodes_good : (v : ℕ) (s : List ℕ) → nodes_fault v s ≡ none → GoodNodes v s
unfolding nodes_fault
nodes_good v s e =
    let count = field_good s node_section min_nodes max_nodes (Count node_section) (or_else_l _ _ e) in
    let entry : ((i : ℕ) → i < node_count s → GoodFields v s (8 + i * node_width v) (node_fields i)) =
    λ i p. fields_good v s _ (node_fields i) (none_first (node_count s) _ (or_else_r _ _ e) i p) in
    record {
      count = count;
      entry = entry;
      room = rows_room 8 (node_width v) (node_count s) (length s) count.room (λ i p h. node_room v s i _ h (entry i p));
    }

pub record GoodTask (v : ℕ) (s : List ℕ) (at p : ℕ) : Type 0 where
  pub fields : GoodFields v s at task_fields
  pub run : (i : ℕ) → i < p → Good s (at + width v task_fields + 4 * i) 0 max_time

pub task_good : (v : ℕ) (s : List ℕ) (at p : ℕ) → task_fault v s at p ≡ none → GoodTask v s at p
unfolding task_fault run_fault
task_good v s at p e = record {
  fields = fields_good v s at task_fields (or_else_l _ _ e);
  run = numbers_good s p (λ i. at + width v task_fields + 4 * i) 0 max_time (or_else_r _ _ e);
}

pub task_room : (v : ℕ) (s : List ℕ) (at p : ℕ) → at ≤ length s → GoodTask v s at p → at + task_width v p ≤ length s
unfolding task_width
task_room v s at p h g =
    let behind = at + width v task_fields in
    let room = rows_room behind 4 p (length s) (fields_room v s at task_fields h g.fields) (λ i l _. omega (arith, (g.run i l).room)) in
    omega arith

pub record GoodTasks (v : ℕ) (s : List ℕ) (at p : ℕ) : Type 0 where
  pub count : Good s at min_tasks max_tasks
  pub task : (j : ℕ) → j < number_at s at → GoodTask v s (at + 4 + j * task_width v p) p
  pub room : at + 4 + number_at s at * task_width v p ≤ length s

pub tasks_good : (v : ℕ) (s : List ℕ) (at p : ℕ) → tasks_fault v s at p ≡ none → GoodTasks v s at p
unfolding tasks_fault
tasks_good v s at p e =
    let count = field_good s at min_tasks max_tasks (Count at) (or_else_l _ _ e) in
    let task : ((j : ℕ) → j < number_at s at → GoodTask v s (at + 4 + j * task_width v p) p) =
    λ j l. task_good v s _ p (none_first (number_at s at) _ (or_else_r _ _ e) j l) in
    record {
      count = count;
      task = task;
      room = rows_room (at + 4) (task_width v p) (number_at s at) (length s) count.room (λ j l h. task_room v s _ p h (task j l));
    }

pub record GoodLink (s : List ℕ) (at n : ℕ) (before : Link) : Type 0 where
  pub to : Good s (at + 4) (number_at s at + 1) (n - 1)
  pub delay : Good s (at + 8) 0 max_time
  pub order : below before (link_at s at) ≡ true

pub link_good : (s : List ℕ) (at n : ℕ) (before : Link) → link_fault s at n before ≡ none → GoodLink s at n before
unfolding link_fault
link_good s at n before e =
    let behind = or_else_r _ _ e in
    let last = or_else_r _ _ behind in
    record {
      to = field_good s (at + 4) (number_at s at + 1) (n - 1) (Value (at + 4)) (or_else_l _ _ behind);
      delay = field_good s (at + 8) 0 max_time (Value (at + 8)) (or_else_l _ _ last);
      order = unless_none _ _ (or_else_r _ _ last);
    }

pub record GoodLinks (s : List ℕ) (at n : ℕ) : Type 0 where
  pub count : Good s at 0 max_links
  pub link : (k : ℕ) → k < number_at s at → GoodLink s (at + 4 + 12 * k) n (link_before s (at + 4) k)
  pub room : at + 4 + 12 * number_at s at ≤ length s

pub links_good : (s : List ℕ) (at n : ℕ) → links_fault s at n ≡ none → GoodLinks s at n
unfolding links_fault
links_good s at n e =
    let count = field_good s at 0 max_links (Count at) (or_else_l _ _ e) in
    let each = none_first (number_at s at) _ (or_else_r _ _ e) in
    let room = rows_room (at + 4) 12 (number_at s at) (length s) count.room (λ k l _. omega (arith, (link_good s _ n _ (each k l)).delay.room)) in
    record { count = count; link = λ k l. link_good s _ n _ (each k l); room = omega arith }

pub tail_most : (s : List ℕ) (end : ℕ) → tail_fault s end ≡ none → length s ≤ end
unfolding tail_fault
tail_most s end e = leb-true (length s) end (unless_none _ _ e)

pub record GoodJob (s : List ℕ) : Type 0 where
  pub version : Good s 0 first_version newest_version
  pub nodes : GoodNodes (job_version s) s
  pub tasks : GoodTasks (job_version s) s (task_section (job_version s) (node_count s)) (node_count s)
  pub links : GoodLinks s (link_section (job_version s) (node_count s) (task_count s)) (task_count s)
  pub most : length s ≤ job_length (job_version s) (node_count s) (task_count s) (link_count s)

pub job_good : (s : List ℕ) → job_fault s ≡ none → GoodJob s
unfolding job_fault
job_good s e =
    let n = or_else_r _ _ e in
    let t = or_else_r _ _ n in
    let l = or_else_r _ _ t in
    record {
      version = field_good s 0 first_version newest_version (Version 0) (or_else_l _ _ e);
      nodes = nodes_good (job_version s) s (or_else_l _ _ n);
      tasks = tasks_good (job_version s) s (task_section (job_version s) (node_count s)) (node_count s) (or_else_l _ _ t);
      links = links_good s (link_section (job_version s) (node_count s) (task_count s)) (task_count s) (or_else_l _ _ l);
      most = tail_most s (job_length (job_version s) (node_count s) (task_count s) (link_count s)) (or_else_r _ _ l);
    }

pub record GoodNode (s : List ℕ) (at p : ℕ) (run : List ℕ) : Type 0 where
  pub number : Good s at 0 (p - 1)
  pub able : 0 < get_or run (number_at s at) 0

pub node_good : (s : List ℕ) (at p : ℕ) (run : List ℕ) → node_fault s at p run ≡ none → GoodNode s at p run
unfolding node_fault
node_good s at p run e =
    record {
      number = field_good s at 0 (p - 1) (Value at) (or_else_l _ _ e);
      able = ltb-true 0 (get_or run (number_at s at) 0) (unless_none _ _ (or_else_r _ _ e));
    }

pub record GoodPlace (s : List ℕ) (at p : ℕ) (run : List ℕ) : Type 0 where
  pub primary_node : GoodNode s at p run
  pub primary_start : Good s (at + 4) 0 max_start
  pub backup_node : GoodNode s (at + 8) p run
  pub backup_start : Good s (at + 12) 0 max_start

pub place_good : (s : List ℕ) (at p : ℕ) (run : List ℕ) → place_fault s at p run ≡ none → GoodPlace s at p run
unfolding place_fault
place_good s at p run e =
    let b = or_else_r _ _ e in
    let c = or_else_r _ _ b in
    record {
      primary_node = node_good s at p run (or_else_l _ _ e);
      primary_start = field_good s (at + 4) 0 max_start (Value (at + 4)) (or_else_l _ _ b);
      backup_node = node_good s (at + 8) p run (or_else_l _ _ c);
      backup_start = field_good s (at + 12) 0 max_start (Value (at + 12)) (or_else_r _ _ c);
    }

pub record GoodPlan (s : List ℕ) (job : Job) : Type 0 where
  pub version : Good s 0 first_version plan_version
  pub count : Good s 4 (tasks job) (tasks job)
  pub place : (j : ℕ) → j < tasks job → GoodPlace s (8 + 16 * j) (nodes job) (task job j).run
  pub room : plan_length (tasks job) ≤ length s
  pub most : length s ≤ plan_length (tasks job)

pub plan_good : (s : List ℕ) (job : Job) → plan_fault s job ≡ none → GoodPlan s job
unfolding plan_fault places_fault
plan_good s job e =
    let c = or_else_r _ _ e in
    let l = or_else_r _ _ c in
    let count = field_good s 4 (tasks job) (tasks job) (Count 4) (or_else_l _ _ c) in
    let each = none_first (tasks job) _ (or_else_l _ _ l) in
    let room = rows_room 8 16 (tasks job) (length s) count.room (λ j p _. omega (arith, (place_good s _ _ _ (each j p)).backup_start.room)) in
    record {
      version = field_good s 0 first_version plan_version (Version 0) (or_else_l _ _ e);
      count = count;
      place = λ j p. place_good s _ _ _ (each j p);
      room = omega arith;
      most = tail_most s (plan_length (tasks job)) (or_else_r _ _ l);
    }
