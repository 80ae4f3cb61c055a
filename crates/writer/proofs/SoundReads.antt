-- The bytes of a sound job, and of a sound plan after its job, are accepted.
use Prim.Native.Nat.{ℕ, zero, suc, ◌+◌, ◌*◌, ◌≤◌, ◌<◌, min}
use native.Mathlib.Nat.{mul_comm, mul-le-mul_right}
use native.Mathlib.Omega.{arith}
use mathlib.Core.Path.{◌≡◌, refl, subst}
use mathlib.Core.Bool.{true}
use mathlib.Core.List.{List, [], ◌∷◌, append-nil}
use mathlib.Core.Option.{none}
use lib.Dec.{ltb}
use lib.ListN.{length, get_or}
use borrow.Author.Tests.{ltb-false, lt-ltb, eq-eqb}
use Rattle.reader.specs.declared.job.Node.{Node}
use Rattle.reader.specs.declared.job.Task.{Task}
use Rattle.reader.specs.declared.job.Link.{Link}
use Rattle.reader.specs.declared.job.Job.{Job}
use Rattle.reader.specs.declared.plan.Place.{Place}
use Rattle.reader.specs.declared.plan.Plan.{Plan}
use Rattle.reader.specs.Limits.{first_version, newest_version, max_tasks, max_time}
use Rattle.reader.specs.Entries.{no_link, nodes, tasks, links, node, task, link, place}
use Rattle.reader.specs.Sound.{below, Sound, SoundPlace, PlanSound}
use Rattle.reader.specs.Number.{number_at}
use Rattle.reader.specs.JobFile.{job_version, node_width, task_width, task_section, link_section, job_length, node_count, link_at, link_before, job_fault}
use Rattle.reader.specs.Fields.{node_fields, task_fields, node_values, task_values, width, held}
use Rattle.reader.specs.PlanFile.{place_at, plan_fault}
use Rattle.writer.specs.Write.{flat, node_numbers, task_numbers, link_numbers, place_numbers, numbers_of, job_numbers, job_bytes, plan_numbers, plan_bytes}
use Rattle.reader.proofs.TestLaws.{split, or_l, or_r, and_i}
use Rattle.reader.proofs.FieldLaws.{Good}
use Rattle.reader.proofs.VersionLaws.{AllWithin, GoodFields, within_i}
use Rattle.reader.proofs.Accepted.{GoodNodes, GoodTask, GoodTasks, GoodLink, GoodLinks, GoodJob, GoodPlace, GoodPlan}
use Rattle.reader.proofs.Promise.{SoundTask, SoundLink, place_of}
use Rattle.writer.proofs.Segments.{Stands, stands_same, stands_split, stands_rows, stands_end, stands_at, pack_stands}
use Rattle.writer.proofs.FileNumbers.{link_stands, place_stands, job_numbers_lem}
use Rattle.writer.proofs.HeldLaws.{held_good}
use Rattle.writer.proofs.SameNumbers.{link_same, place_same, node_width_lem, fields_width, task_width_lem}
use Rattle.writer.proofs.WordLaws.{job_words, plan_words}
use Rattle.reader.proofs.Faultless.{good_job, good_plan}

-- the entries of a sound job
pub node_of : (job : Job) → Sound job → (i : ℕ) → i < nodes job → AllWithin job.version (node_fields i) (node_values (node job i))
unfolding AllWithin node_fields
node_of job h i p = (
  within_i _ _ _ (omega arith) (h.detect_most i p) (λ l. absurd (let z : ⊥ = omega arith in z)),
  (
    within_i _ _ _ (omega arith) (h.send_most i p) (h.send_lacks i p),
    (within_i _ _ _ (omega arith) (h.group_most i p) (h.group_lacks i p), refl),
  ),
)

pub task_of_lem : (job : Job) → Sound job → (j : ℕ) → j < tasks job → SoundTask job.version (nodes job) (task job j)
unfolding AllWithin task_fields
task_of_lem job h j p = record {
  fields = (
    within_i _ _ _ (omega arith) (h.ready_most j p) (h.ready_lacks j p),
    (within_i _ _ _ (h.deadline_least j p) (h.deadline_most j p) (λ l. absurd (let z : ⊥ = omega arith in z)), refl),
  );
  run = λ i l. h.run_most j i p l;
}

link_of_lem : (job : Job) → Sound job → (k : ℕ) → k < links job → SoundLink (tasks job) (link job k)
link_of_lem job h k p = record { rise = h.rise k p; into = h.into k p; delay = h.delay_most k p }

-- before the first link stands 0 to 0
first_above : (l : Link) → l.from < l.to → below no_link l ≡ true
unfolding below
first_above l h =
    split (ltb 0 l.from) (λ e. or_l _ _ e)
    (λ e. or_r _ _ (and_i _ _ (eq-eqb 0 l.from (omega (arith, ltb-false 0 l.from e))) (lt-ltb 0 l.to (omega arith))))

-- an entry in a file
module _ (s : List ℕ) where
  head_in : (v : ℕ) (vs : List ℕ) (at b low high : ℕ) → Stands s at (v ∷ vs) b → low ≤ v → v ≤ high → at + 4 ≤ length s
      → Good s at low high
  head_in v vs at b low high h l m r = omega (arith, stands_at s (v ∷ vs) at b h 0 at (omega arith) (omega arith))

  node_in : (v i at : ℕ) (x : Node) → Stands s at (node_numbers v x) (at + node_width v) → at + node_width v ≤ length s
      → AllWithin v (node_fields i) (node_values x) → GoodFields v s at (node_fields i)
  unfolding node_numbers node_fields held
  node_in v i at x h m g = held_good v (node_fields i) (node_values x) s at _ g h m

  task_in : (v at p : ℕ) (x : Task) → Stands s at (task_numbers v p x) (at + task_width v p) → at + task_width v p ≤ length s
      → SoundTask v p x → GoodTask v s at p
  unfolding task_numbers task_width
  task_in v at p x h m g =
      let end = at + (width v task_fields + 4 * p) in
      let behind = at + width v task_fields in
      let fields = held v task_fields (task_values x) in
      let run = flat p (λ i. get_or x.run i 0 ∷ []) in
      let k = stands_split s fields run at end h in
      let z : at + 4 * length fields ≡ behind = omega (arith, fields_width v x) in
      let runs = stands_rows s behind 4 (λ i. get_or x.run i 0 ∷ []) p [] end (λ i. refl) (rw append-nil (rw z at k.1)) in
      record {
        fields = held_good v task_fields (task_values x) s at behind g.fields (rw z at k.0) (omega arith);
        run = λ i l. head_in _ _ (behind + 4 * i) _ 0 max_time (runs.row i l) (omega arith) (g.run i l) (omega arith);
      }

  link_in : (at n : ℕ) (l before : Link) → Stands s at (link_numbers l) (at + 12) → at + 12 ≤ length s → SoundLink n l → below before l ≡ true →
      GoodLink s at n before
  unfolding link_at
  link_in at n l before h m g o =
      let e : link_at s at ≡ l = link_same _ _ (stands_same s _ _ at (at + 12) (link_stands s at) h) in
      let q : SoundLink n (link_at s at) = rw e g in
      record { to = omega (arith, q); delay = omega (arith, q); order = rw e o }

  pub place_in : (at p : ℕ) (run : List ℕ) (x : Place) → Stands s at (place_numbers x) (at + 16) → at + 16 ≤ length s
      → SoundPlace p run x → GoodPlace s at p run
  unfolding place_at
  place_in at p run x h m g =
      let e : place_at s at ≡ x = place_same _ _ (stands_same s _ _ at (at + 16) (place_stands s at) h) in
      let q : SoundPlace p run (place_at s at) = rw e g in
      record {
        primary_node = record { number = omega (arith, q.primary_node); able = q.primary_able };
        primary_start = omega (arith, q.primary_start);
        backup_node = record { number = omega (arith, q.backup_node); able = q.backup_able };
        backup_start = omega (arith, q.backup_start);
      }

  plan_in_lem : (job : Job) (plan : Plan) → Sound job → PlanSound job plan → Stands s 0 (plan_numbers plan) (length s) → GoodPlan s job
  unfolding plan_numbers place_numbers
  plan_in_lem job plan h g st =
      let vs = plan.version ∷ plan.task_count ∷ [] in
      let head = stands_split s vs _ 0 (length s) st in
      let v = stands_at s vs 0 8 head.0 0 0 (omega arith) (omega arith) in
      let c = stands_at s vs 0 8 head.0 1 4 (omega arith) (omega arith) in
      let n : min plan.task_count max_tasks ≡ tasks job = omega (arith, g.count, h.tasks_most) in
      let r = stands_rows s 8 16 (λ j. place_numbers (place plan j)) (tasks job) [] (length s) (λ j. refl) (rw append-nil (rw n at head.1)) in
      let e = stands_end s (8 + 16 * tasks job) (length s) r.rest in
      record {
        version = omega (arith, v, g.version);
        count = omega (arith, c, g.count);
        place = λ j p. place_in (8 + 16 * j) (nodes job) (task job j).run (place plan j) (r.row j p) (omega arith) (place_of job plan g j p);
        room = omega arith;
        most = omega arith;
      }

-- a job's numbers in a file, section by section
record Holds (s : List ℕ) (job : Job) (v p n : ℕ) : Type 0 where
  pub version : v ≡ job_version s
  pub node_count_is : p ≡ node_count s
  pub node_stands : (i : ℕ) → i < p → Stands s (8 + node_width v * i) (node_numbers v (node job i)) (8 + node_width v * i + node_width v)
  pub task_count_is : n ≡ number_at s (task_section v p)
  pub task_stands : (j : ℕ) → j < n →
      Stands s (task_section v p + 4 + task_width v p * j) (task_numbers v p (task job j)) (task_section v p + 4 + task_width v p * j + task_width v p)
  pub link_count_is : links job ≡ number_at s (link_section v p n)
  pub links_stand : (k : ℕ) → k < links job →
      Stands s (link_section v p n + 4 + 12 * k) (link_numbers (link job k)) (link_section v p n + 4 + 12 * k + 12)
  pub end : job_length v p n (links job) ≡ length s

abbrev HoldsJob : List ℕ → Job → Type 0
HoldsJob s job = Holds s job job.version (nodes job) (tasks job)

holds : (s : List ℕ) (job : Job) → Stands s 0 (numbers_of job (nodes job) (tasks job) (links job)) (length s) → HoldsJob s job
unfolding numbers_of link_numbers
holds s job st =
    let v = job.version in
    let p = nodes job in
    let n = tasks job in
    let vs = v ∷ p ∷ [] in
    let head = stands_split s vs _ 0 (length s) st in
    let node = stands_rows s 8 (node_width v) (λ i. node_numbers v (node job i)) p _ (length s) (λ i. node_width_lem v (node job i)) head.1 in
    let y : 8 + node_width v * p ≡ task_section v p = omega (arith, mul_comm (node_width v) p) in
    let count = stands_split s (n ∷ []) _ (task_section v p) (length s) (rw y at node.rest) in
    let tasks = stands_rows s (task_section v p + 4) (task_width v p) (λ j. task_numbers v p (task job j)) n _ (length s)
    (λ j. task_width_lem v p (task job j)) count.1 in
    let z : task_section v p + 4 + task_width v p * n ≡ link_section v p n = omega (arith, mul_comm (task_width v p) n) in
    let last = stands_split s (links job ∷ []) _ (link_section v p n) (length s) (rw z at tasks.rest) in
    let rows = stands_rows s (link_section v p n + 4) 12 (λ k. link_numbers (link job k)) (links job) [] (length s) (λ k. refl) (rw append-nil last.1) in
    record {
      version = stands_at s vs 0 8 head.0 0 0 (omega arith) (omega arith);
      node_count_is = stands_at s vs 0 8 head.0 1 4 (omega arith) (omega arith);
      node_stands = node.row;
      task_count_is = stands_at s (n ∷ []) (task_section v p) _ count.0 0 _ (omega arith) (omega arith);
      task_stands = tasks.row;
      link_count_is = stands_at s (links job ∷ []) (link_section v p n) _ last.0 0 _ (omega arith) (omega arith);
      links_stand = rows.row;
      end = stands_end s _ _ rows.rest;
    }

module _ (s : List ℕ) (job : Job) (h : Sound job) (d : HoldsJob s job) where
  abbrev v : ℕ
  v = job.version

  abbrev p : ℕ
  p = nodes job

  abbrev n : ℕ
  n = tasks job

  nodes_within : (i : ℕ) → i < p → 8 + node_width v * i + node_width v ≤ length s
  nodes_within i l = omega (arith, d.end, mul-le-mul_right (node_width v) l, mul_comm (node_width v) i)

  nodes_in : GoodNodes v s
  nodes_in = record {
    count = omega (arith, d.node_count_is, h.nodes_least, h.nodes_most, d.end);
    entry = λ i q.
        let l : i < p = omega (arith, d.node_count_is) in
        subst (λ x. GoodFields v s (8 + x) (node_fields i)) (mul_comm (node_width v) i)
        (node_in s v i _ (node job i) (d.node_stands i l) (nodes_within i l) (node_of job h i l));
    room = subst (λ p. task_section v p ≤ length s) d.node_count_is (omega (arith, d.end));
  }

  tasks_within : (j : ℕ) → j < n → task_section v p + 4 + task_width v p * j + task_width v p ≤ length s
  tasks_within j l = omega (arith, d.end, mul-le-mul_right (task_width v p) l, mul_comm (task_width v p) j)

  tasks_in : GoodTasks v s (task_section v p) p
  tasks_in = record {
    count = omega (arith, d.task_count_is, h.tasks_least, h.tasks_most, d.end);
    task = λ j q.
        let l : j < n = omega (arith, d.task_count_is) in
        subst (λ x. GoodTask v s (task_section v p + 4 + x) p) (mul_comm (task_width v p) j)
        (task_in s v _ p (task job j) (d.task_stands j l) (tasks_within j l) (task_of_lem job h j l));
    room = subst (λ n. task_section v p + 4 + n * task_width v p ≤ length s) d.task_count_is (omega (arith, d.end));
  }

  link_is : (k : ℕ) → k < links job → link_at s (link_section v p n + 4 + 12 * k) ≡ link job k
  link_is k l = link_same _ _ (stands_same s _ _ _ _ (link_stands s _) (d.links_stand k l))

  order_in : (k : ℕ) → k < links job → below (link_before s (link_section v p n + 4) k) (link job k) ≡ true
  unfolding link_before
  order_in zero l = first_above (link job 0) (h.rise 0 l)
  order_in (suc k) l = rw (link_is k (omega arith)) (h.order k l)

  links_in : GoodLinks s (link_section v p n) n
  links_in = record {
    count = omega (arith, d.link_count_is, h.links_most, d.end);
    link = λ k q.
        let l : k < links job = omega (arith, d.link_count_is) in
        link_in s _ n (link job k) _ (d.links_stand k l) (omega (arith, d.end)) (link_of_lem job h k l) (order_in k l);
    room = omega (arith, d.link_count_is, d.end);
  }

-- the version and the counts, where they stand
job_of : (s : List ℕ) (v p n m : ℕ) → v ≡ job_version s → p ≡ node_count s → n ≡ number_at s (task_section v p) →
    m ≡ number_at s (link_section v p n) →
    Good s 0 first_version newest_version → GoodNodes v s →
    GoodTasks v s (task_section v p) p → GoodLinks s (link_section v p n) n → length s ≤ job_length v p n m → GoodJob s
job_of s v p n m ev ep en em h a b c e = record {
  version = h;
  nodes = rw ev at a;
  tasks = rw (ep, ev) at b;
  links = rw (en, ep, ev) at c;
  most = rw (em, en, ep, ev) at e;
}

job_in_lem : (s : List ℕ) (job : Job) → Sound job → HoldsJob s job → GoodJob s
job_in_lem s job h d =
    job_of s job.version (nodes job) (tasks job) (links job) d.version d.node_count_is d.task_count_is d.link_count_is
    (omega (arith, h.version_least, h.version_most, d.version, d.end))
    (nodes_in s job h d) (tasks_in s job h d) (links_in s job h d) (omega (arith, d.end))

module _ (job : Job) (h : Sound job) where
  job_holds : HoldsJob (job_bytes job) job
  unfolding job_bytes
  job_holds =
      let s = job_bytes job in
      let counts = job_numbers_lem job h.nodes_most h.tasks_most h.links_most in
      holds s job (subst (λ vs. Stands s 0 vs (length s)) counts (pack_stands (job_numbers job) (job_words job h)))

  pub sound_job_reads : job_fault (job_bytes job) ≡ none
  sound_job_reads = good_job _ (job_in_lem _ job h job_holds)

  pub sound_job_version : job.version ≡ job_version (job_bytes job)
  sound_job_version = job_holds.version

  pub sound_job_length : job_length job.version (nodes job) (tasks job) (links job) ≡ length (job_bytes job)
  sound_job_length = job_holds.end

pub sound_plan_reads : (job : Job) (plan : Plan) → Sound job → PlanSound job plan → plan_fault (plan_bytes plan) job ≡ none
unfolding plan_bytes
sound_plan_reads job plan h g = good_plan _ job (plan_in_lem _ job plan h g (pack_stands (plan_numbers plan) (plan_words job h plan g)))
