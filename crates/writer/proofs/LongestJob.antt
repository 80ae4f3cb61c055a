-- 'the longest job has 10,576 bytes', 10,832 in version 2, 10,896 in version 3 and 10,960 in version 4: no file that is accepted has more (reader,
-- `job-longest`), and one has as many.
use Prim.Native.Nat.{ℕ, zero, suc, ◌+◌, ◌/◌, ◌%◌, ◌≤◌, ◌<◌}
use native.Mathlib.Omega.{arith}
use mathlib.Core.Path.{◌≡◌, refl, sym, ap}
use mathlib.Core.Bool.{true}
use mathlib.Core.List.{List, [], ◌∷◌}
use mathlib.Core.Option.{none}
use lib.Dec.{ltb}
use lib.ListN.{length, replicate, get_or-replicate}
use borrow.Author.Tests.{ltb-false, lt-ltb, eq-eqb}
use Rattle.reader.specs.declared.job.Node.{Node}
use Rattle.reader.specs.declared.job.Task.{Task}
use Rattle.reader.specs.declared.job.Link.{Link}
use Rattle.reader.specs.declared.job.Job.{Job}
use Rattle.reader.specs.First.{fill}
use Rattle.reader.specs.Limits.{first_version, newest_version, max_nodes, max_tasks, max_links}
use Rattle.reader.specs.Entries.{no_node, no_task, no_link, node, task, link}
use Rattle.reader.specs.Sound.{below, Sound}
use Rattle.reader.specs.Number.{Bytes}
use Rattle.reader.specs.JobFile.{job_version, longest_job, job_fault}
use Rattle.reader.proofs.TestLaws.{split, or_l, or_r, and_i}
use Rattle.reader.proofs.FillLaws.{filled_at}
use Rattle.writer.specs.Write.{pack, job_bytes}
use Rattle.writer.proofs.SoundReads.{sound_job_reads, sound_job_version, sound_job_length}

pack_bytes : (vs : List ℕ) → Bytes (pack vs)
unfolding Bytes pack
pack_bytes [] k = omega arith
pack_bytes (v ∷ vs) zero = omega arith
pack_bytes (v ∷ vs) (suc zero) = omega arith
pack_bytes (v ∷ vs) (suc (suc zero)) = omega arith
pack_bytes (v ∷ vs) (suc (suc (suc zero))) = omega arith
pack_bytes (v ∷ vs) (suc (suc (suc (suc k)))) = pack_bytes vs k

-- 16 nodes, each its own group, 64 tasks and 512 links: 16 from each of the first 32 tasks
abbrev long_node : ℕ → Node
long_node n = record { detect = 0; send = 0; group = n }

abbrev long_task : Task
long_task = record { ready = 0; deadline = 1; run = replicate max_nodes 0 }

abbrev long_link : ℕ → Link
long_link k = record { from = k / 16; to = 32 + k % 16; delay = 0 }

unfoldable long_job : ℕ → Job
long_job v = record {
  version = v;
  node_count = max_nodes;
  nodes = fill max_nodes long_node (replicate max_nodes no_node);
  task_count = max_tasks;
  tasks = replicate max_tasks long_task;
  link_count = max_links;
  links = fill max_links long_link (replicate max_links no_link);
}

node_is : (v n : ℕ) → n < max_nodes → node (long_job v) n ≡ long_node n
unfolding long_job
node_is v n p = filled_at long_node max_nodes no_node _ max_nodes n no_node refl p (omega arith)

task_is : (v j : ℕ) → j < max_tasks → task (long_job v) j ≡ long_task
unfolding long_job
task_is v j p = get_or-replicate max_tasks j long_task no_task p

link_is : (v k : ℕ) → k < max_links → link (long_job v) k ≡ long_link k
unfolding long_job
link_is v k p = filled_at long_link max_links no_link _ max_links k no_link refl p (omega arith)

rises : (k : ℕ) → below (long_link k) (long_link (suc k)) ≡ true
unfolding below
rises k =
    split (ltb (k / 16) (suc k / 16)) (λ e. or_l _ _ e) (λ e.
    let same : k / 16 ≡ suc k / 16 = omega (arith, ltb-false (k / 16) (suc k / 16) e) in
    or_r _ _ (and_i _ _ (eq-eqb (k / 16) (suc k / 16) same) (lt-ltb (32 + k % 16) (32 + suc k % 16) (omega arith))))

long_sound : (v : ℕ) → first_version ≤ v → v ≤ newest_version → Sound (long_job v)
unfolding long_job
long_sound v least most = record {
  version_least = least;
  version_most = most;
  nodes_least = omega arith;
  nodes_most = omega arith;
  detect_most = λ n p. omega (arith, ap (λ x. x.detect) (node_is v n p));
  send_most = λ n p. omega (arith, ap (λ x. x.send) (node_is v n p));
  send_lacks = λ n p _. ap (λ x. x.send) (node_is v n p);
  group_most = λ n p. omega (arith, ap (λ x. x.group) (node_is v n p));
  group_lacks = λ n p _. ap (λ x. x.group) (node_is v n p);
  tasks_least = omega arith;
  tasks_most = omega arith;
  ready_most = λ j p. rw (task_is v j p) (omega arith);
  ready_lacks = λ j p _. rw (task_is v j p);
  deadline_least = λ j p. rw (task_is v j p) (omega arith);
  deadline_most = λ j p. rw (task_is v j p) (omega arith);
  run_most = λ j n p q. rw (task_is v j p) (omega (arith, get_or-replicate {A = ℕ} max_nodes n 0 0 q));
  links_most = omega arith;
  rise = λ k p. rw (link_is v k p) (omega arith);
  into = λ k p. rw (link_is v k p) (omega arith);
  delay_most = λ k p. rw (link_is v k p) (omega arith);
  order = λ k p. rw (link_is v k (omega arith), link_is v (suc k) p) (rises k);
}

-- some file of bytes, of each version, is accepted and has this length
pub longest_job_lem : (v : ℕ) → first_version ≤ v → v ≤ newest_version →
    (s : List ℕ) × Bytes s × (job_fault s ≡ none) × (job_version s ≡ v) × (length s ≡ longest_job v)
unfolding job_bytes long_job
longest_job_lem v least most =
    let job = long_job v in
    let h = long_sound v least most in
    (job_bytes job, pack_bytes _, sound_job_reads job h, sym (sound_job_version job h), sym (sound_job_length job h))
