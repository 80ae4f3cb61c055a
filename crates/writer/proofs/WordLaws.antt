-- The numbers of a sound job, and of a sound plan, are 4-byte numbers.
use Prim.Native.Nat.{ℕ, zero, suc, ◌^◌, ◌≤◌, ◌<◌}
use native.Mathlib.Omega.{arith}
use mathlib.Core.List.{List, [], ◌∷◌, ◌++◌}
use Rattle.reader.specs.declared.job.Job.{Job}
use Rattle.reader.specs.declared.plan.Place.{Place}
use Rattle.reader.specs.declared.plan.Plan.{Plan}
use Rattle.reader.specs.Limits.{max_nodes}
use Rattle.reader.specs.Entries.{nodes, tasks, links, node, task, link}
use Rattle.reader.specs.Sound.{Sound, SoundPlace, PlanSound}
use Rattle.writer.specs.Write.{flat, node_numbers, task_numbers, link_numbers, place_numbers, numbers_of, job_numbers, plan_numbers}
use Rattle.reader.specs.Number.{Words}
use Rattle.reader.proofs.Promise.{place_of}
use Rattle.writer.proofs.HeldLaws.{held_words}

words_none : Words []
unfolding Words
words_none k = omega arith

words_more : (v : ℕ) (vs : List ℕ) → v < 2 ^ 32 → Words vs → Words (v ∷ vs)
unfolding Words
words_more v vs h w zero = h
words_more v vs h w (suc k) = w k

words_append : (vs ws : List ℕ) → Words vs → Words ws → Words (vs ++ ws)
unfolding Words
words_append [] ws a b k = b k
words_append (v ∷ vs) ws a b zero = a 0
words_append (v ∷ vs) ws a b (suc k) = words_append vs ws (λ i. a (suc i)) b k

words_flat : (n : ℕ) (f : ℕ → List ℕ) → ((i : ℕ) → i < n → Words (f i)) → Words (flat n f)
unfolding flat
words_flat zero f h = words_none
words_flat (suc n) f h = words_append (flat n f) (f n) (words_flat n f (λ i p. h i (omega arith))) (h n (omega arith))

words_one : (v : ℕ) → v < 2 ^ 32 → Words (v ∷ [])
words_one v h = words_more v [] h words_none

pub place_words : (p : ℕ) (run : List ℕ) (x : Place) → p ≤ max_nodes → SoundPlace p run x → Words (place_numbers x)
unfolding place_numbers
place_words p run x m g =
    words_more _ _ (omega (arith, g.primary_node)) (words_more _ _ (omega (arith, g.primary_start))
    (words_more _ _ (omega (arith, g.backup_node)) (words_one _ (omega (arith, g.backup_start)))))

module _ (job : Job) (h : Sound job) where
  node_words : (v i : ℕ) → i < nodes job → Words (node_numbers v (node job i))
  unfolding node_numbers
  node_words v i p = held_words v _ _ (words_more _ _ (omega (arith, h.detect_most i p)) (words_more _ _ (omega (arith, h.send_most i p))
      (words_one _ (omega (arith, h.group_most i p)))))

  task_words : (v p j : ℕ) → p ≤ nodes job → j < tasks job → Words (task_numbers v p (task job j))
  unfolding task_numbers
  task_words v p j m l =
      words_append _ _ (held_words v _ _ (words_more _ _ (omega (arith, h.ready_most j l)) (words_one _ (omega (arith, h.deadline_most j l)))))
      (words_flat p _ (λ i k. words_one _ (omega (arith, h.run_most j i l (omega arith)))))

  link_words : (k : ℕ) → k < links job → Words (link_numbers (link job k))
  unfolding link_numbers
  link_words k p =
      let r = h.rise k p in
      let i = h.into k p in
      words_more _ _ (omega (arith, h.tasks_most)) (words_more _ _ (omega (arith, h.tasks_most)) (words_one _ (omega (arith, h.delay_most k p))))

  pub job_words : Words (job_numbers job)
  unfolding job_numbers numbers_of
  job_words =
      words_more _ _ (omega (arith, h.version_most)) (words_more _ _ (omega (arith, h.nodes_most))
      (words_append _ _ (words_flat _ _ (λ i p. node_words _ i (omega arith)))
      (words_more _ _ (omega (arith, h.tasks_most))
      (words_append _ _ (words_flat _ _ (λ j p. task_words _ _ j (omega arith) (omega arith)))
      (words_more _ _ (omega (arith, h.links_most)) (words_flat _ _ (λ k p. link_words k (omega arith))))))))

  pub plan_words : (plan : Plan) → PlanSound job plan → Words (plan_numbers plan)
  unfolding plan_numbers
  plan_words plan g =
      let m = h.tasks_most in
      words_more _ _ (omega (arith, g.version)) (words_more _ _ (omega (arith, g.count))
      (words_flat _ _ (λ j p. place_words _ _ _ h.nodes_most (place_of job plan g j (omega (arith, g.count))))))
