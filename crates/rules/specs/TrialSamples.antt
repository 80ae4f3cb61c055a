-- Samples of request (ix): plans, what the judge answers and whether the trial says yes.
use Rattle.std.specs.Prelude.{ℕ, Bool, true, false, List, [], ◌∷◌}
use Rattle.reader.specs.declared.job.Job.{Job}
use Rattle.reader.specs.declared.job.Task.{Task}
use Rattle.reader.specs.declared.plan.Plan.{Plan}
use Rattle.reader.specs.Limits.{max_nodes}
use Rattle.reader.specs.Refusals.{told}
use Rattle.reader.specs.Samples.{array, link_of, at, J, JReady, JWithoutLink, JWithDelay, ◌beside◌, node_of, rack_in, job_of, task_of, plan_with, plan1}
use Rattle.rules.specs.Judge.{judge}
use Rattle.rules.specs.Samples.{Outcome, passed, declined, of_answer, plan8}
use Rattle.rules.specs.Trial.{tried}

-- a sample's number, its files, and what judge and trial say of them
pub record TrialSample : Type 0 where
  pub number : ℕ
  pub job : Job
  pub plan : Plan
  pub judged : Outcome
  pub says : Bool

abbrev sample : ℕ → Job → Plan → Outcome → Bool → TrialSample
sample n job plan judged says = record { number = n; job = job; plan = plan; judged = judged; says = says }

-- backup 0 and primary 1 share node 1 from 6 to 9
abbrev pub shared_plan : Plan
shared_plan = at 0 0 1 5 beside at 1 6 2 11

-- three tasks of run 4 on four nodes, of which 2 and 3 are one group; task 1 feeds task 2, whose primary shares node 0 with backup 0 from 11 to 14
abbrev on_four : Task
on_four = record { ready = 0; deadline = 30; run = array max_nodes 0 (4 ∷ 4 ∷ 4 ∷ 4 ∷ []) }

abbrev pub paired_rack : Job
paired_rack = rack_in 4 (node_of 0 0 ∷ node_of 0 1 ∷ node_of 0 2 ∷ node_of 0 2 ∷ []) (on_four ∷ on_four ∷ on_four ∷ []) (link_of 1 2 0 ∷ [])

abbrev pub paired_plan : Plan
paired_plan = plan_with (at 3 4 0 11 ∷ at 2 1 1 9 ∷ at 0 10 1 15 ∷ [])

-- two primaries on one node, the second in the last tick of the first: a loss in that tick comes before the second starts
abbrev pub tight_job : Job
tight_job = job_of (task_of 30 4 ∷ task_of 30 1 ∷ []) []

abbrev pub tight_plan : Plan
tight_plan = at 0 0 1 5 beside at 0 3 2 5

-- in 30 a shared time that no loss calls for twice: primary 1 lacks its input where backup 0 runs; in 31 the same without the link, where both run.
-- In 32 plans of samples 1, 4 and 8. In 33 a primary that is not ready, though its backup does the task in every run. In 34 the loss of group 2
-- before both its primaries end leaves task 2 unfed and node 0 to backup 0, but one after primary 1, on one of its nodes, and before the end of
-- primary 0, on the other, does not. In 35 primaries that overlap
abbrev pub trial_table : List TrialSample
trial_table =
    sample 30 J shared_plan (declined (told 14 0 1)) true
    ∷ sample 31 JWithoutLink shared_plan (declined (told 14 0 1)) false
    ∷ sample 32 J plan1 passed true
    ∷ sample 32 J (at 0 0 1 5 beside at 2 10 0 15) (declined (told 13 1 1)) false
    ∷ sample 32 (JWithDelay 6) plan8 passed true
    ∷ sample 33 (JReady 0 10) plan1 (declined (told 19 1 1)) false
    ∷ sample 34 paired_rack paired_plan (declined (told 14 0 2)) false
    ∷ sample 35 tight_job tight_plan (declined (told 14 0 1)) false
    ∷ []

-- the table with what judge and trial say
abbrev pub answered_trials : List TrialSample → List TrialSample
answered_trials [] = []
answered_trials (s ∷ l) = sample s.number s.job s.plan (of_answer (judge s.job s.plan)) (tried s.job s.plan) ∷ answered_trials l
