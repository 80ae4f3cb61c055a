-- The starred samples of document 01, as one table of questions and answers; sample 8 as request (i) has it. Those of requests (ii), (iv),
-- (vi) and (viii) behind them.
use Rattle.std.specs.Prelude.{ℕ, Bool, true, false, List, [], ◌∷◌}
use Rattle.reader.specs.declared.job.Job.{Job}
use Rattle.reader.specs.declared.job.Task.{Task}
use Rattle.reader.specs.declared.plan.Plan.{Plan}
use Rattle.reader.specs.Refusals.{Answer}
use Rattle.std.specs.Prelude.{Ok, Err}
use Rattle.reader.specs.Limits.{max_nodes, max_tasks, max_links}
use Rattle.reader.specs.Entries.{no_node, no_link, blank_task, link}
use Rattle.reader.specs.declared.refusal.Told.{Told}
use Rattle.reader.specs.Refusals.{told, tell}
use Rattle.reader.specs.Samples.{array, link_of, at, J, JReady, JSending, JGrouped, JGroupedWithoutLink, JWithoutLink, JWithDelay, JWithDeadline, ◌beside◌}
use Rattle.reader.specs.Samples.{node_of, rack_in, plan_with, plan1}
use Rattle.rules.specs.declared.Loss.{Loss}
use Rattle.rules.specs.declared.Loss.TheVariants.{NoLoss, Lost}
use Rattle.rules.specs.declared.Took.{Took}
use Rattle.rules.specs.declared.Times.{Times}
use Rattle.rules.specs.Rules.{Row, rows, strong}
use Rattle.rules.specs.Judge.{judge}
use Rattle.rules.specs.Times.{no_took, ended_rows}
use Rattle.rules.specs.Replay.{state_number, TaskRun, replay, replay_times, finish_of}
use Rattle.rules.specs.Attempts.{Attempt, refused, placed}
use Rattle.rules.specs.Planner.{planner}

-- what a sample asks; is_strong: of a link, by its number
pub data Question : Type 0 where
  plans : Job → Question
  judges : Job → Plan → Question
  replays : Job → Plan → Loss → Question
  replays_times : Job → Plan → List Took → Loss → Question
  is_strong : Job → Plan → ℕ → Question

-- 'Per task replay writes three numbers'
pub record Written : Type 0 where
  pub primary : ℕ
  pub backup : ℕ
  pub finish : ℕ

abbrev pub wrote : ℕ → ℕ → ℕ → Written
wrote p b f = record { primary = p; backup = b; finish = f }

-- what is answered
pub data Outcome : Type 0 where
  planned : Plan → Outcome
  passed : Outcome
  declined : Told → Outcome
  ran : Written → Written → Outcome
  is : Bool → Outcome

abbrev pub of_attempt : Attempt Plan → Outcome
of_attempt (placed plan) = planned plan
of_attempt (refused r) = declined (tell r)

abbrev pub of_answer : Answer → Outcome
of_answer (Ok tt) = passed
of_answer (Err r) = declined (tell r)

abbrev pub written_of : Row → TaskRun → Written
written_of r x = wrote (state_number x.primary) (state_number x.backup) (finish_of r x)

abbrev pub written : Job → Plan → Loss → ℕ → Written
written job plan loss j = written_of (rows job plan j) (replay job plan loss j)

-- the copies of each task taking so many ticks
abbrev pub takes : ℕ → ℕ → Took
takes p b = record { primary = p; backup = b }

abbrev pub times_of : List Took → Times
times_of l = record { of = array max_tasks no_took l }

abbrev pub written_in : Job → Plan → List Took → Loss → ℕ → Written
written_in job plan l loss j = written_of (ended_rows job plan (times_of l) j) (replay_times job plan (times_of l) loss j)

abbrev pub outcome : Question → Outcome
outcome (plans job) = of_attempt (planner job)
outcome (judges job plan) = of_answer (judge job plan)
outcome (replays job plan loss) = ran (written job plan loss 0) (written job plan loss 1)
outcome (replays_times job plan l loss) = ran (written_in job plan l loss 0) (written_in job plan l loss 1)
outcome (is_strong job plan k) =
    let l = link job k in
    is (strong job l (rows job plan l.from) (rows job plan l.to).primary)

-- a sample's number, what it asks, and what it answers
pub record Sample : Type 0 where
  pub number : ℕ
  pub question : Question
  pub answer : Outcome

abbrev sample : ℕ → Question → Outcome → Sample
sample n q a = record { number = n; question = q; answer = a }

-- the plans of samples 5 and 8
abbrev pub plan5 : Plan
plan5 = at 0 0 1 5 beside at 2 11 0 15

abbrev pub plan8 : Plan
plan8 = at 0 0 1 5 beside at 1 10 0 14

abbrev pub table : List Sample
table =
    sample 1 (plans J) (planned (at 0 0 1 5 beside at 0 4 1 9))
    ∷ sample 2 (replays J plan1 (Lost 0 3)) (ran (wrote 1 2 9) (wrote 0 2 12))
    ∷ sample 3 (replays J plan1 (Lost 0 4)) (ran (wrote 2 0 4) (wrote 0 2 12))
    ∷ sample 3 (replays J plan1 (Lost 0 5)) (ran (wrote 2 0 4) (wrote 1 2 12))
    ∷ sample 3 (replays J plan1 NoLoss) (ran (wrote 2 0 4) (wrote 2 0 7))
    ∷ sample 4 (judges J (at 0 0 1 5 beside at 2 10 0 15)) (declined (told 13 1 1))
    ∷ sample 4 (is_strong J (at 0 0 1 5 beside at 2 10 0 15) 0) (is false)
    ∷ sample 5 (is_strong J plan5 0) (is true)
    ∷ sample 5 (judges J plan5) passed
    ∷ sample 6 (judges JWithoutLink (at 0 0 2 5 beside at 1 0 2 4)) passed
    ∷ sample 7 (judges JWithoutLink (at 0 0 2 8 beside at 0 4 2 8)) (declined (told 14 0 1))
    ∷ sample 7 (judges JWithoutLink (at 0 0 2 5 beside at 0 4 2 9)) passed
    ∷ sample 8 (judges (JWithDelay 6) plan8) passed
    ∷ sample 9 (plans (JWithDeadline 12)) (planned plan1)
    ∷ sample 9 (plans (JWithDeadline 11)) (declined (told 16 1 1))
    ∷ []

-- (ii): ready times move a primary, or its plan is refused 19, after 8 and before 9, for the first such task; a primary that is not ready does
-- not start; a backup is not held to the ready time
abbrev pub ready_table : List Sample
ready_table =
    sample 12 (plans (JReady 0 0)) (planned plan1)
    ∷ sample 12 (plans (JReady 0 6)) (planned (at 0 0 1 5 beside at 0 6 1 10))
    ∷ sample 12 (plans (JReady 5 0)) (planned (at 0 5 1 10 beside at 0 9 1 14))
    ∷ sample 13 (judges (JReady 0 4) plan1) passed
    ∷ sample 13 (judges (JReady 0 5) plan1) (declined (told 19 1 1))
    ∷ sample 13 (judges (JReady 1 5) plan1) (declined (told 19 0 0))
    ∷ sample 13 (judges (JReady 0 5) (at 0 0 1 5 beside at 0 4 0 9)) (declined (told 8 1 1))
    ∷ sample 13 (judges (JReady 0 5) (at 0 0 1 4 beside at 0 4 1 9)) (declined (told 19 1 1))
    ∷ sample 13 (judges (JReady 0 6) (at 0 0 1 5 beside at 0 6 1 5)) (declined (told 9 1 1))
    ∷ sample 14 (replays (JReady 0 10) plan1 NoLoss) (ran (wrote 2 0 4) (wrote 0 2 12))
    ∷ []

-- two nodes that detect at once, with send times 2 and 0; task 0 run 1 on each, task 1 run 3 and 1, both deadlines 9; link 0 to 1, delay 0
abbrev quick : List ℕ → Task
quick run = record { ready = 0; deadline = 9; run = array max_nodes 0 run }

abbrev pub slow_card : Job
slow_card =
    record {
      version = 3;
      node_count = 2;
      nodes = array max_nodes no_node (record { detect = 0; send = 2; group = 0 } ∷ record { detect = 0; send = 0; group = 1 } ∷ []);
      task_count = 2;
      tasks = array max_tasks blank_task (quick (1 ∷ 1 ∷ []) ∷ quick (3 ∷ 1 ∷ []) ∷ []);
      link_count = 1;
      links = array max_links no_link (link_of 0 1 0 ∷ []);
    }

-- (iv): the send time of the sender's node is part of the delay to another node, the receiver's is not, and on one node none is: planner, strong
-- links and so fault sets, D and E at their last tick and one past it, replay. In 19 a planner that forgets it where it seeks the latest arrival
-- would put task 1 on node 1 at 2, when the result of task 0 is not yet there
abbrev pub send_table : List Sample
send_table =
    sample 15 (plans (JSending 0 9 9)) (planned plan1)
    ∷ sample 15 (plans (JSending 3 0 0)) (planned plan1)
    ∷ sample 15 (plans (JSending 4 0 0)) (planned (at 0 0 1 5 beside at 0 4 1 10))
    ∷ sample 16 (is_strong (JSending 0 0 9) plan5 0) (is true)
    ∷ sample 16 (judges (JSending 0 0 9) plan5) passed
    ∷ sample 16 (is_strong (JSending 0 1 0) plan5 0) (is false)
    ∷ sample 16 (judges (JSending 0 1 0) plan5) (declined (told 13 1 1))
    ∷ sample 17 (judges (JSending 5 0 0) plan5) passed
    ∷ sample 17 (judges (JSending 6 0 0) plan5) (declined (told 11 0 1))
    ∷ sample 17 (judges (JSending 3 0 0) plan1) passed
    ∷ sample 17 (judges (JSending 4 0 0) plan1) (declined (told 12 0 1))
    ∷ sample 18 (replays (JSending 3 0 0) plan1 (Lost 0 5)) (ran (wrote 2 0 4) (wrote 1 2 12))
    ∷ sample 18 (replays (JSending 4 0 0) plan1 (Lost 0 5)) (ran (wrote 2 0 4) (wrote 1 0 0))
    ∷ sample 19 (plans slow_card) (planned (at 0 0 1 1 beside at 0 1 1 4))
    ∷ sample 19 (judges slow_card (at 0 0 1 1 beside at 1 2 0 3)) (declined (told 11 0 1))
    ∷ []

-- both primaries in one drawer, where nodes 0 and 1 are; and a backup beside the primary that a weak link leads from
abbrev pub drawer_plan : Plan
drawer_plan = at 0 0 2 5 beside at 1 6 2 10

abbrev pub beside_plan : Plan
beside_plan = at 0 0 2 9 beside at 2 6 1 15

-- tasks 0 and 1 feed task 2 on five nodes, of which node 0 is in group 7 and node 4 in group q; task 2's backup at this tick. By a weak link group 7
-- is in its fault set, and its backup has the result of backup 0 at 23 and that of backup 1 at 24
abbrev on_five : ℕ → Task
on_five run = record { ready = 0; deadline = 30; run = array max_nodes 0 (run ∷ run ∷ run ∷ run ∷ run ∷ []) }

abbrev pub fed_by_two : ℕ → Job
fed_by_two q =
    rack_in 4 (node_of 0 7 ∷ node_of 0 1 ∷ node_of 0 2 ∷ node_of 0 3 ∷ node_of 0 q ∷ [])
    (on_five 4 ∷ on_five 4 ∷ on_five 1 ∷ []) (link_of 0 2 14 ∷ link_of 1 2 10 ∷ [])

abbrev pub fed_plan : ℕ → Plan
fed_plan tick = plan_with (at 0 0 1 5 ∷ at 4 4 2 10 ∷ at 2 18 3 tick ∷ [])

-- (vi), with nodes 0 and 1 in group 5 and node 2 in group 9, and beside it with each node in a group of its own: A and F by groups, in 22 'a group
-- common to both perils' for G, overlap on single nodes, a delay between nodes of one group, a loss that takes both of them, and in 25 a common
-- group for E. In 20 nothing can be planned on one supply
abbrev pub group_table : List Sample
group_table =
    sample 20 (plans (JGrouped 3 3 3)) (declined (told 16 0 0))
    ∷ sample 20 (plans (JGrouped 5 5 9)) (planned (at 0 0 2 5 beside at 0 4 2 9))
    ∷ sample 20 (plans (JGrouped 7 1 3)) (planned plan1)
    ∷ sample 21 (judges (JGrouped 0 1 2) plan1) passed
    ∷ sample 21 (judges (JGrouped 5 5 9) plan1) (declined (told 8 0 0))
    ∷ sample 21 (judges (JGrouped 0 1 2) beside_plan) passed
    ∷ sample 21 (judges (JGrouped 5 5 9) beside_plan) (declined (told 13 1 1))
    ∷ sample 22 (judges (JGroupedWithoutLink 0 1 2) (at 0 0 2 5 beside at 1 0 2 4)) passed
    ∷ sample 22 (judges (JGroupedWithoutLink 5 5 9) (at 0 0 2 5 beside at 1 0 2 4)) (declined (told 14 0 1))
    ∷ sample 22 (judges (JGroupedWithoutLink 5 5 9) (at 0 0 2 5 beside at 1 0 2 9)) passed
    ∷ sample 23 (judges (JGrouped 5 5 9) drawer_plan) passed
    ∷ sample 23 (judges (JGrouped 5 5 9) (at 0 0 2 5 beside at 1 5 2 10)) (declined (told 11 0 1))
    ∷ sample 24 (replays (JGrouped 0 1 2) drawer_plan (Lost 0 5)) (ran (wrote 2 0 4) (wrote 2 0 9))
    ∷ sample 24 (replays (JGrouped 5 5 9) drawer_plan (Lost 5 5)) (ran (wrote 2 0 4) (wrote 0 2 13))
    ∷ sample 25 (judges (fed_by_two 4) (fed_plan 23)) passed
    ∷ sample 25 (judges (fed_by_two 7) (fed_plan 23)) (declined (told 12 1 2))
    ∷ sample 25 (judges (fed_by_two 7) (fed_plan 24)) passed
    ∷ []

-- (viii): task 0 takes 2 of 4 ticks, task 1 takes 1 of 3, their backups what is listed
abbrev pub early : List Took
early = takes 2 4 ∷ takes 1 3 ∷ []

abbrev pub as_listed : List Took
as_listed = takes 4 4 ∷ takes 3 3 ∷ []

-- a backup at 4: soon enough for a primary that ends at 2 and is missed at 3, but not for one that is listed to end at 4
abbrev pub soon_plan : Plan
soon_plan = at 0 0 1 4 beside at 0 4 1 9

-- primary 1 on another node at 4, which the result of a primary 0 that ends at 2 reaches, and that of one that ends at 4 does not
abbrev pub early_plan : Plan
early_plan = at 0 0 1 5 beside at 2 4 0 15

-- in 26 samples 2 and 3 with copies that end early, first primaries, then backups; in 27 as listed; in 28 rule B as listed; in 29 a result that leaves
-- when it ends
abbrev pub times_table : List Sample
times_table =
    sample 26 (replays_times J plan1 early NoLoss) (ran (wrote 2 0 2) (wrote 2 0 5))
    ∷ sample 26 (replays_times J plan1 early (Lost 0 1)) (ran (wrote 1 2 9) (wrote 0 2 12))
    ∷ sample 26 (replays_times J plan1 early (Lost 0 3)) (ran (wrote 2 0 2) (wrote 0 2 12))
    ∷ sample 26 (replays_times J plan1 early (Lost 0 5)) (ran (wrote 2 0 2) (wrote 2 0 5))
    ∷ sample 26 (replays_times J plan1 (takes 4 1 ∷ takes 3 2 ∷ []) (Lost 0 3)) (ran (wrote 1 2 6) (wrote 0 2 11))
    ∷ sample 27 (replays_times J plan1 as_listed (Lost 0 3)) (ran (wrote 1 2 9) (wrote 0 2 12))
    ∷ sample 27 (replays_times J plan1 as_listed (Lost 0 5)) (ran (wrote 2 0 4) (wrote 1 2 12))
    ∷ sample 28 (replays_times J soon_plan early NoLoss) (ran (wrote 2 0 2) (wrote 2 0 5))
    ∷ sample 28 (replays_times J soon_plan early (Lost 0 1)) (ran (wrote 1 0 0) (wrote 0 0 0))
    ∷ sample 29 (replays_times J early_plan early NoLoss) (ran (wrote 2 0 2) (wrote 2 0 5))
    ∷ sample 29 (replays J early_plan NoLoss) (ran (wrote 2 0 4) (wrote 0 2 18))
    ∷ []

abbrev pub asked : List Sample → List Outcome
asked [] = []
asked (s ∷ l) = outcome s.question ∷ asked l

abbrev pub answers : List Sample → List Outcome
answers [] = []
answers (s ∷ l) = s.answer ∷ answers l
