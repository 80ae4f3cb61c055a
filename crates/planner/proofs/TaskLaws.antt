-- Task by task: each is placed and stored, or refused, and so for all.
use Prim.Native.Nat.{ℕ, zero, suc, ◌+◌, ◌*◌, ◌≤◌, ◌<◌}
use mathlib.Core.List.{List}
use mathlib.Core.Path.{◌≡◌, sym, ◌∙◌, ap, subst}
use lib.ListN.{get_or}
use native.Mathlib.Numerals.{add-one}
use native.Mathlib.Omega.{arith}
use Rattle.std.specs.Prelude.{Result, Ok, Err}
use Rattle.reader.specs.declared.job.Job.{Job}
use Rattle.reader.specs.declared.plan.Plan.{Plan}
use Rattle.reader.specs.declared.refusal.Refusal.{Refusal}
use Rattle.reader.specs.Entries.{nodes, tasks, links, task}
use Rattle.reader.specs.Sound.{Sound}
use Rattle.reader.proofs.TestLaws.{below_suc}
use Rattle.rules.specs.declared.Copy.{Copy}
use Rattle.rules.specs.Rules.{row, fault_set}
use Rattle.rules.specs.Attempts.{refused, placed, ◌>>=◌}
use Rattle.rules.specs.Planner.{primary_may, place_of, place_task, place_tasks, plan_of, planner_with, anywhere, planner}
use Rattle.rules.specs.Choice.{Best, backup_keeps_beside}
use Rattle.rules.proofs.PlaceTaskLaws.{place_task_placed}
use Rattle.copies.specs.declared.table.Copies.{Copies}
use Rattle.copies.specs.Sets.{has}
use Rattle.copies.specs.Table.{row_of}
use Rattle.copies.proofs.TableLaws.{empty_rows}
use Rattle.planner.specs.declared.task.Want.{Want}
use Rattle.planner.specs.declared.board.Board.{Board}
use Rattle.planner.specs.declared.board.Pair.{Pair}
use Rattle.planner.specs.declared.senders.Incoming.{Incoming}
use Rattle.planner.specs.Senders.{Sent}
use Rattle.planner.specs.Faults.{Peers}
use Rattle.planner.specs.Tasks.{want_of, pair_row, attempted, LaidTo, Blank, Bookable, Booked, departed}
use Rattle.planner.specs.Tasks.{Planning, places_to, listed, planned}
use Rattle.planner.proofs.KeepsLaws.{Found, best_found}
use Rattle.planner.proofs.StoreLaws.{beside_start, pair_bookable, booked_row, booked_beside}
use Rattle.planner.proofs.WantLaws.{Told, told}

-- a refusal stays
stays : (job : Job) (m : ℕ) (x : Refusal) → place_tasks job anywhere m ≡ refused x → (n : ℕ) → m ≤ n → place_tasks job anywhere n ≡ refused x
unfolding place_tasks ◌>>=◌
stays job m x h zero p = let e : m ≡ 0 = omega arith in subst (λ k. place_tasks job anywhere k ≡ refused x) e h
stays job m x h (suc n) p =
    below_suc m (suc n) (omega arith) (λ q. rw (stays job m x h n (omega arith))) (λ q. subst (λ k. place_tasks job anywhere k ≡ refused x) q h)

-- task j, of which `place_task` told a
module _ (job : Job) (net : Incoming) (j : ℕ) (board : Board) (so_far : Planning job net j board)
    (task_of_lem : j < tasks job) (peers : List ℕ) (by_group : Peers job.nodes (nodes job) peers) (want : Want)
    (is_want : want ≡ want_of j (task job j) job.nodes (nodes job) (get_or net.last j 0))
    (a : Result Pair Refusal) (is_a : Told net board peers want a) where
  abbrev cs : Copies
  cs = board.copies

  answer : attempted a ≡ place_task job (anywhere j) j (row_of cs) j
  answer = told job net j board so_far.sound so_far.sent so_far.beside task_of_lem peers by_group want is_want a is_a

  -- it is placed as x
  module _ (x : Pair) (at_x : a ≡ Ok x) where
    as_x : place_task job (anywhere j) j (row_of cs) j ≡ placed (pair_row x)
    unfolding attempted
    as_x = sym answer ∙ ap attempted at_x

    abbrev best : (p : Copy) × (b : Copy) × Best job j (primary_may job (anywhere j) j (row_of cs) j) p
        × Best job j (backup_keeps_beside job j (row_of cs) j p) b × (row job (row_of cs) j p b ≡ pair_row x)
    best = (place_task_placed job (anywhere j) j (row_of cs) j (pair_row x)).0 as_x

    p_is : best.0 ≡ x.primary
    unfolding row
    p_is = ap (λ r. r.primary) best.4

    p_found : Found job x.primary
    p_found = subst (Found job) p_is (best_found job j _ _ so_far.sound task_of_lem best.2)

    q_found : Found job x.backup
    unfolding row
    q_found = subst (Found job) (ap (λ r. r.backup) best.4) (best_found job j _ _ so_far.sound task_of_lem best.3)

    faults_are : fault_set job (row_of cs) j x.primary ≡ has x.set
    unfolding row
    faults_are = subst (λ c. fault_set job (row_of cs) j c ≡ has x.set) p_is (ap (λ r. r.faults) best.4)

    pub bookable : Bookable job.nodes j x board
    bookable = pair_bookable job j board so_far.sound so_far.beside task_of_lem x p_found q_found

    -- and booked
    pub plan_more : (r : Board) → Booked j x cs r.copies → r.leave ≡ departed job.nodes j x board.leave → LaidTo (2 * (j + 1)) r
        → Planning job net (j + 1) r
    unfolding place_tasks ◌>>=◌
    plan_more r b gone laid =
        record {
          sound = so_far.sound;
          sent = so_far.sent;
          within = omega arith;
          is = rw (add-one, so_far.is, as_x) (ap placed (sym (booked_row j x cs r.copies b)));
          beside = booked_beside job j board so_far.sound so_far.beside task_of_lem x p_found q_found faults_are r b gone laid;
        }

  pub plan_stop : (x : Refusal) → a ≡ Err x → Err x ≡ planned (planner job)
  unfolding attempted planner planner_with place_tasks planned ◌>>=◌
  plan_stop x at_x =
      let w : place_task job (anywhere j) j (row_of cs) j ≡ refused x = sym answer ∙ ap attempted at_x in
      rw (stays job (suc j) x (rw (so_far.is, w)) (tasks job) task_of_lem)

-- the loop over tasks
pub plan_start : (job : Job) (net : Incoming) (board : Board) → Sound job → Sent job.links (links job) net → Blank board → Planning job net 0 board
unfolding place_tasks
plan_start job net board sound sent blank =
    record {
      sound = sound;
      sent = sent;
      within = omega arith;
      is = ap placed (sym (ap row_of blank.copies ∙ empty_rows));
      beside = beside_start job board blank;
    }

module _ (job : Job) (net : Incoming) (j : ℕ) (board : Board) (so_far : Planning job net j board) where
  pub plan_done : (plan : Plan) → j ≡ tasks job → plan ≡ listed (tasks job) (places_to board.copies.node board.copies.start (tasks job))
      → Ok plan ≡ planned (planner job)
  unfolding planned planner planner_with plan_of places_to place_of row_of ◌>>=◌
  plan_done plan e l =
      let cs = board.copies in
      let d : place_tasks job anywhere (tasks job) ≡ placed (row_of cs) = subst (λ k. place_tasks job anywhere k ≡ placed (row_of cs)) e so_far.is in
      ap Ok l ∙ rw d
