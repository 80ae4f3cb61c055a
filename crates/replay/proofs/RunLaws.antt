-- The loop of replay: what is known after j tasks and k links.
use Prim.Native.Nat.{ℕ, ◌+◌, ◌≤◌, ◌<◌, max}
use mathlib.Core.Bool.{Bool}
use mathlib.Core.List.{List}
use mathlib.Core.Path.{◌≡◌, refl, sym, ◌∙◌, ap, ap₂}
use native.Mathlib.Omega.{arith}
use lib.Dec.{leb, eqb}
use lib.ListN.{get_or, set, replicate}
use borrow.Author.Tests.{eq-eqb, ne_eqb}
use Rattle.reader.specs.declared.job.Job.{Job}
use Rattle.reader.specs.declared.plan.Plan.{Plan}
use Rattle.reader.specs.Tests.{◌and◌, ◌implies◌}
use Rattle.reader.specs.First.{fill}
use Rattle.reader.specs.Limits.{max_tasks, max_start}
use Rattle.reader.specs.Entries.{nodes, tasks, links, send, node, task, link, place}
use Rattle.reader.specs.Sound.{Sound, PlanSound}
use Rattle.rules.specs.declared.Copy.{Copy}
use Rattle.rules.specs.declared.Loss.{Loss}
use Rattle.rules.specs.declared.Times.{Times}
use Rattle.rules.specs.Rules.{Row, rows, rule_ready}
use Rattle.rules.specs.Times.{TimesSound, ended_rows}
use Rattle.rules.specs.Replay.{TaskRun, arrived, fed, run_task, replay_times}
use Rattle.rules.proofs.FaultSetLaws.{runs_own}
use Rattle.copies.specs.declared.arrival.Outgoing.{Outgoing}
use Rattle.copies.specs.Arrival.{arrival_of, result_of, SumFits}
use Rattle.copies.proofs.ArrivalLaws.{leb_max}
use Rattle.replay.specs.declared.states.Pair.{Pair}
use Rattle.replay.specs.declared.states.Outcome.{Outcome}
use Rattle.replay.specs.declared.progress.Progress.{Progress}
use Rattle.replay.specs.declared.Outcomes.{Outcomes}
use Rattle.replay.specs.Inputs.{sent_at, sent_from}
use Rattle.replay.specs.States.{pair_row, run_from, outcome}
use Rattle.replay.specs.Outcomes.{replayed, no_outcome, outcomes}
use Rattle.replay.specs.Progress.{zeros, started, sent, stored}
use Rattle.reader.proofs.FirstLaws.{every_rest}
use Rattle.reader.proofs.FillLaws.{filled_more, filled_at}
use Rattle.replay.proofs.LinkOrder.{ahead}
use Rattle.replay.proofs.StateLaws.{finish_number}
use Rattle.replay.proofs.InputLaws.{sender, sent_arrives, sent_most, sent_below}
use Rattle.replay.proofs.PairLaws.{once_finished, run_pair, pair, primary_is, backup_is, detected_is, finish_most}
use Rattle.replay.proofs.ReadyLaws.{Tested, tested_start, tested_more}

-- the test of link m for task t: its result is there for copy c of t
abbrev test : Job → (ℕ → Row) → (ℕ → TaskRun) → (ℕ → Copy) → ℕ → ℕ → Bool
test job rows_of runs_of c t m =
    let l = link job m in
    eqb l.to t implies arrived job l (rows_of l.from) (runs_of l.from) (c t)

-- ready times of the copies c, after k links
abbrev pub Ready : Job → Plan → Times → Loss → (ℕ → Copy) → ℕ → List ℕ → Type 0
Ready job plan times loss c k ready = Tested (λ t. (c t).start) (test job (ended_rows job plan times) (replay_times job plan times loss) c) k ready

-- what is known after j tasks and k links
pub record Upto (job : Job) (plan : Plan) (times : Times) (loss : Loss) (j k : ℕ) (r : Progress) : Type 0 where
  pub within : j ≤ tasks job
  pub links_within : k ≤ links job
  pub of_is : r.of ≡ fill j (replayed job plan times loss) (replicate max_tasks no_outcome)
  pub at_is : r.at ≡ fill j (λ i. sent_at (replayed job plan times loss i)) zeros
  pub node_is : r.node ≡ fill j (λ i. sent_from (replayed job plan times loss i) (place plan i)) zeros
  pub primary_ready : Ready job plan times loss (λ t. (ended_rows job plan times t).primary) k r.primary
  pub backup_ready : Ready job plan times loss (λ t. (ended_rows job plan times t).backup) k r.backup

pub task_fits : (job : Job) → Sound job → (j : ℕ) → j < tasks job → j < max_tasks
task_fits job sound j p = omega (arith, sound.tasks_most)

pub to_fits : (job : Job) → Sound job → (k : ℕ) → k < links job → (link job k).to < max_tasks
to_fits job sound k p = omega (arith, sound.into k p, sound.tasks_most)

module _ (job : Job) (plan : Plan) (times : Times) (loss : Loss) (all : Sound job × PlanSound job plan × TimesSound job plan times) where
  abbrev sound : Sound job
  sound = all.0

  abbrev T : ℕ → Row
  T = ended_rows job plan times

  abbrev R : ℕ → TaskRun
  R = replay_times job plan times loss

  run_own : (j : ℕ) → j < tasks job → R j ≡ run_task job (rows job plan) T loss R j
  unfolding replay_times
  run_own j p = runs_own job sound (rows job plan) T loss j p

  pub upto_start : (r : Progress) → r ≡ started → Upto job plan times loss 0 0 r
  unfolding fill
  upto_start r e =
      rw e
      (record {
        within = omega arith;
        links_within = omega arith;
        of_is = refl;
        at_is = refl;
        node_is = refl;
        primary_ready = tested_start _ _;
        backup_ready = tested_start _ _;
      })

  module _ (j k : ℕ) (r : Progress) (u : Upto job plan times loss j k r) where
    -- link k, whose sender is settled, is looked at
    module _ (more : k < links job) (settled : (link job k).from < j) where
      abbrev i : ℕ
      i = (link job k).from

      abbrev to : ℕ
      to = (link job k).to

      i_below : i < tasks job
      i_below = omega (arith, u.within)

      at_is : get_or r.at i 0 ≡ sent_at (replayed job plan times loss i)
      at_is = filled_at _ max_tasks 0 r.at j i 0 u.at_is settled (omega (arith, u.within, sound.tasks_most))

      node_is : get_or r.node i 0 ≡ sent_from (replayed job plan times loss i) (place plan i)
      node_is = filled_at _ max_tasks 0 r.node j i 0 u.node_is settled (omega (arith, u.within, sound.tasks_most))

      pub node_below : get_or r.node i 0 < nodes job
      node_below = rw node_is (sent_below _ (place plan i) _ (all.1.primary_node i i_below) (all.1.backup_node i i_below))

      -- both sums fit
      pub sent_fits : SumFits (get_or r.at i 0 + send job (get_or r.node i 0)) (link job k).delay
      unfolding outcome
      sent_fits =
          let finish = finish_most job plan times all i i_below (R i) in
          let most = sent_most (replayed job plan times loss i) (rw (finish_number (T i) (R i)) (omega (arith, finish))) in
          rw at_is (omega (arith, most, sound.send_most _ node_below, sound.delay_most k more))

      abbrev result : Outgoing
      result = result_of job (link job k) (sender (get_or r.node i 0) (get_or r.at i 0))

      -- the ready time of the receiver, for the copies c
      ready_more : (c : ℕ → Copy) (ready : List ℕ) (n v a : ℕ) → Ready job plan times loss c k ready → (c to).node ≡ n
          → (c to).start ≤ max_start
          → a ≡ arrival_of result n → v ≡ max (get_or ready to 0) a
          → Ready job plan times loss c (k + 1) (set ready to v)
      unfolding ◌implies◌
      ready_more c ready n v a h en starts ea e =
          tested_more (λ t. (c t).start) _ k to ready v a (to_fits job sound k more) h e
          (rw (ea, at_is, node_is, ← en, eq-eqb to to refl)
          (sent_arrives job (link job k) (T i) (place plan i) (R i) (c to)
          (ap (λ c. c.node) (primary_is job plan times all i i_below)) (ap (λ c. c.node) (backup_is job plan times all i i_below))
          (once_finished job (rows job plan) T loss R i (R i) (run_own i i_below)) starts))
          (λ t away. rw (ne_eqb to t away))

      pub upto_sent : Upto job plan times loss j (k + 1) (sent r (link job k) (node job (get_or r.node i 0)) (place plan to))
      unfolding sent
      upto_sent =
          let below = sound.into k more in
          let p = primary_is job plan times all to below in
          let q = backup_is job plan times all to below in
          record {
            within = u.within;
            links_within = omega arith;
            of_is = u.of_is;
            at_is = u.at_is;
            node_is = u.node_is;
            primary_ready =
                ready_more (λ t. (T t).primary) r.primary _ _ _ u.primary_ready (ap (λ c. c.node) p) (rw p (all.1.primary_start to below)) refl refl;
            backup_ready =
                ready_more (λ t. (T t).backup) r.backup _ _ _ u.backup_ready (ap (λ c. c.node) q) (rw q (all.1.backup_start to below)) refl refl;
          }

    -- task j is settled: no link is left that could feed it
    module _ (below : j < tasks job) (left : k < links job → j ≤ (link job k).from) where
      fed_is : (c : ℕ → Copy) (ready : List ℕ) (s : ℕ) → Ready job plan times loss c k ready → (c j).start ≡ s →
          leb (get_or ready j 0) s ≡ fed job T R j (c j)
      unfolding fed ◌implies◌
      fed_is c ready s h e =
          ap (λ s. leb (get_or ready j 0) s) (sym e)
          ∙ h.is j (omega (arith, sound.tasks_most))
          ∙ every_rest (test job T R c j) k (links job) u.links_within λ m p q.
          rw (ne_eqb (link job m).to j (λ e. omega (arith, ahead job sound j k m (left (omega arith)) p q, sound.rise m q)))

      -- the primary may start from then on
      abbrev soonest : ℕ
      soonest = max (get_or r.primary j 0) (task job j).ready

      soonest_is : (v s : ℕ) → v ≡ soonest → (T j).primary.start ≡ s → leb v s ≡ (rule_ready job j (T j).primary and fed job T R j (T j).primary)
      unfolding rule_ready
      soonest_is v s ev e =
          let turned : v ≡ max (task job j).ready (get_or r.primary j 0) = omega arith in
          ap (λ v. leb v s) turned
          ∙ leb_max (task job j).ready _ s
          ∙ ap₂ (λ a b. a and b) (ap (leb (task job j).ready) (sym e)) (fed_is (λ t. (T t).primary) r.primary s u.primary_ready e)

      -- what `settle` tells
      told : (x : Pair) (v : ℕ) (o : Outcome) → x ≡ pair job plan times all j → v ≡ soonest
          → o ≡ outcome (pair_row x) (run_from job loss v (get_or r.backup j 0) x) → o ≡ replayed job plan times loss j
      told x v o ex ev eo =
          let p = primary_is job plan times all j below in
          let b = backup_is job plan times all j below in
          eo
          ∙ ap (λ x. outcome (pair_row x) (run_from job loss v (get_or r.backup j 0) x)) ex
          ∙ run_pair job (rows job plan) T loss R j (pair job plan times all j) _ _ p b (detected_is job plan times all j below)
          (soonest_is v _ ev (ap (λ c. c.start) p))
          (fed_is (λ t. (T t).backup) r.backup _ u.backup_ready (ap (λ c. c.start) b))
          ∙ ap (λ x. outcome (T j) x) (sym (run_own j below))

      pub upto_settled : (x : Pair) (v : ℕ) (o : Outcome) → x ≡ pair job plan times all j → v ≡ soonest
          → o ≡ outcome (pair_row x) (run_from job loss v (get_or r.backup j 0) x)
          → Upto job plan times loss (j + 1) k (stored r j o (place plan j))
      unfolding stored
      upto_settled x v o ex ev eo =
          let is = told x v o ex ev eo in
          record {
            within = omega arith;
            links_within = u.links_within;
            of_is = filled_more _ _ r.of j o u.of_is is;
            at_is = filled_more _ _ r.at j (sent_at o) u.at_is (ap sent_at is);
            node_is = filled_more _ _ r.node j (sent_from o (place plan j)) u.node_is (ap (λ o. sent_from o (place plan j)) is);
            primary_ready = u.primary_ready;
            backup_ready = u.backup_ready;
          }

    pub upto_done : j ≡ tasks job → ◌≡◌ {A = Outcomes} (record { of = r.of }) (outcomes job plan times loss)
    unfolding outcomes
    upto_done e = rw (u.of_is, e)
