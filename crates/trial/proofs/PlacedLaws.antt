-- Laws of the table of a plan: its entries are the plan's copies, and what is asked of each link and task.
use Prim.Native.Nat.{ℕ, ◌+◌, ◌*◌, ◌≤◌, ◌<◌}
use mathlib.Core.List.{List}
use mathlib.Core.Path.{◌≡◌, sym, ◌∙◌, subst}
use lib.ListN.{get_or}
use native.Mathlib.Omega.{arith}
use Rattle.reader.specs.declared.job.Job.{Job}
use Rattle.reader.specs.Limits.{max_nodes, max_start}
use Rattle.reader.specs.Entries.{nodes, tasks, links, link}
use Rattle.rules.specs.declared.Copy.{Copy}
use Rattle.rules.specs.Copies.{copy, domain}
use Rattle.rules.specs.Rules.{Row, rows}
use Rattle.rules.specs.Survival.{Role, primary, backup, copy_of}
use Rattle.rules.proofs.FaultSetLaws.{row_primary, row_backup}
use Rattle.rules.proofs.DomainLaws.{domain_below}
use Rattle.rules.proofs.PassedSurvives.{planned_runs}
use Rattle.copies.specs.declared.table.Copies.{Copies}
use Rattle.copies.specs.Table.{entry}
use Rattle.copies.proofs.TableLaws.{each_entry}
use Rattle.judge.specs.Faults.{Low}
use Rattle.trial.specs.Passes.{Losable}
use Rattle.trial.specs.Runs.{Sendable, Settleable, Placed, at}

module _ (job : Job) (cs : Copies) (leave : List ℕ) (w : Placed job cs leave) where
  abbrev t : ℕ → Row
  t = rows job w.plan

  pub copied_at : (j : ℕ) (a : Role) → j < tasks job → entry cs (at j a) ≡ copy_of a (t j)
  copied_at j primary p = w.copied.primary j p
  copied_at j backup p = w.copied.backup j p

  -- a link and a task of the job have what is asked of them
  pub sendable : (k : ℕ) → k < links job → Sendable leave (link job k)
  sendable k p =
      let l = link job k in
      record {
        from = omega (arith, w.sound.rise k p, w.sound.into k p, w.sound.tasks_most);
        to = omega (arith, w.sound.into k p, w.sound.tasks_most);
        primary = omega (arith, w.leaving.soon (2 * l.from), w.sound.delay_most k p);
        backup = omega (arith, w.leaving.soon (2 * l.from + 1), w.sound.delay_most k p);
      }

  node_low : (j : ℕ) (a : Role) → j < tasks job → (entry cs (at j a)).node < nodes job
  unfolding copy
  node_low j primary p =
      subst (λ (c : Copy). c.node < nodes job) (sym (copied_at j primary p ∙ row_primary job w.plan (tasks job) j p)) (w.reads.primary_node j p)
  node_low j backup p =
      subst (λ (c : Copy). c.node < nodes job) (sym (copied_at j backup p ∙ row_backup job w.plan (tasks job) j p)) (w.reads.backup_node j p)

  start_low : (j : ℕ) (a : Role) → j < tasks job → (entry cs (at j a)).start ≤ max_start
  unfolding copy
  start_low j primary p =
      subst (λ (c : Copy). c.start ≤ max_start) (sym (copied_at j primary p ∙ row_primary job w.plan (tasks job) j p)) (w.reads.primary_start j p)
  start_low j backup p =
      subst (λ (c : Copy). c.start ≤ max_start) (sym (copied_at j backup p ∙ row_backup job w.plan (tasks job) j p)) (w.reads.backup_start j p)

  pub settleable : (j : ℕ) → j < tasks job → Settleable job cs j
  settleable j p =
      record {
        low = omega (arith, w.sound.tasks_most);
        primary_node = omega (arith, node_low j primary p, w.sound.nodes_most);
        backup_node = omega (arith, node_low j backup p, w.sound.nodes_most);
        primary_start = start_low j primary p;
        backup_start = start_low j backup p;
        detected = omega (arith, w.sound.detect_most _ (node_low j primary p), w.leaving.is (2 * j) (omega arith), w.leaving.soon (2 * j));
      }

  -- the nodes of its entries are of a rack; and of each primary there is a group, and a tick before its finish
  pub low : Low cs.node (tasks job)
  low =
      record {
        few = w.sound.tasks_most;
        on = each_entry (λ k. get_or cs.node k 0 < max_nodes) (tasks job)
            (λ j p. omega (arith, node_low j primary p, w.sound.nodes_most)) (λ j p. omega (arith, node_low j backup p, w.sound.nodes_most));
      }

  pub losable : Losable job.nodes cs.node cs.finish (tasks job)
  unfolding domain
  losable =
      record {
        few = w.sound.tasks_most;
        on = λ j p. omega (arith, node_low j primary p, w.sound.nodes_most);
        runs = λ j p. subst (λ (c : Copy). 1 ≤ c.finish) (sym (copied_at j primary p)) (omega (arith, planned_runs job w.plan w.reads j primary p));
        low = λ j p. domain_below job w.sound _ (node_low j primary p);
      }
