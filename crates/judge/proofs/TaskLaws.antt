-- Laws of the pass over the tasks: two entries more, and the rules of tasks at each.
use Prim.Native.Nat.{ℕ, ◌+◌, ◌*◌, ◌^◌, ◌≤◌, ◌<◌}
use mathlib.Core.Bool.{not}
use mathlib.Core.List.{List}
use mathlib.Core.Path.{◌≡◌, sym, ◌∙◌, ap, ap₂, subst}
use native.Mathlib.Nat.{not-suc-le-zero}
use native.Mathlib.Omega.{arith}
use lib.Dec.{eqb, leb}
use lib.ListN.{set, replicate}
use Rattle.std.specs.Prelude.{Option as Maybe, None}
use Rattle.reader.specs.declared.job.Job.{Job}
use Rattle.reader.specs.declared.plan.Plan.{Plan}
use Rattle.reader.specs.declared.refusal.Refusal.TheVariants.{SameNode, TooSoon, Early, Late}
use Rattle.reader.specs.Refusals.{Answer}
use Rattle.reader.specs.First.{◌or_else◌}
use Rattle.reader.specs.Limits.{max_send, max_group, max_time, max_start}
use Rattle.reader.specs.Entries.{nodes, tasks, detect, group, ready, deadline, task, place}
use Rattle.reader.specs.Refusals.{answered}
use Rattle.reader.specs.Sound.{Sound, PlanSound}
use Rattle.reader.proofs.TestLaws.{below_suc}
use Rattle.rules.specs.declared.Copy.{Copy}
use Rattle.rules.specs.Copies.{copy, domain}
use Rattle.rules.specs.Rules.{rows, rule_a, rule_ready, rule_b, rule_c}
use Rattle.rules.specs.Judge.{first_task}
use Rattle.rules.proofs.FaultSetLaws.{row_primary, row_backup}
use Rattle.copies.specs.declared.table.Copies.{Copies}
use Rattle.copies.specs.Sets.{every_group}
use Rattle.copies.specs.Arrival.{leave_of, Leaving}
use Rattle.copies.specs.Table.{copy_count, Whole, Stored}
use Rattle.copies.proofs.ArrivalLaws.{leaving_start, leaving_more}
use Rattle.judge.specs.Notes.{first_broken, noted_of, seen}
use Rattle.judge.specs.Parts.{by_tasks}
use Rattle.judge.specs.Tasks.{CopyFits, copy_on, Placeable, Tabled, TasksJudged}
use Rattle.judge.proofs.NoteLaws.{note_start, note_more, note_seen}

-- a copy of a task on a node of the job fits
pub copy_fits : (job : Job) → Sound job → (j n s : ℕ) → j < tasks job → n < nodes job → s ≤ max_start → CopyFits (task job j) n s
copy_fits job sound j n s p q b = record { on = omega (arith, sound.nodes_most); ends = omega (arith, sound.run_most j n p q) }

-- a sound job and a plan of it have what the pass rests on
pub placeable : (job : Job) (plan : Plan) → Sound job → PlanSound job plan → Placeable job plan
placeable job plan sound reads =
    record {
      few = sound.tasks_most;
      primary = λ j p. copy_fits job sound j _ _ p (reads.primary_node j p) (reads.primary_start j p);
      backup = λ j p. copy_fits job sound j _ _ p (reads.backup_node j p) (reads.backup_start j p);
      detects = λ j p. sound.detect_most _ (reads.primary_node j p);
      groups = λ j p. sound.group_most _ (reads.primary_node j p);
      primary_sends = λ j p. sound.send_most _ (reads.primary_node j p);
      backup_sends = λ j p. sound.send_most _ (reads.backup_node j p);
    }

-- the group of the primary's node is one
pub group_fits : (job : Job) (plan : Plan) → Placeable job plan → (j : ℕ) → j < tasks job
    → (p : Copy) → p ≡ copy_on (task job j) (place plan j).primary_node (place plan j).primary_start → group job p.node ≤ max_group
group_fits job plan h j low p is = rw is (h.groups j low)

-- a delay can be added to when the results of both copies leave
pub leaves_soon : (job : Job) (plan : Plan) → Placeable job plan → (j : ℕ) → j < tasks job
    → (p b : Copy) → p ≡ copy_on (task job j) (place plan j).primary_node (place plan j).primary_start
    → b ≡ copy_on (task job j) (place plan j).backup_node (place plan j).backup_start
    → (leave_of job p ≤ max_start + max_time + max_send) × (leave_of job b ≤ max_start + max_time + max_send)
leaves_soon job plan h j low p b ip ib =
    (rw ip (omega (arith, (h.primary j low).ends, h.primary_sends j low)), rw ib (omega (arith, (h.backup j low).ends, h.backup_sends j low)))

-- after the first j tasks
pub record Placing (job : Job) (plan : Plan) (j : ℕ) (cs : Copies) (leave : List ℕ) (same soon early late : Maybe ℕ) : Type 0 where
  pub within : j ≤ tasks job
  pub tabled : Tabled job plan j cs
  pub leaving : Leaving job (2 * j) cs leave
  pub a : same ≡ first_broken j (λ i. rule_a job (rows job plan i))
  pub ready : soon ≡ first_broken j (λ i. rule_ready job i (rows job plan i).primary)
  pub b : early ≡ first_broken j (λ i. rule_b job (rows job plan i))
  pub c : late ≡ first_broken j (λ i. rule_c job i (rows job plan i))

module _ (job : Job) (plan : Plan) where
  pub placing_start : (cs : Copies) (leave : List ℕ) → Whole cs → leave ≡ replicate copy_count 0
      → Placing job plan 0 cs leave None None None None
  placing_start cs leave whole zeros =
      record {
        within = omega arith;
        tabled =
            record {
              whole = whole;
              copied = record { primary = λ j p. absurd (not-suc-le-zero p); backup = λ j p. absurd (not-suc-le-zero p) };
              primary_set = λ j p. absurd (not-suc-le-zero p);
              own_set = λ j p. absurd (not-suc-le-zero p);
            };
        leaving = leaving_start job cs leave zeros;
        a = note_start _;
        ready = note_start _;
        b = note_start _;
        c = note_start _;
      }

  -- p and b as entries of task j
  tabled_more : (j own : ℕ) (cs ds es : Copies) (p b : Copy) → Stored cs (2 * j) p every_group ds → Stored ds (2 * j + 1) b own es → Whole es
      → p ≡ (rows job plan j).primary → b ≡ (rows job plan j).backup → own ≡ 2 ^ domain job p.node
      → Tabled job plan j cs → Tabled job plan (j + 1) es
  tabled_more j own cs ds es p b first second whole ep eb eo h =
      record {
        whole = whole;
        copied =
            record {
              primary = λ i q. below_suc i j (omega arith)
                  (λ r. second.other (2 * i) (λ e. omega arith) ∙ first.other (2 * i) (λ e. omega arith) ∙ h.copied.primary i r)
                  (λ r. rw r (second.other (2 * j) (λ e. omega arith) ∙ first.here ∙ ep));
              backup = λ i q. below_suc i j (omega arith)
                  (λ r. second.other (2 * i + 1) (λ e. omega arith) ∙ first.other (2 * i + 1) (λ e. omega arith) ∙ h.copied.backup i r)
                  (λ r. rw r (second.here ∙ eb));
            };
        primary_set = λ i q. below_suc i j (omega arith)
            (λ r. second.other_set (2 * i) (λ e. omega arith) ∙ first.other_set (2 * i) (λ e. omega arith) ∙ h.primary_set i r)
            (λ r. rw r (second.other_set (2 * j) (λ e. omega arith) ∙ first.here_set));
        own_set = λ i q. below_suc i j (omega arith)
            (λ r. second.other_set (2 * i + 1) (λ e. omega arith) ∙ first.other_set (2 * i + 1) (λ e. omega arith) ∙ h.own_set i r)
            (λ r. rw r (second.here_set ∙ eo ∙ ap (λ (c : Copy). 2 ^ domain job c.node) ep));
      }

  -- one task more, with its copies p and b
  pub placing_more : Placeable job plan → (j : ℕ) (cs : Copies) (leave : List ℕ) (same soon early late : Maybe ℕ)
      → Placing job plan j cs leave same soon early late → j < tasks job
      → (p b : Copy)
      → p ≡ copy_on (task job j) (place plan j).primary_node (place plan j).primary_start
      → b ≡ copy_on (task job j) (place plan j).backup_node (place plan j).backup_start
      → (x w y z : Maybe ℕ)
      → x ≡ noted_of same j (not (eqb (group job p.node) (group job b.node)))
      → w ≡ noted_of soon j (leb (ready job j) p.start)
      → y ≡ noted_of early j (leb (p.finish + detect job p.node) b.start)
      → z ≡ noted_of late j (leb b.finish (deadline job j))
      → (own : ℕ) → own ≡ 2 ^ group job p.node
      → (ds es : Copies) → Stored cs (2 * j) p every_group ds → Stored ds (2 * j + 1) b own es → Whole es
      → Placing job plan (j + 1) es (set (set leave (2 * j) (leave_of job p)) (2 * j + 1) (leave_of job b)) x w y z
  unfolding copy domain rule_a rule_ready rule_b rule_c
  placing_more fits j cs leave same soon early late h low p b ip ib x w y z ex ew ey ez own eo ds es first second whole =
      let ep : p ≡ (rows job plan j).primary = ip ∙ sym (row_primary job plan (tasks job) j low) in
      let eb : b ≡ (rows job plan j).backup = ib ∙ sym (row_backup job plan (tasks job) j low) in
      let next : 2 * j + 1 + 1 ≡ 2 * (j + 1) = omega arith in
      let leaves = leaves_soon job plan fits j low p b ip ib in
      record {
        within = omega arith;
        tabled = tabled_more j own cs ds es p b first second whole ep eb eo h.tabled;
        leaving =
            subst (λ n. Leaving job n es (set (set leave (2 * j) (leave_of job p)) (2 * j + 1) (leave_of job b))) next
            (leaving_more job (2 * j + 1) ds _
            (leaving_more job (2 * j) cs leave h.leaving ds (λ k q. first.other k (λ e. omega arith)) (omega arith) _
            (ap (leave_of job) (sym first.here)) leaves.0)
            es (λ k q. second.other k (λ e. omega arith)) (omega arith) _ (ap (leave_of job) (sym second.here)) leaves.1);
        a = note_more _ j same x _ h.a (ap₂ (λ (c d : Copy). not (eqb (group job c.node) (group job d.node))) ep eb) ex;
        ready = note_more _ j soon w _ h.ready (ap (λ (c : Copy). leb (ready job j) c.start) ep) ew;
        b = note_more _ j early y _ h.b (ap₂ (λ (c d : Copy). leb (c.finish + detect job c.node) d.start) ep eb) ey;
        c = note_more _ j late z _ h.c (ap (λ (d : Copy). leb d.finish (deadline job j)) eb) ez;
      }

  pub placing_done : (j : ℕ) (cs : Copies) (leave : List ℕ) (same soon early late : Maybe ℕ)
      → Placing job plan j cs leave same soon early late → tasks job ≤ j
      → (v : Answer) → v ≡ answered (seen SameNode same or_else seen TooSoon soon or_else seen Early early or_else seen Late late)
      → TasksJudged job plan cs leave v
  unfolding by_tasks first_task
  placing_done j cs leave same soon early late h end v e =
      let d : j ≡ tasks job = omega (arith, h.within) in
      let g = subst (λ n. Placing job plan n cs leave same soon early late) d h in
      record {
        tabled = g.tabled;
        leaving = g.leaving;
        answer =
            e ∙ ap answered
            (ap₂ ◌or_else◌ (note_seen _ (tasks job) same g.a SameNode)
            (ap₂ ◌or_else◌ (note_seen _ (tasks job) soon g.ready TooSoon)
            (ap₂ ◌or_else◌ (note_seen _ (tasks job) early g.b Early) (note_seen _ (tasks job) late g.c Late))));
      }
