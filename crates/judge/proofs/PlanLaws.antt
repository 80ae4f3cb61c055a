-- From the passes to the judge: the table's rows are the plan's, and its answers the judge's.
use Prim.Native.Nat.{ℕ, zero, suc, ◌+◌, ◌*◌, ◌≤◌, ◌<◌}
use mathlib.Core.Bool.{true, false}
use mathlib.Core.List.{List}
use mathlib.Core.Logic.{◌⊎◌, ⊎_elim}
use mathlib.Core.Option.{Option, none, some}
use mathlib.Core.Path.{◌≡◌, refl, sym, ◌∙◌, ap, ap₂, subst, fun_ext}
use native.Mathlib.Nat.{not-suc-le-zero}
use native.Mathlib.Omega.{arith}
use lib.ListN.{get_or, take, length}
use Rattle.std.proofs.lemmas.List.{get_or-take, length-take}
use borrow.Author.Tests.{eq-eqb}
use Rattle.reader.specs.declared.job.Job.{Job}
use Rattle.reader.specs.declared.plan.Plan.{Plan}
use Rattle.reader.specs.declared.refusal.Refusal.{Refusal}
use Rattle.std.specs.Prelude.{Ok, Err, IsErrAnd}
use Rattle.reader.specs.First.{◌or_else◌}
use Rattle.reader.specs.Limits.{max_start, max_time}
use Rattle.reader.specs.Entries.{nodes, tasks, links, task, link, run}
use Rattle.reader.specs.Refusals.{Answer, answered}
use Rattle.reader.specs.Sound.{Sound, PlanSound}
use Rattle.reader.proofs.TestLaws.{split, clash}
use Rattle.reader.proofs.RefusalLaws.{answered_done, answered_refused}
use Rattle.reader.proofs.Chain.{pass, stop, handed}
use Rattle.reader.proofs.FirstLaws.{first_same, first_none, none_unless, any_same}
use Rattle.rules.specs.declared.Copy.{Copy}
use Rattle.rules.specs.Copies.{copy, in_time, domain, domains}
use Rattle.rules.specs.Rules.{Row, strong, rows, rule_e, rule_f}
use Rattle.rules.specs.Waits.{waits_for_both}
use Rattle.rules.specs.Judge.{first_task, first_link, judge}
use Rattle.rules.specs.Gathering.{own_group}
use Rattle.rules.proofs.DomainLaws.{domain_below}
use Rattle.rules.proofs.FaultSetLaws.{from_low, faults_here, faults_e, rows_faults, row_primary, row_backup}
use Rattle.rules.proofs.GatheringLaws.{gathered_none}
use Rattle.rules.proofs.Waits.{both_keeps}
use Rattle.copies.specs.declared.table.Copies.{Copies}
use Rattle.copies.specs.Sets.{has}
use Rattle.copies.specs.Arrival.{leave_of, Leaving}
use Rattle.copies.specs.Table.{table, entry, row_of, Held}
use Rattle.copies.specs.Gathered.{weak_link, SetsTo}
use Rattle.copies.proofs.SetLaws.{has_none, has_one}
use Rattle.copies.proofs.TableLaws.{each_entry, same_row}
use Rattle.copies.proofs.GatherLaws.{all_gathered}
use Rattle.copies.proofs.ArrivalLaws.{backup_fed, result_is}
use Rattle.judge.specs.Parts.{by_tasks, by_links, by_backups, by_faults}
use Rattle.judge.specs.Tasks.{CopyFits, Copied, TasksJudged}
use Rattle.judge.specs.Links.{Timed, WeakTo, sure, SureBut, LinksJudged}
use Rattle.judge.specs.Backups.{link_feeds, backup_breach, Unsure}
use Rattle.judge.specs.Faults.{Receiving, GathersAll, Low, Grouped, loss_breach}
use Rattle.judge.specs.Overlaps.{fault_breach}
use Rattle.judge.proofs.PartLaws.{breach_parts, links_same, backups_same, faults_same}
use Rattle.judge.proofs.TaskLaws.{placeable}
use Rattle.judge.proofs.LinkLaws.{is_strong}
use Rattle.judge.proofs.OverlapLaws.{pairs_are}

-- a copy on a node of the job, that lasts, and with a finish that a sum can take
record Able (job : Job) (c : Copy) : Type 0 where
  pub on : c.node < nodes job
  pub lasts : c.start < c.finish
  pub ends : c.finish ≤ max_start + max_time

module _ (job : Job) (plan : Plan) (sound : Sound job) (reads : PlanSound job plan) where
  abbrev t : ℕ → Row
  t = rows job plan

  able : (j n s : ℕ) → n < nodes job → 0 < run job j n → CopyFits (task job j) n s → Able job (copy job j n s)
  unfolding copy
  able j n s q r fits = record { on = q; lasts = omega arith; ends = fits.ends }

  -- a fault set has groups only
  pub faults_low : (n j q : ℕ) → j < n → n ≤ tasks job → (t j).faults q ≡ true → q < domains job
  unfolding copy
  faults_low zero j q b p h = absurd (not-suc-le-zero b)
  faults_low (suc n) j q b p h =
      let low : j < tasks job = omega arith in
      faults_e job t j (t j).primary q (sym (ap (λ f. f q) (rows_faults job sound plan j low)) ∙ h)
      (λ e. subst (λ m. m < domains job) (sym (ap (λ (c : Copy). domain job c.node) (row_primary job plan (tasks job) j low)) ∙ e)
      (domain_below job sound _ (reads.primary_node j low)))
      (λ k pk at weak hk. faults_low n (link job k).from q (omega (arith, sound.rise k pk, at)) (omega arith) hk)

  -- the copies in the table
  module _ (cs : Copies) (copied : Copied job plan (tasks job) (entry cs)) where
    entry_able : (k : ℕ) → k < 2 * tasks job → Able job (entry cs k)
    entry_able =
        each_entry (λ k. Able job (entry cs k)) (tasks job)
        (λ j p. subst (Able job) (sym (copied.primary j p ∙ row_primary job plan (tasks job) j p))
        (able j _ _ (reads.primary_node j p) (reads.primary_able j p) ((placeable job plan sound reads).primary j p)))
        (λ j p. subst (Able job) (sym (copied.backup j p ∙ row_backup job plan (tasks job) j p))
        (able j _ _ (reads.backup_node j p) (reads.backup_able j p) ((placeable job plan sound reads).backup j p)))

    pub timed : (leave : List ℕ) → Leaving job (2 * tasks job) cs leave
        → (sets : List ℕ) → Timed job (table cs.node cs.start cs.finish sets) leave
    timed leave leaving sets =
        record {
          few = sound.links_most;
          from = λ k p. omega (arith, from_low job sound k p, sound.tasks_most);
          to = λ k p. omega (arith, sound.into k p, sound.tasks_most);
          primary_fits = λ k p. omega (arith, leaving.soon (2 * (link job k).from), sound.delay_most k p);
          backup_fits = λ k p. omega (arith, leaving.soon (2 * (link job k).from + 1), sound.delay_most k p);
          primary = λ k p. result_is job _ cs leave leaving (link job k) _ (omega (arith, from_low job sound k p));
          backup = λ k p. result_is job _ cs leave leaving (link job k) _ (omega (arith, from_low job sound k p));
        }

    links_are : by_links job (row_of cs) ≡ by_links job t
    unfolding row_of
    links_are = links_same job sound (row_of cs) t copied.primary

    -- weak links by the table are those by the rows
    strong_same : (k : ℕ) → k < links job → is_strong job (row_of cs) k ≡ is_strong job t k
    unfolding strong row_of
    strong_same k p =
        ap₂ (in_time job (link job k)) (copied.backup _ (from_low job sound k p)) (copied.primary _ (sound.into k p))

    -- and so are the tasks from which they arrive
    receiving : (into : List ℕ) → WeakTo job (row_of cs) (links job) into → Receiving job plan into (tasks job)
    unfolding weak_link
    receiving into weak =
        record {
          sound = sound;
          count = refl;
          arrives = λ j p i. weak j i (omega (arith, sound.tasks_most)) ∙ any_same (links job) _ _ (λ k pk. rw (strong_same k pk));
        }

    -- the sets, and when the results leave
    module _ (sets : List ℕ) (filled : SetsTo job plan (tasks job) sets)
        (leave : List ℕ) (left : (k : ℕ) → k < 2 * tasks job → get_or leave k 0 ≡ leave_of job (entry cs k)) where
      abbrev final : Copies
      final = table cs.node cs.start cs.finish sets

      abbrev faults_at : (j q : ℕ) → j < tasks job → has (get_or sets (2 * j + 1) 0) q ≡ (t j).faults q
      faults_at = all_gathered job plan sets filled

      rows_are : (j : ℕ) → j < tasks job → row_of final j ≡ t j
      unfolding row_of
      rows_are j p = same_row _ _ _ _ _ _ (copied.primary j p) (copied.backup j p) (fun_ext λ q. faults_at j q p)

      held : Held job (tasks job) final
      held =
          record {
            node = λ k p. (entry_able k p).on;
            lasts = λ k p. (entry_able k p).lasts;
            ends = λ k p. (entry_able k p).ends;
            primary_set = filled.primary;
            own = λ i p.
                faults_at i _ p ∙ ap (λ f. f (domain job (get_or cs.node (2 * i) 0))) (rows_faults job sound plan i p)
                ∙ faults_here job t i (t i).primary _ (eq-eqb _ _ (sym (ap (λ (c : Copy). domain job c.node) (copied.primary i p))));
            within = λ i q p h. faults_low (tasks job) i q p (omega arith) (sym (faults_at i q p) ∙ h);
          }

      -- E at link k, by the table
      feeds_is : (k : ℕ) → k < links job
          → link_feeds job final leave k ≡ rule_e job (link job k) (row_of final (link job k).from) (row_of final (link job k).to)
      unfolding link_feeds row_of
      feeds_is k p =
          let low = from_low job sound k p in
          rw (left (2 * (link job k).from) (omega arith), left (2 * (link job k).from + 1) (omega arith))
          (backup_fed job final (tasks job) held _ (row_of final (link job k).to) refl (link job k) _ low)

      backups_are_judged : backup_breach job final leave ≡ by_backups job t
      unfolding backup_breach by_backups first_link
      backups_are_judged = first_same (links job) _ _ (λ k p. rw (feeds_is k p)) ∙ backups_same job sound (row_of final) t rows_are

      -- a link that is sure keeps it; others come from the senders in the set
      module _ (u : ℕ) (is : SureBut job (row_of cs) (links job) u) where
        others : (k : ℕ) → k < links job → has u (link job k).from ≡ false → link_feeds job final leave k ≡ true
        unfolding waits_for_both row_of
        others k p out =
            feeds_is k p
            ∙ both_keeps job (link job k) _ _ (split (sure job (row_of cs) k) (λ e. e) (λ e. clash _ (is k p e) out))

        all_sure : u ≡ 0 → by_backups job t ≡ none
        unfolding backup_breach
        all_sure empty =
            sym backups_are_judged
            ∙ first_none (links job) _ (λ k p. none_unless _ _ (others k p (rw (empty, has_none (link job k).from))))

      breach_is : fault_breach final job.nodes (tasks job) ≡ by_faults job (row_of final)
      unfolding fault_breach loss_breach by_faults first_task rule_f row_of domain
      breach_is = ap (λ o. loss_breach job.nodes cs.node sets (tasks job) or_else o) (pairs_are job final held)

      faults_are_judged : fault_breach final job.nodes (tasks job) ≡ by_faults job t
      faults_are_judged = breach_is ∙ faults_same job sound (row_of final) t rows_are

-- the answer of each part where the parts before it found nothing
module _ (job : Job) (plan : Plan) (sound : Sound job) (reads : PlanSound job plan)
    (cs : Copies) (leave : List ℕ) (v : Answer) (placed : TasksJudged job plan cs leave v) where
  -- the first refusal of the parts is the judge's, handed on by `?`
  ends : {r : Refusal} → (by_tasks job (rows job plan) or_else by_links job (rows job plan)
      or_else by_backups job (rows job plan) or_else by_faults job (rows job plan)) ≡ some r
      → (x : Answer) → IsErrAnd x (λ e. e ≡ r) → x ≡ judge job plan
  unfolding judge
  ends q x h = handed tt x h (sym (breach_parts job (rows job plan)) ∙ q)

  pub tasks_refused : {r : Refusal} → v ≡ Err r → (x : Answer) → IsErrAnd x (λ e. e ≡ r) → x ≡ judge job plan
  tasks_refused q = ends (stop _ ((answered_refused _ _).0 (sym placed.answer ∙ q)))

  no_task : v ≡ Ok tt → by_tasks job (rows job plan) ≡ none
  no_task q = (answered_done _).0 (sym placed.answer ∙ q)

  pub low : Low cs.node (tasks job)
  low =
      let able = entry_able job plan sound reads cs placed.tabled.copied in
      record { few = sound.tasks_most; on = λ k p. omega (arith, (able k p).on, sound.nodes_most) }

  pub grouped : Grouped job.nodes cs.node (tasks job)
  grouped k p = sound.group_most _ (entry_able job plan sound reads cs placed.tabled.copied k p).on

  -- the sets before any task is gathered
  own_sets : SetsTo job plan 0 cs.set
  unfolding own_group
  own_sets =
      let it = placed.tabled in
      record {
        size = it.whole.set;
        primary = it.primary_set;
        faults = λ i q p. ap (λ s. has s q) (it.own_set i p) ∙ has_one _ q ∙ sym (ap (λ f. f i q) (gathered_none job plan));
      }

  module _ (into : List ℕ) (w : ℕ × Answer) (walked : LinksJudged job cs into w) where
    links_answer : w.1 ≡ answered (by_links job (rows job plan))
    links_answer = walked.answer ∙ ap answered (links_are job plan sound reads cs placed.tabled.copied)

    pub links_refused : v ≡ Ok tt → {r : Refusal} → w.1 ≡ Err r → (x : Answer) → IsErrAnd x (λ e. e ≡ r) → x ≡ judge job plan
    links_refused done q = ends (pass _ (no_task done) ∙ stop _ ((answered_refused _ _).0 (sym links_answer ∙ q)))

    -- the sets once all tasks are gathered, and the table with them
    module _ (sets : List ℕ) (gathers : let weak = take (tasks job) into in GathersAll weak (length weak) cs.set sets) where
      long : length (take (tasks job) into) ≡ tasks job
      long = omega (arith, length-take (tasks job) into, walked.size, sound.tasks_most)

      received : Receiving job plan (take (tasks job) into) (length (take (tasks job) into))
      received =
          let r = receiving job plan sound reads cs placed.tabled.copied into walked.weak in
          record {
            sound = sound;
            count = sym long;
            arrives = λ j p i.
                let low : j < tasks job = omega (arith, long) in
                ap (λ w. has w i) (get_or-take (tasks job) into j 0 low) ∙ r.arrives j low i;
          }

      pub filled : SetsTo job plan (tasks job) sets
      filled = subst (λ n. SetsTo job plan n sets) long (gathers job plan received own_sets)

      abbrev full : Copies
      full = table cs.node cs.start cs.finish sets

      pub pass_ready : Unsure job w.0 full leave
      pass_ready =
          record {
            timed = timed job plan sound reads cs placed.tabled.copied leave placed.leaving sets;
            others = others job plan sound reads cs placed.tabled.copied sets filled leave placed.leaving.is
                w.0 walked.unsure;
          }

      -- what the pass answers
      abbrev Passed : Answer → Type 0
      Passed u = u ≡ answered (backup_breach job full leave)

      backups_answer : (u : Answer) → Passed u → u ≡ answered (by_backups job (rows job plan))
      backups_answer u e =
          e
          ∙ ap answered
          (backups_are_judged job plan sound reads cs placed.tabled.copied sets filled leave placed.leaving.is)

      -- every link is sure, or the pass found nothing
      abbrev Fed : Type 0
      Fed = (w.0 ≡ 0) ⊎ ((u : Answer) × Passed u × (u ≡ Ok tt))

      backups_kept : Fed → by_backups job (rows job plan) ≡ none
      backups_kept =
          ⊎_elim
          (all_sure job plan sound reads cs placed.tabled.copied sets filled leave placed.leaving.is
          w.0 walked.unsure)
          (λ x. (answered_done _).0 (sym (backups_answer x.0 x.1) ∙ x.2))

      module _ (done : v ≡ Ok tt) (links_done : w.1 ≡ Ok tt) where
        before : (o : Option Refusal) → (by_tasks job (rows job plan) or_else by_links job (rows job plan) or_else o) ≡ o
        before o = pass _ (no_task done) ∙ pass _ ((answered_done _).0 (sym links_answer ∙ links_done))

        pub backups_refused : (u : Answer) → Passed u → {r : Refusal} → u ≡ Err r
            → (x : Answer) → IsErrAnd x (λ e. e ≡ r) → x ≡ judge job plan
        backups_refused u e q = ends (before _ ∙ stop _ ((answered_refused _ _).0 (sym (backups_answer u e) ∙ q)))

        pub faults_answered : Fed → (u : Answer) → u ≡ answered (fault_breach full job.nodes (tasks job)) → u ≡ judge job plan
        unfolding judge
        faults_answered fed u e =
            e ∙ ap answered
            (faults_are_judged job plan sound reads cs placed.tabled.copied sets filled leave placed.leaving.is
            ∙ sym (pass _ (backups_kept fed)) ∙ sym (before _) ∙ breach_parts job (rows job plan))
