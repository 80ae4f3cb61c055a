-- A new task beside a plan: the plan's copies are stored task by task, and the task is placed as the planner places it.
use Prim.Native.Nat.{ℕ, ◌+◌, ◌*◌, ◌≤◌, ◌<◌}
use mathlib.Core.List.{List}
use mathlib.Core.Path.{◌≡◌, sym, ◌∙◌, ap, subst}
use lib.ListN.{get_or}
use native.Mathlib.Numerals.{add-one}
use native.Mathlib.Omega.{arith}
use Rattle.std.specs.Prelude.{Result}
use Rattle.reader.specs.declared.job.Job.{Job}
use Rattle.reader.specs.declared.job.Task.{Task}
use Rattle.reader.specs.declared.job.Link.{Link}
use Rattle.reader.specs.declared.plan.Place.{Place}
use Rattle.reader.specs.declared.plan.Plan.{Plan}
use Rattle.reader.specs.declared.refusal.Refusal.{Refusal}
use Rattle.reader.specs.Limits.{max_nodes, max_links}
use Rattle.reader.specs.Entries.{nodes, tasks, links, group, task, place}
use Rattle.reader.specs.Sound.{Sound, SoundPlace}
use Rattle.reader.proofs.Promise.{place_of}
use Rattle.rules.specs.declared.Description.{Description}
use Rattle.rules.specs.Description.{new_links}
use Rattle.rules.specs.Tables.{put}
use Rattle.rules.specs.Copies.{copy, domain}
use Rattle.rules.specs.Rules.{Row, row, blank_row, planned_row, rows_to, fault_set}
use Rattle.rules.specs.Planner.{place_task, anywhere}
use Rattle.rules.specs.Longer.{longer_job}
use Rattle.rules.proofs.FaultSetLaws.{row_primary, row_backup}
use Rattle.rules.proofs.TableLaws.{grow_start, grow_more}
use Rattle.rules.proofs.LongerLaws.{task_old, task_new, longer_sound}
use Rattle.copies.specs.Sets.{has}
use Rattle.copies.specs.Layout.{copies_on, spots_of}
use Rattle.copies.specs.Table.{row_of}
use Rattle.copies.proofs.TableLaws.{same_row, empty_rows}
use Rattle.copies.proofs.PlanLayout.{laid_copies}
use Rattle.judge.proofs.TaskLaws.{copy_fits}
use Rattle.copies.specs.declared.table.Copies.{Copies}
use Rattle.planner.specs.declared.board.Board.{Board}
use Rattle.planner.specs.declared.board.Pair.{Pair}
use Rattle.planner.specs.declared.senders.Incoming.{Incoming}
use Rattle.planner.specs.declared.task.Want.{Want}
use Rattle.planner.specs.Senders.{Into, Sendable, Sent}
use Rattle.planner.specs.Faults.{Peers}
use Rattle.planner.specs.Tasks.{pair_row, attempted, want_of, LaidTo, Blank, Wanted, Booked, departed}
use Rattle.planner.proofs.KeepsLaws.{Found}
use Rattle.planner.proofs.SenderLaws.{sendable}
use Rattle.planner.proofs.SentLaws.{sent_into, into_few, into_sending, into_faults}
use Rattle.planner.proofs.StoreLaws.{beside_start, booked_row, booked_beside}
use Rattle.planner.proofs.WantLaws.{Told, asked, told}
use Rattle.asking.specs.Calls.{Asking}
use Rattle.asking.specs.Merge.{merged_links, Merged}
use Rattle.asking.specs.Beside.{PlacesFit, Takeable, Taken, Storing, StoredTo, BesideTo, place_new}

book_start : (job : Job) (plan : Plan) (board : Board) → Blank board → StoredTo job plan 0 board
book_start job plan board blank =
    record {
      is = ap row_of blank.copies ∙ empty_rows ∙ sym (grow_start blank_row (planned_row job plan));
      beside = beside_start job board blank;
    }

-- what is stored stands as the plan has it, in order of time
pub stored_copies : (job : Job) (plan : Plan) (m : ℕ) (board : Board) → StoredTo job plan m board
    → (n : ℕ) → n < max_nodes → spots_of board.layout.order board.layout.count n ≡ copies_on plan m n
unfolding row_of
stored_copies job plan m board so_far n rack =
    laid_copies plan m n job board.copies board.layout.order board.layout.count
    (λ i p. ap (λ (f : ℕ → Row). (f i).primary) so_far.is ∙ row_primary job plan m i p)
    (λ i p. ap (λ (f : ℕ → Row). (f i).backup) so_far.is ∙ row_backup job plan m i p)
    so_far.beside.laid rack

-- task j of the first n
module _ (job : Job) (plan : Plan) (net : Incoming) (n : ℕ) (can : Storing job plan net n) (j : ℕ) (below : j < n) where
  task_of_lem : j < tasks job
  task_of_lem = omega (arith, can.within)

  fit : SoundPlace (nodes job) (task job j).run (place plan j)
  fit = can.fit j below

  links_few : get_or net.last j 0 ≤ max_links
  links_few = into_few job _ can.sent j can.sound task_of_lem

  -- the group of its primary's node
  abbrev own : ℕ
  own = group job (place plan j).primary_node

  by_links_lem : Into job net j (get_or net.last j 0)
  by_links_lem = sent_into job _ can.sent j (omega (arith, task_of_lem, can.sound.tasks_most))

  module _ (board : Board) (so_far : StoredTo job plan j board) where
    abbrev cs : Copies
    cs = board.copies

    pub takeable : Takeable net board (get_or net.last j 0) (task job j) (place plan j) own
    takeable =
        record {
          primary = copy_fits job can.sound j _ _ task_of_lem fit.primary_node fit.primary_start;
          backup = copy_fits job can.sound j _ _ task_of_lem fit.backup_node fit.backup_start;
          sending = into_sending job _ j _ by_links_lem can.sound j board so_far.beside;
          group_most = can.sound.group_most _ fit.primary_node;
        }

    -- its copies are x
    module _ (x : Pair) (taken : Taken net board (get_or net.last j 0) (task job j) (place plan j) own x) where
      p_found : Found job x.primary
      p_found =
          subst (Found job) (sym taken.primary)
          (record { node = fit.primary_node; lasts = omega (arith, fit.primary_able); ends = takeable.primary.ends })

      q_found : Found job x.backup
      q_found =
          subst (Found job) (sym taken.backup)
          (record { node = fit.backup_node; lasts = omega (arith, fit.backup_able); ends = takeable.backup.ends })

      faults_are : fault_set job (row_of cs) j x.primary ≡ has x.set
      unfolding domain
      faults_are =
          sym (into_faults job _ j _ by_links_lem j board so_far.beside.leaving (λ k p e. omega (arith, can.sound.rise k p))
          x.primary own x.set (sym (ap (λ c. group job c.node) taken.primary)) taken.set)

      planned_row_lem : pair_row x ≡ planned_row job plan (row_of cs) j
      unfolding planned_row row copy
      planned_row_lem =
          same_row _ _ _ _ _ _ taken.primary taken.backup (sym faults_are ∙ ap (fault_set job (row_of cs) j) taken.primary)

      next_rows : put (row_of cs) j (pair_row x) ≡ rows_to job plan (j + 1)
      next_rows =
          ap (put (row_of cs) j) planned_row_lem
          ∙ ap (λ t. put t j (planned_row job plan t j)) so_far.is
          ∙ rw add-one (sym (grow_more blank_row (planned_row job plan) j))

      pub book_more : (r : Board) → Booked j x cs r.copies → r.leave ≡ departed job.nodes j x board.leave → LaidTo (2 * (j + 1)) r
          → StoredTo job plan (j + 1) r
      book_more r b gone laid =
          record {
            is = booked_row j x cs r.copies b ∙ next_rows;
            beside = booked_beside job j board can.sound so_far.beside task_of_lem x p_found q_found faults_are r b gone laid;
          }

-- the same for another task that is the same one
module _ (net : Incoming) (board : Board) (i : ℕ) (t u : Task) (same : t ≡ u) (x : Place) (g : ℕ) where
  takeable_as : Takeable net board i t x g → Takeable net board i u x g
  takeable_as h = subst (λ v. Takeable net board i v x g) same h

  taken_as : (r : Pair) → Taken net board i t x g r → Taken net board i u x g r
  taken_as r h = subst (λ v. Taken net board i v x g r) same h

-- the longer job: the tasks of the plan are the job's own, and behind them is the new one
module _ (job : Job) (plan : Plan) (d : Description) where
  abbrev big : Job
  big = longer_job job d

  new_of : tasks job < tasks big
  unfolding longer_job
  new_of = omega arith

  -- its links are merged
  module _ (ok : Asking job plan d) (list : List Link) (is : Merged job.links (links job) d.links (new_links d) list) where
    big_sound : Sound big
    big_sound = longer_sound job d ok.room ok.new ok.sound

    links_are : list ≡ big.links
    unfolding longer_job merged_links
    links_are = is job d

    pub merged_sendable : Sendable list (links job + new_links d)
    unfolding longer_job
    merged_sendable = subst (λ l. Sendable l (links job + new_links d)) (sym links_are) (sendable big big_sound)

    fit_new : PlacesFit big plan (tasks job)
    unfolding longer_job
    fit_new j p =
        subst (λ t. SoundPlace (nodes job) t.run (place plan j)) (sym (task_old job d ok.room j p)) (place_of job plan ok.planned j p)

    pub beside_none : (net : Incoming) → Sent list (links job + new_links d) net → (board : Board) → Blank board
        → BesideTo job plan d net 0 board
    unfolding longer_job
    beside_none net sent board blank =
        let big_sent = subst (λ l. Sent l (links job + new_links d) net) links_are sent in
        record {
          asking = ok;
          storing = record { sound = big_sound; sent = big_sent; within = omega (arith, new_of); fit = fit_new };
          stored = book_start big plan board blank;
          within = omega arith;
        }

  -- and its first j tasks stored
  module _ (net : Incoming) (j : ℕ) (board : Board) (so_far : BesideTo job plan d net j board) where
    abbrev can : Storing big plan net (tasks job)
    can = so_far.storing

    module _ (below : j < tasks job) where
      abbrev its : ℕ
      its = group job (place plan j).primary_node

      same_task : task big j ≡ task job j
      same_task = task_old job d so_far.asking.room j below

      pub old_takeable : Takeable net board (get_or net.last j 0) (task job j) (place plan j) its
      unfolding longer_job
      old_takeable = takeable_as _ _ _ _ _ same_task _ _ (takeable big plan _ _ can j below board so_far.stored)

      module _ (x : Pair) (taken : Taken net board (get_or net.last j 0) (task job j) (place plan j) its x) where
        big_taken : Taken net board (get_or net.last j 0) (task big j) (place plan j) its x
        big_taken = taken_as _ _ _ _ _ (sym same_task) _ _ x taken

        pub old_more : (r : Board) → Booked j x board.copies r.copies → r.leave ≡ departed job.nodes j x board.leave → LaidTo (2 * (j + 1)) r
            → BesideTo job plan d net (j + 1) r
        unfolding longer_job
        old_more r b gone laid =
            record {
              asking = so_far.asking;
              storing = can;
              stored = book_more big plan _ _ can j below board so_far.stored x big_taken r b gone laid;
              within = omega (arith, below);
            }

    -- the new task, beside all of the plan
    module _ (all : tasks job ≤ j) (peers : List ℕ) (by_group : Peers job.nodes (nodes job) peers) (want : Want)
        (asks : want ≡ want_of (tasks job) d.task job.nodes (nodes job) (get_or net.last (tasks job) 0)) where
      stored : StoredTo big plan (tasks job) board
      stored =
          let e : j ≡ tasks job = omega (arith, all, so_far.within) in
          subst (λ m. StoredTo big plan m board) e so_far.stored

      want_is : want ≡ want_of (tasks job) (task big (tasks job)) big.nodes (nodes big) (get_or net.last (tasks job) 0)
      unfolding longer_job
      want_is = asks ∙ ap (λ t. want_of (tasks job) t job.nodes (nodes job) (get_or net.last (tasks job) 0)) (sym (task_new job d so_far.asking.room))

      big_peers : Peers big.nodes (nodes big) peers
      unfolding longer_job
      big_peers = by_group

      pub new_wanted : Wanted net board peers want
      new_wanted = asked big net _ board can.sound can.sent stored.beside new_of peers big_peers want want_is

      pub new_told : (a : Result Pair Refusal) → Told net board peers want a → attempted a ≡ place_new job plan d
      new_told a f =
          told big net _ board can.sound can.sent stored.beside new_of peers big_peers want want_is a f
          ∙ ap (λ t. place_task big (anywhere (tasks job)) (tasks job) t (tasks job)) stored.is
