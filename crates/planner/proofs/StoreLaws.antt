-- Both copies of a task stored: its row joins the rows before it, and the next task can be placed beside them.
use Prim.Native.Nat.{ℕ, ◌+◌, ◌*◌, ◌≤◌, ◌<◌}
use mathlib.Core.Bool.{true}
use mathlib.Core.List.{List}
use mathlib.Core.Path.{◌≡◌, refl, sym, ◌∙◌, ap, ap₂, subst, fun_ext}
use lib.Dec.{eqb}
use lib.ListN.{get_or, set}
use lib.Seq.{get_or-set_other}
use borrow.Author.Tests.{eqb-true, eqb-false}
use native.Mathlib.Decide.{dec_lt}
use native.Mathlib.Omega.{arith}
use Rattle.reader.specs.declared.job.Job.{Job}
use Rattle.reader.specs.Limits.{max_send, max_start, max_time}
use Rattle.reader.specs.Entries.{nodes, tasks, link}
use Rattle.reader.specs.Sound.{Sound}
use Rattle.reader.proofs.TestLaws.{split, below_suc}
use Rattle.rules.specs.declared.Copy.{Copy}
use Rattle.rules.specs.Tables.{put}
use Rattle.rules.specs.Copies.{domain, domains}
use Rattle.rules.specs.Rules.{fault_set}
use Rattle.rules.proofs.DomainLaws.{domain_below}
use Rattle.rules.proofs.TableLaws.{put_same, put_other}
use Rattle.rules.proofs.FaultSetLaws.{faults_e}
use Rattle.copies.specs.declared.table.Copies.{Copies}
use Rattle.copies.specs.Arrival.{leave_of, Leaving}
use Rattle.copies.specs.Sets.{has, every_group}
use Rattle.copies.specs.Table.{copy_count, entry, set_at, row_of, Whole, Held}
use Rattle.copies.proofs.ListMore.{replicated}
use Rattle.copies.proofs.ArrivalLaws.{leaving_start, leaving_more}
use Rattle.copies.proofs.TableLaws.{same_row}
use Rattle.planner.specs.declared.board.Board.{Board}
use Rattle.planner.specs.declared.board.Pair.{Pair}
use Rattle.planner.specs.Tasks.{LaidTo, Blank, Beside, pair_row, Bookable, Booked, departed, OnRack}
use Rattle.planner.proofs.KeepsLaws.{Found, faults_own}

-- no task is booked yet
pub beside_start : (job : Job) (board : Board) → Blank board → Beside job 0 board
beside_start job board blank =
    let soon : (k : ℕ) → get_or board.copies.finish k 0 ≤ max_start + max_time =
    λ k. omega (arith, ap (λ cs. get_or cs.finish k 0) blank.copies, replicated {A = ℕ} 0 copy_count k) in
    let after : (k : ℕ) → get_or board.copies.finish k 0 ≤ get_or board.leave k 0 =
    λ k. omega (arith, ap (λ cs. get_or cs.finish k 0) blank.copies, replicated {A = ℕ} 0 copy_count k) in
    record {
      few = omega arith;
      held = record {
        node = λ k p. absurd (let z : ⊥ = omega arith in z);
        lasts = λ k p. absurd (let z : ⊥ = omega arith in z);
        ends = λ k p. absurd (let z : ⊥ = omega arith in z);
        primary_set = λ k p. absurd (let z : ⊥ = omega arith in z);
        own = λ k p. absurd (let z : ⊥ = omega arith in z);
        within = λ k q p. absurd (let z : ⊥ = omega arith in z);
      };
      whole = subst Whole (sym blank.copies) (record { node = refl; start = refl; finish = refl; set = refl });
      soon = soon;
      laid = blank.laid _ _;
      leaving = leaving_start job board.copies board.leave blank.leave;
      after = after;
    }

-- r is the table with copies x of task j
module _ (j : ℕ) (x : Pair) (cs r : Copies) (b : Booked j x cs r) where
  the_row : row_of r j ≡ pair_row x
  unfolding row_of
  the_row = same_row _ _ _ _ _ _ b.primary b.backup (ap has b.backup_set)

  other_row : (i : ℕ) → (i ≡ j → ⊥) → row_of r i ≡ row_of cs i
  unfolding row_of
  other_row i h =
      same_row _ _ _ _ _ _
      (b.other (2 * i) (λ e. h (omega arith)) (λ e. omega arith))
      (b.other (2 * i + 1) (λ e. omega arith) (λ e. h (omega arith)))
      (ap has (b.other_set (2 * i + 1) (λ e. omega arith) (λ e. h (omega arith))))

  pub booked_row : row_of r ≡ put (row_of cs) j (pair_row x)
  booked_row = fun_ext λ i. split (eqb i j)
      (λ e. subst (λ k. row_of r k ≡ put (row_of cs) j (pair_row x) k) (sym (eqb-true i j e)) (the_row ∙ sym (put_same (row_of cs) j _)))
      (λ e. other_row i (eqb-false i j e) ∙ sym (put_other (row_of cs) j _ i (eqb-false i j e)))

  -- what holds of the old entries and of the new holds of all
  all_entries : (P : Copy → Type 0) → ((k : ℕ) → k < 2 * j → P (entry cs k)) → P x.primary → P x.backup
      → (k : ℕ) → k < 2 * (j + 1) → P (entry r k)
  all_entries P o u v k w =
      elim (dec_lt k (2 * j)) [
        | yes y ↦ subst P (sym (b.other k (omega arith) (omega arith))) (o k y)
        | no y ↦ elim (dec_lt k (2 * j + 1)) [
          | yes z ↦ let e : 2 * j ≡ k = omega arith in subst (λ i. P (entry r i)) e (subst P (sym b.primary) u)
          | no z ↦ let e : 2 * j + 1 ≡ k = omega arith in subst (λ i. P (entry r i)) e (subst P (sym b.backup) v)
        ]
      ]

-- task j, with copies x, beside those before it
module _ (job : Job) (j : ℕ) (board : Board) (sound : Sound job) (beside : Beside job j board) (task_of_lem : j < tasks job) (x : Pair)
    (p_found : Found job x.primary) (q_found : Found job x.backup) where
  abbrev cs : Copies
  cs = board.copies

  abbrev leave : List ℕ
  leave = board.leave

  pair_on_rack : OnRack j x
  pair_on_rack =
      record {
        room = omega (arith, sound.tasks_most);
        primary = omega (arith, p_found.node, sound.nodes_most);
        backup = omega (arith, q_found.node, sound.nodes_most);
      }

  -- when its results leave
  leaves : (c : Copy) → Found job c → leave_of job c ≤ max_start + max_time + max_send
  leaves c found = omega (arith, found.ends, sound.send_most c.node found.node)

  pub pair_bookable : Bookable job.nodes j x board
  pair_bookable =
      record {
        whole = beside.whole;
        departing = record {
          on_rack = pair_on_rack;
          primary_fits = omega (arith, leaves x.primary p_found);
          backup_fits = omega (arith, leaves x.backup q_found);
        };
        laid = beside.laid;
      }

  module _ (faults_are : fault_set job (row_of cs) j x.primary ≡ has x.set) where
    faults_within : (n : ℕ) → has x.set n ≡ true → n < domains job
    unfolding row_of
    faults_within n t =
        faults_e job (row_of cs) j x.primary n (ap (λ f. f n) faults_are ∙ t)
        (λ e. subst (λ i. i < domains job) e (domain_below job sound _ p_found.node))
        (λ k b e w h. beside.held.within (link job k).from n (omega (arith, sound.rise k b)) h)

    -- and booked
    module _ (after : Board) (b : Booked j x cs after.copies) where
      abbrev r : Copies
      r = after.copies

      next_held : Held job (j + 1) r
      next_held =
          let old = beside.held in
          record {
            node = all_entries j x cs r b (λ c. c.node < nodes job) old.node p_found.node q_found.node;
            lasts = all_entries j x cs r b (λ c. c.start < c.finish) old.lasts p_found.lasts q_found.lasts;
            ends = all_entries j x cs r b (λ c. c.finish ≤ max_start + max_time) old.ends p_found.ends q_found.ends;
            primary_set = λ i w. below_suc i j (omega arith)
                (λ y. b.other_set (2 * i) (omega arith) (omega arith) ∙ old.primary_set i y)
                (λ y. subst (λ t. set_at r (2 * t) ≡ every_group) (sym y) b.primary_set);
            own = λ i w. below_suc i j (omega arith)
                (λ y. ap₂ (λ z c. has z (domain job c.node))
                (b.other_set (2 * i + 1) (omega arith) (omega arith)) (b.other (2 * i) (omega arith) (omega arith))
                ∙ old.own i y)
                (λ y. subst (λ t. has (set_at r (2 * t + 1)) (domain job (entry r (2 * t)).node) ≡ true) (sym y)
                (ap₂ (λ z c. has z (domain job c.node)) b.backup_set b.primary
                ∙ faults_own job (row_of cs) j x.primary x.set (sym faults_are)));
            within = λ i n w. below_suc i j (omega arith)
                (λ y h. old.within i n y (sym (ap (λ z. has z n) (b.other_set (2 * i + 1) (omega arith) (omega arith))) ∙ h))
                (λ y h. faults_within n (sym (ap (λ z. has z n) b.backup_set) ∙ subst (λ t. has (set_at r (2 * t + 1)) n ≡ true) y h));
          }

      next_soon : (k : ℕ) → (entry r k).finish ≤ max_start + max_time
      next_soon k =
          elim (dec_lt k (2 * (j + 1))) [
            | yes y ↦ next_held.ends k y
            | no y ↦ omega (arith, ap (λ c. c.finish) (b.other k (omega arith) (omega arith)), beside.soon k)
          ]

      -- primary, then backup
      next_leaving : Leaving job (2 * (j + 1)) r (departed job.nodes j x leave)
      next_leaving =
          let half = leaving_more job (2 * j) cs leave beside.leaving r (λ k p. b.other k (omega arith) (omega arith)) (omega (arith, sound.tasks_most))
          _ (ap (leave_of job) (sym b.primary)) (leaves x.primary p_found) in
          let all = leaving_more job (2 * j + 1) r _ half r (λ k p. refl) (omega (arith, sound.tasks_most))
          _ (ap (leave_of job) (sym b.backup)) (leaves x.backup q_found) in
          let e : 2 * j + 1 + 1 ≡ 2 * (j + 1) = omega arith in
          subst (λ n. Leaving job n r (departed job.nodes j x leave)) e all

      next_after : (k : ℕ) → (entry r k).finish ≤ get_or (departed job.nodes j x leave) k 0
      next_after k =
          elim (dec_lt k (2 * (j + 1))) [
            | yes y ↦ omega (arith, next_leaving.is k y)
            | no y ↦
                let first = leave_of job x.primary in
                let second = leave_of job x.backup in
                let above = get_or-set_other leave (2 * j) k first 0 (omega arith) in
                let still = get_or-set_other (set leave (2 * j) first) (2 * j + 1) k second 0 (omega arith) in
                omega (arith, ap (λ c. c.finish) (b.other k (omega arith) (omega arith)), beside.after k, above, still)
          ]

      pub booked_beside : after.leave ≡ departed job.nodes j x leave → LaidTo (2 * (j + 1)) after → Beside job (j + 1) after
      booked_beside gone laid =
          record {
            few = omega (arith, sound.tasks_most);
            held = next_held;
            whole = b.whole;
            soon = next_soon;
            laid = laid;
            leaving = rw gone next_leaving;
            after = λ k. rw gone (next_after k);
          }
