-- Laws of reading a log: one record's three numbers, each where the one before it passed, and record after record into the window.
use Prim.Native.Nat.{ℕ, ◌+◌, ◌-◌, ◌*◌, ◌≤◌, ◌<◌}
use mathlib.Core.Path.{◌≡◌, refl, sym, ap, ◌∙◌, subst}
use mathlib.Core.List.{List}
use mathlib.Core.Option.{none}
use lib.ListN.{get_or, length}
use native.Mathlib.Omega.{arith}
use Rattle.reader.specs.declared.job.Job.{Job}
use Rattle.reader.specs.declared.refusal.Refusal.{Refusal}
use Rattle.std.specs.Prelude.{Result, Ok, Err, IsErrAnd}
use Rattle.reader.specs.First.{first}
use Rattle.reader.specs.Limits.{max_time, max_tasks, max_nodes}
use Rattle.reader.specs.Entries.{nodes, tasks, task}
use Rattle.reader.specs.Number.{number_at, value_fault}
use Rattle.reader.specs.Refusals.{resulted}
use Rattle.reader.specs.Reads.{Reads}
use Rattle.reader.specs.PlanFile.{node_fault}
use Rattle.reader.proofs.TestLaws.{never}
use Rattle.reader.proofs.NumberLaws.{is_none, is_value, is_fault}
use Rattle.reader.proofs.Chain.{pass, stop, stopped, finished, reads_none, reads_some, reads_value}
use Rattle.reader.proofs.FieldLaws.{field_good}
use Rattle.reader.proofs.FirstLaws.{or_else_r, first_start, first_more, first_found}
use Rattle.history.specs.declared.times.RunTimes.{RunTimes}
use Rattle.history.specs.declared.window.Timing.{Timing}
use Rattle.history.specs.declared.window.Window.{Window}
use Rattle.history.specs.Log.{min_ticks, timing_at, timing_fault, records, record_at, record_fault, log_fault}
use Rattle.history.specs.Window.{cell_of, empty_window}
use Rattle.history.specs.Ring.{Formed, Holding, Takes}
use Rattle.history.specs.Promise.{Runs, TimesOf, OneRead, AllRead}
use Rattle.history.proofs.WindowLaws.{empty_formed, empty_holds}

-- the run time that the row of run times has
pub run_is : (job : Job) (runs : List ℕ) (j n p : ℕ) → Runs job runs → j < max_tasks → n < max_nodes → p ≡ cell_of j n
    → get_or (task job j).run n 0 ≡ get_or runs p 0
run_is job runs j n p h a b e = sym (h.is j n a b) ∙ ap (λ k. get_or runs k 0) (sym e)

-- the three numbers of a record, each where those before it passed
module _ (s : List ℕ) (at : ℕ) (times : RunTimes) (job : Job) (h : TimesOf job times)
    (w : Result Timing Refusal) (t : Result ℕ Refusal) (et : t ≡ resulted (value_fault s at 0 (times.tasks - 1)) (number_at s at)) where
  task_answer : t ≡ resulted (value_fault s at 0 (tasks job - 1)) (number_at s at)
  task_answer = subst (λ n. t ≡ resulted (value_fault s at 0 (n - 1)) (number_at s at)) (sym h.tasks) et

  abbrev One : Type 0
  One = Reads (timing_fault s job at) w (λ x. x ≡ timing_at s at)

  pub timing_task : {r : Refusal} → t ≡ Err r → IsErrAnd w (λ e. e ≡ r) → One
  unfolding timing_fault
  timing_task q told = stopped w told (stop _ (is_fault t _ _ task_answer q))

  module _ (x : ℕ) (qt : t ≡ Ok x) (n : Result ℕ Refusal)
      (en : n ≡ resulted (node_fault s (at + 4) times.nodes (task job x).run) (number_at s (at + 4))) where
    node_answer : n ≡ resulted (node_fault s (at + 4) (nodes job) (task job (number_at s at)).run) (number_at s (at + 4))
    node_answer =
        subst (λ p. n ≡ resulted (node_fault s (at + 4) p (task job (number_at s at)).run) (number_at s (at + 4))) (sym h.nodes)
        (subst (λ y. n ≡ resulted (node_fault s (at + 4) times.nodes (task job y).run) (number_at s (at + 4))) (is_value t _ _ task_answer qt) en)

    pub timing_node : {r : Refusal} → n ≡ Err r → IsErrAnd w (λ e. e ≡ r) → One
    unfolding timing_fault
    timing_node q told = stopped w told (pass _ (is_none t _ _ task_answer qt) ∙ stop _ (is_fault n _ _ node_answer q))

    module _ (y : ℕ) (qn : n ≡ Ok y) (d : Result ℕ Refusal)
        (ed : d ≡ resulted (value_fault s (at + 8) min_ticks max_time) (number_at s (at + 8))) where
      pub timing_ticks : {r : Refusal} → d ≡ Err r → IsErrAnd w (λ e. e ≡ r) → One
      unfolding timing_fault
      timing_ticks q told =
          stopped w told (pass _ (is_none t _ _ task_answer qt) ∙ pass _ (is_none n _ _ node_answer qn) ∙ is_fault d _ _ ed q)

      pub timing_done : (z : ℕ) → d ≡ Ok z → w ≡ Ok (record { task = x; node = y; ticks = z }) → One
      unfolding timing_fault timing_at
      timing_done z qd done =
          let ex : x ≡ number_at s at = is_value t _ _ task_answer qt in
          let ey : y ≡ number_at s (at + 4) = is_value n _ _ node_answer qn in
          let ez : z ≡ number_at s (at + 8) = is_value d _ _ ed qd in
          rw done
          (finished
          (pass _ (is_none t _ _ task_answer qt) ∙ pass _ (is_none n _ _ node_answer qn) ∙ is_none d _ _ ed qd)
          (cc))

-- the first k records are not at fault, and are in the window
pub record SoFar (log : List ℕ) (job : Job) (k : ℕ) (w : Window) : Type 0 where
  pub clear : first k (record_fault log job) ≡ none
  pub holds : Holding (record_at log) k w

-- `read_log`: the same, of every job of these run times
pub record LogTo (log : List ℕ) (times : RunTimes) (k : ℕ) (w : Window) : Type 0 where
  pub formed : Formed w
  pub read : (job : Job) → TimesOf job times → SoFar log job k w

pub log_start : (log : List ℕ) (times : RunTimes) → LogTo log times 0 empty_window
log_start log times = record {
  formed = empty_formed;
  read = λ job h. record { clear = first_start (record_fault log job); holds = empty_holds (record_at log) };
}

module _ (log : List ℕ) (times : RunTimes) (k : ℕ) (w : Window) (inv : LogTo log times k w) where
  -- the next record
  module _ (x : Result Timing Refusal) (one : OneRead log times (12 * k) x) where
    -- is refused
    pub log_stop : {r : Refusal} (v : Result Window Refusal) → k < records log → x ≡ Err r → IsErrAnd v (λ e. e ≡ r) → AllRead log times v
    unfolding log_fault
    log_stop {r} v below q told = λ job h.
        let past = inv.read job h in
        stopped v told (first_found (record_fault log job) (records log) k r below past.clear (reads_some (one job h) q))

    module _ {y : Timing} (q : x ≡ Ok y) where
      -- is none that is cut short
      pub whole_read : (job : Job) → TimesOf job times → length log < 12 * k + 12 → ⊥
      unfolding timing_fault
      whole_read job h cut =
          let ticks = field_good log (12 * k + 8) _ _ _ (or_else_r _ _ (or_else_r _ _ (reads_none (one job h) q))) in
          omega (arith, ticks.room, cut)

      -- is taken in
      pub log_more : (v : Window) → Takes w y v → LogTo log times (k + 1) v
      log_more v push = record {
        formed = push.formed;
        read = λ job h.
            let r = one job h in
            let past = inv.read job h in
            record {
              clear = first_more (record_fault log job) k past.clear (reads_none r q);
              holds = push.holds (record_at log) k (sym (reads_value r q)) past.holds;
            };
      }

    -- is refused where it is cut short: what is left behind the whole records
    pub log_cut : (v : Result Window Refusal) → 12 * k < length log → length log < 12 * k + 12
        → ((r : Refusal) → x ≡ Err r → IsErrAnd v (λ e. e ≡ r)) → AllRead log times v
    unfolding records
    log_cut v below cut told = go x refl
      where
        go : (z : Result Timing Refusal) → x ≡ z → AllRead log times v
        go (Err r) q = log_stop v (omega (arith, below)) q (told r q)
        go (Ok y) q = λ job h. absurd (whole_read q job h cut)

  pub log_done : k ≡ records log → AllRead log times (Ok w)
  unfolding log_fault
  log_done e = λ job h.
      let past = inv.read job h in
      finished
      (ap (λ m. first m (record_fault log job)) (sym e) ∙ past.clear)
      (inv.formed, subst (λ m. Holding (record_at log) m w) e past.holds)

-- the same, at the offset of record k
pub record LogAt (log : List ℕ) (times : RunTimes) (at : ℕ) (w : Window) : Type 0 where
  pub k : ℕ
  pub is : at ≡ 12 * k
  pub within : at ≤ length log
  pub to : LogTo log times k w

pub log_first : (log : List ℕ) (times : RunTimes) → LogAt log times 0 empty_window
log_first log times = record { k = 0; is = omega arith; within = omega arith; to = log_start log times }

module _ (log : List ℕ) (times : RunTimes) (at : ℕ) (w : Window) (inv : LogAt log times at w) where
  module _ (x : Result Timing Refusal) (one : OneRead log times at x) where
    here : OneRead log times (12 * inv.k) x
    here = subst (λ n. OneRead log times n x) inv.is one

    module _ (whole : at + 12 ≤ length log) where
      pub stops : {r : Refusal} (v : Result Window Refusal) → x ≡ Err r → IsErrAnd v (λ e. e ≡ r) → AllRead log times v
      unfolding records
      stops v q told = log_stop _ _ _ _ inv.to x here v (omega (arith, whole, inv.is)) q told

      pub goes_on : {y : Timing} (v : Window) → x ≡ Ok y → Takes w y v → LogAt log times (at + 12) v
      goes_on v q push =
          record { k = inv.k + 1; is = omega (arith, inv.is); within = whole; to = log_more _ _ _ _ inv.to x here q v push }

    -- what is left behind the whole records
    module _ (below : at < length log) (past : length log < at + 12) where
      cut : (v : Result Window Refusal) → ((r : Refusal) → x ≡ Err r → IsErrAnd v (λ e. e ≡ r)) → AllRead log times v
      cut v = log_cut _ _ _ _ inv.to x here v (omega (arith, below, inv.is)) (omega (arith, past, inv.is))

      pub cut_stops : {r : Refusal} (v : Result Window Refusal) → x ≡ Err r → IsErrAnd v (λ e. e ≡ r) → AllRead log times v
      cut_stops {r} v q told = cut v (λ e h. let same : r ≡ e = cc in subst (λ m. IsErrAnd v (λ z. z ≡ m)) same told)

      pub cut_never : {y : Timing} (v : Result Window Refusal) → x ≡ Ok y → AllRead log times v
      cut_never v q = cut v (λ e h. never (cc))

  pub ends : length log ≤ at → AllRead log times (Ok w)
  unfolding records
  ends past = log_done _ _ _ _ inv.to (omega (arith, past, inv.is, inv.within))
