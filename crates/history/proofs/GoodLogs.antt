-- What a log is that is not at fault, and that a fault is told however old its record is.
use Prim.Native.Nat.{ℕ, ◌+◌, ◌-◌, ◌*◌, ◌≤◌, ◌<◌}
use mathlib.Core.List.{List}
use mathlib.Core.Logic.{◌↔◌}
use mathlib.Core.Option.{none, some}
use mathlib.Core.Path.{◌≡◌}
use lib.ListN.{length}
use native.Mathlib.Omega.{arith}
use native.Mathlib.Decide.{dec_lt}
use Rattle.reader.specs.declared.job.Job.{Job}
use Rattle.reader.specs.declared.refusal.Refusal.{Refusal}
use Rattle.reader.specs.Entries.{nodes, tasks}
use Rattle.reader.proofs.Accepted.{node_good}
use Rattle.reader.proofs.Faultless.{good_node}
use Rattle.reader.proofs.FieldLaws.{Good, field_good, good_field}
use Rattle.reader.proofs.FirstLaws.{or_else_l, or_else_r, or_else_i, none_first, first_none, some_first}
use Rattle.history.specs.Log.{timing_at, timing_fault, records, record_at, record_fault, log_fault}
use Rattle.history.specs.Newest.{GoodTiming, GoodLog}

module _ (log : List ℕ) (job : Job) where
  module _ (fine : log_fault log job ≡ none) where
    passes : (k : ℕ) → k < records log → record_fault log job k ≡ none
    unfolding log_fault
    passes = none_first (records log) (record_fault log job) fine

    pub good_timing : (k : ℕ) → k < records log → GoodTiming job (record_at log k)
    unfolding timing_fault timing_at
    good_timing k p =
        let task = field_good log (12 * k) _ _ _ (or_else_l _ _ (passes k p)) in
        let node = node_good log (12 * k + 4) _ _ (or_else_l _ _ (or_else_r _ _ (passes k p))) in
        let ticks = field_good log (12 * k + 8) _ _ _ (or_else_r _ _ (or_else_r _ _ (passes k p))) in
        record {
          task = task.most;
          node = node.number.most;
          able = node.able;
          ticks_least = ticks.least;
          ticks_most = ticks.most;
        }

    -- the last record ends with the log
    whole : length log ≡ 12 * records log
    unfolding timing_fault records
    whole =
        elim (dec_lt 0 (records log)) [
          | yes h ↦
              let last = records log - 1 in
              let ticks = field_good log (12 * last + 8) _ _ _ (or_else_r _ _ (or_else_r _ _ (passes last (omega arith)))) in
              omega (arith, ticks.room)
          | no h ↦ omega arith
        ]

  good_passes : GoodLog log job → log_fault log job ≡ none
  unfolding log_fault timing_fault timing_at
  good_passes good =
      first_none (records log) (record_fault log job) λ k p.
      let x = good.each k p in
      let task : Good log (12 * k) 0 (tasks job - 1) = record { least = omega arith; most = x.task; room = omega (arith, good.whole) } in
      let node : Good log (12 * k + 4) 0 (nodes job - 1) = record { least = omega arith; most = x.node; room = omega (arith, good.whole) } in
      let room : 12 * k + 8 + 4 ≤ length log = omega (arith, good.whole) in
      or_else_i _ _ (good_field log _ _ _ _ task)
      (or_else_i _ _ (good_node log _ _ _ (record { number = node; able = x.able }))
      (good_field log _ _ _ _ (record { least = x.ticks_least; most = x.ticks_most; room = room })))

  -- a log has no fault exactly if its records are whole and good
  pub log_exact : (log_fault log job ≡ none) ↔ GoodLog log job
  log_exact = (λ fine. record { whole = whole fine; each = good_timing fine }, good_passes)

  -- the fault of a record, behind any number of good ones and before any number of others, is that of the log
  pub fault_told : (k : ℕ) (r : Refusal) → k < records log → ((i : ℕ) → i < k → record_fault log job i ≡ none)
      → record_fault log job k ≡ some r
      → log_fault log job ≡ some r
  unfolding log_fault
  fault_told k r below before is = some_first (records log) (record_fault log job) r (record { at = k; below = below; is = is; least = before })
