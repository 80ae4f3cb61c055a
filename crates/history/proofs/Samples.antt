-- The definitions of request (x) at work, beside wrong ones.
use mathlib.Core.List.{[], ◌∷◌, ◌++◌}
use mathlib.Core.Option.{some}
use mathlib.Core.Path.{◌≡◌, refl}
use lib.Dec.{lit<}
use lib.ListN.{replicate}
use native.Mathlib.Nat.{not-suc-le-zero}
use Rattle.reader.specs.declared.refusal.Refusal.TheVariants.{Short, Unable}
use Rattle.reader.specs.Tests.{◌and◌}
use Rattle.reader.specs.First.{◌or_else◌, first, unless, fill}
use Rattle.reader.specs.Number.{number_at, field_fault}
use Rattle.reader.specs.PlanFile.{node_fault}
use Rattle.writer.specs.Write.{pack, flat}
use Rattle.history.specs.Log.{timing_fault, records, log_fault}
use Rattle.history.specs.Times.{most, ticks_on, or_else_run, afresh, time_after}
use Rattle.history.specs.Samples.{lab, runs, once, old_fault, never_dropped, newest_first, run_counts}
use Rattle.history.proofs.GoodLogs.{fault_told}

unfoldable table : Unit {0}
unfolding afresh most ticks_on or_else_run ◌and◌ fill
table = tt

unfoldable read : Unit {0}
unfolding log_fault records first timing_fault node_fault field_fault number_at unless ◌or_else◌ ◌and◌ fill pack flat
read = tt

-- no record: the job's run time; so on a node of which there is none
pub no_record : time_after lab runs 0 0 0 ≡ 7
unfolding table
no_record = refl

pub other_node : time_after lab runs 3 0 1 ≡ 8
unfolding table
other_node = refl

-- the largest of 257 records is the oldest, and leaves with the last: 5, also below the job's run time
pub oldest_stays : time_after lab runs 256 0 0 ≡ 9
unfolding table
oldest_stays = refl

pub oldest_leaves : time_after lab runs 257 0 0 ≡ 5
unfolding table
oldest_leaves = refl

pub wrong_times : (never_dropped lab runs 257 0 0 ≡ 9) × (newest_first lab runs 257 0 0 ≡ 9) × (run_counts lab runs 257 0 0 ≡ 7)
unfolding table
wrong_times = (refl, refl, refl)

-- node 2, which cannot run the task, with 0 ticks: 7 at the node, and not 4 at the ticks
pub unable_first : log_fault (once 2 0) lab ≡ some (Unable 4)
unfolding read
unable_first = refl

-- 13 bytes: 1 at 12; 16 bytes: 1 at 16
pub cut_short : (log_fault (once 1 5 ++ (0 ∷ [])) lab ≡ some (Short 12)) × (log_fault (once 1 5 ++ replicate 4 0) lab ≡ some (Short 16))
unfolding read
cut_short = (refl, refl)

-- a fault in the oldest of 257 records
pub older_fault : log_fault old_fault lab ≡ some (Unable 4)
unfolding read
older_fault = fault_told old_fault lab 0 (Unable 4) (lit< tt) (λ i p. absurd (not-suc-le-zero p)) refl
