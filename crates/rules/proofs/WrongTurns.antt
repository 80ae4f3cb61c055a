-- The wrong turns of document 01 that no starred sample tells from the rules, each beside an example that does.
use Prim.Native.Nat.{ℕ, ◌≤◌}
use mathlib.Core.Bool.{true}
use mathlib.Core.Path.{◌≡◌, refl}
use mathlib.Core.Option.{none}
use lib.Dec.{lit<, lit≤}
use native.Mathlib.Omega.{arith}
use Rattle.reader.specs.declared.refusal.Refusal.TheVariants.{CommonLoss, Overlap}
use Rattle.std.specs.Prelude.{Err}
use Rattle.reader.specs.First.{first}
use Rattle.reader.specs.Samples.{at, ◌beside◌, J, JWithoutLink}
use Rattle.rules.specs.declared.Loss.TheVariants.{Lost}
use Rattle.rules.specs.Copies.{overlap}
use Rattle.rules.specs.Rules.{rows}
use Rattle.rules.specs.Judge.{first_pair, breach, judge}
use Rattle.rules.specs.Replay.{replay}
use Rattle.rules.specs.Times.{ended_rows}
use Rattle.rules.specs.Survival.{backup, Survives}
use Rattle.rules.specs.Attempts.{placed}
use Rattle.rules.specs.Planner.{planner}
use Rattle.rules.specs.Breach.{found, check}
use Rattle.rules.specs.Samples.{written, wrote, written_of, times_of, written_in, early, soon_plan}
use Rattle.rules.specs.WrongTurns.{direct_faults, with_direct_faults, chain, chain_plan, free_g, linked, linked_plan, actual_b}
use Rattle.rules.proofs.Samples.{computed}

-- passed by direct predecessors, refused 13 by the rules; the loss leaves task 2 without a finished copy
pub direct_predecessors :
    (breach chain (with_direct_faults chain (rows chain chain_plan)) ≡ none)
    × (judge chain chain_plan ≡ Err (CommonLoss 2))
    × (written chain chain_plan (Lost 0 3) 2 ≡ wrote 0 0 0)
    × (Survives chain (rows chain chain_plan) (Lost 0 3) (replay chain chain_plan (Lost 0 3)) → ⊥)
unfolding computed direct_faults with_direct_faults
direct_predecessors = (refl, refl, refl, λ s. let b : 1 ≤ 0 = s.finish_least 2 (lit< tt) in omega arith)

-- A to F and free sharing hold, refused 14 by the rules; the loss starts both backups, and they overlap
pub free_sharing :
    (first 6 (λ n. found linked (check linked (rows linked linked_plan) n)) ≡ none)
    × (first_pair linked Overlap (λ i j. free_g (rows linked linked_plan i) (rows linked linked_plan j)) ≡ none)
    × (judge linked linked_plan ≡ Err (Overlap 1 2))
    × (written linked linked_plan (Lost 0 3) 1 ≡ wrote 0 2 15)
    × (written linked linked_plan (Lost 0 3) 2 ≡ wrote 0 2 15)
    × (overlap (rows linked linked_plan 1).backup (rows linked linked_plan 2).backup ≡ true)
    × (Survives linked (rows linked linked_plan) (Lost 0 3) (replay linked linked_plan (Lost 0 3)) → ⊥)
unfolding computed free_g
free_sharing = (
  refl,
  refl,
  refl,
  refl,
  refl,
  refl,
  λ s. let e : ◌≡◌ {A = ℕ} 1 2 = (s.apart 1 2 backup backup (lit< tt) (lit< tt) refl 11 (lit≤ tt, lit< tt) (lit≤ tt, lit< tt)).0 in omega arith,
)

-- 'Trying one gap per node for a copy, so that an earlier gap is passed over': sample 10, where primary 1 stands before backup 0
pub earlier_gap : planner JWithoutLink ≡ placed (at 0 0 1 5 beside at 1 0 0 4)
unfolding computed
earlier_gap = refl

-- with B by the actual end the backup of task 0 starts in sample 28, though the rack learns of a lost primary at 5, behind its start
pub b_by_the_end :
    (written_of (ended_rows J soon_plan (times_of early) 0) (actual_b J soon_plan (times_of early) (Lost 0 1) 0) ≡ wrote 1 2 8)
    × (written_in J soon_plan early (Lost 0 1) 0 ≡ wrote 1 0 0)
unfolding computed
b_by_the_end = (refl, refl)
