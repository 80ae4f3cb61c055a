-- `judge::links::walk_links` meets its contract.
use mathlib.Core.Path.{refl}
use native.Mathlib.Omega.{arith}
use Rattle.judge.proofs.NoteLaws.{seen_last, seen_done}
use Rattle.judge.proofs.LinkLaws.{walk_start, walk_more, walk_done, primary_index}
use Rattle.judge.proofs.links.walk_links.Goals as goal

pub loop-k-init : goal.loop-k-init
loop-k-init c = walk_start _ _ _ c.requires.1

pub loop-k-preserved : goal.loop-k-preserved
loop-k-preserved c =
    walk_more _ _ _ c.requires.0 _ (omega arith) _ _ refl refl _ _ _ c.loop-k.invariant _ _ _ _ c.result_at-p.ensures
    c.result_at-b.ensures c.at-q.ensures c.at-c.ensures _ _ _ _
    c.in_time.ensures c.in_time-in-loop-k.ensures c.in_time-in-loop-k-2.ensures
    c.in_time-in-loop-k-3.ensures _ _ _ _ c.noted-primary.ensures c.late_bit-first.ensures
    c.late_bit-second.ensures c.late_bit.ensures

pub offset_bounds-job-k-in-Some : goal.offset_bounds-job-k-in-Some
offset_bounds-job-k-in-Some c = omega (arith, primary_index _ _ _ c.requires.0 _ _ _ _ c.loop-k.invariant (omega arith) _ c.in-Some.is)

pub bounds-job-k-in-Some : goal.bounds-job-k-in-Some
bounds-job-k-in-Some c = primary_index _ _ _ c.requires.0 _ _ _ _ c.loop-k.invariant (omega arith) _ c.in-Some.is

pub returns-in-Some : goal.returns-in-Some
returns-in-Some c = walk_done _ _ _ c.requires.0 _ _ _ _ c.loop-k.invariant (omega arith) _ (seen_last _ _ c.in-Some.is)

pub returns : goal.returns
returns c = walk_done _ _ _ c.requires.0 _ _ _ _ c.loop-k.invariant (omega arith) _ (seen_done _ _ c.in_default.is)
