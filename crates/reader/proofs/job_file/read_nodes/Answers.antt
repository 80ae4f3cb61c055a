-- `reader::job_file::read_nodes` meets its contract.
use native.Mathlib.Omega.{arith}
use Rattle.reader.specs.JobFile.{nodes_fault, nodes_at}
use Rattle.reader.proofs.NumberLaws.{is_none, is_value, is_fault, is_good}
use Rattle.reader.proofs.Chain.{stop, stopped, finished, reads_none, reads_some, reads_value}
use Rattle.reader.proofs.ReadLoop.{rows_begin, rows_more, rows_stop, rows_fine, rows_end}
use Rattle.reader.proofs.job_file.read_nodes.Goals as goal

pub returns-in_err-count-clause-reads : goal.returns-in_err-count-clause-reads
unfolding nodes_fault
returns-in_err-count-clause-reads c = stopped _ c.from_residual.ensures.1 (stop _ (is_fault _ _ _ c.field.ensures c.in_err-count.was))

pub loop-i-init : goal.loop-i-init
loop-i-init c =
    let e = c.field.ensures in
    let q = c.in_ok-count.was in (
      (is_good _ _ _ _ _ _ e q).1,
      omega arith,
      rows_begin _ _ _ _ _ _ _ _ _ (is_none _ _ _ e q) (is_value _ _ _ e q) c.requires,
    )

pub read_node-requires : goal.read_node-requires
read_node-requires c = omega (arith, c.loop-i.invariant)

pub returns-in_err-node-clause-reads : goal.returns-in_err-node-clause-reads
unfolding nodes_fault
returns-in_err-node-clause-reads c =
    stopped _ c.from_residual-in_err-node.ensures.1
    (rows_stop _ _ _ _ _ _ _ _ _ _ _ c.loop-i.invariant.2 (reads_some c.read_node.ensures.reads c.in_err-node.was) c.loop-i-test.true)

pub bounds-list-i : goal.bounds-list-i
bounds-list-i c = omega (arith, c.loop-i.invariant)

pub loop-i-preserved : goal.loop-i-preserved
loop-i-preserved c =
    let l = c.loop-i.invariant in
    let r = c.read_node.ensures.reads in
    let node = reads_value r c.in_ok-node.was in (
      l.0,
      omega (arith, l.1, c.in_ok-node.ensures.end_bound),
      rows_more _ _ _ _ _ _ _ _ _ _ _ l.2 (reads_none r c.in_ok-node.was) node.0 node.1 c.loop-i-test.true,
    )

pub returns-clause-count_le_max_nodes : goal.returns-clause-count_le_max_nodes
returns-clause-count_le_max_nodes c = let l = c.loop-i.invariant in (l.0, omega (arith, l.0, l.1, l.2.read.most))

pub returns-clause-reads : goal.returns-clause-reads
unfolding nodes_fault nodes_at
returns-clause-reads c =
    let l = c.loop-i.invariant in
    finished (rows_fine _ _ _ _ _ _ _ _ _ _ _ l.2 (omega arith)) (rows_end _ _ _ _ _ _ _ _ _ _ _ l.2 (omega arith))
