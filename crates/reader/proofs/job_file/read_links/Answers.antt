-- `reader::job_file::read_links` meets its contract.
use mathlib.Core.Path.{refl}
use native.Mathlib.Omega.{arith}
use Rattle.reader.specs.JobFile.{link_before, links_fault, links_at}
use Rattle.reader.proofs.NumberLaws.{is_none, is_value, is_fault, is_good}
use Rattle.reader.proofs.Chain.{stop, stopped, finished, reads_none, reads_some, reads_value}
use Rattle.reader.proofs.ReadLoop.{read_begin, read_more, read_stop, read_fine, read_end}
use Rattle.reader.proofs.LinkLaws.{before_more, behind_same}
use Rattle.reader.proofs.job_file.read_links.Goals as goal

pub returns-in_err-count-clause-reads : goal.returns-in_err-count-clause-reads
unfolding links_fault
returns-in_err-count-clause-reads c = stopped _ c.from_residual.ensures.1 (stop _ (is_fault _ _ _ c.field.ensures c.in_err-count.was))

pub loop-k-init : goal.loop-k-init
unfolding link_before
loop-k-init c =
    let e = c.field.ensures in
    let q = c.in_ok-count.was in
    ((is_good _ _ _ _ _ _ e q).1, refl, read_begin _ _ _ _ _ _ _ (is_none _ _ _ e q) (is_value _ _ _ e q) c.requires.3)

pub read_link-requires : goal.read_link-requires
read_link-requires c = (omega (arith, c.loop-k.invariant.0), c.requires.1, c.requires.2)

pub returns-in_err-before-clause-reads : goal.returns-in_err-before-clause-reads
unfolding links_fault
returns-in_err-before-clause-reads c =
    let l = c.loop-k.invariant in
    let link = behind_same _ _ _ l.1 c.read_link.ensures in
    stopped _ c.from_residual-in_err-before.ensures.1
    (read_stop _ _ _ _ _ _ _ _ l.2 c.loop-k-test.true (reads_some link c.in_err-before.was))

pub bounds-list-k : goal.bounds-list-k
bounds-list-k c = omega (arith, c.loop-k.invariant.0)

pub loop-k-preserved : goal.loop-k-preserved
loop-k-preserved c =
    let l = c.loop-k.invariant in
    let link = behind_same _ _ _ l.1 c.read_link.ensures in
    let q = c.in_ok-before.was in
    let value = reads_value link q in
    (l.0, before_more _ _ _ _ value, read_more _ _ _ _ _ _ _ _ l.2 _ c.loop-k-test.true (reads_none link q) value)

pub returns-clause-count_le_max_links : goal.returns-clause-count_le_max_links
returns-clause-count_le_max_links c = c.loop-k.invariant.0

pub returns-clause-reads : goal.returns-clause-reads
unfolding links_fault links_at
returns-clause-reads c =
    let l = c.loop-k.invariant in
    let rows = read_end _ _ _ _ _ _ _ _ l.2 (omega arith) in
    finished (read_fine _ _ _ _ _ _ _ _ l.2 (omega arith)) (rows.0, rows.1, refl)
