-- `asking::description_file::read_new_links` meets its contract.
use mathlib.Core.Path.{refl}
use native.Mathlib.Omega.{arith}
use Rattle.asking.specs.DescriptionFile.{new_link_before, new_links_fault, new_links_at}
use Rattle.reader.proofs.NumberLaws.{is_none, is_value, is_fault, is_good}
use Rattle.reader.proofs.Chain.{stop, stopped, finished, reads_none, reads_some, reads_value}
use Rattle.reader.proofs.ReadLoop.{read_begin, read_more, read_stop, read_fine, read_end}
use Rattle.asking.proofs.NewLinkLaws.{new_before_more, new_behind_same}
use Rattle.asking.proofs.description_file.read_new_links.Goals as goal

pub returns-in_err-count-clause-reads : goal.returns-in_err-count-clause-reads
unfolding new_links_fault
returns-in_err-count-clause-reads c = stopped _ c.from_residual.ensures.1 (stop _ (is_fault _ _ _ c.field.ensures c.in_err-count.was))

pub loop-k-init : goal.loop-k-init
unfolding new_link_before
loop-k-init c =
    let e = c.field.ensures in
    let q = c.in_ok-count.was in
    ((is_good _ _ _ _ _ _ e q).1, refl, read_begin _ _ _ _ _ _ _ (is_none _ _ _ e q) (is_value _ _ _ e q) c.requires.3)

pub returns-in_err-before-clause-reads : goal.returns-in_err-before-clause-reads
unfolding new_links_fault
returns-in_err-before-clause-reads c =
    let l = c.loop-k.invariant in
    let bad = reads_some c.read_new_link.ensures c.in_err-before.was in
    stopped _ c.from_residual-in_err-before.ensures.1
    (read_stop _ _ _ _ _ _ _ _ l.2 c.loop-k-test.true (new_behind_same _ _ _ l.1 bad))

pub loop-k-preserved : goal.loop-k-preserved
loop-k-preserved c =
    let l = c.loop-k.invariant in
    let fine = reads_none c.read_new_link.ensures c.in_ok-before.was in
    let value = reads_value c.read_new_link.ensures c.in_ok-before.was in
    (l.0, new_before_more _ _ _ _ _ value, read_more _ _ _ _ _ _ _ _ l.2 _ c.loop-k-test.true (new_behind_same _ _ _ l.1 fine) value)

pub returns-clause-count_le_max_links : goal.returns-clause-count_le_max_links
returns-clause-count_le_max_links c = c.loop-k.invariant.0

pub returns-clause-reads : goal.returns-clause-reads
unfolding new_links_fault new_links_at
returns-clause-reads c =
    let l = c.loop-k.invariant in
    let rows = read_end _ _ _ _ _ _ _ _ l.2 (omega arith) in
    finished (read_fine _ _ _ _ _ _ _ _ l.2 (omega arith)) (rows.0, rows.1, refl)
