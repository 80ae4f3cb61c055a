-- `reader::plan_file::read_place` meets its contract.
use mathlib.Core.Path.{◌∙◌}
use Rattle.reader.specs.PlanFile.{place_fault}
use Rattle.reader.proofs.NumberLaws.{is_none, is_value, is_fault}
use Rattle.reader.proofs.Chain.{pass, stop, stopped, finished}
use Rattle.reader.proofs.PlaceLaws.{place_is}
use Rattle.reader.proofs.plan_file.read_place.Goals as goal

pub returns-in_err-primary_node : goal.returns-in_err-primary_node
unfolding place_fault
returns-in_err-primary_node c = stopped _ c.from_residual.ensures.1 (stop _ (is_fault _ _ _ c.read_node.ensures c.in_err-primary_node.was))

pub returns-in_err-primary_start : goal.returns-in_err-primary_start
unfolding place_fault
returns-in_err-primary_start c =
    stopped _ c.from_residual-in_err-primary_start.ensures.1
    (pass _ (is_none _ _ _ c.read_node.ensures c.in_ok-primary_node.was) ∙ stop _ (is_fault _ _ _ c.field.ensures c.in_err-primary_start.was))

pub returns-in_err-backup_node : goal.returns-in_err-backup_node
unfolding place_fault
returns-in_err-backup_node c =
    stopped _ c.from_residual-in_err-backup_node.ensures.1
    (pass _ (is_none _ _ _ c.read_node.ensures c.in_ok-primary_node.was)
    ∙ pass _ (is_none _ _ _ c.field.ensures c.in_ok-primary_start.was)
    ∙ stop _ (is_fault _ _ _ c.read_node-2.ensures c.in_err-backup_node.was))

pub returns-in_err-backup_start : goal.returns-in_err-backup_start
unfolding place_fault
returns-in_err-backup_start c =
    stopped _ c.from_residual-in_err-backup_start.ensures.1
    (pass _ (is_none _ _ _ c.read_node.ensures c.in_ok-primary_node.was)
    ∙ pass _ (is_none _ _ _ c.field.ensures c.in_ok-primary_start.was)
    ∙ pass _ (is_none _ _ _ c.read_node-2.ensures c.in_ok-backup_node.was)
    ∙ is_fault _ _ _ c.field-2.ensures c.in_err-backup_start.was)

pub returns : goal.returns
unfolding place_fault
returns c =
    let a = c.read_node.ensures in
    let b = c.field.ensures in
    let p = c.read_node-2.ensures in
    let d = c.field-2.ensures in
    finished
    (pass _ (is_none _ _ _ a c.in_ok-primary_node.was)
    ∙ pass _ (is_none _ _ _ b c.in_ok-primary_start.was)
    ∙ pass _ (is_none _ _ _ p c.in_ok-backup_node.was)
    ∙ is_none _ _ _ d c.in_ok-backup_start.was)
    (place_is _ _ (is_value _ _ _ a c.in_ok-primary_node.was) (is_value _ _ _ b c.in_ok-primary_start.was)
    (is_value _ _ _ p c.in_ok-backup_node.was) (is_value _ _ _ d c.in_ok-backup_start.was))
