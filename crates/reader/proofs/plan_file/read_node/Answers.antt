-- `reader::plan_file::read_node` meets its contract.
use native.Mathlib.Omega.{arith}
use Rattle.reader.proofs.NumberLaws.{is_none, is_value, is_fault, is_good}
use Rattle.reader.proofs.Chain.{handed}
use Rattle.reader.proofs.PlaceLaws.{bad_number, node_unable, node_able}
use Rattle.reader.proofs.plan_file.read_node.Goals as goal

pub returns-in_err-v : goal.returns-in_err-v
returns-in_err-v c = handed _ _ c.from_residual.ensures.1 (bad_number _ _ _ _ (is_fault _ _ _ c.field.ensures c.in_err-v.was))

pub bounds-run-node : goal.bounds-run-node
bounds-run-node c = omega (arith, is_good _ _ _ _ _ _ c.field.ensures c.in_ok-v.was, c.requires)

pub returns-then-run-node-eq0 : goal.returns-then-run-node-eq0
returns-then-run-node-eq0 c =
    let e = c.field.ensures in
    let q = c.in_ok-v.was in
    node_unable _ _ _ _ _ (is_none _ _ _ e q) (is_value _ _ _ e q) c.if-run-node-eq0.true

pub returns : goal.returns
returns c =
    let e = c.field.ensures in
    let q = c.in_ok-v.was in
    node_able _ _ _ _ _ (is_none _ _ _ e q) (is_value _ _ _ e q) c.if-run-node-eq0.false
