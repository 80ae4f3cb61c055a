-- `history::log::read_node` meets its contract.
use mathlib.Core.Path.{sym, ◌∙◌}
use native.Mathlib.Omega.{arith}
use Rattle.reader.proofs.NumberLaws.{is_none, is_value, is_fault, is_good}
use Rattle.reader.proofs.Chain.{handed}
use Rattle.reader.proofs.PlaceLaws.{bad_number, node_unable, node_able}
use Rattle.history.proofs.LogLaws.{run_is}
use Rattle.history.proofs.log.read_node.Goals as goal

pub returns-in_err-node-clause-value : goal.returns-in_err-node-clause-value
returns-in_err-node-clause-value c =
    λ job h. handed _ _ c.from_residual.ensures.1 (bad_number _ _ _ _ (is_fault _ _ _ c.field.ensures c.in_err-node.was))

pub cell_of-p-requires : goal.cell_of-p-requires
cell_of-p-requires c = (c.requires.1, omega (arith, is_good _ _ _ _ _ _ c.field.ensures c.in_ok-node.was, c.args.times.now.nodes_most))

pub returns-then-times-p-eq0-clause-value : goal.returns-then-times-p-eq0-clause-value
returns-then-times-p-eq0-clause-value c =
    let e = c.field.ensures in
    let q = c.in_ok-node.was in
    λ job h.
    let is = run_is job _ _ _ _ h.runs c.requires.1 (omega (arith, is_good _ _ _ _ _ _ e q, c.args.times.now.nodes_most)) c.cell_of-p.ensures.0 in
    node_unable _ _ _ _ _ (is_none _ _ _ e q) (is_value _ _ _ e q) (is ∙ c.if-times-p-eq0.true)

pub returns-clause-by_index : goal.returns-clause-by_index
returns-clause-by_index c = omega (arith, is_good _ _ _ _ _ _ c.field.ensures c.in_ok-node.was, c.args.times.now.nodes_most)

pub returns-clause-value : goal.returns-clause-value
returns-clause-value c =
    let e = c.field.ensures in
    let q = c.in_ok-node.was in
    λ job h.
    let is = run_is job _ _ _ _ h.runs c.requires.1 (omega (arith, is_good _ _ _ _ _ _ e q, c.args.times.now.nodes_most)) c.cell_of-p.ensures.0 in
    node_able _ _ _ _ _ (is_none _ _ _ e q) (is_value _ _ _ e q) (λ z. c.if-times-p-eq0.false (sym is ∙ z))
