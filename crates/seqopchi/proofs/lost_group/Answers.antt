-- `seqopchi::lost_group` meets its contract.
use native.Mathlib.Omega.{arith}
use Rattle.seqopchi.proofs.ReadLaws.{job_nodes, nothing_lost, group_there, group_missing}
use Rattle.seqopchi.proofs.lost_group.Goals as goal

pub returns-in_default : goal.returns-in_default
returns-in_default c = nothing_lost _ _ c.in_default.is

pub returns-then-has_node : goal.returns-then-has_node
returns-then-has_node c =
    group_there _ _ _ _ c.in-Lost.is _ (job_nodes c.args.job.now c.in-Lost.q (omega arith) c.has_node.ensures) c.if-has_node.true

pub returns : goal.returns
returns c = group_missing _ _ _ _ c.in-Lost.is _ (job_nodes c.args.job.now c.in-Lost.q (omega arith) c.has_node.ensures) c.if-has_node.false
