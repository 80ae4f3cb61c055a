-- `seqopchi::has_node` meets its contract.
use Rattle.std.proofs.Common.{◌≡◌, rules, tests}
use Rattle.std.proofs.lemmas.Iterator.{cases_from_any, YieldsList-from_slice}
use Rattle.reader.specs.declared.job.Node.{Node}
use Rattle.seqopchi.proofs.ReadLaws.{any_node}
use Rattle.seqopchi.proofs.has_node.Goals as goal

pub returns : goal.returns
returns c =
    any_node _ _ _
    (cases_from_any _ _ _ (λ (x : Node). x.group ≡ c.args.q) (λ (x : Node). x.group ≡ c.args.q → ⊥) c.any.ensures.ran
    (YieldsList-from_slice c.args.nodes.now cc) (λ x q k. search (rules, tests)) (λ x q k. search (rules, tests)))
