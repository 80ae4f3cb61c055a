-- `trial::runs::send_before` meets its contract.
use Rattle.std.proofs.Common.{arith}
use Rattle.trial.proofs.UptoLaws.{upto_sent, upto_link}
use Rattle.trial.proofs.runs.send_before.Goals as goal

pub loop-i-preserved : goal.loop-i-preserved
loop-i-preserved c =
    λ w losses u. upto_sent _ _ _ w losses _ _ _ _ (c.loop-i.invariant w losses u) c.loop-i-test.true c.if-j-l.false _ c.send.ensures

pub returns-clause-upto : goal.returns-clause-upto
returns-clause-upto c =
    λ w losses u. upto_link _ _ _ w losses _ _ _ _ (c.loop-i.invariant w losses u) _ (omega (arith, c.requires.within, c.loop-i.auto.i-end))
