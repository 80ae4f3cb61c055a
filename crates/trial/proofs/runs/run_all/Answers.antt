-- `trial::runs::run_all` meets its contract.
use Rattle.std.proofs.Common.{refl}
use Rattle.trial.proofs.PlacedLaws.{settleable}
use Rattle.trial.proofs.UptoLaws.{upto_start, upto_settled, upto_done}
use Rattle.trial.proofs.runs.run_all.Goals as goal

pub loop-j-init : goal.loop-j-init
loop-j-init c = λ w. upto_start _ _ _ w _ _ refl refl

pub send_before-k-requires-clause-within : goal.send_before-k-requires-clause-within
send_before-k-requires-clause-within c = (c.loop-j.invariant c.requires).links_within

pub settle-requires : goal.settle-requires
settle-requires c = settleable _ _ _ c.requires _ c.loop-j-test.true

pub loop-j-preserved : goal.loop-j-preserved
loop-j-preserved c =
    λ w. upto_settled _ _ _ w _ _ _ _ _ (c.send_before-k.ensures.upto w _ (c.loop-j.invariant w)) c.loop-j-test.true
    c.send_before-k.ensures.left _ c.settle.ensures

pub returns : goal.returns
returns c = λ w. upto_done _ _ _ w _ _ _ _ _ (c.loop-j.invariant w) c.loop-j-test.false
