-- `trial::passes::set_losses` meets its contract.
use Rattle.std.proofs.Common.{refl, arith}
use Rattle.trial.proofs.PassLaws.{noting_start, noting_more, noting_done}
use Rattle.trial.proofs.passes.set_losses.Goals as goal

pub loop-r-init : goal.loop-r-init
loop-r-init c = noting_start _ _ _ _ _

pub returns-then-n-j : goal.returns-then-n-j
returns-then-n-j c = noting_done _ _ _ _ _ _ _ _ c.loop-r.invariant c.requires.0 (λ p. c.if-n-j.true)

pub loop-r-preserved : goal.loop-r-preserved
loop-r-preserved c = noting_more _ _ _ _ _ _ _ _ c.loop-r.invariant c.loop-r-test.true c.if-n-j.false _ _ refl refl

pub returns : goal.returns
returns c = noting_done _ _ _ _ _ _ _ _ c.loop-r.invariant c.requires.0 (λ p. absurd (let z : ⊥ = omega arith in z))
