-- `trial::words::Losses::spared` meets its contract.
use Rattle.std.proofs.Common.{cond, ◌∙◌, ap₂}
use Rattle.trial.proofs.WordLaws.{spared_more}
use Rattle.trial.proofs.words.Losses.spared.Goals as goal

pub loop-r-preserved : goal.loop-r-preserved
loop-r-preserved c =
    spared_more _ _ _ _ _ _ c.loop-r.invariant (c.pick-runs.ensures ∙ ap₂ (λ s b. cond s b 0) c.stays.ensures c.bit_of.ensures)
