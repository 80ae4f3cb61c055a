-- `trial::passes::pass` meets its contract.
use Rattle.std.proofs.Common.{sym, ◌∙◌}
use Rattle.reader.proofs.TestLaws.{imp_i}
use Rattle.trial.proofs.LossBits.{free}
use Rattle.trial.proofs.PlacedLaws.{low, losable}
use Rattle.trial.proofs.GoodLaws.{not_ended, not_done, apart_says}
use Rattle.trial.proofs.passes.pass.Goals as goal
use Rattle.trial.proofs.passes.pass.Goals.{else-strict-via-then-strict+else-not-all_end, else-strict-via-else-strict}

pub set_losses-losses-requires : goal.set_losses-losses-requires
set_losses-losses-requires c = (losable _ _ _ c.requires.placed, c.requires.within)

pub returns-then-not-all_end : goal.returns-then-not-all_end
returns-then-not-all_end c =
    λ w. not_ended _ _ _ w _ _ (c.run_all-outcomes.ensures w) _ c.set_losses-losses.ensures _ _ c.if-strict.true c.all_end.ensures
    c.if-not-all_end.true

pub returns-then-not-all_done : goal.returns-then-not-all_done
returns-then-not-all_done c =
    λ w. not_done _ _ _ w _ _ (c.run_all-outcomes.ensures w) _ c.set_losses-losses.ensures _ _ c.all_done.ensures c.if-not-all_done.true

pub overlapping-requires : goal.overlapping-requires
overlapping-requires c = low _ _ _ c.requires.placed

pub returns : goal.returns
returns c =
    λ w. apart_says _ _ _ w _ _ (c.run_all-outcomes.ensures w) _ c.set_losses-losses.ensures _
    (elim c.else-strict.branch [
      | else-strict-via-then-strict+else-not-all_end b ↦ imp_i _ _ (λ s. sym b.all_end.ensures ∙ b.if-not-all_end.false)
      | else-strict-via-else-strict b ↦ free _ _ b.if-strict.false
    ])
    _ c.all_done.ensures c.if-not-all_done.false _ c.overlapping.ensures _ c.is_ok.ensures.value
