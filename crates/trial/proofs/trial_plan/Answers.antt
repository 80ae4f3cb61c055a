-- `trial::trial_plan` meets its contract.
use Rattle.std.proofs.Common.{false, refl, sym, ◌∙◌, arith}
use Rattle.reader.proofs.TestLaws.{clash}
use Rattle.trial.proofs.TrialLaws.{pass_fails, few_pass, last_pass}
use Rattle.trial.proofs.trial_plan.Goals as goal
use Rattle.trial.proofs.trial_plan.Goals.{then-pass, else-pass}

pub returns-else-pass-2 : goal.returns-else-pass-2
returns-else-pass-2 c =
    let pre = c.requires in
    elim c.if-pass.branch [
      | then-pass w ↦
          pass_fails _ _ pre.0 pre.1 _ _ _ c.place_copies.ensures _ _ _ w.pass-then-pass.ensures (λ s. clash false s refl)
          (sym w.value-is ∙ c.if-pass-2.false) _ c.if-pass-2.false
      | else-pass w ↦
          pass_fails _ _ pre.0 pre.1 _ _ _ c.place_copies.ensures _ _ _ c.pass.ensures (λ s. omega arith)
          w.if-pass.false _ c.if-pass-2.false
    ]

pub returns-then-n-le-RUNS : goal.returns-then-n-le-RUNS
returns-then-n-le-RUNS c =
    let pre = c.requires in
    elim c.if-pass.branch [
      | then-pass w ↦
          few_pass _ _ pre.0 pre.1 _ _ _ c.place_copies.ensures _ _ c.pass.ensures w.if-pass.true
          w.pass-then-pass.ensures (sym w.value-is ∙ c.if-pass-2.true) c.if-n-le-RUNS.true
      | else-pass w ↦ clash _ (sym w.value-is ∙ c.if-pass-2.true) w.if-pass.false
    ]

pub returns-else-n-le-RUNS : goal.returns-else-n-le-RUNS
returns-else-n-le-RUNS c =
    let pre = c.requires in
    elim c.if-pass.branch [
      | then-pass w ↦
          last_pass _ _ pre.0 pre.1 _ _ _ c.place_copies.ensures _ _ c.pass.ensures w.if-pass.true
          w.pass-then-pass.ensures (sym w.value-is ∙ c.if-pass-2.true) _ c.pass-else-n-le-RUNS.ensures
      | else-pass w ↦ clash _ (sym w.value-is ∙ c.if-pass-2.true) w.if-pass.false
    ]
