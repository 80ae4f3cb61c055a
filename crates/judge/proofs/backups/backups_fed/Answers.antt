-- `judge::backups::backups_fed` meets its contract.
use Prim.Native.Nat.{◌/◌, ◌%◌, ◌^◌}
use mathlib.Core.Path.{◌≡◌, sym, ◌∙◌, ap, subst}
use native.Mathlib.Omega.{arith}
use borrow.Author.Tests.{ne_eqb}
use Rattle.std.specs.Prelude.{Err}
use Rattle.reader.specs.declared.refusal.Refusal.TheVariants.{BackupUnfed}
use Rattle.copies.specs.Sets.{has}
use Rattle.judge.specs.Backups.{backup_breach}
use Rattle.judge.proofs.ScanLaws.{clear_start, clear_done, kept, broken}
use Rattle.judge.proofs.BackupLaws.{taken, feeds_at}
use Rattle.judge.proofs.backups.backups_fed.Goals as goal
use Rattle.judge.proofs.backups.backups_fed.Goals.{then-unsure-i-eq1+else-not-fed, else-unsure-i-eq1}

pub loop-l-init : goal.loop-l-init
loop-l-init c = clear_start _ _

pub returns-then-not-fed : goal.returns-then-not-fed
unfolding backup_breach
returns-then-not-fed c =
    let e = taken c.args.job.now c.loop-l.l-index (omega arith) in
    ap (λ l. Err (BackupUnfed l.from l.to)) e
    ∙ broken _ _ _ _ c.loop-l.invariant (omega arith)
    (sym (feeds_at _ _ _ _ _ e _ _ _ _ c.result_at-p.ensures c.result_at-b.ensures c.at-c.ensures c.fed.ensures) ∙ c.if-not-fed.true)

pub loop-l-preserved : goal.loop-l-preserved
unfolding has
loop-l-preserved c =
    let e = taken c.args.job.now c.loop-l.l-index (omega arith) in
    kept _ _ _ _ c.loop-l.invariant (omega arith)
    (elim c.if-unsure-i-eq1.branch [
      | then-unsure-i-eq1+else-not-fed w ↦
          sym (feeds_at _ _ _ _ _ e _ _ _ _ w.result_at-p.ensures w.result_at-b.ensures w.at-c.ensures w.fed.ensures) ∙ w.if-not-fed.false
      | else-unsure-i-eq1 w ↦
          c.requires.others _ (omega arith) (ne_eqb _ _ (subst (λ l. c.args.unsure / 2 ^ l.from % 2 ≡ 1 → ⊥) e w.if-unsure-i-eq1.false))
    ])

pub returns : goal.returns
unfolding backup_breach
returns c = clear_done _ _ _ c.loop-l.invariant (omega arith)
