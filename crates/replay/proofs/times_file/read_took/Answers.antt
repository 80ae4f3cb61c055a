-- `replay::times_file::read_took` meets its contract.
use mathlib.Core.Path.{◌∙◌}
use Rattle.reader.proofs.NumberLaws.{is_none, is_value, is_fault}
use Rattle.reader.proofs.Chain.{pass, stop, handed, given}
use Rattle.replay.specs.TimesFile.{took_fault}
use Rattle.replay.proofs.TimesFileLaws.{took_is}
use Rattle.replay.proofs.times_file.read_took.Goals as goal

pub returns-in_err-primary : goal.returns-in_err-primary
unfolding took_fault
returns-in_err-primary c = handed _ _ c.from_residual.ensures.1 (stop _ (is_fault _ _ _ c.field.ensures c.in_err-primary.was))

pub returns-in_err-backup : goal.returns-in_err-backup
unfolding took_fault
returns-in_err-backup c =
    handed _ _ c.from_residual-in_err-backup.ensures.1
    (pass _ (is_none _ _ _ c.field.ensures c.in_ok-primary.was) ∙ is_fault _ _ _ c.field-2.ensures c.in_err-backup.was)

pub returns : goal.returns
unfolding took_fault
returns c =
    let a = c.field.ensures in
    let b = c.field-2.ensures in
    given _ (pass _ (is_none _ _ _ a c.in_ok-primary.was) ∙ is_none _ _ _ b c.in_ok-backup.was)
    (took_is _ _ (is_value _ _ _ a c.in_ok-primary.was) (is_value _ _ _ b c.in_ok-backup.was))
