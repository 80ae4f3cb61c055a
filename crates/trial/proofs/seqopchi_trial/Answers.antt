-- The trial's call: a file is refused, or the plan is tried.
use Rattle.reader.proofs.Chain.{reads_none, reads_some, reads_value}
use Rattle.trial.proofs.TriedFiles.{tried_stops, tried_yes, tried_no}
use Rattle.trial.proofs.seqopchi_trial.Goals as goal

pub returns-then-good : goal.returns-then-good
returns-then-good c =
    let reads = c.trial_files.ensures in
    tried_yes _ _ (reads_none reads c.in-Ok.is) (reads_value reads c.in-Ok.is) c.if-good.true

pub returns-else-good : goal.returns-else-good
returns-else-good c =
    let reads = c.trial_files.ensures in
    tried_no _ _ (reads_none reads c.in-Ok.is) (reads_value reads c.in-Ok.is) c.if-good.false

pub returns-in-Err : goal.returns-in-Err
returns-in-Err c = tried_stops _ _ _ (reads_some c.trial_files.ensures c.in-Err.is) c.result_number.ensures
