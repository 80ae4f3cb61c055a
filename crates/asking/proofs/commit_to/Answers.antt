-- `asking::commit_to` meets its contract.
use Rattle.asking.proofs.CallLaws.{big_sound, long_planned, commit_done, commit_refused}
use Rattle.asking.proofs.commit_to.Goals as goal

pub judge_plan-requires : goal.judge_plan-requires
judge_plan-requires c =
    let ok = c.requires in
    (big_sound _ _ _ ok.asking _ c.longer_job-whole.ensures, long_planned _ _ _ _ ok _ c.longer_job-whole.ensures _ c.longer_plan-places.ensures)

pub returns-in_default-clause-answer : goal.returns-in_default-clause-answer
returns-in_default-clause-answer c =
    commit_refused _ _ _ _ c.requires _ c.longer_job-whole.ensures _ c.longer_plan-places.ensures _
    c.judge_plan.ensures c.in_default.is

pub returns-clause-answer : goal.returns-clause-answer
returns-clause-answer c =
    commit_done _ _ _ _ c.requires _ c.longer_job-whole.ensures _ c.longer_plan-places.ensures _
    c.judge_plan.ensures c.in-Ok.is
