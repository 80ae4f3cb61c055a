-- `judge::tasks::task_answer` meets its contract.
use Rattle.judge.proofs.NoteLaws.{seen_last, seen_done, seen_stop, seen_on}
use Rattle.judge.proofs.tasks.task_answer.Goals as goal

pub returns-in-Some : goal.returns-in-Some
returns-in-Some c = seen_stop _ _ _ c.in-Some.is

pub returns-in-Some-soon : goal.returns-in-Some-soon
returns-in-Some-soon c = seen_on _ _ _ _ c.in_default.is (seen_stop _ _ _ c.in-Some-soon.is)

pub returns-in-Some-early : goal.returns-in-Some-early
returns-in-Some-early c = seen_on _ _ _ _ c.in_default.is (seen_on _ _ _ _ c.in_default-soon.is (seen_stop _ _ _ c.in-Some-early.is))

pub returns-in-Some-late : goal.returns-in-Some-late
returns-in-Some-late c =
    seen_on _ _ _ _ c.in_default.is (seen_on _ _ _ _ c.in_default-soon.is
    (seen_on _ _ _ _ c.in_default-early.is (seen_last _ _ c.in-Some-late.is)))

pub returns : goal.returns
returns c =
    seen_on _ _ _ _ c.in_default.is (seen_on _ _ _ _ c.in_default-soon.is
    (seen_on _ _ _ _ c.in_default-early.is (seen_done _ _ c.in_default-late.is)))
