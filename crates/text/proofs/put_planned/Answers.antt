-- `text::put_planned` meets its contract.
use Rattle.decimal.proofs.PrintLaws.{grows_same}
use Rattle.text.proofs.ListingLaws.{plan_listed, refusal_listed, few_tasks}
use Rattle.text.proofs.put_planned.Goals as goal

pub put_plan-requires : goal.put_plan-requires
put_plan-requires c = (few_tasks _ c.requires.0 _ c.plan_job.ensures c.in-Ok.is, c.requires.1)

pub returns-in-Ok : goal.returns-in-Ok
returns-in-Ok c =
    (c.put_plan.ensures.0, grows_same (plan_listed _ c.requires.0 _ c.plan_job.ensures c.in-Ok.is) c.put_plan.ensures.1)

pub returns-in-Err : goal.returns-in-Err
returns-in-Err c =
    (c.put_refusal.ensures.0, grows_same (refusal_listed _ c.requires.0 _ c.plan_job.ensures c.in-Err.is) c.put_refusal.ensures.1)
