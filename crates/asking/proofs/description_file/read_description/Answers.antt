-- A description: the task's entry, then its links behind it.
use mathlib.Core.Path.{refl}
use native.Mathlib.Omega.{arith}
use Rattle.reader.proofs.Chain.{stopped, reads_some, reads_value}
use Rattle.asking.specs.Sizes.{shaped}
use Rattle.asking.proofs.NewFileLaws.{task_read, bad_task, bad_links, described}
use Rattle.asking.proofs.description_file.read_description.Goals as goal

pub returns-in_err-task-clause-reads : goal.returns-in_err-task-clause-reads
returns-in_err-task-clause-reads c =
    λ job. stopped _ c.from_residual.ensures.1
    (bad_task _ (shaped job c.args.shape) (reads_some (c.read_task.ensures.by_index _ refl) c.in_err-task.was))

pub returns-in_err-links-clause-reads : goal.returns-in_err-links-clause-reads
returns-in_err-links-clause-reads c =
    λ job. let task = task_read {job = shaped job c.args.shape} (c.read_task.ensures.by_index _ refl) c.in_ok-task.was in
    stopped _ c.from_residual-in_err-links.ensures.1 (bad_links task (reads_some c.read_new_links.ensures.reads c.in_err-links.was))

pub returns-clause-end_bound : goal.returns-clause-end_bound
returns-clause-end_bound c =
    let links = reads_value c.read_new_links.ensures.reads c.in_ok-links.was in
    omega (arith, c.in_ok-task.ensures.end_bound, c.in_ok-links.ensures.count_le_max_links, links.2)

pub returns-clause-reads : goal.returns-clause-reads
returns-clause-reads c =
    λ job. let task = task_read {job = shaped job c.args.shape} (c.read_task.ensures.by_index _ refl) c.in_ok-task.was in
    described task c.read_new_links.ensures.reads c.in_ok-links.was
