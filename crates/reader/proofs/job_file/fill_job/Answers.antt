-- A whole job file: each section behind the one before it, each refusal the first.
use native.Mathlib.Omega.{arith}
use mathlib.Core.Path.{ap, refl}
use Rattle.reader.specs.declared.job.Job.{Job}
use Rattle.reader.specs.Entries.{empty_job}
use Rattle.reader.proofs.NumberLaws.{is_fault}
use Rattle.reader.proofs.Chain.{handed, refused, given, reads_some}
use Rattle.reader.proofs.JobLaws.{version_read, nodes_read, tasks_read, links_read, rest_part}
use Rattle.reader.proofs.JobLaws.{bad_version, bad_nodes, node_room, bad_tasks, task_least, bad_links, bad_tail, no_fault, job_is}
use Rattle.reader.proofs.job_file.fill_job.Goals as goal

pub returns-in_err-version-clause-answer : goal.returns-in_err-version-clause-answer
returns-in_err-version-clause-answer c = handed _ _ c.from_residual.ensures.1 (bad_version _ (is_fault _ _ _ c.read_version.ensures c.in_err-version.was))

pub read_nodes-requires : goal.read_nodes-requires
unfolding empty_job
read_nodes-requires c = ap (λ (j : Job). j.nodes) c.requires

pub returns-in_err-nodes-clause-answer : goal.returns-in_err-nodes-clause-answer
returns-in_err-nodes-clause-answer c =
    let version = version_read c.read_version.ensures c.in_ok-version.was in
    handed _ _ c.from_residual-in_err-nodes.ensures.1 (bad_nodes version (reads_some c.read_nodes.ensures.reads c.in_err-nodes.was))

pub slice_bounds-read_tasks-count : goal.slice_bounds-read_tasks-count
slice_bounds-read_tasks-count c =
    let version = version_read c.read_version.ensures c.in_ok-version.was in
    omega (arith, node_room (nodes_read version c.read_nodes.ensures.reads c.in_ok-nodes.was))

pub slice_bounds-read_tasks-start : goal.slice_bounds-read_tasks-start
slice_bounds-read_tasks-start c =
    let version = version_read c.read_version.ensures c.in_ok-version.was in
    omega (arith, node_room (nodes_read version c.read_nodes.ensures.reads c.in_ok-nodes.was))

pub read_tasks-requires : goal.read_tasks-requires
unfolding empty_job
read_tasks-requires c =
    let few = c.in_ok-nodes.ensures.count_le_max_nodes in
    (few.1, few.0, ap (λ (j : Job). j.tasks) c.requires)

pub returns-in_err-tasks-clause-answer : goal.returns-in_err-tasks-clause-answer
returns-in_err-tasks-clause-answer c =
    let version = version_read c.read_version.ensures c.in_ok-version.was in
    let nodes = nodes_read version c.read_nodes.ensures.reads c.in_ok-nodes.was in
    let behind = c.read_tasks.ensures.by_index _ (rest_part c.args.file.now c.in_ok-nodes.start) in
    handed _ _ c.from_residual-in_err-tasks.ensures.1 (bad_tasks nodes (reads_some behind c.in_err-tasks.was))

pub read_links-requires : goal.read_links-requires
unfolding empty_job
read_links-requires c =
    let version = version_read c.read_version.ensures c.in_ok-version.was in
    let nodes = nodes_read version c.read_nodes.ensures.reads c.in_ok-nodes.was in
    let behind = c.read_tasks.ensures.by_index _ (rest_part c.args.file.now c.in_ok-nodes.start) in
    let few = c.in_ok-tasks.ensures.count_le_max_tasks in
    (few.1, task_least (tasks_read nodes behind c.in_ok-tasks.was), few.0, ap (λ (j : Job). j.links) c.requires)

pub returns-in_err-links-clause-answer : goal.returns-in_err-links-clause-answer
returns-in_err-links-clause-answer c =
    let version = version_read c.read_version.ensures c.in_ok-version.was in
    let nodes = nodes_read version c.read_nodes.ensures.reads c.in_ok-nodes.was in
    let behind = c.read_tasks.ensures.by_index _ (rest_part c.args.file.now c.in_ok-nodes.start) in
    let tasks = tasks_read nodes behind c.in_ok-tasks.was in
    handed _ _ c.from_residual-in_err-links.ensures.1 (bad_links tasks (reads_some c.read_links.ensures.reads c.in_err-links.was))

pub returns-then-end-file-clause-answer : goal.returns-then-end-file-clause-answer
returns-then-end-file-clause-answer c =
    let version = version_read c.read_version.ensures c.in_ok-version.was in
    let nodes = nodes_read version c.read_nodes.ensures.reads c.in_ok-nodes.was in
    let behind = c.read_tasks.ensures.by_index _ (rest_part c.args.file.now c.in_ok-nodes.start) in
    let links = links_read (tasks_read nodes behind c.in_ok-tasks.was) c.read_links.ensures.reads c.in_ok-links.was in
    refused _ (bad_tail links c.if-end-file.true)

pub returns-clause-answer : goal.returns-clause-answer
returns-clause-answer c =
    let version = version_read c.read_version.ensures c.in_ok-version.was in
    let nodes = nodes_read version c.read_nodes.ensures.reads c.in_ok-nodes.was in
    let behind = c.read_tasks.ensures.by_index _ (rest_part c.args.file.now c.in_ok-nodes.start) in
    let links = links_read (tasks_read nodes behind c.in_ok-tasks.was) c.read_links.ensures.reads c.in_ok-links.was in
    given _ (no_fault links c.if-end-file.false) refl

pub returns-clause-job : goal.returns-clause-job
returns-clause-job c =
    let version = version_read c.read_version.ensures c.in_ok-version.was in
    let nodes = nodes_read version c.read_nodes.ensures.reads c.in_ok-nodes.was in
    let behind = c.read_tasks.ensures.by_index _ (rest_part c.args.file.now c.in_ok-nodes.start) in
    let links = links_read (tasks_read nodes behind c.in_ok-tasks.was) c.read_links.ensures.reads c.in_ok-links.was in
    job_is links
