-- A whole plan file after its job: each refusal the first.
use Rattle.reader.specs.PlanFile.{places_fault, read_plan}
use Rattle.reader.proofs.NumberLaws.{is_none, is_value, is_fault}
use Rattle.reader.proofs.Chain.{handed, refused, given, reads_none, reads_some, reads_value}
use Rattle.reader.proofs.PlanLaws.{bad_version, bad_count, bad_places, bad_tail, whole_fine, whole_plan}
use Rattle.reader.proofs.plan_file.read_plan.Goals as goal

pub returns-in_err-version : goal.returns-in_err-version
unfolding read_plan
returns-in_err-version c = handed _ _ c.from_residual.ensures.1 (bad_version _ _ (is_fault _ _ _ c.field.ensures c.in_err-version.was))

pub returns-in_err-task_count : goal.returns-in_err-task_count
unfolding read_plan
returns-in_err-task_count c =
    let e = c.field.ensures in
    let q = c.in_ok-version.was in
    handed _ _ c.from_residual-in_err-task_count.ensures.1
    (bad_count _ _ _ (is_none _ _ _ e q) (is_value _ _ _ e q) (is_fault _ _ _ c.field-2.ensures c.in_err-task_count.was))

pub returns-in_err-places : goal.returns-in_err-places
unfolding read_plan places_fault
returns-in_err-places c =
    let e = c.field.ensures in
    let q = c.in_ok-version.was in
    let f = c.field-2.ensures in
    let r = c.in_ok-task_count.was in
    handed _ _ c.from_residual-in_err-places.ensures.1
    (bad_places _ _ _ (is_none _ _ _ e q) (is_value _ _ _ e q) _ (is_none _ _ _ f r) (is_value _ _ _ f r)
    (reads_some c.read_places.ensures c.in_err-places.was))

pub returns-then-end-file : goal.returns-then-end-file
unfolding read_plan places_fault
returns-then-end-file c =
    let e = c.field.ensures in
    let q = c.in_ok-version.was in
    let f = c.field-2.ensures in
    let r = c.in_ok-task_count.was in
    let pp = reads_none c.read_places.ensures c.in_ok-places.was in
    let ps = reads_value c.read_places.ensures c.in_ok-places.was in
    refused _ (bad_tail _ _ _ (is_none _ _ _ e q) (is_value _ _ _ e q) _ (is_none _ _ _ f r) (is_value _ _ _ f r) _ pp ps c.if-end-file.true)

pub returns : goal.returns
unfolding read_plan places_fault
returns c =
    let e = c.field.ensures in
    let q = c.in_ok-version.was in
    let f = c.field-2.ensures in
    let r = c.in_ok-task_count.was in
    let pp = reads_none c.read_places.ensures c.in_ok-places.was in
    let ps = reads_value c.read_places.ensures c.in_ok-places.was in
    given _
    (whole_fine _ _ _ (is_none _ _ _ e q) (is_value _ _ _ e q) _ (is_none _ _ _ f r) (is_value _ _ _ f r) _ pp ps c.if-end-file.false)
    (whole_plan _ c.args.job.now _ (is_none _ _ _ e q) (is_value _ _ _ e q) _ (is_none _ _ _ f r) (is_value _ _ _ f r) _ pp ps)
