-- `reader::job_file::read_task` meets its contract.
use mathlib.Core.List.{[], ◌∷◌}
use mathlib.Core.Path.{refl}
use Rattle.reader.specs.Fields.{task_fields, reaches, width_if, fault_if, value_if}
use Rattle.reader.proofs.Chain.{stopped, finished, reads_none, reads_some, reads_value}
use Rattle.reader.proofs.FieldsRead.{no_fields, stops_at, stops_behind, reads_more, task_stopped, run_stopped, run_fine, task_done}
use Rattle.reader.proofs.job_file.read_task.Goals as goal

pub returns-in_err-ready-clause-by_index : goal.returns-in_err-ready-clause-by_index
unfolding task_fields reaches
returns-in_err-ready-clause-by_index c =
    λ file part.
    stopped _ c.from_residual.ensures.1 (task_stopped _ (stops_at (c.field_if.ensures file part) c.in_err-ready.was))

pub returns-in_err-deadline-clause-by_index : goal.returns-in_err-deadline-clause-by_index
unfolding task_fields reaches fault_if value_if
returns-in_err-deadline-clause-by_index c =
    λ file part.
    let deadline = stops_at (c.field_of_part.ensures file part) c.in_err-deadline.was in
    stopped _ c.from_residual-in_err-deadline.ensures.1
    (task_stopped _ (stops_behind (c.field_if.ensures file part) c.in_ok-ready.was c.width_if.ensures.0 deadline))

pub returns-in_err-run-clause-by_index : goal.returns-in_err-run-clause-by_index
unfolding task_fields reaches fault_if value_if width_if
returns-in_err-run-clause-by_index c =
    λ file part.
    let deadline = reads_more (c.field_of_part.ensures file part) c.in_ok-deadline.was refl no_fields in
    let fields = reads_more (c.field_if.ensures file part) c.in_ok-ready.was c.width_if.ensures.0 deadline in
    stopped _ c.from_residual-in_err-run.ensures.1
    (run_stopped _ (_ ∷ _ ∷ []) fields (reads_some (c.read_run.ensures file part) c.in_err-run.was))

pub returns-clause-by_index : goal.returns-clause-by_index
unfolding task_fields reaches fault_if value_if width_if
returns-clause-by_index c =
    λ file part.
    let deadline = reads_more (c.field_of_part.ensures file part) c.in_ok-deadline.was refl no_fields in
    let fields = reads_more (c.field_if.ensures file part) c.in_ok-ready.was c.width_if.ensures.0 deadline in
    let run = c.read_run.ensures file part in
    finished (run_fine _ (_ ∷ _ ∷ []) fields (reads_none run c.in_ok-run.was)) (task_done _ (_ ∷ _ ∷ []) fields (reads_value run c.in_ok-run.was))
