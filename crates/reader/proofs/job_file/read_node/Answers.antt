-- `reader::job_file::read_node` meets its contract.
use mathlib.Core.List.{[], ◌∷◌}
use mathlib.Core.Path.{refl}
use Rattle.reader.specs.Fields.{node_fields, reaches, width_if, fault_if, value_if}
use Rattle.reader.proofs.Chain.{stopped, finished}
use Rattle.reader.proofs.FieldsRead.{stops_at, stops_behind, reads_more, no_fields, node_done}
use Rattle.reader.proofs.job_file.read_node.Goals as goal

pub returns-in_err-detect-clause-reads : goal.returns-in_err-detect-clause-reads
unfolding node_fields reaches fault_if value_if
returns-in_err-detect-clause-reads c = stopped _ c.from_residual.ensures.1 (stops_at c.field.ensures c.in_err-detect.was).fault

pub returns-in_err-send-clause-reads : goal.returns-in_err-send-clause-reads
unfolding node_fields reaches fault_if value_if width_if
returns-in_err-send-clause-reads c =
    let send = stops_at (c.field_if.ensures _ refl) c.in_err-send.was in
    stopped _ c.from_residual-in_err-send.ensures.1 (stops_behind c.field.ensures c.in_ok-detect.was refl send).fault

pub returns-in_err-group-clause-reads : goal.returns-in_err-group-clause-reads
unfolding node_fields reaches fault_if value_if width_if
returns-in_err-group-clause-reads c =
    let group = stops_at (c.field_if-2.ensures _ refl) c.in_err-group.was in
    let send = stops_behind (c.field_if.ensures _ refl) c.in_ok-send.was c.width_if.ensures.0 group in
    stopped _ c.from_residual-in_err-group.ensures.1 (stops_behind c.field.ensures c.in_ok-detect.was refl send).fault

pub returns-clause-reads : goal.returns-clause-reads
unfolding node_fields reaches fault_if value_if width_if
returns-clause-reads c =
    let last = c.width_if-2.ensures in
    let width = c.width_if.ensures in
    let group = reads_more (c.field_if-2.ensures _ refl) c.in_ok-group.was last.0 no_fields in
    let send = reads_more (c.field_if.ensures _ refl) c.in_ok-send.was width.0 group in
    let fields = reads_more c.field.ensures c.in_ok-detect.was refl send in
    let node = node_done _ (_ ∷ _ ∷ _ ∷ []) fields in
    finished fields.fault node
