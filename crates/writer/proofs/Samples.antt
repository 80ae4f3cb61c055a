-- Samples of document 01, and of requests (ii), (iv) and (vi), that files alone decide, computed from the definitions.
use mathlib.Core.Path.{◌≡◌, refl}
use mathlib.Core.Option.{none}
use lib.Dec.{lit≤}
use Rattle.reader.specs.Tests.{◌and◌, ◌or◌}
use Rattle.reader.specs.First.{◌or_else◌, first, unless, fill}
use Rattle.reader.specs.Sound.{below}
use Rattle.reader.specs.Number.{number_at, field_fault}
use Rattle.reader.specs.Fields
use Rattle.reader.specs.JobFile
use Rattle.reader.specs.JobFile.{job_fault, job_at, read_job}
use Rattle.reader.specs.PlanFile
use Rattle.reader.specs.Samples.{J}
use Rattle.writer.specs.Write
use Rattle.writer.specs.Write.{job_bytes}
use Rattle.writer.specs.Samples.{Sample11, JStray, Versions, SendFiles, GroupFiles}
use Rattle.writer.proofs.SameNumbers.{job_same}

-- all that reading and writing files computes with
unfoldable pub filed : Unit {0}
unfolding ◌and◌ ◌or◌ ◌or_else◌ first unless fill below number_at field_fault
    Fields.node_fields Fields.task_fields Fields.width_if Fields.fault_if Fields.value_if Fields.held_if Fields.reaches Fields.width Fields.fields_fault
    Fields.fields_at Fields.held JobFile.node_width JobFile.task_width
    JobFile.nodes_fault JobFile.run_fault JobFile.task_fault JobFile.tasks_fault JobFile.link_fault JobFile.link_before JobFile.links_fault JobFile.tail_fault
    JobFile.node_at JobFile.nodes_at JobFile.run_at JobFile.task_at JobFile.tasks_at JobFile.link_at JobFile.links_at job_fault job_at read_job
    PlanFile.node_fault PlanFile.place_fault PlanFile.place_at PlanFile.places_fault PlanFile.places_at PlanFile.plan_fault PlanFile.plan_at
    Write.pack Write.flat Write.node_numbers Write.task_numbers Write.link_numbers Write.place_numbers Write.numbers_of Write.job_numbers job_bytes
    Write.plan_numbers Write.plan_bytes Write.room_fault
filed = tt

pub sample_11 : Sample11
unfolding filed
sample_11 = record { one = refl; two = refl; sixteen = refl; seventeen = refl; empty = refl }

-- J's file is accepted, and is J
pub j_read_back : (job_fault (job_bytes J) ≡ none) × (job_at (job_bytes J) ≡ J)
unfolding filed
j_read_back = (refl, refl)

pub versions : Versions
unfolding filed
versions =
    record {
      own_version = refl;
      stray_bytes = refl;
      stray_same = job_same JStray J (lit≤ tt) (lit≤ tt) (lit≤ tt) refl;
      stray_read = refl;
      none = refl;
      later = refl;
      older_reader = refl;
      ready_most = refl;
      ready_above = refl;
      deadline_behind = refl;
    }

pub send_files : SendFiles
unfolding filed
send_files = record { own_version = refl; stray_bytes = refl; stray_read = refl; older_reader = refl; send_above = refl }

pub group_files : GroupFiles
unfolding filed
group_files = record { own_version = refl; stray_bytes = refl; stray_read = refl; older_reader = refl; group_above = refl }
