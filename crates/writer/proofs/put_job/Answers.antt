-- `writer::put_job` meets its contract.
use native.Mathlib.Omega.{arith}
use Rattle.reader.specs.Entries.{no_node, no_task, no_link}
use Rattle.writer.specs.Write.{job_numbers, numbers_of}
use Rattle.writer.proofs.PutLaws.{puts_then, job_room}
use Rattle.writer.proofs.put_job.Goals as goal

-- each section, and its count, behind the one before it
pub put_rows-at-requires : goal.put_rows-at-requires
put_rows-at-requires c =
    let room = job_room c.args.job.now.version _ _ _ c.clip-p.ensures c.clip-n.ensures c.clip-m.ensures in
    (omega arith, omega arith)

pub put-at-requires-3 : goal.put-at-requires-3
put-at-requires-3 c =
    let room = job_room c.args.job.now.version _ _ _ c.clip-p.ensures c.clip-n.ensures c.clip-m.ensures in
    omega arith

pub returns : goal.returns
unfolding job_numbers numbers_of
returns c =
    let room = job_room c.args.job.now.version _ _ _ c.clip-p.ensures c.clip-n.ensures c.clip-m.ensures in
    let nodes = c.put_rows-at.ensures.rows no_node in
    let tasks = c.put_rows-at-2.ensures.rows no_task in
    let links = c.put_rows.ensures.rows no_link in (
      omega arith,
      rw (c.clip-p.ensures, c.clip-n.ensures, c.clip-m.ensures) at
          (puts_then c.put-at.ensures (puts_then c.put-at-2.ensures (puts_then nodes.puts
          (puts_then c.put-at-3.ensures (puts_then tasks.puts (puts_then c.put-at-4.ensures links.puts)))))),
    )
