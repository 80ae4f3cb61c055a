-- `asking::full` meets its contract.
use mathlib.Core.Path.{refl}
use Rattle.asking.proofs.RoomLaws.{no_task_lem, no_link_lem, room_left}
use Rattle.asking.proofs.full.Goals as goal
use Rattle.asking.proofs.full.Goals.{else-n-lt-MAX_TASKS-via-then-n-lt-MAX_TASKS+else-links-le-MAX_LINKS, else-n-lt-MAX_TASKS-via-else-n-lt-MAX_TASKS}

pub returns-then-links-le-MAX_LINKS : goal.returns-then-links-le-MAX_LINKS
returns-then-links-le-MAX_LINKS c =
    room_left c.args.job.now c.args.d.now _ _ _ refl refl refl c.if-n-lt-MAX_TASKS.true c.if-links-le-MAX_LINKS.true

pub returns : goal.returns
returns c =
    elim c.else-n-lt-MAX_TASKS.branch [
      | else-n-lt-MAX_TASKS-via-then-n-lt-MAX_TASKS+else-links-le-MAX_LINKS w ↦
          no_link_lem c.args.job.now c.args.d.now _ _ _ refl refl refl w.if-n-lt-MAX_TASKS.true w.if-links-le-MAX_LINKS.false
      | else-n-lt-MAX_TASKS-via-else-n-lt-MAX_TASKS w ↦
          no_task_lem c.args.job.now c.args.d.now _ _ _ refl refl refl w.if-n-lt-MAX_TASKS.false
    ]
