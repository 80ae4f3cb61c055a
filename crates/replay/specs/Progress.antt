-- What the loop of replay knows: at its beginning, after a link, and after a task.
use Rattle.std.specs.Prelude.{ℕ, ◌+◌, max, List, get_or, set, replicate}
use Rattle.reader.specs.declared.job.Link.{Link}
use Rattle.reader.specs.declared.job.Node.{Node}
use Rattle.reader.specs.declared.plan.Place.{Place}
use Rattle.reader.specs.Limits.{max_tasks}
use Rattle.copies.specs.declared.arrival.Outgoing.{Outgoing}
use Rattle.copies.specs.Arrival.{arrival_of}
use Rattle.replay.specs.declared.states.Outcome.{Outcome}
use Rattle.replay.specs.declared.progress.Progress.{Progress}
use Rattle.replay.specs.Inputs.{sent_at, sent_from}
use Rattle.replay.specs.Outcomes.{no_outcome}

abbrev pub zeros : List ℕ
zeros = replicate max_tasks 0

-- no task is settled, and no link is looked at
abbrev pub started : Progress
started = record { of = replicate max_tasks no_outcome; at = zeros; node = zeros; primary = zeros; backup = zeros }

-- a result that goes out by a link: from when it is on each node
abbrev pub result : Progress → Link → Node → Outgoing
result r l sender =
    let here = get_or r.at l.from 0 in
    record { node = get_or r.node l.from 0; here = here; away = here + sender.send + l.delay }

-- each copy of the link's task waits for the latest
unfoldable pub sent : Progress → Link → Node → Place → Progress
sent r l sender x =
    record r {
      primary = set r.primary l.to (max (get_or r.primary l.to 0) (arrival_of (result r l sender) x.primary_node));
      backup = set r.backup l.to (max (get_or r.backup l.to 0) (arrival_of (result r l sender) x.backup_node));
    }

-- task j, at place x, is settled
unfoldable pub stored : Progress → ℕ → Outcome → Place → Progress
stored r j o x = record r { of = set r.of j o; at = set r.at j (sent_at o); node = set r.node j (sent_from o x) }
