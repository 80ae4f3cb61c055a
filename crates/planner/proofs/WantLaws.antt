-- What is wanted of one task with its primary anywhere, and what the answer tells.
use Prim.Native.Nat.{ℕ, ◌<◌}
use mathlib.Core.List.{List}
use mathlib.Core.Path.{◌≡◌, refl, sym, subst, fun_ext}
use lib.ListN.{get_or}
use borrow.Author.Tests.{le-leb}
use native.Mathlib.Omega.{arith}
use Rattle.std.specs.Prelude.{Result}
use Rattle.reader.specs.declared.job.Job.{Job}
use Rattle.reader.specs.declared.refusal.Refusal.{Refusal}
use Rattle.reader.specs.Tests.{◌and◌}
use Rattle.reader.specs.Entries.{nodes, tasks, links, task}
use Rattle.reader.specs.Sound.{Sound}
use Rattle.rules.specs.Planner.{place_task, anywhere}
use Rattle.copies.specs.Table.{row_of}
use Rattle.copies.proofs.SetLaws.{has_none}
use Rattle.planner.specs.declared.task.Want.{Want}
use Rattle.planner.specs.declared.board.Board.{Board}
use Rattle.planner.specs.declared.board.Pair.{Pair}
use Rattle.planner.specs.declared.senders.Incoming.{Incoming}
use Rattle.planner.specs.Senders.{Sent}
use Rattle.planner.specs.Faults.{Peers}
use Rattle.planner.specs.Tasks.{primary_from, Beside, want_of, Wanted, attempted}
use Rattle.planner.proofs.SentLaws.{sent_into}

-- with nothing asked of it the primary may be anywhere
from_anywhere : (j : ℕ) → primary_from 0 0 ≡ anywhere j
unfolding primary_from ◌and◌
from_anywhere j = fun_ext λ p. rw (has_none p.node) (le-leb 0 p.start (omega arith))

-- what `place_task` says of its answer
abbrev pub Told : Incoming → Board → List ℕ → Want → Result Pair Refusal → Type 0
Told net board peers want a =
    (w : Wanted net board peers want) → attempted a ≡ place_task w.job (primary_from want.least want.shut) w.rows (row_of board.copies) want.number

-- task j is wanted, beside those before it
module _ (job : Job) (net : Incoming) (j : ℕ) (board : Board) (sound : Sound job)
    (sent : Sent job.links (links job) net) (beside : Beside job j board) (task_of_lem : j < tasks job)
    (peers : List ℕ) (by_group : Peers job.nodes (nodes job) peers) (want : Want)
    (is_want : want ≡ want_of j (task job j) job.nodes (nodes job) (get_or net.last j 0)) where
  wanted : Wanted net board peers (want_of j (task job j) job.nodes (nodes job) (get_or net.last j 0))
  wanted =
      record {
        job = job;
        rows = j;
        sound = sound;
        task_of_lem = task_of_lem;
        task_is = refl;
        nodes_are = refl;
        count_is = refl;
        into = sent_into job _ sent j (omega (arith, sound.tasks_most));
        fed = λ k p e. omega (arith, sound.rise k p);
        least_most = omega arith;
        peers_are = by_group;
        beside = beside;
      }

  pub asked : Wanted net board peers want
  asked = subst (Wanted net board peers) (sym is_want) wanted

  pub told : (a : Result Pair Refusal) → Told net board peers want a → attempted a ≡ place_task job (anywhere j) j (row_of board.copies) j
  unfolding wanted
  told a f =
      subst (λ may. attempted a ≡ place_task job may j (row_of board.copies) j) (from_anywhere j)
      (subst (λ want. Told net board peers want a) is_want f wanted)
