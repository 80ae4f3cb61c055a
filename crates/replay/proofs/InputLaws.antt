-- Laws of inputs: one time and one node say of a task's result what the definition says of its two copies.
use Prim.Native.Nat.{ℕ, ◌≤◌, ◌<◌}
use mathlib.Core.Bool.{true, false}
use mathlib.Core.Path.{◌≡◌, refl, sym, ◌∙◌}
use native.Mathlib.Omega.{arith}
use borrow.Author.Tests.{lt-leb}
use Rattle.reader.specs.declared.job.Job.{Job}
use Rattle.reader.specs.declared.job.Link.{Link}
use Rattle.reader.specs.declared.plan.Place.{Place}
use Rattle.reader.specs.Limits.{max_start}
use Rattle.reader.specs.Tests.{◌and◌, ◌or◌}
use Rattle.reader.proofs.TestLaws.{split, or_none}
use Rattle.rules.specs.declared.Copy.{Copy}
use Rattle.rules.specs.Copies.{delay, in_time}
use Rattle.rules.specs.Rules.{Row}
use Rattle.rules.specs.Replay.{State, not_started, cut, finished, is_finished, TaskRun, arrived}
use Rattle.copies.specs.Arrival.{comes, result_of}
use Rattle.copies.proofs.ArrivalLaws.{comes_is}
use Rattle.std.specs.Prelude.{Option, Some, None, unwrap_or}
use Rattle.replay.specs.declared.states.Outcome.{Outcome}
use Rattle.replay.specs.declared.states.State as code
use Rattle.replay.specs.declared.states.State.TheVariants.{NotStarted, Cut, Finished}
use Rattle.replay.specs.Inputs.{never, sent_at, node_of, sent_from}
use Rattle.replay.specs.States.{state, outcome}

-- the finished copy, as far as a result asks for it
abbrev pub sender : ℕ → ℕ → Copy
sender node finish = record { node = node; start = 0; finish = finish }

from_primary : (s : State) (x : Place) → is_finished s ≡ true → node_of (state s) x ≡ x.primary_node
from_primary not_started x e = cc
from_primary cut x e = cc
from_primary finished x e = refl

from_backup : (s : State) (x : Place) → is_finished s ≡ false → node_of (state s) x ≡ x.backup_node
from_backup not_started x e = refl
from_backup cut x e = refl
from_backup finished x e = cc

-- where at most one copy is finished, no finish is 0, and the receiving copy c starts within the limit
pub sent_arrives : (job : Job) (l : Link) (r : Row) (x : Place) (y : TaskRun) (c : Copy)
    → r.primary.node ≡ x.primary_node → r.backup.node ≡ x.backup_node
    → (is_finished y.primary ≡ true → is_finished y.backup ≡ false)
    → c.start ≤ max_start
    → comes (result_of job l (sender (sent_from (outcome r y) x) (sent_at (outcome r y)))) c ≡ arrived job l r y c
unfolding sent_at sent_from outcome arrived in_time delay ◌and◌ ◌or◌
sent_arrives job l r x y c np nb once starts =
    comes_is job l (sender _ _) c
    ∙ split (is_finished y.primary)
    (λ e. rw (e, once e, from_primary y.primary x e, ← np)
    (sym (or_none _)))
    (λ e.
    split (is_finished y.backup)
    (λ f. rw (e, f, from_backup y.primary x e, ← nb))
    (λ f. rw (e, f) (lt-leb _ c.start (omega arith))))

-- and the time fits
pub sent_most : (o : Outcome) → unwrap_or o.finish 0 ≤ never → sent_at o ≤ never
unfolding sent_at
sent_most o h = within o.finish h
  where
    within : (f : Option ℕ) → unwrap_or f 0 ≤ never → unwrap_or f never ≤ never
    within None h = omega arith
    within (Some n) h = h

-- and the node is one of n
node_below : (s : code.State) (x : Place) (n : ℕ) → x.primary_node < n → x.backup_node < n → node_of s x < n
node_below NotStarted x n p b = b
node_below Cut x n p b = b
node_below Finished x n p b = p

pub sent_below : (o : Outcome) (x : Place) (n : ℕ) → x.primary_node < n → x.backup_node < n → sent_from o x < n
unfolding sent_from
sent_below o x n p b = node_below o.primary x n p b
