-- What equality of jobs says of each field; and of jobs that keep the reader's promise, whichever fields their version lacks.
use Prim.Native.Nat.{ℕ, ◌≤◌, ◌<◌}
use native.Mathlib.Omega.{arith}
use mathlib.Core.Path.{◌≡◌, refl, sym, ap, subst}
use mathlib.Core.Bool.{true}
use lib.ListN.{get_or}
use borrow.Author.Tests.{le-leb}
use Rattle.reader.specs.declared.job.Job.{Job}
use Rattle.reader.specs.Limits.{ready_since, send_since, group_since}
use Rattle.reader.specs.Entries.{nodes, tasks, detect, send, group, ready, deadline, run, node, task}
use Rattle.reader.specs.Fields.{node_fields, task_fields, node_values, task_values, reaches, held_if, held}
use Rattle.reader.specs.Sound.{Sound}
use Rattle.reader.proofs.VersionLaws.{AllWithin}
use Rattle.writer.specs.Write.{node_numbers}
use Rattle.writer.specs.Equality.{SameJob}
use Rattle.writer.proofs.HeldLaws.{if_same, held_same}
use Rattle.writer.proofs.SameNumbers.{SameTask, task_parts}
use Rattle.writer.proofs.SoundReads.{node_of, task_of_lem}

module _ (a b : Job) (e : SameJob a b) where
  pub same_detect : (n : ℕ) → n < nodes a → detect a n ≡ detect b n
  unfolding node_numbers node_fields reaches held held_if
  same_detect n p = ap (λ l. get_or l 0 0) (e.same_node n p)

  -- only from its version on
  pub same_send : (n : ℕ) → n < nodes a → send_since ≤ a.version → send a n ≡ send b n
  unfolding node_numbers node_fields reaches held
  same_send n p h = (if_same _ _ _ _ _ (if_same true _ _ _ _ (e.same_node n p)).1).0 (le-leb send_since a.version h)

  pub same_group : (n : ℕ) → n < nodes a → group_since ≤ a.version → group a n ≡ group b n
  unfolding node_numbers node_fields reaches held
  same_group n p h =
      (if_same _ _ _ _ _ (if_same _ _ _ _ _ (if_same true _ _ _ _ (e.same_node n p)).1).1).0 (le-leb group_since a.version h)

  parts : (j : ℕ) → j < tasks a → SameTask a.version (nodes a) (task a j) (task b j)
  parts j p = task_parts _ _ _ _ (e.same_task j p)

  -- the same
  pub same_ready : (j : ℕ) → j < tasks a → ready_since ≤ a.version → ready a j ≡ ready b j
  unfolding task_fields reaches held
  same_ready j p h = (if_same _ _ _ _ _ (parts j p).fields).0 (le-leb ready_since a.version h)

  pub same_deadline : (j : ℕ) → j < tasks a → deadline a j ≡ deadline b j
  unfolding task_fields reaches held
  same_deadline j p = (if_same true _ _ _ _ (if_same _ _ _ _ _ (parts j p).fields).1).0 refl

  pub same_run : (j n : ℕ) → j < tasks a → n < nodes a → run a j n ≡ run b j n
  same_run j n p = (parts j p).run n

  module _ (ha : Sound a) (hb : Sound b) where
    pub all_of_node : (n : ℕ) → n < nodes a → node_values (node a n) ≡ node_values (node b n)
    unfolding node_numbers node_fields held
    all_of_node n p =
        held_same a.version (node_fields n) _ _ (node_of a ha n p)
        (subst (λ v. AllWithin v (node_fields n) (node_values (node b n))) (sym e.version) (node_of b hb n (omega (arith, e.node_count_is))))
        (e.same_node n p)

    pub all_of_task : (j : ℕ) → j < tasks a → task_values (task a j) ≡ task_values (task b j)
    all_of_task j p =
        held_same a.version task_fields _ _ (task_of_lem a ha j p).fields
        (subst (λ v. AllWithin v task_fields (task_values (task b j))) (sym e.version) (task_of_lem b hb j (omega (arith, e.task_count_is))).fields)
        (parts j p).fields
