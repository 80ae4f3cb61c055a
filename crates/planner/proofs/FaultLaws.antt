-- The fault set as bits: the weak links along the chain of a task's links, and what is gathered by them.
use Prim.Native.Nat.{ℕ, ◌+◌, ◌*◌, ◌^◌}
use mathlib.Core.Bool.{Bool, true, false, not, cond}
use mathlib.Core.Path.{◌≡◌, refl, sym, ◌∙◌, ap, ap₂}
use lib.Bits.{bit_or}
use lib.Dec.{eqb}
use lib.ListN.{get_or}
use Rattle.reader.specs.Tests.{◌and◌, ◌or◌}
use Rattle.reader.specs.First.{any}
use Rattle.reader.proofs.TestLaws.{or_none, or_join}
use Rattle.reader.proofs.FirstLaws.{any_start}
use Rattle.rules.specs.declared.Copy.{Copy}
use Rattle.copies.specs.Sets.{has}
use Rattle.copies.specs.Arrival.{comes}
use Rattle.copies.specs.Chain.{Chain}
use Rattle.copies.specs.Gathered.{joined}
use Rattle.copies.proofs.SetLaws.{has_none, has_one, has_union}
use Rattle.copies.proofs.MemberLaws.{late_has}
use Rattle.copies.proofs.GatherLaws.{through_members}
use Rattle.planner.specs.declared.board.Board.{Board}
use Rattle.planner.specs.declared.senders.Incoming.{Incoming}
use Rattle.planner.specs.declared.senders.Sender.{Sender}
use Rattle.planner.specs.Senders.{sender_at, Sending}
use Rattle.planner.specs.Faults.{Faulted}
use Rattle.planner.proofs.SenderLaws.{Walk, walk_start, Next}

-- the link comes from task i, and is weak
abbrev weak_from : Copy → ℕ → Sender → Bool
weak_from p i x = eqb x.task i and not (comes x.backup p)

or_swap : (a b : Bool) → (a or b) ≡ (b or a)
unfolding ◌or◌
or_swap true true = refl
or_swap true false = refl
or_swap false true = refl
or_swap false false = refl

-- along the chains that begin at `last`
module _ (net : Incoming) (board : Board) (last : ℕ) (p : Copy) where
  -- a weak link from i is among the first n that lead to j
  abbrev over : (ℕ → ℕ) → ℕ → ℕ → ℕ → Bool
  over key j n i = any n (λ m. eqb (key m) j and weak_from p i (sender_at net board m))

  -- the members are the senders of the weak links passed, down to `left`
  pub record Faulting (left weak : ℕ) : Type 0 where
    pub walk : Walk net board last left
    pub is : (key : ℕ → ℕ) (j : ℕ) → Chain key net.next j last → (i : ℕ) → (has weak i or over key j left i) ≡ over key j last i

  pub faulting_start : Sending net board last → Faulting last 0
  unfolding ◌or◌
  faulting_start pre = record { walk = walk_start net board last pre; is = λ key j c i. rw (has_none i) }

  -- one link more
  pub faulting_more : (left weak bit : ℕ) (strong : Bool) → Faulting left weak → (x : Sender) → Next net board last left x
      → strong ≡ comes x.backup p → bit ≡ cond strong 0 (2 ^ x.task) → Faulting x.next (bit_or weak bit)
  faulting_more left weak bit strong h x n e b =
      let added : (i : ℕ) → has bit i ≡ weak_from p i x =
      λ i. late_has strong x.task bit i b ∙ ap (λ s. eqb x.task i and not s) e in
      record {
        walk = n.walk;
        is = λ key j c i.
            let rest = over key j x.next i in
            ap (λ y. y or rest) (has_union weak bit i) ∙ or_join _ _ _
            ∙ ap (λ y. has weak i or y) (or_swap (has bit i) rest ∙ ap (λ y. rest or y) (added i)
            ∙ sym (n.some key j c (weak_from p i)))
            ∙ h.is key j c i;
      }

  -- what is gathered by them
  pub faulting_done : (left weak : ℕ) → left ≡ 0 → Faulting left weak
      → (group own set : ℕ) → own ≡ 2 ^ group → ((q : ℕ) → has set q ≡ joined own weak board.copies.set q)
      → Faulted net board last p group set
  unfolding joined
  faulting_done left weak e h group own set is_own is_set key j c q =
      let members : (i : ℕ) → has weak i ≡ over key j last i =
      λ i. sym (ap (λ y. has weak i or y) (ap (λ n. over key j n i) e ∙ any_start _) ∙ or_none _) ∙ h.is key j c i in
      is_set q
      ∙ ap₂ ◌or◌ (ap (λ x. has x q) is_own ∙ has_one group q)
      (through_members last weak (λ m. get_or net.from m 0) (λ m. eqb (key m) j) (λ m. not (comes (sender_at net board m).backup p)) members
      (λ m b. (h.walk.sending m b).few) (λ i. has (get_or board.copies.set (2 * i + 1) 0) q))
