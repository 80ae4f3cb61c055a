-- Laws of the table: what is stored, the rows of the empty table, and fault sets with a common member.
use Prim.Native.Nat.{ℕ, ◌+◌, ◌*◌, ◌/◌, ◌<◌}
use mathlib.Core.Bool.{Bool}
use mathlib.Core.Path.{◌≡◌, refl, ap, fun_ext, subst}
use native.Mathlib.Decide.{dec_lt}
use native.Mathlib.Omega.{arith}
use Rattle.reader.specs.declared.job.Job.{Job}
use Rattle.reader.specs.Tests.{◌and◌}
use Rattle.reader.specs.First.{any}
use Rattle.rules.specs.Copies.{domains}
use Rattle.rules.specs.declared.Copy.{Copy}
use Rattle.rules.specs.Rules.{Row, blank_row, share_fault}
use Rattle.copies.specs.declared.table.Copies.{Copies}
use Rattle.copies.specs.Sets.{has, meets}
use Rattle.copies.specs.Table.{copy_count, set_at, row_of, empty_copies, Held}
use Rattle.copies.proofs.ListMore.{replicated}
use Rattle.copies.proofs.SetLaws.{has_none, meets_any}

pub same_row : (a b c d : Copy) (f g : ℕ → Bool) → a ≡ b → c ≡ d → f ≡ g
    → ◌≡◌ {A = Row} (record { primary = a; backup = c; faults = f }) (record { primary = b; backup = d; faults = g })
same_row a b c d f g p q r = rw (p, q, r)

-- what holds at both entries of task j holds at each of its entries; and so of the first n tasks
pub halves : (P : ℕ → Type 0) (j : ℕ) → P (2 * j) → P (2 * j + 1) → (k : ℕ) → k / 2 ≡ j → P k
halves P j primary backup k h =
    elim (dec_lt (2 * j) k) [
      | yes q ↦ let e : 2 * j + 1 ≡ k = omega arith in subst P e backup
      | no q ↦ let e : 2 * j ≡ k = omega arith in subst P e primary
    ]

pub each_entry : (P : ℕ → Type 0) (n : ℕ) → ((j : ℕ) → j < n → P (2 * j)) → ((j : ℕ) → j < n → P (2 * j + 1))
    → (k : ℕ) → k < 2 * n → P k
each_entry P n primary backup k p = halves P (k / 2) (primary (k / 2) (omega arith)) (backup (k / 2) (omega arith)) k refl

pub empty_rows : row_of empty_copies ≡ (λ i. blank_row)
unfolding row_of blank_row
empty_rows =
    fun_ext λ i. rw (replicated {A = ℕ} 0 copy_count (2 * i), replicated {A = ℕ} 0 copy_count (2 * i + 1))
    (ap (λ f. record { primary = blank; backup = blank; faults = f }) (fun_ext has_none))
  where
    blank : Copy
    blank = record { node = 0; start = 0; finish = 0 }

-- the set of task i meets m exactly if its fault set and that of s, which is m, have a common member
pub share_is : (job : Job) (cs : Copies) (n : ℕ) → Held job n cs → (m : ℕ) (s : Row) → has m ≡ s.faults
    → (i : ℕ) → i < n → meets (set_at cs (2 * i + 1)) m ≡ share_fault job (row_of cs i) s
unfolding share_fault row_of
share_is job cs n held m s is i p =
    subst (λ f. meets (set_at cs (2 * i + 1)) m ≡ any (domains job) (λ q. has (set_at cs (2 * i + 1)) q and f q)) is
    (meets_any (domains job) (set_at cs (2 * i + 1)) m (λ q. held.within i q p))
