-- Arrival on numbers is that of the rules.
use Prim.Native.Nat.{ℕ, ◌+◌, ◌*◌, ◌≤◌, ◌<◌, max}
use mathlib.Core.List.{List}
use mathlib.Core.Path.{◌≡◌, sym, ◌∙◌, ap, ap₂}
use lib.Dec.{leb, eqb}
use lib.ListN.{get_or, set, length, length-set, replicate}
use lib.Seq.{get_or-set_same, get_or-set_other}
use borrow.Author.Tests.{leb-true, le-leb, eqb-true, eqb-false}
use native.Mathlib.Omega.{arith}
use Rattle.reader.specs.declared.job.Job.{Job}
use Rattle.reader.specs.declared.job.Link.{Link}
use Rattle.reader.specs.Limits.{max_send, max_time, max_start}
use Rattle.reader.specs.Tests.{◌and◌, ◌implies◌}
use Rattle.reader.proofs.TestLaws.{split, below_suc, and_i, and_l, and_r, same_test}
use Rattle.rules.specs.declared.Copy.{Copy}
use Rattle.rules.specs.Copies.{delay, in_time}
use Rattle.rules.specs.Rules.{Row, rule_e}
use Rattle.copies.specs.declared.table.Copies.{Copies}
use Rattle.copies.specs.Sets.{has}
use Rattle.copies.specs.Arrival.{arrival_of, comes, fed_of, leave_of, result_of, result_at, Leaving}
use Rattle.copies.specs.Table.{copy_count, entry, set_at, row_of, Held}
use Rattle.copies.proofs.ListMore.{replicated}
use Rattle.copies.proofs.TableLaws.{share_is}

pub comes_is : (job : Job) (l : Link) (c d : Copy) → comes (result_of job l c) d ≡ in_time job l c d
unfolding arrival_of in_time delay
comes_is job l c d =
    split (eqb c.node d.node)
    (λ e. rw e (ap (λ x. leb x d.start) (omega arith)))
    (λ e. rw e (ap (λ x. leb x d.start) (omega arith)))

-- and E, between task i of a table and the backup of another task, whose fault set is m
pub backup_fed : (job : Job) (cs : Copies) (n : ℕ) → Held job n cs → (m : ℕ) (s : Row) → has m ≡ s.faults → (l : Link) (i : ℕ) → i < n
    → fed_of (result_of job l (entry cs (2 * i))) (result_of job l (entry cs (2 * i + 1))) (set_at cs (2 * i + 1)) s.backup m ≡ rule_e job l (row_of cs i) s
unfolding rule_e row_of
backup_fed job cs n held m s is l i p =
    ap₂ ◌and◌ (comes_is job l _ _) (ap₂ ◌implies◌ (share_is job cs n held m s is i p) (comes_is job l _ _))

-- when results leave: by the column
module _ (job : Job) (n : ℕ) (cs : Copies) (leave : List ℕ) (h : Leaving job n cs leave) where
  pub result_is : (l : Link) (k : ℕ) → k < n → result_at cs.node cs.finish leave l.delay k ≡ result_of job l (entry cs k)
  result_is l k p = rw (h.is k p)

  -- with one entry more
  pub leaving_more : (r : Copies) → ((k : ℕ) → k < n → entry r k ≡ entry cs k) → n < copy_count
      → (a : ℕ) → a ≡ leave_of job (entry r n) → a ≤ max_start + max_time + max_send → Leaving job (n + 1) r (set leave n a)
  leaving_more r old room a e most =
      record {
        size = length-set leave n a ∙ h.size;
        soon = λ k. split (eqb k n)
            (λ q. rw (eqb-true k n q, here) most)
            (λ q. rw (get_or-set_other leave n k a 0 (eqb-false k n q)) (h.soon k));
        is = λ k p. below_suc k n (omega arith)
            (λ q. get_or-set_other leave n k a 0 (omega arith) ∙ h.is k q ∙ ap (leave_of job) (sym (old k q)))
            (λ q. rw (q, here) e);
      }
    where
      here : get_or (set leave n a) n 0 ≡ a
      here = get_or-set_same leave n a 0 (omega (arith, h.size))

pub leaving_start : (job : Job) (cs : Copies) (leave : List ℕ) → leave ≡ replicate copy_count 0 → Leaving job 0 cs leave
leaving_start job cs leave e =
    record {
      size = ap length e;
      soon = λ k. rw e (omega (arith, replicated {A = ℕ} 0 copy_count k));
      is = λ k p. absurd (let z : ⊥ = omega arith in z);
    }

-- by the start the later of two is there exactly if both are
pub leb_max : (a b s : ℕ) → leb (max a b) s ≡ (leb a s and leb b s)
leb_max a b s =
    same_test _ _
    (λ h. let q = leb-true (max a b) s h in and_i _ _ (le-leb a s (omega arith)) (le-leb b s (omega arith)))
    (λ h. let q = leb-true a s (and_l _ _ h) in let w = leb-true b s (and_r _ _ h) in le-leb (max a b) s (omega arith))
