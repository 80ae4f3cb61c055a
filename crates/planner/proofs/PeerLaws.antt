-- Laws of the nodes by group: one node more, and what is joined of them for a set of groups.
use Prim.Native.Nat.{ℕ, ◌+◌, ◌*◌, ◌^◌, ◌<◌, ◌≤◌}
use mathlib.Core.Bool.{true}
use mathlib.Core.List.{List}
use mathlib.Core.Path.{◌≡◌, refl, sym, ◌∙◌, ap, ap₂, subst}
use native.Mathlib.Omega.{arith}
use lib.Bits.{bit_or}
use lib.Dec.{ltb, eqb}
use lib.ListN.{get_or, set, length, replicate, length-set}
use lib.Seq.{get_or-set_same, get_or-set_other}
use borrow.Author.Tests.{eqb-true, eqb-false, eq-eqb, ltb-true, lt-ltb, le-ltb}
use Rattle.reader.specs.declared.job.Node.{Node}
use Rattle.reader.specs.Tests.{◌and◌, ◌or◌}
use Rattle.reader.specs.First.{any}
use Rattle.reader.specs.Limits.{max_group, max_tasks}
use Rattle.reader.specs.Entries.{no_node}
use Rattle.reader.proofs.TestLaws.{split, below_suc, and_i, and_l, and_r, and_unless, or_l, or_r, or_e, same_test}
use Rattle.reader.proofs.FirstLaws.{any_i, any_e}
use Rattle.copies.specs.Sets.{has}
use Rattle.copies.specs.Gathered.{joined}
use Rattle.copies.specs.Table.{copy_count}
use Rattle.copies.proofs.ListMore.{replicated}
use Rattle.copies.proofs.SetLaws.{has_none, has_one, has_union}
use Rattle.planner.specs.Faults.{Peers}

module _ (list : List Node) where
  abbrev group : ℕ → ℕ
  group i = (get_or list i no_node).group

  pub peers_start : (peers : List ℕ) → peers ≡ replicate copy_count 0 → Peers list 0 peers
  peers_start peers e =
      record {
        size = ap length e;
        is = λ q i p.
            ap (λ s. has s i) (ap (λ l. get_or l (2 * q + 1) 0) e ∙ replicated 0 copy_count (2 * q + 1)) ∙ has_none i
            ∙ sym (and_unless _ _ (le-ltb i 0 (omega arith)));
      }

  -- one node more, in group g
  pub peers_more : (i : ℕ) (peers : List ℕ) (bit : ℕ) → Peers list i peers → group i ≤ max_group → bit ≡ 2 ^ i
      → Peers list (i + 1) (set peers (2 * group i + 1) (bit_or (get_or peers (2 * group i + 1) 0) bit))
  peers_more i peers bit h most e =
      record {
        size = length-set peers (2 * g + 1) now ∙ h.size;
        is = λ q k p. split (eqb g q)
            (λ same. subst (λ q. has (get_or after (2 * q + 1) 0) k ≡ (ltb k (i + 1) and eqb (group k) q)) (eqb-true g q same) (here k))
            (λ other. away q k p (eqb-false g q other));
      }
    where
      g : ℕ
      g = group i

      now : ℕ
      now = bit_or (get_or peers (2 * g + 1) 0) bit

      after : List ℕ
      after = set peers (2 * g + 1) now

      here : (k : ℕ) → has (get_or after (2 * g + 1) 0) k ≡ (ltb k (i + 1) and eqb (group k) g)
      here k =
          ap (λ s. has s k) (get_or-set_same peers (2 * g + 1) now 0 (omega (arith, h.size)))
          ∙ has_union _ bit k
          ∙ ap₂ ◌or◌ (h.is g k (omega arith)) (ap (λ b. has b k) e ∙ has_one i k)
          ∙ same_test _ _
          (λ t. or_e _ _ t
          (λ old. and_i _ _ (lt-ltb k (i + 1) (omega (arith, ltb-true k i (and_l _ _ old)))) (and_r _ _ old))
          (λ new. let same = eqb-true i k new in and_i _ _ (lt-ltb k (i + 1) (omega arith)) (eq-eqb _ _ (ap group (sym same)))))
          (λ t. below_suc k i (omega (arith, ltb-true k (i + 1) (and_l _ _ t)))
          (λ p. or_l _ _ (and_i _ _ (lt-ltb k i p) (and_r _ _ t)))
          (λ same. or_r _ _ (eq-eqb i k (sym same))))

      away : (q k : ℕ) → q < max_tasks → (g ≡ q → ⊥) → has (get_or after (2 * q + 1) 0) k ≡ (ltb k (i + 1) and eqb (group k) q)
      away q k p other =
          ap (λ s. has s k) (get_or-set_other peers (2 * g + 1) (2 * q + 1) now 0 (λ z. other (omega arith)))
          ∙ h.is q k p
          ∙ same_test _ _
          (λ t. and_i _ _ (lt-ltb k (i + 1) (omega (arith, ltb-true k i (and_l _ _ t)))) (and_r _ _ t))
          (λ t. below_suc k i (omega (arith, ltb-true k (i + 1) (and_l _ _ t)))
          (λ p. and_i _ _ (lt-ltb k i p) (and_r _ _ t))
          (λ same. absurd (other (ap group (sym same) ∙ eqb-true (group k) q (and_r _ _ t)))))

  -- joined for a set of groups they are the nodes whose group is in it
  pub peers_joined : (n : ℕ) (peers : List ℕ) → Peers list n peers → (s i : ℕ) → i < n → group i ≤ max_group
      → joined 0 s peers i ≡ has s (group i)
  unfolding joined ◌or◌
  peers_joined n peers h s i low most =
      ap (λ b. b or any max_tasks (λ q. has s q and has (get_or peers (2 * q + 1) 0) i)) (has_none i)
      ∙ same_test _ _
      (λ t. any_e max_tasks _ t λ q p e.
      let its = eqb-true (group i) q (and_r _ _ (sym (h.is q i p) ∙ and_r _ _ e)) in
      subst (λ x. has s x ≡ true) (sym its) (and_l _ _ e))
      (λ t. let p : group i < max_tasks = omega arith in
      any_i max_tasks _ (group i) p (and_i _ _ t (h.is (group i) i p ∙ and_i _ _ (lt-ltb i n low) (eq-eqb (group i) (group i) refl))))
