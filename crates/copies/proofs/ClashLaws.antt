-- Laws of clashes: those on a node are all there are, and they are rule G.
use Prim.Native.Nat.{ℕ, ◌+◌, ◌*◌, ◌<◌, max, min}
use mathlib.Core.Bool.{Bool, true, not}
use mathlib.Core.Path.{◌≡◌, sym, ◌∙◌, ap, ap₂}
use lib.Dec.{ltb, eqb}
use borrow.Author.Tests.{ltb-true, lt-ltb}
use native.Mathlib.Omega.{arith}
use Rattle.reader.specs.declared.job.Job.{Job}
use Rattle.reader.specs.Tests.{◌and◌, ◌implies◌}
use Rattle.reader.specs.First.{every}
use Rattle.reader.proofs.TestLaws.{split, and_i, and_l, and_r, and_yes, and_no, same_test}
use Rattle.reader.proofs.FirstLaws.{every_i, every_e, every_same}
use Rattle.rules.specs.declared.Copy.{Copy}
use Rattle.rules.specs.Copies.{overlap, domains}
use Rattle.rules.specs.Rules.{Row, rule_g_primary, rule_g_backup}
use Rattle.copies.specs.declared.table.Copies.{Copies}
use Rattle.copies.specs.Sets.{has, meets, every_group}
use Rattle.copies.specs.Table.{node_at, start_at, entry, set_at, row_of, Held}
use Rattle.copies.specs.Layout.{timeline}
use Rattle.copies.specs.Clash.{clashes, free, hits, free_of}
use Rattle.copies.proofs.SetLaws.{meets_i, has_every}
use Rattle.copies.proofs.TableLaws.{each_entry, share_is}
use Rattle.copies.proofs.TimelineLaws.{all_timeline}

-- a copy is free of the entries on its node exactly if it is free of all
pub free_timeline : (cs : Copies) (m n k : ℕ) (c : Copy) → c.node ≡ n
    → free_of cs m c (timeline (start_at cs.start) (node_at cs.node) n k) ≡ free cs m c k
unfolding free free_of clashes hits ◌and◌ ◌implies◌
free_timeline cs m n k c on =
    all_timeline _ _ n _ k ∙ every_same k _ _ λ i p. rw on (split (eqb (node_at cs.node i) n) (λ e. rw e) (λ e. rw e))

-- two copies that last overlap exactly if each starts before the other's finish
ticks : (a f s d : ℕ) → a < f → s < d → (ltb a d and ltb s f) ≡ ltb (max a s) (min f d)
ticks a f s d p q =
    same_test _ _
    (λ h. let x = ltb-true a d (and_l _ _ h) in let y = ltb-true s f (and_r _ _ h) in lt-ltb (max a s) (min f d) (omega arith))
    (λ h. let x = ltb-true (max a s) (min f d) h in and_i _ _ (lt-ltb a d (omega arith)) (lt-ltb s f (omega arith)))

-- a test over pairs
pairs : (j : ℕ) (t : ℕ → Bool) → every (2 * j) t ≡ every j (λ i. t (2 * i) and t (2 * i + 1))
pairs j t =
    same_test _ _
    (λ h. every_i j _ (λ i p. and_i _ _ (every_e (2 * j) t h (2 * i) (omega arith)) (every_e (2 * j) t h (2 * i + 1) (omega arith))))
    (λ h. every_i (2 * j) t (each_entry (λ k. t k ≡ true) j
    (λ i p. and_l _ _ (every_e j (λ i. t (2 * i) and t (2 * i + 1)) h i p)) (λ i p. and_r _ _ (every_e j (λ i. t (2 * i) and t (2 * i + 1)) h i p))))

-- an entry clashes exactly if it overlaps and the sets meet
pub clashes_is : (m : ℕ) (c e : Copy) (z : ℕ) → e.start < e.finish → c.start < c.finish → clashes m c e z ≡ (overlap e c and meets z m)
unfolding clashes overlap ◌and◌
clashes_is m c e z p q =
    split (eqb e.node c.node)
    (λ n. split (meets z m)
    (λ s. rw (n, s) (ticks e.start e.finish c.start c.finish p q ∙ sym (and_yes _)))
    (λ s. rw (n, s) (sym (and_no (ltb (max e.start c.start) (min e.finish c.finish))))))
    (λ n. rw n)

-- a copy of task j against the tasks before it
module _ (job : Job) (cs : Copies) (j : ℕ) (held : Held job j cs) (c : Copy) (lasts : c.start < c.finish) where
  pub meets_only : (m k : ℕ) → k < 2 * j → meets (set_at cs k) m ≡ true → clashes m c (entry cs k) (set_at cs k) ≡ overlap (entry cs k) c
  meets_only m k p s =
      clashes_is m c (entry cs k) (set_at cs k) (held.lasts k p) lasts ∙ ap (λ b. overlap (entry cs k) c and b) s ∙ and_yes _

  pub free_primary : free cs every_group c (2 * j) ≡ every j (λ i. rule_g_primary (row_of cs i) c)
  unfolding free rule_g_primary row_of
  free_primary =
      pairs j _ ∙ every_same j _ _ λ i p.
      ap₂ (λ x y. not x and not y)
      (meets_only every_group (2 * i) (omega arith)
      (rw (held.primary_set i p) (meets_i every_group every_group 0 (has_every 0 (omega arith)) (has_every 0 (omega arith)))))
      (meets_only every_group (2 * i + 1) (omega arith)
      (meets_i _ every_group _ (held.own i p) (has_every _ (omega (arith, held.within i _ p (held.own i p))))))

  -- of a backup, whose fault set holds `own`
  module _ (m own : ℕ) (s : Row) (b : s.backup ≡ c) (is : has m ≡ s.faults) (at : own < domains job) (here : has m own ≡ true) where
    pub free_backup : free cs m c (2 * j) ≡ every j (λ i. rule_g_backup job (row_of cs i) s)
    unfolding free rule_g_backup row_of
    free_backup =
        pairs j _ ∙ every_same j _ _ λ i p.
        ap₂ (λ x y. not x and not y)
        (meets_only m (2 * i) (omega arith) (rw (held.primary_set i p) (meets_i every_group m own (has_every own (omega arith)) here))
        ∙ ap (overlap (entry cs (2 * i))) (sym b))
        (clashes_is m c (entry cs (2 * i + 1)) (set_at cs (2 * i + 1)) (held.lasts (2 * i + 1) (omega arith)) lasts
        ∙ ap₂ (λ x y. x and y) (ap (overlap (entry cs (2 * i + 1))) (sym b)) (share_is job cs j held m s is i p))
