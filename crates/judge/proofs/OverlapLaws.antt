-- Rule G over entries is the rule.
use Prim.Native.Nat.{ℕ, ◌+◌, ◌*◌, ◌<◌}
use mathlib.Core.Bool.{true, not}
use mathlib.Core.Path.{◌≡◌, refl, ◌∙◌, ap, ap₂}
use native.Mathlib.Omega.{arith}
use lib.Dec.{ltb}
use borrow.Author.Tests.{ltb-true}
use Rattle.reader.specs.declared.job.Job.{Job}
use Rattle.reader.specs.declared.refusal.Refusal.TheVariants.{Overlap}
use Rattle.reader.specs.Entries.{tasks}
use Rattle.reader.specs.Tests.{◌and◌, ◌implies◌}
use Rattle.reader.specs.First.{first}
use Rattle.reader.proofs.TestLaws.{split}
use Rattle.reader.proofs.FirstLaws.{first_same}
use Rattle.rules.specs.Copies.{overlap, domain}
use Rattle.rules.specs.Rules.{rule_g, rule_g_primary, rule_g_backup}
use Rattle.rules.specs.Judge.{first_pair}
use Rattle.copies.specs.declared.table.Copies.{Copies}
use Rattle.copies.specs.Sets.{has, meets, every_group}
use Rattle.copies.specs.Table.{entry, set_at, row_of, Held}
use Rattle.copies.specs.Clash.{clashes}
use Rattle.copies.proofs.SetLaws.{has_every, meets_i}
use Rattle.copies.proofs.TableLaws.{share_is}
use Rattle.copies.proofs.ClashLaws.{clashes_is, meets_only}
use Rattle.judge.specs.Overlaps.{apart, pair_apart, pair_breach}

module _ (job : Job) (cs : Copies) (held : Held job (tasks job) cs) where
  -- entries whose sets meet: an overlap is a clash
  both_meet : (a k : ℕ) → a < 2 * tasks job → k < 2 * tasks job → meets (set_at cs a) (set_at cs k) ≡ true
      → clashes (set_at cs k) (entry cs k) (entry cs a) (set_at cs a) ≡ overlap (entry cs a) (entry cs k)
  both_meet a k p q m = meets_only job cs (tasks job) held (entry cs k) (held.lasts k q) (set_at cs k) a p m

  in_every : (i : ℕ) → i < tasks job → has every_group (domain job (entry cs (2 * i)).node) ≡ true
  in_every i p = has_every _ (omega (arith, held.within i _ p (held.own i p)))

  module _ (i j : ℕ) (rises : i < j) (low : j < tasks job) where
    pub pair_is : pair_apart cs i j ≡ rule_g job (row_of cs i) (row_of cs j)
    unfolding pair_apart apart row_of rule_g rule_g_primary rule_g_backup
    pair_is =
        let pi : i < tasks job = omega arith in
        ap₂ ◌and◌
        (ap₂ (λ x y. not x and not y)
        (both_meet (2 * i) (2 * j) (omega arith) (omega arith)
        (rw (held.primary_set i pi, held.primary_set j low) (meets_i every_group every_group 0 (has_every 0 (omega arith)) (has_every 0 (omega arith)))))
        (both_meet (2 * i + 1) (2 * j) (omega arith) (omega arith) (rw (held.primary_set j low) (meets_i _ every_group _ (held.own i pi) (in_every i pi)))))
        (ap₂ (λ x y. not x and not y)
        (both_meet (2 * i) (2 * j + 1) (omega arith) (omega arith) (rw (held.primary_set i pi) (meets_i every_group _ _ (in_every j low) (held.own j low))))
        (clashes_is _ _ _ _ (held.lasts (2 * i + 1) (omega arith)) (held.lasts (2 * j + 1) (omega arith))
        ∙ ap (λ b. overlap (entry cs (2 * i + 1)) (entry cs (2 * j + 1)) and b) (share_is job cs (tasks job) held _ (row_of cs j) refl i pi)))

  pub pairs_are : first (tasks job) (pair_breach cs (tasks job)) ≡ first_pair job Overlap (λ i j. rule_g job (row_of cs i) (row_of cs j))
  unfolding pair_breach first_pair ◌implies◌
  pairs_are =
      first_same (tasks job) _ _ λ i p. first_same (tasks job) _ _ λ j q.
      split (ltb i j) (λ e. rw (e, pair_is i j (ltb-true i j e) q)) (λ e. rw e)
