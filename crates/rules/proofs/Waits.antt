-- Request (i): a plan that passed under E of document 01 passes, and a judge or planner that asks more or less is told from ours.
use Prim.Native.Nat.{ℕ, ◌≤◌}
use mathlib.Core.Bool.{true}
use mathlib.Core.Path.{◌≡◌, refl, sym, ◌∙◌, ap, subst}
use mathlib.Core.Option.{none}
use lib.Dec.{eqb, lit<}
use borrow.Author.Tests.{eqb-true}
use native.Mathlib.Omega.{arith}
use Rattle.reader.specs.declared.job.Job.{Job}
use Rattle.reader.specs.declared.job.Link.{Link}
use Rattle.reader.specs.declared.plan.Plan.{Plan}
use Rattle.reader.specs.declared.refusal.Refusal.TheVariants.{BackupUnfed, CommonLoss, NoBackup}
use Rattle.std.specs.Prelude.{Ok, Err}
use Rattle.reader.specs.Tests.{◌implies◌}
use Rattle.reader.specs.Entries.{link}
use Rattle.reader.specs.Refusals.{answered}
use Rattle.reader.specs.Samples.{J, JWithDelay}
use Rattle.reader.proofs.TestLaws.{split, and_l, and_r, and_i, imp_i}
use Rattle.reader.proofs.FirstLaws.{first_same, first_none, none_first}
use Rattle.reader.proofs.RefusalLaws.{answered_done}
use Rattle.rules.specs.declared.Loss.TheVariants.{Lost}
use Rattle.rules.specs.Rules.{Row, rows, share_fault, rule_e}
use Rattle.rules.specs.Judge.{judge}
use Rattle.rules.specs.Replay.{replay}
use Rattle.rules.specs.Survival.{Survives}
use Rattle.rules.specs.Attempts.{refused, placed}
use Rattle.rules.specs.Planner.{planner}
use Rattle.rules.specs.Breach.{found, Everywhere, check}
use Rattle.rules.specs.Samples.{written, wrote, plan8}
use Rattle.rules.specs.Waits.{waits_for_both, check_by, judge_by, never_waits, waits_by_primaries, waits_by_earlier}
use Rattle.rules.specs.Waits.{weak_plan, slow_links, slow_plan, crowded, crowded_plan, one_plan, lost_plan}
use Rattle.rules.proofs.JudgeLaws.{found_none, breach_first}
use Rattle.rules.proofs.Samples.{computed}

module _ (job : Job) (l : Link) (r s : Row) where
  -- a link that kept E of document 01 keeps E
  pub both_keeps : waits_for_both job l r s ≡ true → rule_e job l r s ≡ true
  unfolding waits_for_both rule_e
  both_keeps h = and_i _ _ (and_l _ _ h) (imp_i _ _ λ c. and_r _ _ h)

  -- and where the fault sets have a common member the two are one
  pub both_shared : share_fault job r s ≡ true → rule_e job l r s ≡ waits_for_both job l r s
  unfolding waits_for_both rule_e ◌implies◌
  both_shared c = rw c

module _ (job : Job) (plan : Plan) where
  abbrev t : ℕ → Row
  t = rows job plan

  -- with rule E in its own place it is the judge
  pub judge_by_lem : judge_by rule_e job plan ≡ judge job plan
  unfolding judge_by judge
  judge_by_lem = ap answered (first_same 8 _ _ (λ n p. same n) ∙ breach_first job t)
    where
      same : (n : ℕ) → found job (check_by rule_e job t n) ≡ found job (check job t n)
      same n =
          split (eqb n 5)
          (λ e. subst (λ m. found job (check_by rule_e job t m) ≡ found job (check job t m)) (sym (eqb-true n 5 e)) refl)
          (λ e. rw e)

  holds : (n : ℕ) → found job (check_by waits_for_both job t n) ≡ none → Everywhere job (check job t n)
  holds n h =
      split (eqb n 5)
      (λ e. subst (λ m. Everywhere job (check job t m)) (sym (eqb-true n 5 e))
      (λ k p. both_keeps job (link job k) _ _ ((found_none job (check_by waits_for_both job t 5)).0 (rw e at h) k p)))
      (λ e. (found_none job (check job t n)).0 (rw e at h))

  -- no plan that passed under E of document 01 is turned down
  pub still_passed : judge_by waits_for_both job plan ≡ Ok tt → judge job plan ≡ Ok tt
  unfolding judge_by judge
  still_passed passed =
      (answered_done _).1
      (sym (breach_first job t) ∙ first_none 8 _ λ n p. (found_none job (check job t n)).1 (holds n (none_first 8 _ ((answered_done _).0 passed) n p)))

-- sample 8 did not pass
pub sample_eight : (judge_by waits_for_both (JWithDelay 6) plan8 ≡ Err (BackupUnfed 0 1)) × (judge (JWithDelay 6) plan8 ≡ Ok tt)
unfolding computed waits_for_both judge_by
sample_eight = (refl, refl)

-- passed by each of three that ask too little, refused 12 by the rules; the loss leaves task 1 without a finished copy
pub fewer_waits :
    (judge_by never_waits J weak_plan ≡ Ok tt)
    × (judge_by waits_by_primaries J weak_plan ≡ Ok tt)
    × (judge_by waits_by_earlier J weak_plan ≡ Ok tt)
    × (judge J weak_plan ≡ Err (BackupUnfed 0 1))
    × (written J weak_plan (Lost 0 3) 1 ≡ wrote 0 0 0)
    × (Survives J (rows J weak_plan) (Lost 0 3) (replay J weak_plan (Lost 0 3)) → ⊥)
unfolding computed judge_by never_waits waits_by_primaries waits_by_earlier
fewer_waits = (refl, refl, refl, refl, refl, λ s. let b : 1 ≤ 0 = s.finish_least 1 (lit< tt) in omega arith)

-- the last backup stands a tick earlier than E of document 01 let it
pub earlier_backup :
    (planner slow_links ≡ placed (slow_plan 10))
    × (judge_by waits_for_both slow_links (slow_plan 10) ≡ Err (BackupUnfed 1 2))
    × (judge_by waits_for_both slow_links (slow_plan 11) ≡ Ok tt)
unfolding computed waits_for_both judge_by
earlier_backup = (refl, refl, refl)

-- where it stands in the way of a later backup: the planner never goes back, so that a job may be refused of which a plan passed and passes
pub earlier_in_the_way :
    (planner crowded ≡ refused (NoBackup 3)) × (judge_by waits_for_both crowded crowded_plan ≡ Ok tt) × (judge crowded crowded_plan ≡ Ok tt)
unfolding computed waits_for_both judge_by
earlier_in_the_way = (refl, refl, refl)

-- where two links break E the first is named, the second once the first keeps it
pub first_unfed :
    (judge slow_links (one_plan 10) ≡ Err (BackupUnfed 0 2))
    × (judge slow_links (one_plan 11) ≡ Err (BackupUnfed 1 2))
    × (judge slow_links (one_plan 13) ≡ Ok tt)
unfolding computed
first_unfed = (refl, refl, refl)

-- and 12 goes before 13, though both ask for fault sets
pub unfed_before_lost : (judge J (lost_plan 10) ≡ Err (BackupUnfed 0 1)) × (judge J (lost_plan 11) ≡ Err (CommonLoss 1))
unfolding computed
unfed_before_lost = (refl, refl)
