-- What the judge's answer says: passed is every rule everywhere, and a refusal names the first breach in document 01's order.
use Prim.Native.Nat.{ℕ, zero, suc, ◌<◌}
use mathlib.Core.Path.{◌≡◌, sym, ◌∙◌}
use mathlib.Core.Option.{none, some}
use mathlib.Core.Logic.{◌↔◌}
use lib.Dec.{lit<}
use native.Mathlib.Omega.{arith}
use Rattle.reader.specs.declared.job.Job.{Job}
use Rattle.reader.specs.declared.plan.Plan.{Plan}
use Rattle.reader.specs.declared.refusal.Refusal.{Refusal}
use Rattle.std.specs.Prelude.{Ok, Err}
use Rattle.reader.specs.First.{◌or_else◌, first}
use Rattle.reader.specs.Entries.{tasks, links}
use Rattle.reader.specs.Refusals.{tell}
use Rattle.reader.proofs.FirstLaws.{first_none, none_first, first_some, some_first, or_else_join}
use Rattle.reader.proofs.FirstFails.{no_fail, first_fail, no_pair_fail, first_pair_fail}
use Rattle.reader.proofs.RefusalLaws.{answered_done, answered_refused}
use Rattle.rules.specs.Rules.{Row, rows}
use Rattle.rules.specs.Judge.{first_task, first_link, first_pair, breach, judge}
use Rattle.rules.specs.Breach.{Check, on_tasks, on_links, on_pairs, found, Everywhere, Broken, check, rule_number, Kept, FirstBreach}

pub found_none : (job : Job) (c : Check) → (found job c ≡ none) ↔ Everywhere job c
unfolding first_task first_link first_pair
found_none job (on_tasks refusal rule) = no_fail (tasks job) rule refusal
found_none job (on_links refusal rule) = no_fail (links job) _ _
found_none job (on_pairs refusal rule) = no_pair_fail (tasks job) rule refusal

pub found_some : (job : Job) (c : Check) (r : Refusal) → (found job c ≡ some r) ↔ Broken job c r
unfolding first_task first_link first_pair
found_some job (on_tasks refusal rule) = first_fail (tasks job) rule refusal
found_some job (on_links refusal rule) = first_fail (links job) _ _
found_some job (on_pairs refusal rule) = first_pair_fail (tasks job) rule refusal

pub breach_first : (job : Job) (t : ℕ → Row) → first 8 (λ n. found job (check job t n)) ≡ breach job t
unfolding breach first ◌or_else◌
breach_first job t = simp or_else_join

-- what holds of each of 0 to 7 holds below 8
pub eight : (P : ℕ → Type 0) → P 0 → P 1 → P 2 → P 3 → P 4 → P 5 → P 6 → P 7 → (n : ℕ) → n < 8 → P n
eight P a b c d e f g h zero p = a
eight P a b c d e f g h (suc zero) p = b
eight P a b c d e f g h (suc (suc zero)) p = c
eight P a b c d e f g h (suc (suc (suc zero))) p = d
eight P a b c d e f g h (suc (suc (suc (suc zero)))) p = e
eight P a b c d e f g h (suc (suc (suc (suc (suc zero))))) p = f
eight P a b c d e f g h (suc (suc (suc (suc (suc (suc zero)))))) p = g
eight P a b c d e f g h (suc (suc (suc (suc (suc (suc (suc zero))))))) p = h
eight P a b c d e f g h (suc (suc (suc (suc (suc (suc (suc (suc n)))))))) p = absurd (let z : ⊥ = omega arith in z)

module _ (job : Job) (t : ℕ → Row) where
  kept_check : Kept job t → (n : ℕ) → n < 8 → Everywhere job (check job t n)
  kept_check k = eight (λ n. Everywhere job (check job t n)) k.a k.ready k.b k.c k.d k.e k.f k.g

  pub no_breach : (breach job t ≡ none) ↔ Kept job t
  no_breach = (
    λ h.
        let holds : (n : ℕ) → n < 8 → Everywhere job (check job t n) =
        λ n p. (found_none job (check job t n)).0 (none_first 8 _ (breach_first job t ∙ h) n p) in
        record {
          a = holds 0 (lit< tt);
          ready = holds 1 (lit< tt);
          b = holds 2 (lit< tt);
          c = holds 3 (lit< tt);
          d = holds 4 (lit< tt);
          e = holds 5 (lit< tt);
          f = holds 6 (lit< tt);
          g = holds 7 (lit< tt);
        },
    λ k. sym (breach_first job t) ∙ first_none 8 _ (λ n p. (found_none job (check job t n)).1 (kept_check k n p)),
  )

  check_number : (r : Refusal) (n : ℕ) → n < 8 → Broken job (check job t n) r → (tell r).number ≡ rule_number n
  check_number r =
      eight (λ n. Broken job (check job t n) r → (tell r).number ≡ rule_number n)
      (λ w. rw (← w.2)) (λ w. rw (← w.2)) (λ w. rw (← w.2)) (λ w. rw (← w.2)) (λ w. rw (← w.2)) (λ w. rw (← w.2)) (λ w. rw (← w.2))
      (λ w. rw (← w.3))

  pub first_breach : (r : Refusal) → (breach job t ≡ some r) ↔ FirstBreach job t r
  first_breach r = (
    λ h.
        let hit = first_some 8 _ r (breach_first job t ∙ h) in
        let w = (found_some job (check job t hit.at) r).0 hit.is in
        record {
          rule = hit.at;
          known = hit.below;
          number = check_number r hit.at hit.below w;
          broken = w;
          before = λ n p. (found_none job (check job t n)).0 (hit.least n p);
        },
    λ b. sym (breach_first job t) ∙ some_first 8 _ r
        (record {
          at = b.rule;
          below = b.known;
          is = (found_some job (check job t b.rule) r).1 b.broken;
          least = λ n p. (found_none job (check job t n)).1 (b.before n p);
        }),
  )

module _ (job : Job) (plan : Plan) where
  pub judge_done : (judge job plan ≡ Ok tt) ↔ Kept job (rows job plan)
  unfolding judge
  judge_done =
      (λ h. (no_breach job _).0 ((answered_done _).0 h), λ k. (answered_done _).1 ((no_breach job _).1 k))

  pub judge_refused : (r : Refusal) → (judge job plan ≡ Err r) ↔ FirstBreach job (rows job plan) r
  unfolding judge
  judge_refused r =
      (λ h. (first_breach job _ r).0 ((answered_refused _ r).0 h), λ b. (answered_refused _ r).1 ((first_breach job _ r).1 b))
