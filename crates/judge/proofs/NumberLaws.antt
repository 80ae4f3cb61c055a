-- Fault sets as numbers, whatever the rules say of a plan: the table's, and what each bit says.
use Prim.Native.Nat.{ℕ, ◌+◌, ◌*◌, ◌^◌, ◌≤◌, ◌<◌}
use mathlib.Core.Bool.{true, false}
use mathlib.Core.List.{List}
use mathlib.Core.Path.{◌≡◌, sym, ◌∙◌}
use mathlib.Core.Logic.{◌↔◌}
use native.Mathlib.Decide.{dec_lt}
use native.Mathlib.Omega.{arith}
use lib.ListN.{get_or}
use lib.Pow.{pow_mono}
use Rattle.reader.specs.declared.job.Job.{Job}
use Rattle.reader.specs.declared.plan.Plan.{Plan}
use Rattle.reader.specs.Entries.{tasks}
use Rattle.reader.specs.Sound.{Sound, PlanSound}
use Rattle.reader.proofs.TestLaws.{not_true}
use Rattle.rules.specs.Copies.{domains}
use Rattle.rules.specs.Rules.{rows}
use Rattle.rules.specs.Paths.{InFaultSet}
use Rattle.rules.specs.Gathering.{fault_number}
use Rattle.rules.proofs.FaultPaths.{fault_set_is}
use Rattle.copies.specs.Sets.{has}
use Rattle.copies.specs.Gathered.{SetsTo}
use Rattle.copies.proofs.MemberLaws.{has_part}
use Rattle.copies.proofs.GatherLaws.{all_gathered}
use Rattle.copies.proofs.NumberLaws.{number_is, number_has, number_below}
use Rattle.judge.proofs.PlanLaws.{faults_low}

-- a number of 4 bytes
pub fault_number_fits : (job : Job) (plan : Plan) (j : ℕ) → fault_number job plan j < 2 ^ 32
unfolding fault_number
fault_number_fits job plan j = omega (arith, number_below (domains job) (rows job plan j).faults)

module _ (job : Job) (plan : Plan) (sound : Sound job) (reads : PlanSound job plan) (j : ℕ) (low : j < tasks job) where
  -- nothing but groups is in a fault set
  none_beyond : (q : ℕ) → domains job ≤ q → (rows job plan j).faults q ≡ false
  none_beyond q high = not_true _ λ h. let b = faults_low job plan sound reads (tasks job) j q low (omega arith) h in omega arith

  pub fault_number_lem : (sets : List ℕ) → SetsTo job plan (tasks job) sets → get_or sets (2 * j + 1) 0 ≡ fault_number job plan j
  unfolding fault_number
  fault_number_lem sets filled =
      number_is (domains job) _ (rows job plan j).faults (λ q. all_gathered job plan sets filled j q low) none_beyond

  -- bit q says whether q is in the fault set of document 01, by paths of weak links
  bit_is : (q : ℕ) → has (fault_number job plan j) q ≡ (rows job plan j).faults q
  unfolding fault_number
  bit_is q =
      elim (dec_lt q (domains job)) [
        | yes p ↦ number_has (domains job) q (rows job plan j).faults p
        | no p ↦
            let high : domains job ≤ q = omega arith in
            not_true _ (λ h. let part = has_part _ q h in let most = pow_mono high in
            let below = number_below (domains job) (rows job plan j).faults in omega arith)
            ∙ sym (none_beyond q high)
      ]

  pub fault_bit : (q : ℕ) → (has (fault_number job plan j) q ≡ true) ↔ InFaultSet job (rows job plan) j q
  fault_bit q = let w = fault_set_is job plan sound j q low in (λ h. w.0 (sym (bit_is q) ∙ h), λ x. bit_is q ∙ w.1 x)
