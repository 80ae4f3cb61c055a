-- Fault sets at the level of bytes: where the call answers 0, bit q of task j's number says whether document 01 has q in j's fault set.
use Prim.Native.Nat.{ℕ, ◌+◌, ◌*◌, ◌<◌}
use mathlib.Core.Bool.{true}
use mathlib.Core.Path.{◌≡◌, refl, sym, ap, ◌∙◌}
use mathlib.Core.List.{List, [], ◌∷◌}
use mathlib.Core.Logic.{◌↔◌}
use native.Mathlib.Omega.{arith}
use Rattle.reader.specs.declared.job.Job.{Job}
use Rattle.reader.specs.declared.plan.Plan.{Plan}
use Rattle.reader.specs.Entries.{tasks}
use Rattle.reader.specs.Number.{number_at}
use Rattle.reader.specs.Refusals.{result_number}
use Rattle.reader.specs.Sound.{Sound, PlanSound}
use Rattle.reader.specs.JobFile.{job_at}
use Rattle.reader.proofs.FirstLaws.{or_else_l}
use Rattle.reader.proofs.RefusalLaws.{answered_done}
use Rattle.reader.proofs.PackingLaws.{result_done}
use Rattle.writer.specs.Write.{writes}
use Rattle.rules.specs.Rules.{rows}
use Rattle.rules.specs.Paths.{InFaultSet}
use Rattle.rules.specs.Gathering.{fault_number}
use Rattle.copies.specs.Sets.{has}
use Rattle.judge.proofs.NumberLaws.{fault_number_fits, fault_bit}
use Rattle.replay.proofs.PackLaws.{row_number}
use Rattle.replay.proofs.BytesSurvive.{number_front}
use Rattle.seqopchi.specs.Files.{plan_in, fault_bytes, sets_fault, sets_files}
use Rattle.seqopchi.proofs.ReadLaws.{files_sound}
use Rattle.seqopchi.proofs.SetsLaws.{length_faults}

module _ (file plan out : List ℕ) (done : result_number (sets_files file plan out).answer ≡ 0) where
  abbrev job : Job
  job = job_at file

  abbrev places : Plan
  places = plan_in file plan

  sound_files : Sound job × PlanSound job places
  unfolding sets_files sets_fault
  sound_files = files_sound file plan (or_else_l _ _ ((answered_done (sets_fault file plan out)).0 (result_done _ done)))

  -- the number of task j, where it stands
  number_there : (j : ℕ) → j < tasks job → number_at (sets_files file plan out).buffer (4 * j) ≡ fault_number job places j
  unfolding sets_files fault_bytes
  number_there j p =
      let s = fault_bytes job places in
      let no_fault = (answered_done (sets_fault file plan out)).0 (result_done _ done) in
      let fits = fault_number_fits job places j in
      ap (λ o. number_at (writes o s out).buffer (4 * j)) no_fault
      ∙ number_front s _ (4 * j) (omega (arith, length_faults job places))
      ∙ ap (λ at. number_at s at) (let e : 4 * j ≡ 4 * (1 * j + 0) = omega arith in e)
      ∙ row_number 1 (λ j. fault_number job places j ∷ []) (λ j. refl) (tasks job) j 0 p (omega arith) fits

  pub told_sets : (j q : ℕ) → j < tasks (job_at file)
      → (has (number_at (sets_files file plan out).buffer (4 * j)) q ≡ true) ↔ InFaultSet (job_at file) (rows (job_at file) (plan_in file plan)) j q
  told_sets j q p =
      let both = sound_files in
      let e : has (number_at (sets_files file plan out).buffer (4 * j)) q ≡ has (fault_number job places j) q = ap (λ x. has x q) (number_there j p) in
      let w = fault_bit job places both.0 both.1 j p q in
      (λ h. w.0 (sym e ∙ h), λ x. e ∙ w.1 x)
