-- Laws of the call that tells fault sets: each step behind those that passed, and what each bit of its bytes says.
use Prim.Native.Nat.{ℕ, ◌+◌, ◌*◌, ◌<◌}
use mathlib.Core.Path.{◌≡◌, refl, sym, ap, ap₂, ◌∙◌}
use mathlib.Core.List.{List, [], ◌∷◌, ◌++◌}
use mathlib.Core.Option.{none, some}
use lib.ListN.{length, get_or, drop}
use native.Mathlib.Omega.{arith}
use Rattle.reader.specs.declared.job.Job.{Job}
use Rattle.reader.specs.declared.plan.Plan.{Plan}
use Rattle.reader.specs.declared.refusal.Refusal.{Refusal}
use Rattle.reader.specs.declared.refusal.Refusal.TheVariants.{ShortBuffer}
use Rattle.std.specs.Prelude.{Ok, Err}
use Rattle.reader.specs.Entries.{tasks}
use Rattle.reader.specs.Refusals.{Answer}
use Rattle.reader.proofs.Chain.{pass, stop}
use Rattle.writer.specs.Write.{splice, pack, flat, room_fault}
use Rattle.writer.specs.Puts.{Rows}
use Rattle.writer.proofs.PutLaws.{splice_front}
use Rattle.writer.proofs.SameNumbers.{flat_same}
use Rattle.rules.specs.Gathering.{fault_number}
use Rattle.replay.proofs.PackLaws.{length_rows}
use Rattle.seqopchi.specs.Files.{files_fault, fault_bytes, sets_fault, sets_files}
use Rattle.seqopchi.proofs.ReadLaws.{refuses, short, FilesDone}

pub length_faults : (job : Job) (plan : Plan) → length (fault_bytes job plan) ≡ 4 * tasks job
unfolding fault_bytes
length_faults job plan = length_rows 1 (λ j. fault_number job plan j ∷ []) (λ j. refl) (tasks job) ∙ omega arith

pub sets_stops : (file plan out : List ℕ) {r : Refusal} (a : Answer) → files_fault file plan ≡ some r → a ≡ Err r
    → sets_files file plan out ≡ record { answer = a; buffer = out }
unfolding sets_files sets_fault
sets_stops file plan out a bad q = refuses _ out (stop _ bad) q

pub sets_stops_fault : (file plan out : List ℕ) {r : Refusal} → files_fault file plan ≡ some r → sets_fault file plan out ≡ some r
unfolding sets_fault
sets_stops_fault file plan out bad = stop _ bad

module _ (file plan : List ℕ) (job : Job) (places : Plan) (d : FilesDone file plan job places) (out : List ℕ) where
  to_room : sets_fault file plan out ≡ room_fault out (4 * tasks job)
  unfolding sets_fault
  to_room = pass _ d.fault ∙ ap (λ j. room_fault out (4 * tasks j)) (sym d.job_is)

  pub sets_room_fault : {r : Refusal} → room_fault out (4 * tasks job) ≡ some r → sets_fault file plan out ≡ some r
  sets_room_fault q = to_room ∙ q

  pub sets_no_room : length out < 4 * tasks job → sets_files file plan out ≡ record { answer = Err (ShortBuffer (4 * tasks job)); buffer = out }
  unfolding sets_files
  sets_no_room h = refuses _ out (sets_room_fault (short out _ h)) refl

  pub sets_put : room_fault out (4 * tasks job) ≡ none → (sets : List ℕ)
      → ((j : ℕ) → j < tasks job → get_or sets (2 * j + 1) 0 ≡ fault_number job places j) → (b : List ℕ)
      → Rows (λ j. get_or sets (2 * j + 1) 0 ∷ []) 4 out 0 (tasks job) b (4 * tasks job)
      → sets_files file plan out ≡ record { answer = Ok tt; buffer = b }
  unfolding sets_files fault_bytes
  sets_put h sets told b put =
      let same = ap₂ fault_bytes (sym d.job_is) (sym d.plan_is) in
      let numbers : pack (flat (tasks job) (λ j. get_or sets (2 * j + 1) 0 ∷ [])) ≡ fault_bytes job places =
      ap pack (flat_same (tasks job) _ _ (λ j p. ap (λ v. v ∷ []) (told j p))) in
      let is : b ≡ fault_bytes job places ++ drop (4 * tasks job) out =
      put.puts.buffer ∙ ap (λ s. splice out 0 s) numbers ∙ splice_front out _ (4 * tasks job) (length_faults job places) in
      rw (to_room ∙ h, same, length_faults job places) (ap (λ x. record { answer = Ok tt; buffer = x }) (sym is))
