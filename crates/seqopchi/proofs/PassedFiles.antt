-- Demand 3 at the level of bytes: where judge and replay answer 0, every task survives as replay's bytes show.
use Prim.Native.Nat.{ℕ, ◌*◌, ◌≤◌}
use mathlib.Core.Path.{◌≡◌, refl, sym, ◌∙◌, ap}
use mathlib.Core.List.{List}
use mathlib.Core.Bool.{false}
use mathlib.Core.Logic.{◌↔◌}
use mathlib.Core.Option.{Option, none, some}
use lib.ListN.{length}
use borrow.Author.Tests.{le-leb}
use Rattle.reader.specs.declared.job.Job.{Job}
use Rattle.reader.specs.declared.plan.Plan.{Plan}
use Rattle.reader.specs.declared.refusal.Refusal.TheVariants.{NoSuchNode}
use Rattle.reader.specs.First.{is_none, unless}
use Rattle.reader.specs.Entries.{tasks}
use Rattle.reader.specs.Refusals.{answered, result_number}
use Rattle.reader.specs.JobFile.{job_at}
use Rattle.reader.proofs.TestLaws.{clash, not_true}
use Rattle.reader.proofs.FirstLaws.{or_else_l, or_else_r, or_else_i, unless_none, none_unless}
use Rattle.reader.proofs.RefusalLaws.{answered_done}
use Rattle.reader.proofs.PackingLaws.{result_done}
use Rattle.writer.specs.Write.{room_fault}
use Rattle.rules.specs.declared.Loss.{Loss}
use Rattle.rules.specs.declared.Loss.TheVariants.{NoLoss, Lost}
use Rattle.rules.specs.Copies.{has_node}
use Rattle.rules.specs.Judge.{judge}
use Rattle.rules.specs.Survival.{LossOf}
use Rattle.replay.specs.TimesFile.{list_fault}
use Rattle.replay.specs.Survival.{BytesTell}
use Rattle.replay.proofs.WriteLaws.{length_run}
use Rattle.replay.proofs.ListLaws.{list_survives, list_tells}
use Rattle.replay.proofs.BytesSurvive.{front_tells, tells_survive}
use Rattle.seqopchi.specs.Files.{plan_in, files_fault, judge_files, loss_fault, replay_fault, rows_in, run_in, replay_files}
use Rattle.seqopchi.specs.Demand.{FilesSurvive}
use Rattle.seqopchi.proofs.ReadLaws.{files_sound}

-- 18 exactly if the named group has no node
pub no_such_group : (job : Job) (q f : ℕ) → (loss_fault job (Lost q f) ≡ some (NoSuchNode q)) ↔ (has_node job q ≡ false)
unfolding loss_fault unless
no_such_group job q f = (
  λ h. not_true _ λ there. clash false (ap is_none (sym h ∙ none_unless _ _ there)) refl,
  λ h. rw h,
)

-- a loss is no refusal 18 exactly if it is one of the job
loss_fine : (job : Job) (loss : Loss) → LossOf job loss → loss_fault job loss ≡ none
unfolding loss_fault
loss_fine job NoLoss h = refl
loss_fine job (Lost q f) h = none_unless _ _ h

fine_loss : (job : Job) (loss : Loss) → loss_fault job loss ≡ none → LossOf job loss
unfolding loss_fault
fine_loss job NoLoss h = tt
fine_loss job (Lost q f) h = unless_none _ _ h

module _ (file plan : List ℕ) (loss : Loss) (list : Option (List ℕ)) (out : List ℕ) where
  abbrev job : Job
  job = job_at file

  abbrev places : Plan
  places = plan_in file plan

  -- 'So where replay answers 0 for a passed plan, it writes ..', (viii) 'for every such list'
  pub passed_bytes_survive : result_number (answered (judge_files file plan)) ≡ 0 → result_number (replay_files file plan loss list out).answer ≡ 0
      → FilesSurvive file plan loss list out
  unfolding judge_files judge replay_fault replay_files
  passed_bytes_survive passed replays =
      let no_breach = (answered_done (judge_files file plan)).0 (result_done _ passed) in
      let no_fault = (answered_done (replay_fault file plan loss list out)).0 (result_done _ replays) in
      let both = files_sound file plan (or_else_l _ _ no_breach) in
      let behind_files = or_else_r _ _ no_fault in
      let of_job = fine_loss job loss (or_else_l _ _ behind_files) in
      let fine = or_else_l _ _ (or_else_r _ _ behind_files) in
      let run = list_survives job places both.0 both.1 list fine ((answered_done _).1 (or_else_r _ _ no_breach)) loss of_job in
      let told : BytesTell job (rows_in file plan list) (run_in file plan loss list) (replay_files file plan loss list out).buffer =
      rw no_fault (front_tells job _ _ _ _ (length_run job _ _) (list_tells job places both.0 both.1 list fine loss)) in
      record { bytes = tells_survive job _ _ _ loss told run; told = told; run = run }

  -- and it does answer 0 for a loss of the job, a list without fault, or none, and a large enough buffer
  pub replay_answers : result_number (answered (judge_files file plan)) ≡ 0 → LossOf job loss → list_fault list job places ≡ none
      → 12 * tasks job ≤ length out → result_number (replay_files file plan loss list out).answer ≡ 0
  unfolding judge_files replay_fault replay_files room_fault
  replay_answers passed of_job fine room =
      let no_breach = (answered_done (judge_files file plan)).0 (result_done _ passed) in
      let fits = none_unless _ _ (le-leb (12 * tasks job) (length out) room) in
      let no_fault : replay_fault file plan loss list out ≡ none =
      or_else_i _ _ (or_else_l (files_fault file plan) _ no_breach) (or_else_i _ _ (loss_fine job loss of_job) (or_else_i _ _ fine fits)) in
      rw no_fault
