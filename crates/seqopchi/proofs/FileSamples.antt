-- The starred samples of document 01, and those of requests (ii), (iv), (v), (vi) and (viii), at the level of bytes, by computation.
use Prim.Native.Nat.{ℕ}
use mathlib.Core.Path.{◌≡◌, refl}
use mathlib.Core.List.{List, [], ◌∷◌, ◌++◌}
use mathlib.Core.Option.{none, some}
use lib.ListN.{replicate}
use Rattle.reader.specs.Refusals.{told, packed, result_number}
use Rattle.reader.specs.Samples.{J, JGrouped, plan1}
use Rattle.writer.specs.Write.{pack, job_bytes, plan_bytes}
use Rattle.writer.proofs.Samples.{filed}
use Rattle.rules.specs.declared.Loss.TheVariants.{Lost}
use Rattle.rules.specs.Samples.{table, ready_table, send_table, group_table, times_table, drawer_plan}
use Rattle.rules.specs.Gathering.{set_number, fault_number}
use Rattle.rules.specs.WrongTurns.{chain, chain_plan}
use Rattle.rules.proofs.Samples.{computed}
use Rattle.replay.specs.Outcomes.{run_bytes}
use Rattle.replay.specs.TimesFile.{took_fault, took_at, times_fault, times_at, times_bytes, list_fault, list_rows, list_run}
use Rattle.replay.specs.States.{outcome}
use Rattle.seqopchi.specs.Files.{files_fault, judge_files, plan_file_fault, plan_file, loss_fault, replay_fault, replay_files}
use Rattle.seqopchi.specs.Files.{fault_bytes, sets_fault, sets_files}
use Rattle.seqopchi.specs.Samples.{gave, written, calls, dues}

-- all that the calls compute with
unfoldable pub calculated : Unit {0}
unfolding filed computed packed outcome run_bytes files_fault judge_files plan_file_fault plan_file loss_fault replay_fault replay_files
    took_fault took_at times_fault times_at times_bytes list_fault list_rows list_run
calculated = tt

-- each question of the table, put to its call, is answered so
pub file_samples : calls table ≡ dues table
unfolding calculated
file_samples = refl

pub ready_file_samples : calls ready_table ≡ dues ready_table
unfolding calculated
ready_file_samples = refl

pub send_file_samples : calls send_table ≡ dues send_table
unfolding calculated
send_file_samples = refl

pub group_file_samples : calls group_table ≡ dues group_table
unfolding calculated
group_file_samples = refl

-- (vi) 'Refusal 18 is given if the named group has no node': with groups 5, 5 and 9 for 0, a node's number, and not for 5, above all of them
pub lost_groups :
    (result_number (replay_files (job_bytes (JGrouped 5 5 9)) (plan_bytes drawer_plan) (Lost 0 0) none (replicate 24 165)).answer ≡ packed (told 18 0 0))
    × (result_number (replay_files (job_bytes (JGrouped 5 5 9)) (plan_bytes drawer_plan) (Lost 5 0) none (replicate 24 165)).answer ≡ 0)
unfolding calculated
lost_groups = (refl, refl)

-- 18 before 17: with node 3 of J's three lost and no room at all, the node is named
pub node_before_room : result_number (replay_files (job_bytes J) (plan_bytes plan1) (Lost 3 0) none []).answer ≡ packed (told 18 3 0)
unfolding calculated
node_before_room = refl

pub times_file_samples : calls times_table ≡ dues times_table
unfolding calculated
times_file_samples = refl

-- what replay answers of sample 1's plan with node q lost at 0, this list and a buffer of n bytes
abbrev replied : ℕ → List ℕ → ℕ → ℕ
replied q list n = result_number (replay_files (job_bytes J) (plan_bytes plan1) (Lost q 0) (some list) (replicate n 165)).answer

-- (viii) 'A faulty list gets 1, 4 or 6 by its offset there, after 18 and before 17': no tick, a tick more than is listed, the first fault of two, a
-- number cut short, a byte too many; 18 before it, and it before 17
pub list_faults :
    (replied 1 (pack (4 ∷ 4 ∷ 3 ∷ 0 ∷ [])) 24 ≡ packed (told 4 12 0))
    × (replied 1 (pack (4 ∷ 5 ∷ 4 ∷ 3 ∷ [])) 24 ≡ packed (told 4 4 0))
    × (replied 1 (pack (4 ∷ 4 ∷ 3 ∷ [])) 24 ≡ packed (told 1 12 0))
    × (replied 1 (pack (4 ∷ 4 ∷ 3 ∷ 3 ∷ []) ++ (0 ∷ [])) 24 ≡ packed (told 6 16 0))
    × (replied 3 [] 24 ≡ packed (told 18 3 0))
    × (replied 1 [] 0 ≡ packed (told 1 0 0))
    × (replied 1 (pack (1 ∷ 1 ∷ 1 ∷ 1 ∷ [])) 23 ≡ packed (told 17 24 0))
    × (replied 1 (pack (1 ∷ 1 ∷ 1 ∷ 1 ∷ [])) 24 ≡ 0)
unfolding calculated
list_faults = (refl, refl, refl, refl, refl, refl, refl, refl)

-- the sets of a refused plan, a chain of weak links from node 0 to node 2 and on; and 17 with one byte too few
pub sets_sample :
    (written (sets_files (job_bytes chain) (plan_bytes chain_plan) (replicate 13 165)) ≡ gave 0 (pack (1 ∷ 5 ∷ 5 ∷ []) ++ (165 ∷ [])))
    × (written (sets_files (job_bytes chain) (plan_bytes chain_plan) (replicate 11 165)) ≡ gave (packed (told 17 12 0)) (replicate 11 165))
unfolding calculated set_number fault_number fault_bytes sets_fault sets_files
sets_sample = (refl, refl)
