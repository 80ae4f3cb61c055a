-- Laws of the calls that read files: each step behind those that passed.
use Prim.Native.Nat.{ℕ, ◌*◌, ◌≤◌, ◌<◌}
use mathlib.Core.Path.{◌≡◌, refl, sym, ap, ap₂, ◌∙◌, subst}
use mathlib.Core.List.{List, ◌++◌}
use mathlib.Core.Bool.{Bool, true, false}
use mathlib.Core.Option.{Option, none, some}
use lib.Dec.{eqb}
use lib.ListN.{length, drop, take, get_or}
use borrow.Author.Tests.{leb-true, lt-leb, eq-eqb, eqb-true}
use native.Mathlib.Omega.{arith}
use Rattle.std.specs.Bool.{MatchBool}
use Rattle.std.specs.List.{HoldsAt, AllWithin}
use Rattle.std.proofs.lemmas.List.{get_or-take}
use Rattle.std.specs.Prelude.{Option as Maybe, Result, Ok, Err, IsErrAnd}
use Rattle.reader.specs.declared.job.Job.{Job}
use Rattle.reader.specs.declared.job.Node.{Node}
use Rattle.reader.specs.declared.plan.Plan.{Plan}
use Rattle.reader.specs.declared.refusal.Refusal.{Refusal}
use Rattle.reader.specs.declared.refusal.Refusal.TheVariants.{ShortBuffer, NoSuchNode}
use Rattle.reader.specs.First.{◌or_else◌, unless, any}
use Rattle.reader.specs.Entries.{nodes, tasks, no_node}
use Rattle.reader.specs.Sound.{Sound, PlanSound}
use Rattle.reader.specs.Refusals.{Answer, resulted, answered, result_number}
use Rattle.reader.specs.JobFile.{job_fault, job_at, read_job}
use Rattle.reader.specs.PlanFile.{plan_fault, read_plan}
use Rattle.reader.proofs.FirstLaws.{or_else_l, or_else_r, unless_none, any_i, any_e, any_same}
use Rattle.reader.proofs.TestLaws.{split}
use Rattle.reader.proofs.RefusalLaws.{answered_refused}
use Rattle.reader.proofs.NumberLaws.{is_none, is_value, is_fault}
use Rattle.reader.proofs.Chain.{pass, stop, handed}
use Rattle.reader.proofs.Promise.{job_sound as sound_job, plan_sound}
use Rattle.writer.specs.Write.{room_fault, Written, writes}
use Rattle.rules.specs.declared.Loss.{Loss}
use Rattle.rules.specs.declared.Loss.TheVariants.{NoLoss, Lost}
use Rattle.rules.specs.declared.Times.{Times}
use Rattle.rules.specs.Copies.{domain, has_node}
use Rattle.rules.specs.Judge.{judge}
use Rattle.rules.specs.Times.{TimesSound, ended_rows}
use Rattle.rules.specs.Replay.{replay_times}
use Rattle.replay.specs.Outcomes.{run_bytes, replay_bytes}
use Rattle.replay.specs.TimesFile.{list_fault, list_times, times_in, chosen, list_rows, list_run}
use Rattle.replay.proofs.WriteLaws.{length_run}
use Rattle.replay.proofs.ListLaws.{times_chosen, list_bytes, list_sound}
use Rattle.seqopchi.specs.Files.{plan_in, files_fault, judge_files, loss_fault, replay_fault, rows_in, run_in, replay_files}

-- a refusal that is handed on leaves the buffer
pub refuses : {fault : Option Refusal} {r : Refusal} (s out : List ℕ) {a : Answer} → fault ≡ some r → a ≡ Err r
    → writes fault s out ≡ record { answer = a; buffer = out }
refuses s out e q = rw (e, q)

-- C is given the answer's result, and the buffer
pub given : {w : Written} {a : Answer} {b : List ℕ} {n : ℕ} → w ≡ record { answer = a; buffer = b } → n ≡ result_number a
    → (n ≡ result_number w.answer) × (b ≡ w.buffer)
given e q = (q ∙ sym (ap (λ w. result_number w.answer) e), sym (ap (λ w. w.buffer) e))

-- what `?` hands on is the refusal, and the buffer is left
pub hands : {fault : Option Refusal} {r : Refusal} (s out : List ℕ) (w : Answer) → IsErrAnd w (λ e. e ≡ r) → fault ≡ some r
    → writes fault s out ≡ record { answer = w; buffer = out }
hands s out w h q = refuses s out q (handed _ w h refl)

-- room for n bytes
pub roomy : (out : List ℕ) (n : ℕ) → room_fault out n ≡ none → n ≤ length out
unfolding room_fault
roomy out n e = leb-true n (length out) (unless_none _ _ e)

-- no room for n bytes
pub short : (out : List ℕ) (n : ℕ) → length out < n → room_fault out n ≡ some (ShortBuffer n)
unfolding room_fault unless
short out n h = rw (lt-leb n (length out) h)

-- `has_node`: what going through the nodes tells
pub any_node : (b : Bool) (list : List Node) (q : ℕ)
    → MatchBool b ((k : ℕ) × (k < length list) × HoldsAt (λ x. x.group ≡ q) list k) (AllWithin (λ x. x.group ≡ q → ⊥) list 0 (length list))
    → b ≡ any (length list) (λ i. eqb (get_or list i no_node).group q)
any_node true list q h = sym (any_i _ _ h.0 h.1 (eq-eqb _ _ (h.2 no_node)))
any_node false list q h =
    split (any (length list) (λ i. eqb (get_or list i no_node).group q))
    (λ e. any_e _ _ e (λ i p t. absurd (h i no_node (omega arith) p (eqb-true _ _ t))))
    (λ e. sym e)

-- of the job's nodes
pub job_nodes : (job : Job) (q : ℕ) {b : Bool} → length (take (nodes job) job.nodes) ≡ nodes job
    → b ≡ any (length (take (nodes job) job.nodes)) (λ i. eqb (get_or (take (nodes job) job.nodes) i no_node).group q) → b ≡ has_node job q
unfolding has_node domain
job_nodes job q all e =
    let front = take (nodes job) job.nodes in
    e
    ∙ ap (λ m. any m (λ i. eqb (get_or front i no_node).group q)) all
    ∙ any_same (nodes job) _ _ (λ i p. ap (λ x. eqb x.group q) (get_or-take (nodes job) job.nodes i no_node p))

-- whether the lost group has a node, b says
module _ (job : Job) (loss : Loss) (q f : ℕ) (told : loss ≡ Lost q f) (b : Bool) (there : b ≡ has_node job q) where
  pub group_there : b ≡ true → Ok tt ≡ answered (loss_fault job loss)
  unfolding loss_fault unless
  group_there h = rw (told, sym there ∙ h)

  pub group_missing : b ≡ false → Err (NoSuchNode q) ≡ answered (loss_fault job loss)
  unfolding loss_fault unless
  group_missing h = rw (told, sym there ∙ h)

pub nothing_lost : (job : Job) (loss : Loss) → loss ≡ NoLoss → Ok tt ≡ answered (loss_fault job loss)
unfolding loss_fault
nothing_lost job loss told = rw told

-- files without fault hold a sound job and a sound plan of it
pub files_sound : (file plan : List ℕ) → files_fault file plan ≡ none → Sound (job_at file) × PlanSound (job_at file) (plan_in file plan)
unfolding files_fault
files_sound file plan e =
    let s = sound_job file (or_else_l _ _ e) in
    (s, plan_sound plan (job_at file) s (or_else_r _ _ e))

-- what every call on a plan begins with: two files that read well, and what was read
pub record FilesDone (file plan : List ℕ) (job : Job) (places : Plan) : Type 0 where
  pub fault : files_fault file plan ≡ none
  pub job_is : job ≡ job_at file
  pub plan_is : places ≡ plan_in file plan

-- a job file that was read, and then a plan file
module _ (file : List ℕ) {w : Result Job Refusal} (is : w ≡ read_job file) where
  pub bad_job : {r : Refusal} → w ≡ Err r → job_fault file ≡ some r
  unfolding read_job
  bad_job q = is_fault _ _ _ is q

  pub job_stops : (plan : List ℕ) {r : Refusal} → w ≡ Err r → files_fault file plan ≡ some r
  unfolding files_fault
  job_stops plan q = stop _ (bad_job q)

  module _ {job : Job} (done : w ≡ Ok job) where
    pub job_fine : job_fault file ≡ none
    unfolding read_job
    job_fine = is_none _ _ _ is done

    pub job_is : job ≡ job_at file
    unfolding read_job
    job_is = is_value _ _ _ is done

    pub job_sound : Sound job
    job_sound = subst Sound (sym job_is) (sound_job file job_fine)

    module _ (plan : List ℕ) {p : Result Plan Refusal} (ip : p ≡ read_plan plan job) where
      plan_read : p ≡ resulted (plan_fault plan (job_at file)) (plan_in file plan)
      unfolding read_plan
      plan_read = ip ∙ ap (read_plan plan) job_is

      pub plan_stops : {r : Refusal} → p ≡ Err r → files_fault file plan ≡ some r
      unfolding files_fault
      plan_stops q = pass _ job_fine ∙ is_fault _ _ _ plan_read q

      pub both_done : {x : Plan} → p ≡ Ok x → FilesDone file plan job x
      unfolding files_fault
      both_done q =
          record { fault = pass _ job_fine ∙ is_none _ _ _ plan_read q; job_is = job_is; plan_is = is_value _ _ _ plan_read q }

module _ (file plan : List ℕ) (job : Job) (places : Plan) (d : FilesDone file plan job places) where
  pub both_sound : Sound job × PlanSound job places
  both_sound = rw (d.job_is, d.plan_is) (files_sound file plan d.fault)

  pub judged : (a : Answer) → a ≡ judge job places → a ≡ answered (judge_files file plan)
  unfolding judge_files judge
  judged a e = e ∙ ap₂ (λ j x. judge j x) d.job_is d.plan_is ∙ sym (ap answered (pass _ d.fault))

  module _ (loss : Loss) (list : Option (List ℕ)) (out : List ℕ) where
    to_loss : replay_fault file plan loss list out ≡ (loss_fault job loss or_else list_fault list job places or_else room_fault out (12 * tasks job))
    unfolding replay_fault
    to_loss =
        pass _ d.fault
        ∙ ap₂ (λ j x. loss_fault j loss or_else list_fault list j x or_else room_fault out (12 * tasks j)) (sym d.job_is) (sym d.plan_is)

    pub bad_group : {r : Refusal} → loss_fault job loss ≡ some r → replay_fault file plan loss list out ≡ some r
    bad_group q = to_loss ∙ stop _ q

    pub no_node_lem : {a : Answer} {r : Refusal} → a ≡ answered (loss_fault job loss) → a ≡ Err r
        → replay_files file plan loss list out ≡ record { answer = a; buffer = out }
    unfolding replay_files
    no_node_lem {a} {r} ea q = refuses _ out (bad_group ((answered_refused _ r).0 (sym ea ∙ q))) q

    module _ (there : loss_fault job loss ≡ none) where
      to_list : replay_fault file plan loss list out ≡ (list_fault list job places or_else room_fault out (12 * tasks job))
      to_list = to_loss ∙ pass _ there

      pub bad_list_fault : {r : Refusal} → list_fault list job places ≡ some r → replay_fault file plan loss list out ≡ some r
      bad_list_fault q = to_list ∙ stop _ q

      pub bad_list : {r : Refusal} → list_fault list job places ≡ some r
          → replay_files file plan loss list out ≡ record { answer = Err r; buffer = out }
      unfolding replay_files
      bad_list q = refuses _ out (bad_list_fault q) refl

      -- a list without fault, and the times in it, if it is given
      module _ (fine : list_fault list job places ≡ none) (times : Maybe Times) (are : times ≡ times_in list job) where
        to_room : replay_fault file plan loss list out ≡ room_fault out (12 * tasks job)
        to_room = to_list ∙ pass _ fine

        pub bad_room : {r : Refusal} → room_fault out (12 * tasks job) ≡ some r → replay_fault file plan loss list out ≡ some r
        bad_room q = to_room ∙ q

        pub no_room : length out < 12 * tasks job
            → replay_files file plan loss list out ≡ record { answer = Err (ShortBuffer (12 * tasks job)); buffer = out }
        unfolding replay_files
        no_room h = refuses _ out (bad_room (short out _ h)) refl

        times_are : chosen times job places ≡ list_times list job places
        times_are = ap (λ t. chosen t job places) are ∙ times_chosen list job places

        pub times_within : TimesSound job places (chosen times job places)
        times_within = rw times_are (list_sound job places both_sound.0 both_sound.1 list fine)

        -- one code path: without a list the bytes are those of the listed times
        same_bytes : replay_bytes job places (chosen times job places) loss
            ≡ run_bytes (job_at file) (rows_in file plan list) (run_in file plan loss list)
        same_bytes =
            ap (λ t. replay_bytes job places t loss) times_are
            ∙ list_bytes job places both_sound.0 list loss
            ∙ ap₂ (λ j x. run_bytes j (list_rows list j x) (list_run list j x loss)) d.job_is d.plan_is

        pub replayed : room_fault out (12 * tasks job) ≡ none → (buffer : List ℕ)
            → buffer ≡ replay_bytes job places (chosen times job places) loss ++ drop (12 * tasks job) out
            → replay_files file plan loss list out ≡ record { answer = Ok tt; buffer = buffer }
        unfolding replay_files
        replayed h buffer e =
            let t = chosen times job places in
            rw (to_room ∙ h, ← same_bytes, length_run job (ended_rows job places t) (replay_times job places t loss))
            (ap (λ x. record { answer = Ok tt; buffer = x }) (sym e))
