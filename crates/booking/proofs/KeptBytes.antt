-- What the calls of asking and booking leave of what they write to: all of it where they refuse, and the bytes beyond where a commit succeeds.
use Prim.Native.Nat.{ℕ}
use mathlib.Core.Path.{◌≡◌, refl, sym, ◌∙◌, ap}
use mathlib.Core.List.{List}
use lib.ListN.{drop}
use lib.Seq.{drop_at}
use Rattle.reader.specs.declared.plan.Place.{Place}
use Rattle.reader.specs.Refusals.{answered, result_number}
use Rattle.writer.specs.Write.{job_bytes, plan_bytes}
use Rattle.rules.specs.Attempts.{Attempt, refused, placed}
use Rattle.rules.specs.Asking.{Booked}
use Rattle.seqopchi.specs.Files.{refusal_of}
use Rattle.seqopchi.proofs.KeptBytes.{refused_kept}
use Rattle.booking.specs.Asks.{ask_files, places_after, Booking, rooms_fault, commit_files, books, commit_into}
use Rattle.booking.specs.HeldFiles.{Files, job_need, plan_need, commits}
use Rattle.booking.proofs.WrittenFiles.{job_need_lem, plan_need_lem, booked}

-- asking writes nothing on a refusal, and a commit neither buffer
pub ask_refused_keeps : (job plan task places : List ℕ) → (result_number (answered (refusal_of (ask_files job plan task))) ≡ 0 → ⊥)
    → places_after (ask_files job plan task) places ≡ places
ask_refused_keeps job plan task places = go (ask_files job plan task)
  where
    go : (a : Attempt Place) → (result_number (answered (refusal_of a)) ≡ 0 → ⊥) → places_after a places ≡ places
    go (refused r) h = refl
    go (placed x) h = absurd (h refl)

module _ (a : Files) (booking out_job out_plan : List ℕ) where
  abbrev b : Booking
  b = commits a booking out_job out_plan

  pub commit_refused_keeps : (result_number b.answer ≡ 0 → ⊥) → (b.job ≡ out_job) × (b.plan ≡ out_plan)
  unfolding commit_into books
  commit_refused_keeps = go (commit_files a.job a.plan booking)
    where
      go : (c : Attempt Booked) → (result_number (books c out_job out_plan).answer ≡ 0 → ⊥)
          → ((books c out_job out_plan).job ≡ out_job) × ((books c out_job out_plan).plan ≡ out_plan)
      go (refused r) h = (refl, refl)
      go (placed y) h = (
        refused_kept (rooms_fault y out_job out_plan) (job_bytes y.job) out_job h,
        refused_kept (rooms_fault y out_job out_plan)
            (plan_bytes y.plan) out_plan h,
      )

  pub commit_keeps_beyond : result_number b.answer ≡ 0
      → (drop (job_need a booking) b.job ≡ drop (job_need a booking) out_job) × (drop (plan_need a) b.plan ≡ drop (plan_need a) out_plan)
  unfolding commit_into books
  commit_keeps_beyond h =
      let w = booked a booking out_job out_plan h in
      rw (w.1, w.2) (
        drop_at (job_bytes w.0.job) _ _ (sym (job_need_lem a booking w.0 w.1)) ∙ ap (λ n. drop n out_job) (sym (job_need_lem a booking w.0 w.1)),
        drop_at (plan_bytes w.0.plan) _ _ (sym (plan_need_lem a booking w.0 w.1)) ∙ ap (λ n. drop n out_plan) (sym (plan_need_lem a booking w.0 w.1)),
      )
