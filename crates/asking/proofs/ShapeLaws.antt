-- What is read by the numbers of a job is read after that job.
use Prim.Native.Nat.{ℕ}
use mathlib.Core.Path.{◌≡◌, sym, subst}
use mathlib.Core.List.{List}
use Rattle.std.specs.Prelude.{Result}
use Rattle.reader.specs.declared.job.Job.{Job}
use Rattle.reader.specs.declared.plan.Place.{Place}
use Rattle.reader.specs.declared.refusal.Refusal.{Refusal}
use Rattle.reader.specs.Entries.{nodes, tasks}
use Rattle.reader.specs.Reads.{Reads}
use Rattle.rules.specs.declared.Description.{Description}
use Rattle.asking.specs.declared.description_file.Shape.{Shape}
use Rattle.asking.specs.Sizes.{Sizes, shaped, shape_of}
use Rattle.asking.specs.DescriptionFile.{description_at, question_fault, booking_fault, booked_place}

module _ {shape : Shape} (job : Job) (is : shape ≡ shape_of job) where
  pub sizes_of : Sizes (nodes job) (tasks job) → Sizes shape.nodes shape.tasks
  unfolding shape_of
  sizes_of h = subst (λ x. Sizes x.nodes x.tasks) (sym is) h

  -- what holds for every job of these numbers
  of_job : (P : Job → Type 0) → ((j : Job) → P (shaped j shape)) → P job
  unfolding shape_of
  of_job P h = subst (λ x. P (shaped job x)) is (h job)

  module _ (s : List ℕ) where
    abbrev Question : Result Description Refusal → Job → Type 0
    Question w j = Reads (question_fault s j) w (λ d. d ≡ description_at s j)

    abbrev Booking : Result (Description × Place) Refusal → Job → Type 0
    Booking w j = Reads (booking_fault s j) w (λ b. (b.0 ≡ description_at s j) × (b.1 ≡ booked_place s j))

    pub question_after : {w : Result Description Refusal} → ((j : Job) → Question w (shaped j shape)) → Question w job
    question_after {w} = of_job (Question w)

    pub booking_after : {w : Result (Description × Place) Refusal} → ((j : Job) → Booking w (shaped j shape)) → Booking w job
    booking_after {w} = of_job (Booking w)
