-- Every refusal of reading a description, a question and a booking fits its bits in the result, and so does 20.
use Prim.Native.Nat.{ℕ, ◌+◌, ◌-◌, ◌^◌, ◌≤◌}
use native.Mathlib.Omega.{arith}
use mathlib.Core.Path.{◌≡◌}
use mathlib.Core.List.{List}
use mathlib.Core.Option.{none}
use Rattle.reader.specs.declared.job.Link.{Link}
use Rattle.reader.specs.declared.job.Job.{Job}
use Rattle.reader.specs.declared.refusal.Refusal.TheVariants.{Count, LinkOrder, Full}
use Rattle.reader.specs.Limits.{max_links, max_time}
use Rattle.reader.specs.Entries.{nodes, tasks}
use Rattle.reader.specs.Sound.{Sound}
use Rattle.reader.specs.Refusals.{FaultFits}
use Rattle.rules.specs.declared.Description.{Description}
use Rattle.rules.specs.Description.{full_fault}
use Rattle.asking.specs.DescriptionFile.{new_link_section, new_link_fault, new_links_fault, description_fault, description_length, question_fault}
use Rattle.asking.specs.DescriptionFile.{booking_fault}
use Rattle.reader.proofs.FirstLaws.{or_else_r}
use Rattle.reader.proofs.FieldLaws.{field_good}
use Rattle.reader.proofs.LengthLaws.{task_width_most}
use Rattle.reader.proofs.FitLaws.{fits_unless, fits_or_else, fits_first, fits_at, count_fits, value_fits, task_fits, tail_fits, place_fits}
use Rattle.asking.proofs.NewAccepted.{new_links_good}

module _ (s : List ℕ) where
  new_link_fits : (at n : ℕ) (before : Link) → at ≤ 2 ^ 16 → FaultFits (new_link_fault s at n before)
  unfolding new_link_fault
  new_link_fits at n before h =
      fits_or_else _ _ (value_fits s at 0 (n - 1) (omega arith)) (λ _.
      fits_or_else _ _ (value_fits s (at + 4) 0 max_time (omega arith)) (λ _.
      fits_unless _ (LinkOrder at) (fits_at 5 at (omega arith) (omega arith))))

  new_links_fit : (at n : ℕ) → at ≤ 2 ^ 13 → FaultFits (new_links_fault s at n)
  unfolding new_links_fault
  new_links_fit at n h =
      fits_or_else _ _ (count_fits s at 0 max_links (omega arith)) (λ e.
      let g = field_good s at 0 max_links (Count at) e in
      fits_first _ _ (λ k l. new_link_fits _ n _ (omega arith)))

  module _ (job : Job) (h : Sound job) where
    section_most : new_link_section job ≤ 96
    section_most = task_width_most job.version (nodes job) h.nodes_most

    pub description_fits : FaultFits (description_fault s job)
    unfolding description_fault
    description_fits =
        fits_or_else _ _ (task_fits s _ 0 _ (omega arith) h.nodes_most) (λ _. new_links_fit _ _ (omega (arith, section_most)))

    length_most : description_fault s job ≡ none → description_length s job ≤ 2 ^ 13
    unfolding description_fault
    length_most e = omega (arith, section_most, (new_links_good s (new_link_section job) (tasks job) (or_else_r _ _ e)).count.most)

    pub question_fits : FaultFits (question_fault s job)
    unfolding question_fault
    question_fits = fits_or_else _ _ description_fits (λ e. tail_fits s _ (omega (arith, length_most e)))

    pub booking_fits : FaultFits (booking_fault s job)
    unfolding booking_fault
    booking_fits =
        fits_or_else _ _ description_fits (λ e.
        fits_or_else _ _ (place_fits s _ _ _ (omega (arith, length_most e))) (λ _. tail_fits s _ (omega (arith, length_most e))))

pub full_fits : (job : Job) → Sound job → (d : Description) → FaultFits (full_fault job d)
unfolding full_fault
full_fits job h d = fits_unless _ (Full (tasks job)) (fits_at 20 (tasks job) (omega arith) (omega (arith, h.tasks_most)))
