-- A booking begins with the file that was asked about: the same description stands in it, without a fault, and behind it the place.
use Prim.Native.Nat.{ℕ, zero, suc, ◌+◌, ◌-◌, ◌*◌, ◌≤◌, ◌<◌}
use native.Mathlib.Omega.{arith}
use mathlib.Core.Path.{◌≡◌, refl, sym, ap, ap₂, ◌∙◌, subst}
use mathlib.Core.List.{List}
use mathlib.Core.Option.{none}
use lib.ListN.{length, get_or, replicate, length-append, get_or-append}
use lib.Seq.{drop-append_seam}
use Rattle.reader.specs.declared.job.Link.{Link}
use Rattle.reader.specs.declared.job.Task.{Task}
use Rattle.reader.specs.declared.job.Job.{Job}
use Rattle.reader.specs.declared.plan.Place.{Place}
use Rattle.reader.specs.declared.refusal.Refusal.TheVariants.{Count, Value}
use Rattle.reader.specs.First.{fill}
use Rattle.reader.specs.Limits.{max_links, max_time}
use Rattle.reader.specs.Entries.{nodes, tasks, no_link}
use Rattle.reader.specs.Number.{number_at}
use Rattle.reader.specs.Sound.{Sound}
use Rattle.reader.specs.PlanFile.{place_at, place_fault}
use Rattle.reader.proofs.FirstLaws.{or_else_l, or_else_r, or_else_i, first_same}
use Rattle.reader.proofs.FillLaws.{fill_same}
use Rattle.reader.proofs.FrontLaws.{same_or_else, number_same, field_same, task_same, task_at_same}
use Rattle.reader.proofs.Accepted.{tail_most}
use Rattle.reader.proofs.Faultless.{good_place, good_tail}
use Rattle.writer.specs.Write.{pack, place_numbers}
use Rattle.writer.proofs.PutLaws.{length_pack}
use Rattle.writer.proofs.Segments.{Stands, stands_drop, pack_stands, stands_same}
use Rattle.writer.proofs.FileNumbers.{place_stands}
use Rattle.writer.proofs.SameNumbers.{place_same}
use Rattle.writer.proofs.WordLaws.{place_words}
use Rattle.writer.proofs.SoundReads.{place_in}
use Rattle.rules.specs.declared.Description.{Description}
use Rattle.rules.specs.Description.{PlaceSound}
use Rattle.asking.specs.DescriptionFile.{new_link_section, new_link_at, new_link_fault, new_link_before, new_links_fault, new_links_at, description_fault}
use Rattle.asking.specs.DescriptionFile.{description_at, description_length, question_fault, booking_fault, booked_place}
use Rattle.asking.proofs.NewAccepted.{GoodNewLinks, new_links_good}
use Rattle.booking.specs.Asks.{booking_of}

-- the links of a description, in two files that agree as far as these reach
module _ (m : ℕ) (s t : List ℕ) (in_s : m ≤ length s) (in_t : m ≤ length t) (same : (i : ℕ) → i < m → get_or s i 0 ≡ get_or t i 0)
    (n : ℕ) where
  link_at_same : (at : ℕ) → at + 8 ≤ m → new_link_at s at n ≡ new_link_at t at n
  unfolding new_link_at
  link_at_same at h = rw (number_same m s t in_s in_t same at (omega arith), number_same m s t in_s in_t same (at + 4) (omega arith))

  before_same : (at k : ℕ) → at + 8 * k ≤ m → new_link_before s at n k ≡ new_link_before t at n k
  unfolding new_link_before
  before_same at zero h = refl
  before_same at (suc k) h = link_at_same (at + 8 * k) (omega arith)

  link_same : (at : ℕ) (l : Link) → at + 8 ≤ m → new_link_fault s at n l ≡ new_link_fault t at n l
  unfolding new_link_fault
  link_same at l h =
      rw (link_at_same at h)
      (same_or_else _ _ _ _ (field_same m s t in_s in_t same at 0 (n - 1) (Value at) (omega arith)) λ _.
      same_or_else _ _ _ _ (field_same m s t in_s in_t same (at + 4) 0 max_time (Value (at + 4)) (omega arith)) λ _. refl)

  module _ (at : ℕ) (room : at + 4 + 8 * number_at s at ≤ m) where
    count_same : number_at s at ≡ number_at t at
    count_same = number_same m s t in_s in_t same at (omega arith)

    links_same : new_links_fault s at n ≡ new_links_fault t at n
    unfolding new_links_fault
    links_same =
        same_or_else _ _ _ _ (field_same m s t in_s in_t same at 0 max_links (Count at) (omega arith)) λ _.
        rw (← count_same)
        (first_same _ _ _ (λ k p. rw (before_same (at + 4) k (omega arith)) (link_same (at + 4 + 8 * k) _ (omega arith))))

    links_at_same : new_links_at s at n (number_at s at) ≡ new_links_at t at n (number_at t at)
    unfolding new_links_at
    links_at_same =
        fill_same _ _ (replicate max_links no_link) (number_at s at) (λ k p. link_at_same (at + 4 + 8 * k) (omega arith))
        ∙ ap (λ c. fill c (λ k. new_link_at t (at + 4 + 8 * k) n) (replicate max_links no_link)) count_same

described : {a b : Task} {m n : ℕ} {k l : List Link} → a ≡ b → m ≡ n → k ≡ l
    → ◌≡◌ {A = Description} (record { task = a; link_count = m; links = k }) (record { task = b; link_count = n; links = l })
described p q r = rw (p, q, r)

-- what was asked without a fault, and a booking of place x for it
module _ (s : List ℕ) (job : Job) (fine : question_fault s job ≡ none) where
  links_good : GoodNewLinks s (new_link_section job) (tasks job)
  unfolding question_fault description_fault
  links_good = new_links_good s _ (tasks job) (or_else_r _ _ (or_else_l _ _ fine))

  ends : description_length s job ≡ length s
  unfolding question_fault
  ends = omega (arith, tail_most s (description_length s job) (or_else_r _ _ fine), links_good.room)

  module _ (x : Place) where
    abbrev t : List ℕ
    t = booking_of s x

    longer : length t ≡ length s + 16
    unfolding place_numbers
    longer = length-append s (pack (place_numbers x)) ∙ ap (λ n. length s + n) (length_pack (place_numbers x))

    front : (i : ℕ) → i < length s → get_or s i 0 ≡ get_or t i 0
    front i p = sym (get_or-append s (pack (place_numbers x)) 0 i p)

    count_is : number_at s (new_link_section job) ≡ number_at t (new_link_section job)
    count_is = count_same (length s) s t (omega arith) (omega (arith, longer)) front (tasks job) _ links_good.room

    pub same_description : description_at t job ≡ description_at s job
    unfolding description_at
    same_description =
        let task = task_at_same (length s) s t (omega arith) (omega (arith, longer)) front job.version 0 (nodes job)
        (omega (arith, links_good.count.room)) in
        let list = links_at_same (length s) s t (omega arith) (omega (arith, longer)) front (tasks job) _ links_good.room in
        sym (described task count_is list)

    same_end : description_length t job ≡ length s
    same_end = ap (λ c. new_link_section job + 4 + 8 * c) (sym count_is) ∙ ends

    description_fine : description_fault t job ≡ none
    unfolding question_fault description_fault
    description_fine =
        let was = or_else_l _ _ fine in
        or_else_i _ _
        (sym (task_same (length s) s t (omega arith) (omega (arith, longer)) front job.version 0 (nodes job)
        (omega (arith, links_good.count.room))) ∙ or_else_l _ _ was)
        (sym (links_same (length s) s t (omega arith) (omega (arith, longer)) front (tasks job) _ links_good.room) ∙ or_else_r _ _ was)

    -- the place stands behind it
    module _ (sound : Sound job) (new : PlaceSound job (description_at s job) x) where
      stands : Stands t (length s) (place_numbers x) (length s + 16)
      unfolding place_numbers
      stands =
          let vs = place_numbers x in
          let alone = subst (λ b. Stands (pack vs) 0 vs b) (length_pack vs) (pack_stands vs (place_words _ _ x sound.nodes_most new)) in
          let at : length s + 0 ≡ length s = omega arith in
          subst (λ a. Stands t a vs (length s + 16)) at (stands_drop t vs (length s) 0 16 (rw (drop-append_seam s (pack vs)) alone))

      pub same_place : booked_place t job ≡ x
      same_place =
          ap (place_at t) same_end ∙ place_same _ _ (stands_same t _ _ (length s) (length s + 16) (place_stands t (length s)) stands)

      place_fine : place_fault t (length s) (nodes job) (description_at s job).task.run ≡ none
      place_fine = good_place t (length s) (nodes job) _ (place_in t (length s) (nodes job) _ x stands (omega (arith, longer)) new)

      pub booking_reads : booking_fault t job ≡ none
      unfolding booking_fault
      booking_reads =
          or_else_i _ _ description_fine
          (or_else_i _ _
          (ap₂ (λ e d. place_fault t e (nodes job) d.task.run) same_end same_description ∙ place_fine)
          (good_tail t _ (omega (arith, same_end, longer))))
