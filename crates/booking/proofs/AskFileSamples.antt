-- The samples of request (iii) at the level of bytes, by computation.
use mathlib.Core.Path.{◌≡◌, refl}
use mathlib.Core.List.{[], ◌∷◌, ◌++◌}
use Rattle.reader.specs.declared.refusal.Refusal.TheVariants.{Short, Value, LinkOrder, Tail, Unable, NoBackup, Stale}
use Rattle.reader.specs.Samples.{at}
use Rattle.rules.specs.Attempts.{refused, placed}
use Rattle.rules.specs.Longer.{takes_new, new_before, merged_link, longer_job, longer_plan}
use Rattle.rules.specs.Description.{full_fault}
use Rattle.rules.specs.Asking.{ask, longer, unless_stale, commit}
use Rattle.rules.specs.AskSamples.{with_third}
use Rattle.asking.specs.DescriptionFile
use Rattle.asking.specs.DescriptionFile.{question_fault, booking_fault}
use Rattle.writer.specs.Write.{pack}
use Rattle.booking.specs.Asks.{unless_refused, steps_fault, ask_files, commit_files, booking_of}
use Rattle.booking.specs.AskSamples.{third_file, ask_j, commit_j}
use Rattle.seqopchi.proofs.FileSamples.{calculated}

-- all that they compute with
unfoldable asking : Unit {0}
unfolding calculated takes_new new_before merged_link longer_job longer_plan full_fault ask longer unless_stale commit DescriptionFile.new_link_at
    DescriptionFile.new_link_fault DescriptionFile.new_link_before DescriptionFile.new_links_fault DescriptionFile.new_links_at
    DescriptionFile.description_fault DescriptionFile.description_at question_fault booking_fault unless_refused steps_fault ask_files commit_files
asking = tt

pub asked_file : ask_j (third_file 30) ≡ placed (at 0 7 1 12)
unfolding asking
asked_file = refl

pub asked_too_late : ask_j (third_file 12) ≡ refused (NoBackup 2)
unfolding asking
asked_too_late = refl

-- 6 for a byte more; 1 for a file that ends before its link count; 4 for a link from the new task itself; 5 for links that do not rise
pub asked_faults : (ask_j (third_file 30 ++ 0 ∷ []) ≡ refused (Tail 36)) × (ask_j (pack (30 ∷ 2 ∷ 2 ∷ 2 ∷ [])) ≡ refused (Short 16))
    × (ask_j (pack (30 ∷ 2 ∷ 2 ∷ 2 ∷ 1 ∷ 2 ∷ 1 ∷ [])) ≡ refused (Value 20))
    × (ask_j (pack (30 ∷ 2 ∷ 2 ∷ 2 ∷ 2 ∷ 1 ∷ 3 ∷ 1 ∷ 3 ∷ [])) ≡ refused (LinkOrder 28))
unfolding asking
asked_faults = (refl, refl, refl, refl)

pub booked_file : commit_j (booking_of (third_file 30) (at 0 7 1 12)) ≡ placed (with_third (at 0 7 1 12))
unfolding asking
booked_file = refl

-- 21; 7 at the node of a copy that its node cannot run
pub stale_file : (commit_j (booking_of (third_file 30) (at 0 7 1 11)) ≡ refused (Stale 2))
    × (commit_j (booking_of (pack (30 ∷ 2 ∷ 0 ∷ 2 ∷ 0 ∷ [])) (at 0 7 1 11)) ≡ refused (Unable 28))
unfolding asking
stale_file = (refl, refl)
