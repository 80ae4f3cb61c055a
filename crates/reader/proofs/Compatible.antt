-- Readers that know the versions up to a newest one, of which this one is one: files of later versions, and all others.
use Prim.Native.Nat.{ℕ}
use mathlib.Core.Path.{◌≡◌, refl, sym, ap, ◌∙◌}
use mathlib.Core.Bool.{true, false}
use mathlib.Core.List.{List}
use mathlib.Core.Option.{some}
use lib.Dec.{leb}
use lib.ListN.{length}
use borrow.Author.Tests.{ltb-true, ltb-false, le-leb, lt-leb}
use Rattle.reader.specs.declared.refusal.Refusal.TheVariants.{Version}
use Rattle.std.specs.Prelude.{Err}
use Rattle.reader.specs.Refusals.{resulted}
use Rattle.reader.specs.First.{◌or_else◌, unless}
use Rattle.reader.specs.Limits.{first_version, newest_version}
use Rattle.reader.specs.Number.{field_fault}
use Rattle.reader.specs.JobFile.{job_version, is_later, job_fault_up_to, job_fault, job_at, read_job_up_to, read_job}
use Rattle.reader.proofs.TestLaws.{split, and_l, and_r, and_no, and_if}

-- this reader is the one that knows the versions up to newest_version
pub reads_newest : (s : List ℕ) → read_job s ≡ read_job_up_to newest_version s
unfolding read_job job_fault
reads_newest s = refl

-- 'A console that knows only version 1 refuses the newer file as version, and never shows it with a field skipped.'
later_fault : (newest : ℕ) (s : List ℕ) → is_later newest s ≡ true → job_fault_up_to newest s ≡ some (Version 0)
unfolding is_later field_fault ◌or_else◌ unless
later_fault newest s h =
    let above = lt-leb (job_version s) newest (ltb-true newest (job_version s) (and_r _ _ h)) in
    rw (and_l _ _ h, above, and_no (leb first_version (job_version s)))

pub later_refused : (newest : ℕ) (s : List ℕ) → is_later newest s ≡ true →
    read_job_up_to newest s ≡ Err (Version 0)
later_refused newest s h = ap (λ o. resulted o (job_at s)) (later_fault newest s h)

-- any other file gets from both the same answer, and the same job
not_above : (newest : ℕ) (s : List ℕ) → is_later newest s ≡ false → leb 4 (length s) ≡ true → leb (job_version s) newest ≡ true
unfolding is_later
not_above newest s h e = le-leb (job_version s) newest (ltb-false newest (job_version s) (sym (and_if _ _ e) ∙ h))

known_fault : (k l : ℕ) (s : List ℕ) → is_later k s ≡ false → is_later l s ≡ false → job_fault_up_to k s ≡ job_fault_up_to l s
unfolding field_fault unless ◌or_else◌
known_fault k l s hk hl = split (leb 4 (length s)) (λ e. rw (not_above k s hk e, not_above l s hl e)) (λ e. rw e)

pub known_same : (k l : ℕ) (s : List ℕ) → is_later k s ≡ false → is_later l s ≡ false → read_job_up_to k s ≡ read_job_up_to l s
known_same k l s hk hl = ap (λ o. resulted o (job_at s)) (known_fault k l s hk hl)
