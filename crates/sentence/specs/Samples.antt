-- Sentences as they read, texts that are none, and a wrong reader.
use Rattle.std.specs.Prelude.{ℕ, Bool, true, List, [], ◌∷◌}
use Prim.Native.String.{String}
use Rattle.std.proofs.Math.Option.{Option}
use Rattle.reader.specs.declared.refusal.Told.{Told}
use Rattle.reader.specs.Tests.{◌and◌}
use Rattle.reader.specs.First.{is_none, when}
use Rattle.reader.specs.Refusals.{told}
use Rattle.sentence.specs.Phrases.{spelled, tabled}
use Rattle.sentence.specs.Sentence.{sentence}
use Rattle.sentence.specs.Reading.{same, shown, read_sentence}

pub record Sample : Type 0 where
  pub refusal : Told
  pub text : String

abbrev sample : ℕ → ℕ → ℕ → String → Sample
sample n a b s = record { refusal = told n a b; text = s }

-- the largest place
abbrev largest : ℕ
largest = 18_446_744_073_709_551_615

-- each number once; the longest; and second places that no call gives
unfoldable pub sentences : List Sample
sentences =
    sample 1 40 0 "Refused 1, short: the file ends before the number at byte 40 is whole."
    ∷ sample 2 0 0 "Refused 2, version: the version at byte 0 is not known here."
    ∷ sample 3 4 0 "Refused 3, count: the count at byte 4 is outside its limits."
    ∷ sample 4 56 0 "Refused 4, value: the number at byte 56 is outside its limits."
    ∷ sample 5 96 0 "Refused 5, link order: the link at byte 96 is not above the one before."
    ∷ sample 6 248 0 "Refused 6, tail: the file goes on at byte 248, where it should end."
    ∷ sample 7 24 0 "Refused 7, unable: the node at byte 24 cannot run its task."
    ∷ sample 8 3 3 "Refused 8, same node: both copies of task 3 are on one node or supply."
    ∷ sample 9 0 0 "Refused 9, early: the backup of task 0 starts before a loss is noticed."
    ∷ sample 10 7 7 "Refused 10, late: the backup of task 7 ends after the deadline."
    ∷ sample 11 0 1 "Refused 11, primary unfed: the result of task 0 is late for the primary of task 1."
    ∷ sample 12 2 5 "Refused 12, backup unfed: a result of task 2 is late for the backup of task 5."
    ∷ sample 13 10 10 "Refused 13, common loss: one loss can stop both copies of task 10."
    ∷ sample 14 3 6 "Refused 14, overlap: one node is held at the same time by copies of tasks 3 and 6."
    ∷ sample 15 4 4 "Refused 15, no primary: no node has a place for the primary of task 4."
    ∷ sample 16 1 1 "Refused 16, no backup: no node has a place for the backup of task 1."
    ∷ sample 17 72 0 "Refused 17, short buffer: the output needs room for 72 bytes."
    ∷ sample 18 4_294_967_295 0 "Refused 18, no such node: the loss of 4294967295 takes no node of the job."
    ∷ sample 19 5 5 "Refused 19, too soon: the primary of task 5 starts before it is ready."
    ∷ sample 20 64 0 "Refused 20, full: the job has no room for task 64 or its links."
    ∷ sample 21 12 12 "Refused 21, stale: the place for task 12 now breaks a rule; ask again."
    ∷ sample 22 5 0 "Refused 22, not a sentence: no refusal has it; its length or number: 5."
    ∷ sample 11 largest largest "Refused 11, primary unfed: the result of task 18446744073709551615 is late for the primary of task 18446744073709551615."
    ∷ sample 14 largest largest "Refused 14, overlap: one node is held at the same time by copies of tasks 18446744073709551615 and 18446744073709551615."
    ∷ sample 13 10 0 "Refused 13, common loss: one loss can stop both copies of task 10, second 0."
    ∷ sample 13 0 10 "Refused 13, common loss: one loss can stop both copies of task 0, second 10."
    ∷ sample 4 56 56 "Refused 4, value: the number at byte 56 is outside its limits, second 56."
    ∷ []

unfoldable pub all_printed : List Sample → Bool
all_printed [] = true
all_printed (x ∷ xs) = same (sentence x.refusal) (spelled x.text) and all_printed xs

-- no refusal's sentence
unfoldable pub others : List String
others =
    -- a zero in front of a place, and of the number
    "Refused 4, value: the number at byte 056 is outside its limits."
    ∷ "Refused 04, value: the number at byte 56 is outside its limits."
    -- a space or a line end behind the full stop; no full stop
    ∷ "Refused 4, value: the number at byte 56 is outside its limits. "
    ∷ "Refused 4, value: the number at byte 56 is outside its limits.\n"
    ∷ "Refused 4, value: the number at byte 56 is outside its limits"
    -- 2 ^ 64, which is no 8-byte place
    ∷ "Refused 4, value: the number at byte 18446744073709551616 is outside its limits."
    -- the words of another number, and a number outside the tables
    ∷ "Refused 3, value: the number at byte 56 is outside its limits."
    ∷ "Refused 23, value: the number at byte 56 is outside its limits."
    -- a second place that goes without saying, told; and one left out
    ∷ "Refused 4, value: the number at byte 56 is outside its limits, second 0."
    ∷ "Refused 11, primary unfed: the result of task 0 is late for the primary of task ."
    ∷ []

unfoldable pub all_refused : List String → Bool
all_refused [] = true
all_refused (s ∷ ss) = is_none (read_sentence (spelled s)) and all_refused ss

-- a wrong reader: it takes the numbers that it finds for the refusal and does not look at the text again
unfoldable pub trusting : List ℕ → Option Told
trusting s = when (tabled (shown s).number) (shown s)
