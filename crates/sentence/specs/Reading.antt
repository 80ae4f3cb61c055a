-- 'Reading a sentence gives back its refusal': it can be that of its three numbers, or one whose second place is the first again.
use Rattle.std.specs.Prelude.{ℕ, Bool, true, false, List, [], ◌∷◌, eqb, length, set}
use Rattle.std.proofs.Math.Option.{Option, none, some}
use Rattle.reader.specs.declared.refusal.Refusal.{Refusal}
use Rattle.reader.specs.declared.refusal.Refusal.TheVariants.{NotASentence}
use Rattle.std.specs.Prelude.{Result, Ok, Err}
use Rattle.reader.specs.declared.refusal.Told.{Told}
use Rattle.reader.specs.Tests.{◌and◌}
use Rattle.reader.specs.First.{◌or_else◌, when}
use Rattle.reader.specs.Refusals.{told}
use Rattle.decimal.specs.Numbers.{number_in, after_number}
use Rattle.sentence.specs.Phrases.{tabled}
use Rattle.sentence.specs.Sentence.{sentence}

-- the same bytes
unfoldable pub same : List ℕ → List ℕ → Bool
same [] [] = true
same [] (b ∷ t) = false
same (a ∷ s) [] = false
same (a ∷ s) (b ∷ t) = eqb a b and same s t

-- the three numbers of a text, 0 for one that is not there; and the same with the first place again
unfoldable pub shown : List ℕ → Told
shown s = told (number_in s) (number_in (after_number s)) (number_in (after_number (after_number s)))

unfoldable pub repeated : Told → Told
repeated t = told t.number t.first t.first

-- a refusal of the tables, if the text is its sentence
unfoldable pub if_said : List ℕ → Told → Option Told
if_said s t = when (tabled t.number and same s (sentence t)) t

-- the refusal whose sentence a text is, if it is one (proofs/ReadsBack.antt: exactly that)
unfoldable pub read_sentence : List ℕ → Option Told
read_sentence s = if_said s (shown s) or_else if_said s (repeated (shown s))

-- 22 'for every text that is no refusal's sentence, length of the text / 0, the reader's only refusal'; nothing was read then
abbrev pub no_reading : ℕ → Result Told Refusal
no_reading n = Err (NotASentence n)

abbrev pub reading_of : List ℕ → Option Told → Result Told Refusal
reading_of s (some t) = Ok t
reading_of s none = no_reading (length s)

-- what the console is handed: three numbers, or on a refusal what it had
abbrev pub handed : Option Told → List ℕ → List ℕ
handed (some t) parts = set (set (set parts 0 t.number) 1 t.first) 2 t.second
handed none parts = parts
