-- Request (xi): 'print a refusal as a sentence of at most 120 bytes, built from fixed English phrases and base-ten numbers'.
use Rattle.std.specs.Prelude.{ℕ, ◌^◌, ◌<◌, ◌≡◌, Bool, true, cond, List, [], ◌++◌, length}
use Rattle.std.proofs.Math.Option.{Option}
use Rattle.reader.specs.declared.refusal.Refusal.{Refusal}
use Rattle.reader.specs.declared.refusal.Refusal.TheVariants.{NotASentence}
use Rattle.reader.specs.declared.refusal.Told.{Told}
use Rattle.reader.specs.First.{◌or_else◌, unless}
use Rattle.writer.specs.Write.{room_fault, Written, writes}
use Rattle.decimal.specs.Decimal.{decimal}
use Rattle.sentence.specs.declared.phrase.Second.{Second}
use Rattle.sentence.specs.Phrases.{spelled, Row, tabled, row_of, unsaid, mark}

-- 'of at most 120 bytes'
abbrev pub max_sentence : ℕ
max_sentence = 120

-- 'Places are 8-byte numbers here, and any two may be printed with any number of the tables'
pub record Tabled (t : Told) : Type 0 where
  pub number : tabled t.number ≡ true
  pub first : t.first < 2 ^ 64
  pub second : t.second < 2 ^ 64

-- both places among their phrases, the second one unless it goes without saying
unfoldable pub around : List ℕ → List ℕ → List ℕ → Bool → Told → List ℕ
around front effect m quiet t = front ++ (decimal t.first ++ (effect ++ cond quiet [] (m ++ decimal t.second)))

-- the same, where the tables have such a second place
unfoldable pub placed : Second → List ℕ → List ℕ → Told → List ℕ
placed k front effect t = around front effect (spelled (mark k)) (unsaid k t.first t.second) t

-- from the comma behind the number up to the first place
unfoldable pub front : Row → List ℕ
front r = spelled ", " ++ (spelled r.word ++ (spelled ": " ++ spelled r.cause))

-- all that stands between the number and the full stop
unfoldable pub phrases : Row → Told → List ℕ
phrases r t = placed r.second (front r) (spelled r.effect) t

-- the sentence, as 'Refused 13, common loss: one loss can stop both copies of task 10.', and first all but its full stop
unfoldable pub body : Told → List ℕ
body t = spelled "Refused " ++ (decimal t.number ++ phrases (row_of t.number) t)

unfoldable pub sentence : Told → List ℕ
sentence t = body t ++ spelled "."

-- 22 'for printing a number outside the tables, that number / 0, before 17'
unfoldable pub print_fault : Told → List ℕ → Option Refusal
print_fault t out = unless (tabled t.number) (NotASentence t.number) or_else room_fault out (length (sentence t))

unfoldable pub print_sentence : Told → List ℕ → Written
print_sentence t out = writes (print_fault t out) (sentence t) out
