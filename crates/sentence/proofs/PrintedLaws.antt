-- Laws of printing a sentence: room for it, the phrases of a number, and the answer.
use Prim.Native.Nat.{ℕ, ◌+◌, ◌≤◌}
use mathlib.Core.Bool.{Bool, true, false}
use mathlib.Core.Path.{◌≡◌, ap, ◌∙◌}
use mathlib.Core.List.{List, ◌++◌, append-nil}
use lib.ListN.{length, take, length-append}
use native.Mathlib.Omega.{arith}
use Rattle.reader.specs.declared.refusal.Refusal.TheVariants.{NotASentence}
use Rattle.std.specs.Prelude.{Err}
use Rattle.reader.specs.declared.refusal.Told.{Told}
use Rattle.reader.specs.First.{◌or_else◌, unless}
use Rattle.reader.proofs.TestLaws.{split}
use Rattle.writer.specs.Write.{room_fault, writes}
use Rattle.writer.proofs.PutLaws.{take_splice}
use Rattle.decimal.specs.Decimal.{decimal}
use Rattle.decimal.specs.Prints.{Prints}
use Rattle.decimal.proofs.DecimalLaws.{decimal_most, digits_most}
use Rattle.sentence.specs.Phrases.{spelled, Row, tabled, row_of, unsaid, mark}
use Rattle.sentence.specs.Sentence.{max_sentence, Tabled, around, placed, front, phrases, body, sentence, print_fault, print_sentence}
use Rattle.sentence.proofs.PhraseLaws.{Kept, row_kept, tabled_most}

-- both places among their phrases: where the second goes without saying, and where it is told
module _ (f e m : List ℕ) (t : Told) where
  pub around_quiet : (b : Bool) → b ≡ true → around f e m b t ≡ f ++ (decimal t.first ++ e)
  unfolding around
  around_quiet b h = rw h (ap (λ l. f ++ (decimal t.first ++ l)) (append-nil e))

  pub around_told : (b : Bool) → b ≡ false → around f e m b t ≡ f ++ (decimal t.first ++ (e ++ (m ++ decimal t.second)))
  unfolding around
  around_told b h = rw h

  pub quiet_length : (b : Bool) → b ≡ true → length (around f e m b t) ≡ length f + (length (decimal t.first) + length e)
  quiet_length b h = ap length (around_quiet b h) ∙ simp length-append

  pub told_length : (b : Bool) → b ≡ false
      → length (around f e m b t) ≡ length f + (length (decimal t.first) + (length e + (length m + length (decimal t.second))))
  told_length b h = ap length (around_told b h) ∙ simp length-append

  -- room for the first place with its phrases, in any case; and for the second, where it is told
  module _ (b : Bool) (at : ℕ) {n : ℕ} where
    pub first_room : at + length (around f e m b t) ≤ n → at + (length f + (length (decimal t.first) + length e)) ≤ n
    first_room p = split b (λ h. omega (arith, quiet_length b h)) (λ h. omega (arith, told_length b h))

    pub second_room : b ≡ false → at + length (around f e m b t) ≤ n
        → at + (length f + (length (decimal t.first) + (length e + (length m + length (decimal t.second))))) ≤ n
    second_room h p = omega (arith, told_length b h)

pub sentence_length : (t : Told) → length (sentence t) ≡ 8 + (length (decimal t.number) + length (phrases (row_of t.number) t)) + 1
unfolding sentence body spelled
sentence_length t = simp length-append (omega arith)

-- the phrases of a row that keeps what rows keep, around places of 8 bytes
phrases_most : (r : Row) (t : Told) → Kept r → Tabled t → length (phrases r t) ≤ 109
unfolding phrases placed
phrases_most r t k h =
    let first = digits_most t.first h.first in
    let second = digits_most t.second h.second in
    let room = k.room in
    let joined = length-append (spelled r.effect) (spelled (mark r.second)) in
    split (unsaid r.second t.first t.second)
    (λ q. omega (arith, quiet_length (front r) (spelled r.effect) (spelled (mark r.second)) t _ q))
    (λ q. omega (arith, told_length (front r) (spelled r.effect) (spelled (mark r.second)) t _ q))

-- 'of at most 120 bytes'
pub sentence_most : (t : Told) → Tabled t → length (sentence t) ≤ max_sentence
sentence_most t h =
    let number : length (decimal t.number) ≤ 2 = decimal_most 1 t.number (omega (arith, tabled_most t.number h.number)) in
    omega (arith, sentence_length t, phrases_most (row_of t.number) t (row_kept t.number h.number) h)

pub sentence_room : (t : Told) → Tabled t → 8 + (length (decimal t.number) + length (phrases (row_of t.number) t)) + 1 ≤ max_sentence
sentence_room t h = omega (arith, sentence_length t, sentence_most t h)

-- a buffer at whose front a text was printed
module _ {d b s : List ℕ} {r : ℕ} (p : Prints d 0 s b r) where
  pub printed_size : r ≡ length s
  printed_size = omega (arith, p.behind)

  pub printed_front : take r b ≡ s
  printed_front = rw (printed_size, p.buffer) (take_splice d s)

-- the answer, test by test
module _ (t : Told) (out : List ℕ) where
  pub print_untabled : tabled t.number ≡ false → print_sentence t out ≡ record { answer = Err (NotASentence t.number); buffer = out }
  unfolding print_sentence print_fault unless ◌or_else◌
  print_untabled h = rw h

  pub print_tabled : tabled t.number ≡ true → writes (room_fault out (length (sentence t))) (sentence t) out ≡ print_sentence t out
  unfolding print_sentence print_fault unless ◌or_else◌
  print_tabled h = rw h
