-- The two calls on bytes: each refusal can be taken back out of the 8-byte result, and what a call leaves of what it was lent.
use Prim.Native.Nat.{ℕ, ◌^◌, ◌<◌}
use mathlib.Core.Bool.{false}
use mathlib.Core.Path.{◌≡◌, refl, ap}
use mathlib.Core.List.{List}
use mathlib.Core.Option.{none, some}
use lib.ListN.{length, drop}
use native.Mathlib.Omega.{arith}
use Rattle.reader.specs.declared.refusal.Refusal.{Refusal}
use Rattle.reader.specs.declared.refusal.Refusal.TheVariants.{NotASentence}
use Rattle.reader.specs.declared.refusal.Told.{Told}
use Rattle.reader.specs.First.{unless}
use Rattle.reader.specs.Refusals.{told, tell, answer_of, result_number, FaultFits}
use Rattle.reader.proofs.FirstLaws.{unless_none}
use Rattle.reader.proofs.FitLaws.{fits_unless, fits_or_else, fits_at}
use Rattle.writer.proofs.WriteFits.{room_fits}
use Rattle.seqopchi.specs.Unpacks.{Unpacks}
use Rattle.seqopchi.proofs.Unpacked.{unpacks}
use Rattle.seqopchi.proofs.KeptBytes.{refused_kept, done_beyond}
use Rattle.sentence.specs.Phrases.{tabled}
use Rattle.sentence.specs.Sentence.{Tabled, sentence, print_fault, print_sentence}
use Rattle.sentence.specs.Reading.{read_sentence, reading_of, handed}
use Rattle.sentence.proofs.PrintedLaws.{sentence_most}

-- printing: a number of 4 bytes and two places of 8, as the call has them
module _ (n a b : ℕ) (out : List ℕ) where
  print_fits : n < 2 ^ 32 → a < 2 ^ 64 → b < 2 ^ 64 → FaultFits (print_fault (told n a b) out)
  unfolding print_fault
  print_fits p q r =
      fits_or_else _ _ (fits_unless (tabled n) (NotASentence n) (fits_at 22 n (omega arith) p))
      (λ e.
      let whole : Tabled (told n a b) = record { number = unless_none _ _ e; first = q; second = r } in
      room_fits out (length (sentence (told n a b))) (omega (arith, sentence_most (told n a b) whole)))

  pub print_unpacks : n < 2 ^ 32 → a < 2 ^ 64 → b < 2 ^ 64
      → (r : Refusal) → print_fault (told n a b) out ≡ some r → Unpacks (tell r) (result_number (print_sentence (told n a b) out).answer)
  unfolding print_sentence
  print_unpacks p q s = unpacks (print_fault (told n a b) out) (print_fits p q s)

module _ (t : Told) (out : List ℕ) where
  pub print_refused_keeps : (result_number (print_sentence t out).answer ≡ 0 → ⊥) → (print_sentence t out).buffer ≡ out
  unfolding print_sentence
  print_refused_keeps = refused_kept (print_fault t out) (sentence t) out

  pub print_keeps_beyond : let need = length (sentence t) in
      result_number (print_sentence t out).answer ≡ 0 → drop need (print_sentence t out).buffer ≡ drop need out
  unfolding print_sentence
  print_keeps_beyond = done_beyond (print_fault t out) (sentence t) out _ refl

-- reading a text that is no refusal's sentence: 22, and the three numbers as they were
module _ (s : List ℕ) (e : read_sentence s ≡ none) where
  pub read_unpacks : length s < 2 ^ 32 → Unpacks (told 22 (length s) 0) (result_number (answer_of (reading_of s (read_sentence s))))
  unfolding unless
  read_unpacks p =
      let r = NotASentence (length s) in
      rw e (unpacks (unless false r) (fits_unless false r (fits_at 22 (length s) (omega arith) p)) r refl)

  pub read_refused_keeps : (parts : List ℕ) → handed (read_sentence s) parts ≡ parts
  read_refused_keeps parts = ap (λ o. handed o parts) e
