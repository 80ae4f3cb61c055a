-- 'Reading a sentence gives back its refusal', and nothing else is read: so no two refusals share a sentence.
use Prim.Native.Nat.{ℕ, ◌≤◌}
use mathlib.Core.Bool.{Bool, true, false}
use mathlib.Core.Path.{◌≡◌, refl, sym, ap, ◌∙◌, subst}
use mathlib.Core.List.{List, ◌++◌, append_assoc}
use mathlib.Core.Option.{Option, none, some}
use mathlib.Core.Logic.{◌↔◌}
use lib.Dec.{eqb}
use lib.ListN.{length, take}
use lib.Seq.{take-append_seam}
use native.Mathlib.Omega.{arith}
use borrow.Author.Tests.{le-leb, eqb-true, eqb-false, ne_eqb}
use Rattle.reader.specs.declared.refusal.Told.{Told}
use Rattle.reader.specs.Tests.{◌and◌}
use Rattle.reader.specs.First.{◌or_else◌, unless}
use Rattle.reader.specs.Refusals.{told}
use Rattle.reader.proofs.TestLaws.{split, never, and_i, and_l, and_r, and_no}
use Rattle.reader.proofs.FirstLaws.{when_some, when_is, some_when, none_when}
use Rattle.writer.specs.Write.{room_fault}
use Rattle.decimal.specs.Decimal.{decimal}
use Rattle.decimal.specs.Numbers.{is_digit, number_in, after_number}
use Rattle.decimal.proofs.Spelling.{decimal_spells}
use Rattle.decimal.proofs.FoundLaws.{number_small, digitless, walled, walled_more, walled_behind, digitless_append}
use Rattle.decimal.proofs.FoundLaws.{number_found, number_passed, none_found}
use Rattle.sentence.specs.declared.phrase.Second.{Second}
use Rattle.sentence.specs.declared.phrase.Second.TheVariants.{Nought as nought, Again as again, Another as another}
use Rattle.sentence.specs.Phrases.{spelled, tabled, row_of, unsaid, mark}
use Rattle.sentence.specs.Sentence.{Tabled, placed, front, phrases, body, sentence, print_fault, print_sentence}
use Rattle.sentence.specs.Reading.{same, if_said, shown, repeated, read_sentence}
use Rattle.sentence.proofs.PhraseLaws.{tabled_most, between, Kept, row_kept}
use Rattle.sentence.proofs.CompareLaws.{same_self, same_true, other_sizes}
use Rattle.sentence.proofs.PrintedLaws.{around_quiet, around_told, quiet_length, told_length, sentence_length}

-- a refusal whose sentence the text is, and one whose sentence it is not
said : (t : Told) → Tabled t → if_said (sentence t) t ≡ some t
unfolding if_said
said t h = some_when _ t (and_i (tabled t.number) (same (sentence t) (sentence t)) h.number (same_self (sentence t)))

not_said : (s : List ℕ) (t : Told) → false ≡ same s (sentence t) → if_said s t ≡ none
unfolding if_said
not_said s t e = none_when _ t (ap (λ b. tabled t.number and b) (sym e) ∙ and_no (tabled t.number))

-- a second place other than 0 that goes without saying is the first again, and 0 would have to be told in its stead
unsaid_again : (k : Second) (a b : ℕ) → unsaid k a b ≡ true → (b ≡ 0 → ⊥) → (b ≡ a) × (unsaid k a 0 ≡ false)
unfolding unsaid
unsaid_again nought a b e h = absurd (h (eqb-true b 0 e))
unsaid_again again a b e h = let same = eqb-true b a e in (same, ne_eqb 0 a (λ z. h (same ∙ sym z)))
unsaid_again another a b e h = never (cc)

opening : digitless (spelled "Refused ") ≡ true
unfolding digitless spelled is_digit ◌and◌
opening = refl

closing : (digitless (spelled ".") ≡ true) × (walled (spelled ".") ≡ true)
unfolding digitless walled spelled is_digit ◌and◌
closing = (refl, refl)

module _ (t : Told) (h : Tabled t) where
  abbrev n : ℕ
  n = t.number

  abbrev effect : List ℕ
  effect = spelled (row_of n).effect

  abbrev marked : List ℕ
  marked = spelled (mark (row_of n).second)

  -- whether the second place goes without saying
  abbrev quiet : ℕ → Bool
  quiet b = unsaid (row_of n).second t.first b

  kept : Kept (row_of n)
  kept = row_kept n h.number

  -- what is shown of a sentence, by what stands behind its first place
  module _ (rest : List ℕ) (w : walled rest ≡ true) where
    abbrev first : List ℕ
    first = front (row_of n) ++ (decimal t.first ++ rest)

    shown_of : sentence t ≡ spelled "Refused " ++ (decimal n ++ first) → shown (sentence t) ≡ told n t.first (number_in rest)
    unfolding shown
    shown_of e =
        let wall = walled_more (front (row_of n)) (decimal t.first ++ rest) kept.front_walled in
        let number = number_found (spelled "Refused ") first n opening wall (omega (arith, tabled_most n h.number)) in
        let after = number_passed (spelled "Refused ") first n opening wall in
        let place = number_found (front (row_of n)) rest t.first kept.front_digitless w h.first in
        let behind = number_passed (front (row_of n)) rest t.first kept.front_digitless w in
        rw (e, number, after, place, behind)

  quiet_grouped : quiet t.second ≡ true
      → sentence t ≡ spelled "Refused " ++ (decimal n ++ (front (row_of n) ++ (decimal t.first ++ (effect ++ spelled "."))))
  unfolding sentence body phrases placed
  quiet_grouped q = rw (around_quiet (front (row_of n)) effect marked t (quiet t.second) q) (simp append_assoc)

  told_grouped : quiet t.second ≡ false
      → sentence t
      ≡ spelled "Refused " ++ (decimal n ++ (front (row_of n) ++ (decimal t.first ++ (between (row_of n) ++ (decimal t.second ++ spelled ".")))))
  unfolding sentence body phrases placed
  told_grouped q = rw (around_told (front (row_of n)) effect marked t (quiet t.second) q) (simp append_assoc)

  quiet_shown : quiet t.second ≡ true → shown (sentence t) ≡ told n t.first 0
  quiet_shown q =
      let none = none_found (effect ++ spelled ".") (digitless_append effect (spelled ".") kept.effect_digitless closing.0) in
      shown_of (effect ++ spelled ".") (walled_behind effect (spelled ".") kept.effect_digitless closing.1) (quiet_grouped q)
      ∙ ap (told n t.first) none

  told_shown : quiet t.second ≡ false → shown (sentence t) ≡ t
  told_shown q =
      let rest = decimal t.second ++ spelled "." in
      let place = number_found (between (row_of n)) (spelled ".") t.second kept.between_digitless closing.1 h.second in
      shown_of (between (row_of n) ++ rest) (walled_more (between (row_of n)) rest kept.between_walled) (told_grouped q) ∙ ap (told n t.first) place

  -- the refusal that is shown is the one that is read
  read_shown : shown (sentence t) ≡ t → read_sentence (sentence t) ≡ some t
  unfolding read_sentence ◌or_else◌
  read_shown e = rw (e, said t h)

  -- with another second place, which has to be told, the sentence is longer
  longer : quiet t.second ≡ true → quiet 0 ≡ false → false ≡ same (sentence t) (sentence (told n t.first 0))
  unfolding phrases placed
  longer q z =
      let u = told n t.first 0 in
      let short = quiet_length (front (row_of n)) effect marked t (quiet t.second) q in
      let long = told_length (front (row_of n)) effect marked u (quiet 0) z in
      let digit = (decimal_spells 0).some in
      let one = sentence_length t in
      let two = sentence_length u in
      other_sizes (sentence t) (sentence u) (λ e. omega (arith, short, long, digit, one, two))

  read_repeated : quiet t.second ≡ true → t.second ≡ t.first → quiet 0 ≡ false → read_sentence (sentence t) ≡ some t
  unfolding read_sentence repeated ◌or_else◌
  read_repeated q e z =
      let again : told n t.first t.first ≡ t = ap (told n t.first) (sym e) in
      rw (quiet_shown q, not_said (sentence t) (told n t.first 0) (longer q z), again, said t h)

  -- 'Reading a sentence gives back its refusal'
  pub reads_back : read_sentence (sentence t) ≡ some t
  reads_back =
      split (quiet t.second)
      (λ q.
      split (eqb t.second 0)
      (λ z. read_shown (quiet_shown q ∙ ap (told n t.first) (sym (eqb-true t.second 0 z))))
      (λ z. let own = unsaid_again (row_of n).second t.first t.second q (eqb-false t.second 0 z) in read_repeated q own.0 own.1))
      (λ q. read_shown (told_shown q))

shown_tabled : (s : List ℕ) → tabled (shown s).number ≡ true → Tabled (shown s)
unfolding shown
shown_tabled s h = record { number = h; first = number_small (after_number s); second = number_small (after_number (after_number s)) }

some_inj : {t u : Told} → some t ≡ some u → t ≡ u
some_inj e = cc

-- what is read is a refusal of the tables, and the text is its sentence
said_only : (s : List ℕ) (u t : Told) → (tabled u.number ≡ true → Tabled u) → if_said s u ≡ some t → Tabled t × (s ≡ sentence t)
unfolding if_said
said_only s u t small e =
    let is : u ≡ t = when_is _ u t e in
    let both = when_some _ u t e in
    let number = and_l (tabled u.number) (same s (sentence u)) both in
    let text = same_true s (sentence u) (and_r (tabled u.number) (same s (sentence u)) both) in
    (subst Tabled is (small number), text ∙ ap sentence is)

either : (a b : Option Told) (t : Told) → (a or_else b) ≡ some t → {C : Type 0} → (a ≡ some t → C) → (b ≡ some t → C) → C
unfolding ◌or_else◌
either none b t e f g = g e
either (some u) b t e f g = f e

pub read_only : (s : List ℕ) (t : Told) → read_sentence s ≡ some t → Tabled t × (s ≡ sentence t)
unfolding read_sentence repeated
read_only s t e =
    let one = shown_tabled s in
    either (if_said s (shown s)) (if_said s (repeated (shown s))) t e (said_only s (shown s) t one)
    (said_only s (repeated (shown s)) t (λ h. record { number = h; first = (one h).first; second = (one h).first }))

-- 'the refusal whose sentence it is', exactly
pub read_exactly : (s : List ℕ) (t : Told) → (read_sentence s ≡ some t) ↔ (Tabled t × (s ≡ sentence t))
read_exactly s t = (read_only s t, λ p. ap read_sentence p.1 ∙ reads_back t p.0)

-- a text that is refused is no refusal's sentence
pub refused_none : (s : List ℕ) → read_sentence s ≡ none → (t : Told) → Tabled t → s ≡ sentence t → ⊥
refused_none s e t h q = never (cc (reads_back t h, ap read_sentence q))

-- 'No two different refusals, number and both places, may share a sentence.'
pub never_shared : (t u : Told) → Tabled t → Tabled u → sentence t ≡ sentence u → t ≡ u
never_shared t u h k e = some_inj (sym (reads_back t h) ∙ ap read_sentence e ∙ reads_back u k)

-- what the console printed into a buffer reads back
pub printed_reads : (t : Told) (out : List ℕ) → Tabled t → length (sentence t) ≤ length out
    → read_sentence (take (length (sentence t)) (print_sentence t out).buffer) ≡ some t
unfolding print_sentence print_fault unless ◌or_else◌ room_fault
printed_reads t out h l =
    rw (h.number, le-leb (length (sentence t)) (length out) l, take-append_seam) (reads_back t h)
