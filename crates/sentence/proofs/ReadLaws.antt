-- Laws of reading a sentence: what the three numbers found, and the two comparisons, say of the text.
use Prim.Native.Nat.{ℕ}
use mathlib.Core.Bool.{true, false}
use mathlib.Core.Path.{◌≡◌, refl, sym, ap, ◌∙◌}
use mathlib.Core.List.{List, [], ◌∷◌}
use mathlib.Core.Option.{Option, none, some}
use lib.ListN.{length, set}
use native.Mathlib.Omega.{arith}
use Rattle.reader.specs.declared.refusal.Refusal.{Refusal}
use Rattle.std.specs.Prelude.{Ok, Err}
use Rattle.reader.specs.declared.refusal.Told.{Told}
use Rattle.reader.specs.Tests.{◌and◌}
use Rattle.reader.specs.First.{◌or_else◌, when}
use Rattle.reader.specs.Refusals.{told, answer_of}
use Rattle.reader.proofs.TestLaws.{never}
use Rattle.decimal.specs.declared.scan.Found.{Found}
use Rattle.decimal.specs.Numbers.{number_in, after_number}
use Rattle.decimal.specs.Scans.{Finds}
use Rattle.sentence.specs.Phrases.{tabled}
use Rattle.sentence.specs.Sentence.{sentence}
use Rattle.sentence.specs.Reading.{same, if_said, shown, repeated, read_sentence, no_reading, reading_of, handed}

-- the three numbers that were found in a text
pub shown_by : {s : List ℕ} {f g h : Found} → Finds s 0 f → Finds s f.end g → Finds s g.end h → shown s ≡ told f.value g.value h.value
unfolding shown
shown_by pf pg ph =
    let second = pg.value ∙ ap number_in pf.rest in
    let third = ph.value ∙ ap number_in (pg.rest ∙ ap after_number pf.rest) in
    sym (rw (pf.value, second, third))

module _ (s : List ℕ) {n a b : ℕ} (w : shown s ≡ told n a b) where
  -- the two refusals that the text can be of
  read_is : read_sentence s ≡ (if_said s (told n a b) or_else if_said s (told n a a))
  unfolding read_sentence repeated
  read_is = ap (λ t. if_said s t or_else if_said s (repeated t)) w

  pub read_untabled : tabled n ≡ false → no_reading (length s) ≡ reading_of s (read_sentence s)
  unfolding if_said when ◌or_else◌ ◌and◌
  read_untabled e = rw (read_is, e)

  module _ (e : tabled n ≡ true) where
    pub read_one : same s (sentence (told n a b)) ≡ true → Ok (told n a b) ≡ reading_of s (read_sentence s)
    unfolding if_said when ◌or_else◌ ◌and◌
    read_one x = rw (read_is, e, x)

    module _ (x : same s (sentence (told n a b)) ≡ false) where
      pub read_two : same s (sentence (told n a a)) ≡ true → Ok (told n a a) ≡ reading_of s (read_sentence s)
      unfolding if_said when ◌or_else◌ ◌and◌
      read_two y = rw (read_is, e, x, y)

      pub read_none : same s (sentence (told n a a)) ≡ false → no_reading (length s) ≡ reading_of s (read_sentence s)
      unfolding if_said when ◌or_else◌ ◌and◌
      read_none y = rw (read_is, e, x, y)

-- what the console is handed: the answer, and the three numbers or what it had
three : (parts : List ℕ) (a b c : ℕ) → length parts ≡ 3 → a ∷ b ∷ c ∷ [] ≡ set (set (set parts 0 a) 1 b) 2 c
three [] a b c h = absurd (let z : ⊥ = omega arith in z)
three (x ∷ []) a b c h = absurd (let z : ⊥ = omega arith in z)
three (x ∷ y ∷ []) a b c h = absurd (let z : ⊥ = omega arith in z)
three (x ∷ y ∷ z ∷ []) a b c h = refl
three (x ∷ y ∷ z ∷ u ∷ l) a b c h = absurd (let z : ⊥ = omega arith in z)

module _ (s parts : List ℕ) where
  pub refused_handed : (o : Option Told) {q : Refusal} → Err q ≡ reading_of s o → (Err q ≡ answer_of (reading_of s o)) × (parts ≡ handed o parts)
  refused_handed none e = (ap answer_of e, refl)
  refused_handed (some t) e = never (cc)

  pub done_handed : (o : Option Told) {t : Told} → length parts ≡ 3 → Ok t ≡ reading_of s o
      → (Ok tt ≡ answer_of (reading_of s o)) × (t.number ∷ t.first ∷ t.second ∷ [] ≡ handed o parts)
  done_handed none h e = never (cc)
  done_handed (some u) {t} h e = (refl, let is : t ≡ u = cc in rw is (three parts u.number u.first u.second h))
