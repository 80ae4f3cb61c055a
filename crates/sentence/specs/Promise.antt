-- What is said of sentences beside their bytes.
use Rattle.std.specs.Prelude.{ℕ, Bool, true, not, ◌≡◌, List, [], ◌∷◌, ◌++◌, eqb}
use Rattle.reader.specs.declared.refusal.Told.{Told}
use Rattle.reader.specs.Tests.{◌and◌}
use Rattle.sentence.specs.declared.phrase.Second.{Second}
use Rattle.sentence.specs.declared.phrase.Second.TheVariants.{Nought as nought, Again as again, Another as another}
use Rattle.sentence.specs.Phrases.{row_of}

-- 'Each sentence holds its refusal's word from the tables.'
pub record Holds (s w : List ℕ) : Type 0 where
  pub front : List ℕ
  pub back : List ℕ
  pub whole : s ≡ front ++ (w ++ back)

abbrev pub full_stop : ℕ
full_stop = 46

-- no byte is a full stop
unfoldable pub stopless : List ℕ → Bool
stopless [] = true
stopless (b ∷ s) = not (eqb b full_stop) and stopless s

-- s is body with a full stop behind it, and no other
pub record EndsAtStop (s body : List ℕ) : Type 0 where
  pub whole : s ≡ body ++ (full_stop ∷ [])
  pub only : stopless body ≡ true

-- the second place of a refusal is as the tables have it: 0, the first again, or one with a phrase of its own
unfoldable pub fitting : Second → ℕ → ℕ → Bool
fitting nought a b = eqb b 0
fitting again a b = eqb b a
fitting another a b = true

abbrev pub as_tabled : Told → Bool
as_tabled t = fitting (row_of t.number).second t.first t.second
