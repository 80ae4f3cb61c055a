-- The listing, computed: sample 1 of document 01, a refusal, and a number of many digits.
use mathlib.Core.Path.{◌≡◌, refl}
use mathlib.Core.List.{[], ◌∷◌, ◌++◌}
use Rattle.reader.specs.Samples.{J}
use Rattle.writer.specs.Write.{job_bytes}
use Rattle.writer.proofs.Samples.{filed}
use Rattle.rules.proofs.Samples.{computed}
use Rattle.decimal.specs.Decimal.{digits, decimal}
use Rattle.text.specs.Text.{field, line, header, row, plan_text, refused_word, told_text, attempt_text, read_text, listing}

-- what is opened to print
printing : Unit {0}
unfolding digits decimal field line header row plan_text refused_word told_text attempt_text read_text listing
printing = tt

pub many_digits : decimal 1_000_000 ≡ 49 ∷ 48 ∷ 48 ∷ 48 ∷ 48 ∷ 48 ∷ 48 ∷ []
unfolding printing
many_digits = refl

-- '0 0 0 1 5' and '1 0 4 1 9'
pub sample_1 :
    listing (job_bytes J)
    ≡ header ++ (48 ∷ 32 ∷ 48 ∷ 32 ∷ 48 ∷ 32 ∷ 49 ∷ 32 ∷ 53 ∷ 10 ∷ [])
    ++ (49 ∷ 32 ∷ 48 ∷ 32 ∷ 52 ∷ 32 ∷ 49 ∷ 32 ∷ 57 ∷ 10 ∷ [])
unfolding filed computed printing
sample_1 = refl

-- 'Empty file: refused 1 (0, 0)'
pub empty_listed : listing [] ≡ refused_word ++ (49 ∷ 32 ∷ 48 ∷ 32 ∷ 48 ∷ 10 ∷ [])
unfolding filed printing
empty_listed = refl
