-- The fixed phrases of request (xi): for each number of the tables its word, and what its sentence says around the places.
use Rattle.std.specs.Prelude.{ℕ, ◌-◌, Bool, false, List, [], ◌∷◌, leb, eqb, get_or}
use Prim.Native.Char.{code}
use Prim.Native.String.{String, [] as nothing, ◌∷◌ as ◌followed_by◌}
use Rattle.reader.specs.Tests.{◌and◌}
use Rattle.sentence.specs.declared.phrase.Second.{Second}
use Rattle.sentence.specs.declared.phrase.Second.TheVariants.{Nought as nought, Again as again, Another as another}

-- the bytes of a phrase
unfoldable pub spelled : String → List ℕ
spelled nothing = []
spelled (c followed_by s) = code c ∷ spelled s

-- a number's word; what stands before its first place; and what behind it, before the second place where that is another
pub record Row : Type 0 where
  pub word : String
  pub cause : String
  pub effect : String
  pub second : Second

abbrev row : String → String → String → Second → Row
row w c e s = record { word = w; cause = c; effect = e; second = s }

-- numbers 1, 2, .. of the tables: a new number is one row more, here and in the code
unfoldable pub rows : List Row
rows =
    row "short" "the file ends before the number at byte " " is whole" nought
    ∷ row "version" "the version at byte " " is not known here" nought
    ∷ row "count" "the count at byte " " is outside its limits" nought
    ∷ row "value" "the number at byte " " is outside its limits" nought
    ∷ row "link order" "the link at byte " " is not above the one before" nought
    ∷ row "tail" "the file goes on at byte " ", where it should end" nought
    ∷ row "unable" "the node at byte " " cannot run its task" nought
    ∷ row "same node" "both copies of task " " are on one node or supply" again
    ∷ row "early" "the backup of task " " starts before a loss is noticed" again
    ∷ row "late" "the backup of task " " ends after the deadline" again
    ∷ row "primary unfed" "the result of task " " is late for the primary of task " another
    ∷ row "backup unfed" "a result of task " " is late for the backup of task " another
    ∷ row "common loss" "one loss can stop both copies of task " "" again
    ∷ row "overlap" "one node is held at the same time by copies of tasks " " and " another
    ∷ row "no primary" "no node has a place for the primary of task " "" again
    ∷ row "no backup" "no node has a place for the backup of task " "" again
    ∷ row "short buffer" "the output needs room for " " bytes" nought
    ∷ row "no such node" "the loss of " " takes no node of the job" nought
    ∷ row "too soon" "the primary of task " " starts before it is ready" again
    ∷ row "full" "the job has no room for task " " or its links" nought
    ∷ row "stale" "the place for task " " now breaks a rule; ask again" again
    ∷ row "not a sentence" "no refusal has it; its length or number: " "" nought
    ∷ []

-- the last number of the tables
abbrev pub last_number : ℕ
last_number = 22

unfoldable pub tabled : ℕ → Bool
tabled n = leb 1 n and leb n last_number

unfoldable pub row_of : ℕ → Row
row_of n = get_or rows (n - 1) (row "" "" "" another)

-- 'its refusal's word from the tables'
abbrev pub word_of : ℕ → List ℕ
word_of n = spelled (row_of n).word

-- whether a second place goes without saying beside the first
unfoldable pub unsaid : Second → ℕ → ℕ → Bool
unsaid nought a b = eqb b 0
unsaid again a b = eqb b a
unsaid another a b = false

-- what stands before a second place that is told
unfoldable pub mark : Second → String
mark nought = ", second "
mark again = ", second "
mark another = ""
