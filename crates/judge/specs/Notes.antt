-- The first place at which a rule is broken.
use Rattle.std.specs.Prelude.{ℕ, min, Bool, cond, Option as Maybe, Some, None}
use Rattle.std.proofs.Math.Option.{Option, none, some}
use Rattle.reader.specs.declared.refusal.Refusal.{Refusal}
use Rattle.reader.specs.First.{first, unless}

abbrev pub note_of : Option ℕ → Maybe ℕ
note_of none = None
note_of (some i) = Some i

-- the first of n places
unfoldable pub first_broken : ℕ → (ℕ → Bool) → Maybe ℕ
first_broken n rule = note_of (first n λ i. unless (rule i) i)

-- after one place more
unfoldable pub noted_of : Maybe ℕ → ℕ → Bool → Maybe ℕ
noted_of None at kept = cond kept None (Some at)
noted_of (Some i) at kept = Some (cond kept i (min i at))

-- the refusal of what is noted
unfoldable pub seen : (ℕ → Refusal) → Maybe ℕ → Option Refusal
seen refusal None = none
seen refusal (Some i) = some (refusal i)
