-- What the functions that read a part of a file promise.
use Rattle.std.proofs.Math.Option.{Option}
use Rattle.std.specs.Prelude.{◌≡◌, Result, Ok}
use Rattle.reader.specs.declared.refusal.Refusal.{Refusal}
use Rattle.reader.specs.Refusals.{answered, answer_of}

-- an error tells the first fault; where there is none, the value is as it should be
pub record Reads {A : Type 0} (fault : Option Refusal) (result : Result A Refusal) (good : A → Type 0) : Type 0 where
  pub answer_is : answer_of result ≡ answered fault
  pub value_is : (a : A) → result ≡ Ok a → good a
