-- Laws of answers: what a step's answer says of its first refusal.
use mathlib.Core.Path.{◌≡◌, refl}
use mathlib.Core.Option.{Option, none, some}
use mathlib.Core.Logic.{◌↔◌}
use Rattle.std.specs.Prelude.{Ok, Err}
use Rattle.reader.specs.declared.refusal.Refusal.{Refusal}
use Rattle.reader.specs.Refusals.{resulted, answered, answer_of}

-- of a result that is such a value or such a fault: the fault, and the value
module _ {A : Type 0} (v : A) where
  pub resulted_none : (o : Option Refusal) {x : A} → resulted o v ≡ Ok x → o ≡ none
  resulted_none none h = refl
  resulted_none (some r) h = cc

  pub resulted_value : (o : Option Refusal) {x : A} → resulted o v ≡ Ok x → x ≡ v
  resulted_value none h = cc
  resulted_value (some r) h = cc

  pub resulted_fault : (o : Option Refusal) {r : Refusal} → resulted o v ≡ Err r → o ≡ some r
  resulted_fault none h = cc
  resulted_fault (some s) h = cc

pub answered_done : (o : Option Refusal) → (answered o ≡ Ok tt) ↔ (o ≡ none)
answered_done o = (resulted_none tt o, λ h. rw h)

pub answered_refused : (o : Option Refusal) (r : Refusal) → (answered o ≡ Err r) ↔ (o ≡ some r)
answered_refused o r = (resulted_fault tt o, λ h. rw h)

pub done_none : {A : Type 0} (v : A) (o : Option Refusal) → answer_of (resulted o v) ≡ Ok tt → o ≡ none
done_none v none h = refl
done_none v (some r) h = cc
