-- The laws by which every chain of steps that may refuse is proved: each step passes, or stops with its refusal.
use mathlib.Core.Path.{◌≡◌, sym, ap, ◌∙◌, subst}
use mathlib.Core.Option.{Option, none, some}
use Rattle.std.specs.Prelude.{Result, Ok, Err, IsErrAnd}
use Rattle.reader.specs.declared.refusal.Refusal.{Refusal}
use Rattle.reader.specs.First.{◌or_else◌}
use Rattle.reader.specs.Refusals.{resulted, answered, answer_of}
use Rattle.reader.specs.Reads.{Reads}
use Rattle.reader.proofs.TestLaws.{never}
use Rattle.reader.proofs.RefusalLaws.{answered_done, answered_refused}

-- a step that passed leaves what comes after it
pub pass : {a : Option Refusal} (b : Option Refusal) → a ≡ none → (a or_else b) ≡ b
unfolding ◌or_else◌
pass b e = rw e

-- a step that stops is the answer of the whole
pub stop : {a : Option Refusal} {r : Refusal} (b : Option Refusal) → a ≡ some r → (a or_else b) ≡ some r
unfolding ◌or_else◌
stop b e = rw e

-- what a `?` hands on, where the whole has that fault
pub handed : {A : Type 0} {o : Option Refusal} {e : Refusal} (v : A) (w : Result A Refusal) → IsErrAnd w (λ r. r ≡ e)
    → o ≡ some e → w ≡ resulted o v
handed v (Ok x) h q = absurd h
handed v (Err r) h q = ap Err h ∙ sym (ap (λ o. resulted o v) q)

-- a refusal and a value, as what a fault gives
module _ {A : Type 0} {o : Option Refusal} (v : A) where
  pub refused : {e : Refusal} → o ≡ some e → Err e ≡ resulted o v
  refused q = sym (ap (λ o. resulted o v) q)

  pub given : {a : A} → o ≡ none → a ≡ v → Ok a ≡ resulted o v
  given q h = ap Ok h ∙ sym (ap (λ o. resulted o v) q)

-- what is promised of a part where a step stops, by `return` or by `?`, and where the last one is done
module _ {A : Type 0} {o : Option Refusal} {good : A → Type 0} where
  pub broken : {e : Refusal} → o ≡ some e → Reads o (Err e) good
  broken q = record { answer_is = sym (ap answered q); value_is = λ a h. never (cc) }

  pub stopped : {e : Refusal} (w : Result A Refusal) → IsErrAnd w (λ r. r ≡ e) → o ≡ some e → Reads o w good
  stopped (Ok x) h q = absurd h
  stopped (Err r) h q = broken (q ∙ ap some (sym h))

  pub finished : {a : A} → o ≡ none → good a → Reads o (Ok a) good
  finished {a} q g = record { answer_is = sym (ap answered q); value_is = λ b h. let e : a ≡ b = cc in subst good e g }

-- what a part's result says in either arm
module _ {A : Type 0} {o : Option Refusal} {w : Result A Refusal} {good : A → Type 0} (reads : Reads o w good) where
  pub reads_none : {a : A} → w ≡ Ok a → o ≡ none
  reads_none q = (answered_done o).0 (sym reads.answer_is ∙ ap answer_of q)

  pub reads_some : {e : Refusal} → w ≡ Err e → o ≡ some e
  reads_some {e} q = (answered_refused o e).0 (sym reads.answer_is ∙ ap answer_of q)

  pub reads_value : {a : A} → w ≡ Ok a → good a
  reads_value q = reads.value_is _ q
