-- `replay::states::settle` meets its contract.
use mathlib.Core.Bool.{Bool, true, false}
use mathlib.Core.Path.{◌≡◌, sym, ◌∙◌}
use lib.Dec.{leb}
use Rattle.reader.specs.Tests.{◌and◌}
use Rattle.reader.proofs.TestLaws.{and_if, and_unless}
use Rattle.replay.proofs.StateLaws.{settle_primary, settle_backup, settle_neither, is_done, not_done}
use Rattle.replay.proofs.states.settle.Goals as goal
use Rattle.replay.proofs.states.settle.Goals.{then-x, else-x}

-- a test of two, from its second part or from its first
both_hold : (a b : Bool) {m : Bool} → a ≡ true → m ≡ b → m ≡ (a and b)
both_hold a b e m = m ∙ sym (and_if a b e)

first_fails : (a b : Bool) {m : Bool} → a ≡ false → m ≡ a → m ≡ (a and b)
first_fails a b e m = m ∙ e ∙ sym (and_unless a b e)

pub returns-then-eq : goal.returns-then-eq
returns-then-eq c = λ job on. settle_primary job _ _ _ _ _ (c.state_of-primary.ensures job on.0) (is_done _ (sym c.eq.ensures ∙ c.if-eq.true))

pub returns-then-eq-2 : goal.returns-then-eq-2
returns-then-eq-2 c =
    let may : c.if-x.may ≡ (c.args.x.detected and leb c.args.ready_backup c.args.x.backup.start) =
    elim c.if-x.branch [ then-x w ↦ both_hold _ _ w.if-x.true w.may-is | else-x w ↦ first_fails _ _ w.if-x.false w.may-is ] in
    λ job on. settle_backup job _ _ _ _ _ (c.state_of-primary.ensures job on.0) (not_done _ (sym c.eq.ensures ∙ c.if-eq.false)) _ may _
    (c.state_of-backup.ensures job on.1) (is_done _ (sym c.eq-2.ensures ∙ c.if-eq-2.true))

pub returns-else-eq-2 : goal.returns-else-eq-2
returns-else-eq-2 c =
    let may : c.if-x.may ≡ (c.args.x.detected and leb c.args.ready_backup c.args.x.backup.start) =
    elim c.if-x.branch [ then-x w ↦ both_hold _ _ w.if-x.true w.may-is | else-x w ↦ first_fails _ _ w.if-x.false w.may-is ] in
    λ job on. settle_neither job _ _ _ _ _ (c.state_of-primary.ensures job on.0) (not_done _ (sym c.eq.ensures ∙ c.if-eq.false)) _ may _
    (c.state_of-backup.ensures job on.1) (not_done _ (sym c.eq-2.ensures ∙ c.if-eq-2.false))
