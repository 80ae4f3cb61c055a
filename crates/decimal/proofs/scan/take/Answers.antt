-- `decimal::scan::take` meets its contract.
use mathlib.Core.Path.{sym, ◌∙◌}
use native.Mathlib.Omega.{arith}
use Rattle.decimal.proofs.ScanLaws.{ascii_digit, value_here, value_more, value_end, behind_here, behind_more, behind_end}
use Rattle.decimal.proofs.scan.take.Goals as goal

pub returns-then-not-is_ascii_digit : goal.returns-then-not-is_ascii_digit
returns-then-not-is_ascii_digit c =
    let other = sym (ascii_digit _) ∙ sym c.is_ascii_digit.ensures.value ∙ c.if-not-is_ascii_digit.true in
    record {
      within = omega arith;
      value = value_here _ _ c.loop-i-test.true _ other ∙ c.loop-i.invariant.0;
      rest = behind_here _ _ c.loop-i-test.true other ∙ c.loop-i.invariant.1;
    }

pub grown-v-requires : goal.grown-v-requires
grown-v-requires c = sym (ascii_digit _) ∙ sym c.is_ascii_digit.ensures.value ∙ c.if-not-is_ascii_digit.false

pub loop-i-preserved : goal.loop-i-preserved
loop-i-preserved c =
    let digit = sym (ascii_digit _) ∙ sym c.is_ascii_digit.ensures.value ∙ c.if-not-is_ascii_digit.false in (
      value_more _ _ c.loop-i-test.true _ _ c.grown-v.ensures digit ∙ c.loop-i.invariant.0,
      behind_more _ _ c.loop-i-test.true digit ∙ c.loop-i.invariant.1,
    )

pub returns : goal.returns
returns c =
    record {
      within = omega arith;
      value = value_end _ _ c.loop-i-test.false _ ∙ c.loop-i.invariant.0;
      rest = behind_end _ _ c.loop-i-test.false ∙ c.loop-i.invariant.1;
    }
