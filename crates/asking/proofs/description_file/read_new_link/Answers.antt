-- `asking::description_file::read_new_link` meets its contract.
use Rattle.reader.proofs.NumberLaws.{is_none, is_value, is_fault}
use Rattle.reader.proofs.Chain.{stopped, broken, finished}
use Rattle.asking.proofs.NewLinkLaws.{bad_from, bad_delay, bad_order, whole_link, link_is}
use Rattle.asking.proofs.description_file.read_new_link.Goals as goal

pub returns-in_err-from : goal.returns-in_err-from
returns-in_err-from c = stopped _ c.from_residual.ensures.1 (bad_from _ _ _ _ (is_fault _ _ _ c.field.ensures c.in_err-from.was))

pub returns-in_err-delay : goal.returns-in_err-delay
returns-in_err-delay c =
    let e = c.field.ensures in
    let q = c.in_ok-from.was in
    stopped _ c.from_residual-in_err-delay.ensures.1
    (bad_delay _ _ _ _ _ (is_none _ _ _ e q) (is_value _ _ _ e q) (is_fault _ _ _ c.field-2.ensures c.in_err-delay.was))

pub returns-then-below : goal.returns-then-below
returns-then-below c =
    let e = c.field.ensures in
    let q = c.in_ok-from.was in
    let h = c.field-2.ensures in
    let s = c.in_ok-delay.was in
    finished
    (whole_link _ _ _ _ _ (is_none _ _ _ e q) (is_value _ _ _ e q) _ (is_none _ _ _ h s) (is_value _ _ _ h s) _ c.below.ensures c.if-below.true)
    (link_is _ _ _ _ _ (is_none _ _ _ e q) (is_value _ _ _ e q) _ (is_none _ _ _ h s) (is_value _ _ _ h s) _ c.below.ensures)

pub returns : goal.returns
returns c =
    let e = c.field.ensures in
    let q = c.in_ok-from.was in
    let h = c.field-2.ensures in
    let s = c.in_ok-delay.was in
    broken
    (bad_order _ _ _ _ _ (is_none _ _ _ e q) (is_value _ _ _ e q) _ (is_none _ _ _ h s) (is_value _ _ _ h s) _ c.below.ensures c.if-below.false)
