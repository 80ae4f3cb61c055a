-- `asking::ask` meets its contract.
use Rattle.std.proofs.lemmas.Result.{err_from_is_err_and}
use Rattle.asking.proofs.CallLaws.{ask_nowhere, ask_at}
use Rattle.asking.proofs.ask.Goals as goal

pub returns-in_err-pair : goal.returns-in_err-pair
returns-in_err-pair c =
    let p = err_from_is_err_and c.from_residual.result c.from_residual.ensures.1 in
    rw (p.1, p.2) (ask_nowhere _ _ _ c.requires _ c.place_new.ensures _ c.in_err-pair.was)

pub returns : goal.returns
returns c = ask_at _ _ _ c.requires _ c.place_new.ensures _ c.in_ok-pair.was _ c.place_of.ensures
