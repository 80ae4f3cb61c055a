-- `asking::commit` meets its contract.
use Rattle.std.proofs.lemmas.Result.{err_from_is_err_and}
use Rattle.asking.proofs.CallLaws.{pair_handed, refusal_handed}
use Rattle.asking.proofs.commit.Goals as goal

pub returns-in_err-places : goal.returns-in_err-places
returns-in_err-places c =
    let p = err_from_is_err_and c.from_residual.result c.from_residual.ensures.1 in
    rw (p.1, p.2) (refusal_handed _ c.commit_to.ensures.answer c.in_err-places.was)

pub returns : goal.returns
returns c = pair_handed _ c.commit_to.ensures.answer c.in_ok-places.was
