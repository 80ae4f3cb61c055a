-- What the loop of `asking::beside::place_new` keeps.
use Rattle.asking.specs.Beside.{BesideTo}
use Rattle.asking.proofs.beside.place_new.Given as goal

abbrev pub invariant-loop-j : goal.invariant-loop-j
invariant-loop-j l = BesideTo l.job l.plan l.d l.links l.j l.board
