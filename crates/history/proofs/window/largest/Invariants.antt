-- What the loop of `history::window::largest` keeps.
use Rattle.history.proofs.SeenLaws.{SeenTo}
use Rattle.history.proofs.window.largest.Given as goal

abbrev pub invariant-loop-i : goal.invariant-loop-i
invariant-loop-i l = SeenTo l.w l.i l.seen
