-- What the loop of `listing::main` keeps, and what falls.
use Rattle.std.proofs.Common.{◌-◌, ◌≤◌}
use Rattle.listing.proofs.main.Given as goal

-- 10,961 is ENOUGH of `text`: one byte more than the longest job
abbrev pub invariant-loop-n : goal.invariant-loop-n
invariant-loop-n l = l.n ≤ 10961

abbrev pub decreases-loop-n : goal.decreases-loop-n
decreases-loop-n l = 10961 - l.n
