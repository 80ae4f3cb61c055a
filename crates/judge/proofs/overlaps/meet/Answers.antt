-- `judge::overlaps::meet` meets its contract.
use Rattle.copies.specs.Sets.{meets}
use Rattle.judge.proofs.SweepLaws.{both_is}
use Rattle.judge.proofs.overlaps.meet.Goals as goal

pub returns : goal.returns
unfolding meets
returns c = both_is _ _
