-- What the loop of `replay::times_file::read_times` keeps.
use Rattle.replay.proofs.TimesFileLaws.{TimesTo}
use Rattle.replay.proofs.times_file.read_times.Given as goal

abbrev pub invariant-loop-j : goal.invariant-loop-j
invariant-loop-j l = TimesTo l.file l.job l.plan l.j l.of
