-- What the loop of `judge::backups::backups_fed` keeps.
use Rattle.reader.specs.declared.refusal.Refusal.TheVariants.{BackupUnfed}
use Rattle.reader.specs.First.{unless}
use Rattle.reader.specs.Entries.{links, link}
use Rattle.judge.specs.Backups.{link_feeds}
use Rattle.judge.proofs.ScanLaws.{Clear}
use Rattle.judge.proofs.backups.backups_fed.Given as goal

abbrev pub invariant-loop-l : goal.invariant-loop-l
invariant-loop-l v =
    let job = v.job in
    Clear (links job) (λ k. unless (link_feeds job v.copies v.leave k) (BackupUnfed (link job k).from (link job k).to)) v.l-index
