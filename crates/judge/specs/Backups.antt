-- E over the entries of the table.
use Rattle.std.specs.Prelude.{ℕ, ◌+◌, ◌*◌, ◌<◌, Bool, true, false, List, ◌≡◌}
use Rattle.std.proofs.Math.Option.{Option}
use Rattle.reader.specs.declared.job.Job.{Job}
use Rattle.reader.specs.declared.refusal.Refusal.{Refusal}
use Rattle.reader.specs.declared.refusal.Refusal.TheVariants.{BackupUnfed}
use Rattle.reader.specs.First.{first, unless}
use Rattle.reader.specs.Entries.{links, link}
use Rattle.copies.specs.declared.table.Copies.{Copies}
use Rattle.copies.specs.Sets.{has}
use Rattle.copies.specs.Arrival.{fed_of, result_at}
use Rattle.copies.specs.Table.{entry, set_at}
use Rattle.judge.specs.Links.{Timed}

module _ (job : Job) where
  -- link k feeds the backup to which it leads
  unfoldable pub link_feeds : Copies → List ℕ → ℕ → Bool
  link_feeds cs leave k =
      let l = link job k in
      let i = 2 * l.from in
      let j = 2 * l.to + 1 in
      let result = result_at cs.node cs.finish leave l.delay in
      fed_of (result i) (result (i + 1)) (set_at cs (i + 1)) (entry cs j) (set_at cs j)

  -- E over the links
  unfoldable pub backup_breach : Copies → List ℕ → Option Refusal
  backup_breach cs leave = first (links job) λ k. let l = link job k in unless (link_feeds cs leave k) (BackupUnfed l.from l.to)

  -- what the pass over them rests on: those from senders outside the set feed their backups
  pub record Unsure (unsure : ℕ) (cs : Copies) (leave : List ℕ) : Type 0 where
    pub timed : Timed job cs leave
    pub others : (k : ℕ) → k < links job → has unsure (link job k).from ≡ false → link_feeds cs leave k ≡ true
