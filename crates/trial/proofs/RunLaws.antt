-- Laws of one link and of one task for all runs at once, as the code goes.
use Prim.Native.Nat.{ℕ, ◌+◌, ◌*◌}
use mathlib.Core.Bool.{cond}
use mathlib.Core.List.{List}
use mathlib.Core.Path.{◌≡◌, refl, ◌∙◌, ap}
use lib.Bits.{bit_and}
use lib.Dec.{leb}
use lib.ListN.{get_or, set}
use Rattle.reader.specs.declared.job.Job.{Job}
use Rattle.reader.specs.declared.job.Link.{Link}
use Rattle.reader.specs.Entries.{ready}
use Rattle.rules.specs.declared.Copy.{Copy}
use Rattle.copies.specs.declared.table.Copies.{Copies}
use Rattle.copies.specs.declared.arrival.Outgoing.{Outgoing}
use Rattle.copies.specs.Arrival.{result_at}
use Rattle.copies.specs.Table.{entry}
use Rattle.trial.specs.declared.words.Losses.{Losses}
use Rattle.trial.specs.Words.{run_count, without_of, spared_in}
use Rattle.trial.specs.Runs.{fed_of, fed_one, fed_with, node_of, Settled}

-- one link, as the code goes
module _ (cs : Copies) (leave : List ℕ) (l : Link) (ended : List ℕ) where
  abbrev result : ℕ → Outgoing
  result = result_at cs.node cs.finish leave l.delay

  fed_one_lem : (k : ℕ) (fed : List ℕ) (p b : Outgoing) (c : Copy) (w : ℕ) → p ≡ result (2 * l.from) → b ≡ result (2 * l.from + 1)
      → c ≡ entry cs k → w ≡ fed_of p b (get_or ended (2 * l.from) 0) (get_or ended (2 * l.from + 1) 0) c
      → set fed k (bit_and (get_or fed k 0) w) ≡ fed_one cs leave l ended k fed
  fed_one_lem k fed p b c w ep eb ec ew = rw (ew, ec, ep, eb)

  pub fed_sent : (fed : List ℕ) (p b : Outgoing) (q c : Copy) (v w : ℕ) → p ≡ result (2 * l.from) → b ≡ result (2 * l.from + 1)
      → q ≡ entry cs (2 * l.to) → v ≡ fed_of p b (get_or ended (2 * l.from) 0) (get_or ended (2 * l.from + 1) 0) q
      → c ≡ entry cs (2 * l.to + 1) → w ≡ fed_of p b (get_or ended (2 * l.from) 0) (get_or ended (2 * l.from + 1) 0) c
      → let once = set fed (2 * l.to) (bit_and (get_or fed (2 * l.to) 0) v) in
      set once (2 * l.to + 1) (bit_and (get_or once (2 * l.to + 1) 0) w) ≡ fed_with cs leave l ended fed
  unfolding fed_with
  fed_sent fed p b q c v w ep eb eq ev ec ew =
      fed_one_lem (2 * l.to + 1) (set fed (2 * l.to) (bit_and (get_or fed (2 * l.to) 0) v)) p b c w ep eb ec ew
      ∙ ap (fed_one cs leave l ended (2 * l.to + 1)) (fed_one_lem (2 * l.to) fed p b q v ep eb eq ev)

-- one task, as the code goes
module _ (job : Job) (cs : Copies) (fed : List ℕ) (losses : Losses) (j : ℕ) (ended started : List ℕ) where
  pub settled_is : (c d : Copy) (may call called pe ps be bs : ℕ) → c ≡ entry cs (2 * j) → d ≡ entry cs (2 * j + 1)
      → may ≡ cond (leb (ready job j) c.start) (get_or fed (2 * j) 0) 0
      → pe ≡ spared_in losses (node_of job c).group c.finish run_count
      → ps ≡ spared_in losses (node_of job c).group (c.start + 1) run_count
      → call ≡ cond (leb (c.finish + (node_of job c).detect) d.start) (get_or fed (2 * j + 1) 0) 0
      → called ≡ without_of call (bit_and may pe)
      → be ≡ spared_in losses (node_of job d).group d.finish run_count
      → bs ≡ spared_in losses (node_of job d).group (d.start + 1) run_count
      → Settled job cs fed losses j (record { ended = ended; started = started }) (record {
        ended = set (set ended (2 * j) (bit_and may pe)) (2 * j + 1) (bit_and called be);
        started = set (set started (2 * j) (bit_and may ps)) (2 * j + 1) (bit_and called bs);
      })
  settled_is c d may call called pe ps be bs ep eb em epe eps ec ecd ebe ebs =
      record { ends = rw (ecd, ec, em, epe, ebe, ep, eb) refl; starts = rw (ecd, ec, em, epe, eps, ebs, ep, eb) refl }
