-- Fault sets in document 01's own words: by paths of weak links.
use Rattle.std.specs.Prelude.{ℕ, ◌<◌, false, ◌≡◌}
use Rattle.reader.specs.declared.job.Job.{Job}
use Rattle.reader.specs.Entries.{links, link}
use Rattle.rules.specs.Copies.{domain}
use Rattle.rules.specs.Rules.{Row, strong}

-- a path of weak links leads from i to j
pub data Leads (job : Job) (t : ℕ → Row) (i : ℕ) : ℕ → Type 0 where
  here : Leads job t i i
  over : {j : ℕ} (k : ℕ) → k < links job → (link job k).to ≡ j → strong job (link job k) (t (link job k).from) (t j).primary ≡ false
      → Leads job t i (link job k).from → Leads job t i j

-- 'The peril of j is the set of nodes holding j's primary, or the primary of any task from which a path of weak links leads to j':
-- the path of no links leads from j itself. (vi) 'Perils hold groups.'
abbrev pub InFaultSet : Job → (ℕ → Row) → ℕ → ℕ → Type 0
InFaultSet job t j q = (i : ℕ) × Leads job t i j × (domain job (t i).primary.node ≡ q)
