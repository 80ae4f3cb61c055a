-- Wrong trials, as tests: which runs each of them looks at.
use Rattle.std.specs.Prelude.{ℕ, Bool, not, eqb}
use Rattle.reader.specs.declared.job.Job.{Job}
use Rattle.reader.specs.declared.plan.Plan.{Plan}
use Rattle.reader.specs.Tests.{◌and◌, ◌implies◌}
use Rattle.reader.specs.First.{every, any}
use Rattle.reader.specs.Entries.{tasks}
use Rattle.rules.specs.declared.Copy.{Copy}
use Rattle.rules.specs.declared.Loss.{Loss}
use Rattle.rules.specs.declared.Loss.TheVariants.{NoLoss, Lost}
use Rattle.rules.specs.Copies.{domain}
use Rattle.rules.specs.Rules.{rows}
use Rattle.rules.specs.Replay.{is_finished, replay}
use Rattle.rules.specs.Trial.{good_under, tried_under, loss_before}

-- starts as the only moments, of primaries and of backups
abbrev at_start : Job → Copy → Loss
at_start job c = Lost (domain job c.node) c.start

abbrev pub by_starts : Job → Plan → Bool
by_starts job plan =
    tried_under job plan (λ j. at_start job (rows job plan j).primary) and tried_under job plan (λ j. at_start job (rows job plan j).backup)

-- finishes instead of the tick before
abbrev pub by_finishes : Job → Plan → Bool
by_finishes job plan = tried_under job plan λ j. Lost (domain job (rows job plan j).primary.node) (rows job plan j).primary.finish

-- moments of one node of each group only: the first
abbrev is_first : Job → ℕ → Bool
is_first job node = not (any node λ n. eqb (domain job n) (domain job node))

abbrev pub by_first_nodes : Job → Plan → Bool
by_first_nodes job plan =
    tried_under job plan (λ j. NoLoss)
    and every (tasks job) λ j. let p = (rows job plan j).primary in is_first job p.node implies good_under job plan (loss_before job p)

-- the run without loss left out, though every primary finishes in it
abbrev pub by_losses : Job → Plan → Bool
by_losses job plan =
    every (tasks job) (λ j. is_finished (replay job plan NoLoss j).primary)
    and every (tasks job) (λ j. good_under job plan (loss_before job (rows job plan j).primary))

-- primaries that may fail without loss
abbrev pub by_backups : Job → Plan → Bool
by_backups job plan = good_under job plan NoLoss and every (tasks job) λ j. good_under job plan (loss_before job (rows job plan j).primary)
