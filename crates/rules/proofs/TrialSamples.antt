-- The samples of request (ix) by computation, and the wrong trials, each beside a sample of which it says yes and the trial no.
use mathlib.Core.Bool.{true, false}
use mathlib.Core.Path.{◌≡◌, refl}
use Rattle.reader.specs.declared.refusal.Refusal.TheVariants.{Overlap}
use Rattle.std.specs.Prelude.{Err}
use Rattle.reader.specs.Samples.{J, JReady, JWithoutLink, plan1}
use Rattle.rules.specs.Judge.{judge}
use Rattle.rules.specs.Trial.{meet, clear, done_by, good_run, good_under, tried_under, Trial, tried}
use Rattle.rules.specs.TrialSamples.{shared_plan, paired_rack, paired_plan, tight_job, tight_plan, trial_table, answered_trials}
use Rattle.rules.specs.WrongTrials.{by_starts, by_finishes, by_first_nodes, by_losses, by_backups}
use Rattle.rules.proofs.Samples.{computed}
use Rattle.rules.proofs.Instance.{sound_j, plan_sound_j}
use Rattle.rules.proofs.TrialLaws.{tried_is}

unfoldable tested : Unit {0}
unfolding computed meet clear done_by good_run good_under tried_under
tested = tt

pub trial_samples : answered_trials trial_table ≡ trial_table
unfolding tested
trial_samples = refl

-- time shared by a primary and a backup, at every moment whatever
pub sharing_accepted : (judge J shared_plan ≡ Err (Overlap 0 1)) × Trial J shared_plan
unfolding tested
sharing_accepted = (refl, (tried_is J shared_plan sound_j (plan_sound_j shared_plan refl refl refl refl)).0 refl)

pub starts_alone : (by_starts paired_rack paired_plan ≡ true) × (tried paired_rack paired_plan ≡ false)
unfolding tested
starts_alone = (refl, refl)

pub one_node_alone : (by_first_nodes paired_rack paired_plan ≡ true) × (tried paired_rack paired_plan ≡ false)
unfolding tested
one_node_alone = (refl, refl)

pub finishes : (by_finishes JWithoutLink shared_plan ≡ true) × (tried JWithoutLink shared_plan ≡ false)
unfolding tested
finishes = (refl, refl)

pub without_no_loss : (by_losses tight_job tight_plan ≡ true) × (tried tight_job tight_plan ≡ false)
unfolding tested
without_no_loss = (refl, refl)

pub failing_primaries : (by_backups (JReady 0 10) plan1 ≡ true) × (tried (JReady 0 10) plan1 ≡ false)
unfolding tested
failing_primaries = (refl, refl)
