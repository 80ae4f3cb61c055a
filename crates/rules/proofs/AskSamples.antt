-- Asking and committing on an example, by computation: a third task after job J and its plan of sample 1.
use mathlib.Core.Path.{◌≡◌, refl}
use Rattle.reader.specs.declared.refusal.Refusal.TheVariants.{NoBackup, Stale}
use Rattle.reader.specs.Sound.{below}
use Rattle.std.specs.Prelude.{Ok}
use Rattle.reader.specs.Samples.{at, J, JSending, plan1}
use Rattle.rules.specs.Judge.{judge}
use Rattle.rules.specs.Attempts.{refused, placed}
use Rattle.rules.specs.Longer.{takes_new, new_before, merged_link, longer_job, longer_plan}
use Rattle.rules.specs.Asking.{ask, longer, unless_stale, commit}
use Rattle.rules.specs.AskSamples.{third, long_j, plan_later, with_third, commit_if_asked}
use Rattle.rules.proofs.Samples.{computed}

-- the link 0 to 2 stands behind 0 to 1
pub links_merged : longer_job J (third 30) ≡ long_j
unfolding computed below takes_new new_before merged_link longer_job
links_merged = refl

pub asked_third : ask J plan1 (third 30) ≡ placed (at 0 7 1 12)
unfolding computed below takes_new new_before merged_link longer_job ask
asked_third = refl

-- (iv): the result of task 1's primary leaves node 0 after 3 ticks, and is on node 1 at 13
pub asked_sending : ask (JSending 3 0 0) plan1 (third 30) ≡ placed (at 0 7 1 13)
unfolding computed below takes_new new_before merged_link longer_job ask
asked_sending = refl

pub asked_too_late : ask J plan1 (third 12) ≡ refused (NoBackup 2)
unfolding computed below takes_new new_before merged_link longer_job ask
asked_too_late = refl

pub booked_third : commit J plan1 (third 30) (at 0 7 1 12) ≡ placed (with_third (at 0 7 1 12))
unfolding computed below takes_new new_before merged_link longer_job longer_plan longer unless_stale commit
booked_third = refl

-- a tick sooner the backup overlaps that of task 1, whose fault set it shares: its node is right, its start is not
pub stale_third : commit J plan1 (third 30) (at 0 7 1 11) ≡ refused (Stale 2)
unfolding computed below takes_new new_before merged_link longer_job longer_plan longer unless_stale commit
stale_third = refl

-- a place asked for while task 1 stood a tick later: asking anew gives another, but it keeps the rules, and is booked
pub moved_third : (judge J plan_later ≡ Ok tt) × (ask J plan_later (third 30) ≡ placed (at 0 8 1 13))
    × (commit J plan1 (third 30) (at 0 8 1 13) ≡ placed (with_third (at 0 8 1 13)))
    × (commit_if_asked J plan1 (third 30) (at 0 8 1 13) ≡ refused (Stale 2))
unfolding computed below takes_new new_before merged_link longer_job longer_plan longer unless_stale ask commit
moved_third = (refl, refl, refl, refl)
