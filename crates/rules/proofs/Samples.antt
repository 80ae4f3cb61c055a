-- The starred samples of document 01 as one table, and those of requests (ii), (iv), (vi) and (viii), from the definitions by computation.
use mathlib.Core.Path.{◌≡◌, refl}
use Rattle.reader.specs.Tests.{◌and◌, ◌or◌, ◌implies◌}
use Rattle.reader.specs.First.{◌or_else◌, first, unless, when, every, any, fill}
use Rattle.rules.specs.Tables.{put, grow}
use Rattle.rules.specs.Copies
use Rattle.rules.specs.Rules
use Rattle.rules.specs.Rules.{strong}
use Rattle.rules.specs.Judge
use Rattle.rules.specs.Judge.{judge}
use Rattle.rules.specs.Replay
use Rattle.rules.specs.Replay.{replay, replay_times, finish_of}
use Rattle.rules.specs.Times.{listed_at, listed_times, ended, ended_row}
use Rattle.rules.specs.Attempts.{◌>>=◌, ◌or_refuse◌}
use Rattle.rules.specs.Planner
use Rattle.rules.specs.Planner.{planner}
use Rattle.rules.specs.Samples.{table, ready_table, send_table, group_table, times_table, asked, answers}

-- all that the samples compute with
unfoldable pub computed : Unit {0}
unfolding ◌and◌ ◌or◌ ◌implies◌ ◌or_else◌ first unless when every any fill put grow Copies.copy Copies.overlap Copies.delay
    Copies.in_time Copies.domain
    Copies.has_node strong Rules.carries Rules.fault_set Rules.row Rules.blank_row Rules.planned_row Rules.share_fault Rules.rule_a Rules.rule_ready
    Rules.rule_b Rules.rule_c Rules.rule_d Rules.rule_e Rules.rule_f Rules.rule_g_primary Rules.rule_g_backup Rules.rule_g Judge.first_task Judge.first_link
    Judge.first_pair Judge.breach judge Replay.started Replay.attempt Replay.arrived Replay.fed Replay.run_primary Replay.run_backup Replay.run_task
    replay listed_at listed_times ended ended_row replay_times finish_of ◌>>=◌ ◌or_refuse◌ Planner.earliest Planner.primary_keeps Planner.backup_keeps
    Planner.place_task Planner.place_tasks Planner.place_of Planner.plan_of Planner.planner_with planner
computed = tt

-- each question of the tables is answered so
pub samples : asked table ≡ answers table
unfolding computed
samples = refl

pub ready_samples : asked ready_table ≡ answers ready_table
unfolding computed
ready_samples = refl

pub send_samples : asked send_table ≡ answers send_table
unfolding computed
send_samples = refl

pub group_samples : asked group_table ≡ answers group_table
unfolding computed
group_samples = refl

pub times_samples : asked times_table ≡ answers times_table
unfolding computed
times_samples = refl
