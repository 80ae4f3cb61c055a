-- The limits of document 01, section 'Files', and of document 02. The constants of `Job` and `Plan` have these values (`Limits::all`).
use Rattle.std.specs.Prelude.{ℕ}
use Rattle.reader.specs.declared.limits.Limits.{Limits}

-- job 'version (1)', and 'job version 2', '3', '4' of requests (ii), (iv) and (vi)
abbrev pub first_version : ℕ
first_version = 1

abbrev pub newest_version : ℕ
newest_version = 4

-- the first versions with a ready time, with a send time, and with a supply group
abbrev pub ready_since : ℕ
ready_since = 2

abbrev pub send_since : ℕ
send_since = 3

abbrev pub group_since : ℕ
group_since = 4

-- plan 'version (1)'
abbrev pub plan_version : ℕ
plan_version = 1

-- 'node count P (2 to 16)'
abbrev pub min_nodes : ℕ
min_nodes = 2

abbrev pub max_nodes : ℕ
max_nodes = 16

-- 'per node its detect time (0 to 1,000)'
abbrev pub max_detect : ℕ
max_detect = 1_000

-- (iv) 'to each node a send time (0 to 1,000)'
abbrev pub max_send : ℕ
max_send = 1_000

-- (vi) 'a supply group (0 to 15)'
abbrev pub max_group : ℕ
max_group = 15

-- 'task count N (1 to 64)'
abbrev pub min_tasks : ℕ
min_tasks = 1

abbrev pub max_tasks : ℕ
max_tasks = 64

-- 'per task its deadline (1 to 1,000,000)'
abbrev pub min_deadline : ℕ
min_deadline = 1

-- 'link count (0 to 512)'
abbrev pub max_links : ℕ
max_links = 512

-- ready times, deadlines, run times and delays: '0 to 1,000,000'
abbrev pub max_time : ℕ
max_time = 1_000_000

-- 'starts at most 1,000,000'
abbrev pub max_start : ℕ
max_start = 1_000_000

-- 'the longest job has 10,576 bytes' in version 1, 10,832 in version 2, 10,896 in version 3 and 10,960 in version 4 (`longest_job`)
abbrev pub max_job_length : ℕ
max_job_length = 10_960

-- 'the file has 8 + 16 × N bytes', N at most 64
abbrev pub max_plan_length : ℕ
max_plan_length = 1_032

-- all of them, as the constants of the code give them
abbrev pub limits : Limits
limits = record {
  first_version = first_version;
  newest_version = newest_version;
  ready_since = ready_since;
  send_since = send_since;
  group_since = group_since;
  min_nodes = min_nodes;
  max_nodes = max_nodes;
  max_detect = max_detect;
  max_send = max_send;
  max_group = max_group;
  min_tasks = min_tasks;
  max_tasks = max_tasks;
  min_deadline = min_deadline;
  max_links = max_links;
  max_time = max_time;
  max_job_length = max_job_length;
  plan_version = plan_version;
  max_start = max_start;
  max_plan_length = max_plan_length;
}
