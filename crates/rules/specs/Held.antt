-- A job and a plan held over a sequence of asks and commits, document 02 (iii).
use Rattle.std.specs.Prelude.{◌≡◌}
use Rattle.reader.specs.declared.plan.Place.{Place}
use Rattle.rules.specs.declared.Description.{Description}
use Rattle.reader.specs.declared.refusal.Refusal.{Refusal}
use Rattle.std.specs.Prelude.{Ok}
use Rattle.reader.specs.Sound.{Sound, PlanSound}
use Rattle.rules.specs.Description.{NewSound, PlaceSound, Room}
use Rattle.rules.specs.Judge.{judge}
use Rattle.rules.specs.Attempts.{refused, placed}
use Rattle.rules.specs.Planner.{planner}
use Rattle.rules.specs.Asking.{Booked, ask, commit}

-- both read well, and the judge passes them
pub record Passed (b : Booked) : Type 0 where
  pub sound : Sound b.job
  pub planned : PlanSound b.job b.plan
  pub passed : judge b.job b.plan ≡ Ok tt

-- the plan is the planner's own
abbrev pub Own : Booked → Type 0
Own b = planner b.job ≡ placed b.plan

-- a description, and a proposed place, that a call lets through as far as 15, 16 or 21
pub record Let (b : Booked) (d : Description) (x : Place) : Type 0 where
  pub new : NewSound b.job d
  pub room : Room b.job d
  pub place : PlaceSound b.job d x

-- one call: asking books nothing, a refused commit changes nothing, and a commit that succeeds hands back the next pair
pub data Call (b : Booked) : Booked → Type 0 where
  asks : Description → Call b b
  declined : (d : Description) (x : Place) (r : Refusal) → commit b.job b.plan d x ≡ refused r → Call b b
  books : {c : Booked} (d : Description) (x : Place) → Let b d x → commit b.job b.plan d x ≡ placed c → Call b c

-- 'every sequence of asks and commits'
pub data Calls (a : Booked) : Booked → Type 0 where
  begin : Calls a a
  next : {b c : Booked} → Calls a b → Call b c → Calls a c

-- a sequence in which each commit takes the place that was asked for with no commit between
pub data Agreed (a : Booked) : Booked → Type 0 where
  start : Agreed a a
  agree : {b c : Booked} (d : Description) (x : Place) → Agreed a b → NewSound b.job d → Room b.job d
      → ask b.job b.plan d ≡ placed x → commit b.job b.plan d x ≡ placed c → Agreed a c
