-- Asking and committing over values: what the functions rest on, and what they give.
use Rattle.std.specs.Prelude.{Result, Ok, Err}
use Rattle.reader.specs.declared.job.Job.{Job}
use Rattle.reader.specs.declared.plan.Place.{Place}
use Rattle.reader.specs.declared.plan.Plan.{Plan}
use Rattle.reader.specs.declared.refusal.Refusal.{Refusal}
use Rattle.reader.specs.Sound.{Sound, PlanSound}
use Rattle.rules.specs.declared.Description.{Description}
use Rattle.rules.specs.Description.{NewSound, PlaceSound, Room}
use Rattle.rules.specs.Attempts.{Attempt, refused, placed}
use Rattle.rules.specs.Asking.{Booked}

-- both files and the description read well, and there is room
pub record Asking (job : Job) (plan : Plan) (d : Description) : Type 0 where
  pub sound : Sound job
  pub planned : PlanSound job plan
  pub new : NewSound job d
  pub room : Room job d

pub record Committing (job : Job) (plan : Plan) (d : Description) (x : Place) : Type 0 where
  pub asking : Asking job plan d
  pub place : PlaceSound job d x

-- the place, or the refusal
unfoldable pub asked : Attempt Place → Result Place Refusal
asked (placed x) = Ok x
asked (refused r) = Err r

-- and the longer pair
unfoldable pub committed : Attempt Booked → Result (Job × Plan) Refusal
committed (placed b) = Ok (b.job, b.plan)
committed (refused r) = Err r

-- a plan in a Result and the job that was filled beside it, as a pair
abbrev pub with_job : Result Plan Refusal → Job → Result (Job × Plan) Refusal
with_job (Ok plan) job = Ok (job, plan)
with_job (Err r) job = Err r
