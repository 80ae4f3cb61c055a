-- What the planner's answer says of the attempt behind it.
use mathlib.Core.Path.{◌≡◌}
use Rattle.std.specs.Prelude.{Result, Ok, Err}
use Rattle.reader.specs.declared.plan.Plan.{Plan}
use Rattle.reader.specs.declared.refusal.Refusal.{Refusal}
use Rattle.reader.proofs.TestLaws.{never}
use Rattle.rules.specs.Attempts.{Attempt, refused, placed}
use Rattle.planner.specs.Tasks.{planned}

pub attempt_refused : (a : Attempt Plan) (p : Result Plan Refusal) {r : Refusal} → p ≡ planned a → p ≡ Err r → a ≡ refused r
unfolding planned
attempt_refused (refused s) p {r} e q = cc
attempt_refused (placed plan) p {r} e q = never (cc)

pub attempt_placed : (a : Attempt Plan) (p : Result Plan Refusal) {plan : Plan} → p ≡ planned a → p ≡ Ok plan → a ≡ placed plan
unfolding planned
attempt_placed (refused s) p {plan} e q = never (cc)
attempt_placed (placed x) p {plan} e q = cc
