-- The calls over values: asking is the planner's step beside the plan, and a commit is judged.
use native.Mathlib.Omega.{arith}
use mathlib.Core.Path.{◌≡◌, refl, sym, ap, ap₂, ◌∙◌, subst}
use mathlib.Core.Option.{none, some}
use Rattle.std.specs.Prelude.{Result, Ok, Err}
use Rattle.reader.specs.declared.job.Job.{Job}
use Rattle.reader.specs.declared.plan.Place.{Place}
use Rattle.reader.specs.declared.plan.Plan.{Plan}
use Rattle.reader.specs.declared.refusal.Refusal.{Refusal}
use Rattle.reader.specs.declared.refusal.Refusal.TheVariants.{Stale}
use Rattle.reader.specs.Refusals.{Answer}
use Rattle.reader.specs.Entries.{tasks}
use Rattle.reader.specs.Sound.{Sound, PlanSound}
use Rattle.reader.proofs.RefusalLaws.{answered_done, answered_refused}
use Rattle.rules.specs.declared.Description.{Description}
use Rattle.rules.specs.Rules.{rows}
use Rattle.rules.specs.Judge.{breach, judge}
use Rattle.rules.specs.Attempts.{refused, placed, ◌>>=◌}
use Rattle.rules.specs.Planner.{place_task, place_of, anywhere}
use Rattle.rules.specs.Longer.{longer_job, longer_plan}
use Rattle.rules.specs.Asking.{ask, longer, unless_stale, commit}
use Rattle.rules.proofs.ExtendLaws.{rows_to_same}
use Rattle.rules.proofs.LongerLaws.{longer_extends, longer_sound, longer_planned}
use Rattle.planner.specs.declared.board.Pair.{Pair}
use Rattle.planner.specs.Tasks.{pair_row, attempted, place_with}
use Rattle.asking.specs.Beside.{place_new}
use Rattle.asking.specs.Calls.{Asking, Committing, asked, committed, with_job}

module _ (job : Job) (plan : Plan) (d : Description) (ok : Asking job plan d) where
  pub big_sound : (big : Job) → big ≡ longer_job job d → Sound big
  big_sound big is = subst Sound (sym is) (longer_sound job d ok.room ok.new ok.sound)

-- asking
module _ (job : Job) (plan : Plan) (d : Description) (ok : Asking job plan d) (x : Result Pair Refusal) (told : attempted x ≡ place_new job plan d) where
  asks : ask job plan d ≡ (attempted x >>= λ r. placed (place_of r))
  unfolding ask
  asks =
      let n = tasks job in
      let ext = longer_extends job d ok.room ok.new in
      let same = rows_to_same job (longer_job job d) ext plan plan n (omega arith) (λ j p. refl) in
      sym (ap (λ a. a >>= λ r. placed (place_of r)) (told ∙ ap (λ t. place_task (longer_job job d) (anywhere n) n t n) same))

  pub ask_nowhere : (r : Refusal) → x ≡ Err r → Err r ≡ asked (ask job plan d)
  unfolding attempted ◌>>=◌ asked
  ask_nowhere r e = let nowhere : ask job plan d ≡ refused r = asks ∙ rw e in rw nowhere

  pub ask_at : (pair : Pair) → x ≡ Ok pair → (a : Place) → a ≡ place_with pair.primary pair.backup → Ok a ≡ asked (ask job plan d)
  unfolding attempted ◌>>=◌ asked place_of
  ask_at pair e a h = let there : ask job plan d ≡ placed (place_of (pair_row pair)) = asks ∙ rw e in rw (there, h)

-- a commit
module _ (job : Job) (plan : Plan) (d : Description) (x : Place) (ok : Committing job plan d x)
    (big : Job) (is : big ≡ longer_job job d) (long : Plan) (il : long ≡ longer_plan job plan x) where
  pub long_planned : PlanSound big long
  long_planned =
      subst (λ b. PlanSound b long) (sym is)
      (subst (PlanSound (longer_job job d)) (sym il) (longer_planned job d ok.asking.room plan x ok.asking.planned ok.place))

  module _ (a : Answer) (ea : a ≡ judge big long) where
    told : a ≡ judge (longer_job job d) (longer_plan job plan x)
    told = ea ∙ ap₂ (λ b l. judge b l) is il

    pub commit_done : a ≡ Ok tt → with_job (Ok long) big ≡ committed (commit job plan d x)
    unfolding judge commit unless_stale longer committed
    commit_done q =
        let fine : breach (longer_job job d) (rows (longer_job job d) (longer_plan job plan x)) ≡ none = (answered_done _).0 (sym told ∙ q) in
        rw (fine, is, il)

    pub commit_refused : {y : Refusal} → a ≡ Err y → with_job (Err (Stale (tasks job))) big ≡ committed (commit job plan d x)
    unfolding judge commit unless_stale committed
    commit_refused {y} q =
        let bad : breach (longer_job job d) (rows (longer_job job d) (longer_plan job plan x)) ≡ some y = (answered_refused _ y).0 (sym told ∙ q) in
        rw bad

-- what came with the longer job in a lent one, as values
abbrev Both : Type 0
Both = Result (Job × Plan) Refusal

module _ {w : Result Plan Refusal} (longer : Job) {t : Both} (is : ◌≡◌ {A = Both} (with_job w longer) t) where
  pub pair_handed : {long : Plan} → w ≡ Ok long → ◌≡◌ {A = Both} (Ok (longer, long)) t
  pair_handed q = sym (ap (λ x. with_job x longer) q) ∙ is

  pub refusal_handed : {r : Refusal} → w ≡ Err r → ◌≡◌ {A = Both} (Err r) t
  refusal_handed q = sym (ap (λ x. with_job x longer) q) ∙ is
