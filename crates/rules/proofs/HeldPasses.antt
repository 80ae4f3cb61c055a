-- 'After every sequence of asks and commits the plan held passes the judge.'
use mathlib.Core.Path.{◌≡◌, subst}
use Rattle.reader.specs.declared.plan.Place.{Place}
use Rattle.rules.specs.declared.Description.{Description}
use Rattle.rules.specs.Description.{NewSound, Room}
use Rattle.rules.specs.declared.Loss.{Loss}
use Rattle.rules.specs.declared.Times.{Times}
use Rattle.rules.specs.Rules.{rows}
use Rattle.rules.specs.Times.{TimesSound, ended_rows}
use Rattle.rules.specs.Replay.{replay, replay_times}
use Rattle.rules.specs.Survival.{LossOf, Survives}
use Rattle.rules.specs.Attempts.{placed}
use Rattle.rules.specs.Asking.{Booked, longer, ask, commit}
use Rattle.rules.specs.Held.{Passed, Own, Let, Call, asks, declined, books, Calls, begin, next, Agreed, start, agree}
use Rattle.rules.proofs.LongerLaws.{longer_sound, longer_planned}
use Rattle.rules.proofs.OneMore.{keeps_rules_lem}
use Rattle.rules.proofs.AskLaws.{longer_passes, commit_books, asked_sound, asked_own}
use Rattle.rules.proofs.PassedSurvives.{passed_survives}
use Rattle.rules.proofs.EndedSurvives.{passed_survives_times}

module _ (b : Booked) (p : Passed b) (d : Description) (x : Place) (l : Let b d x) where
  -- what a commit hands back reads well and passes
  pub booked_passes : (c : Booked) → commit b.job b.plan d x ≡ placed c → Passed c
  unfolding longer
  booked_passes c h =
      let w = (commit_books b.job b.plan d l.new l.room p.sound p.passed x c).0 h in
      subst Passed w.1
      (record {
        sound = longer_sound b.job d l.room l.new p.sound;
        planned = longer_planned b.job d l.room b.plan x p.planned l.place;
        passed = (longer_passes b.job b.plan d l.new l.room p.sound p.passed x).1 ((keeps_rules_lem _ _ _ _).0 w.0);
      })

pub call_passes : (b c : Booked) → Call b c → Passed b → Passed c
call_passes b c (asks d) p = p
call_passes b c (declined d x r h) p = p
call_passes b c (books d x l h) p = booked_passes b p d x l c h

pub held_passes : (a c : Booked) → Calls a c → Passed a → Passed c
held_passes a c begin p = p
held_passes a c (next {b} s call) p = call_passes b c call (held_passes a b s p)

-- and so it survives any one loss
pub held_survives : (a c : Booked) → Calls a c → Passed a → (loss : Loss) → LossOf c.job loss
    → Survives c.job (rows c.job c.plan) loss (replay c.job c.plan loss)
held_survives a c s p = let q = held_passes a c s p in passed_survives c.job c.plan q.sound q.planned q.passed

-- with every list of times
pub held_survives_times : (a c : Booked) → Calls a c → Passed a → (times : Times) → TimesSound c.job c.plan times
    → (loss : Loss) → LossOf c.job loss
    → Survives c.job (ended_rows c.job c.plan times) loss (replay_times c.job c.plan times loss)
held_survives_times a c s p times fits =
    let q = held_passes a c s p in
    passed_survives_times c.job c.plan times fits q.sound q.planned q.passed

-- a commit of what was asked
agreed_step : (b c : Booked) (d : Description) (x : Place) → NewSound b.job d → Room b.job d
    → ask b.job b.plan d ≡ placed x → commit b.job b.plan d x ≡ placed c → Passed b × Own b → Passed c × Own c
unfolding longer
agreed_step b c d x new room h k w =
    let l : Let b d x = record { new = new; room = room; place = asked_sound b.job b.plan d new room x w.0.sound h } in
    let is = ((commit_books b.job b.plan d new room w.0.sound w.0.passed x c).0 k).1 in
    (booked_passes b w.0 d x l c k, subst Own is (asked_own b.job b.plan d new room w.0.sound w.1 x h))

-- asking and then committing keeps the planner's own plan the planner's own
pub agreed_own : (a c : Booked) → Agreed a c → Passed a × Own a → Passed c × Own c
agreed_own a c start w = w
agreed_own a c (agree {b} d x s new room h k) w = agreed_step b c d x new room h k (agreed_own a b s w)
