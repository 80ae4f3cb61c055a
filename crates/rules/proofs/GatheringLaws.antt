-- Fault sets by receiving task, for every job and plan that read well, passed or not: what is gathered stays, what is not yet gathered is
-- its own primary's group alone, and one step gathers the links that arrive at one task.
use Prim.Native.Nat.{ℕ, zero, suc, ◌+◌, ◌≤◌, ◌<◌}
use mathlib.Core.Bool.{Bool, true}
use mathlib.Core.Path.{◌≡◌, sym, ◌∙◌, ap, subst, fun_ext}
use mathlib.Core.Logic.{◌↔◌}
use native.Mathlib.Decide.{dec_lt}
use native.Mathlib.Omega.{arith}
use native.Mathlib.Numerals.{add-one}
use lib.Dec.{eqb}
use borrow.Author.Tests.{eqb-true, lt-ltb, le-ltb}
use Rattle.reader.specs.declared.job.Job.{Job}
use Rattle.reader.specs.declared.plan.Plan.{Plan}
use Rattle.reader.specs.Tests.{◌and◌, ◌or◌}
use Rattle.reader.specs.First.{any}
use Rattle.reader.specs.Entries.{tasks, links, link}
use Rattle.reader.specs.Sound.{Sound}
use Rattle.reader.proofs.TestLaws.{split}
use Rattle.reader.proofs.FirstLaws.{any_same}
use Rattle.rules.specs.Copies.{domain}
use Rattle.rules.specs.Rules.{Row, strong, carries, fault_set, rows}
use Rattle.rules.specs.Paths.{InFaultSet}
use Rattle.rules.specs.Gathering.{own_group, gathered_to, with_sets, gather_task}
use Rattle.rules.proofs.TableLaws.{put_same, put_other}
use Rattle.rules.proofs.FaultSetLaws.{from_below, rows_faults}
use Rattle.rules.proofs.FaultPaths.{fault_set_is}

module _ (job : Job) (plan : Plan) where
  abbrev t : ℕ → Row
  t = rows job plan

  abbrev state : ℕ → ℕ → ℕ → Bool
  state = gathered_to job plan

  -- the sets of the tasks gathered are those of the rules
  pub gathered_rules : (j i : ℕ) → i < j → gathered_to job plan j i ≡ (rows job plan i).faults
  unfolding gathered_to
  gathered_rules j i p = rw (lt-ltb i j p)

  -- and are the same in every later state
  pub gathered_stays : (j m i : ℕ) → i < j → j ≤ m → gathered_to job plan m i ≡ gathered_to job plan j i
  gathered_stays j m i p q = gathered_rules m i (omega arith) ∙ sym (gathered_rules j i p)

  -- the set of a later task is its own primary's group alone
  pub gathered_later : (j i : ℕ) → j ≤ i → gathered_to job plan j i ≡ own_group job (rows job plan) i
  unfolding gathered_to
  gathered_later j i p = rw (le-ltb i j p)

  -- in words: 'no later peril yet holds more than its own primary's node', (vi) its group
  pub later_own_only : (j i q : ℕ) → j ≤ i → gathered_to job plan j i q ≡ true → domain job (rows job plan i).primary.node ≡ q
  unfolding own_group
  later_own_only j i q p h = eqb-true _ _ (sym (ap (λ f. f q) (gathered_later j i p)) ∙ h)

  -- the state before any gathering, and after the last
  pub gathered_none : gathered_to job plan 0 ≡ own_group job (rows job plan)
  gathered_none = fun_ext λ i. gathered_later 0 i (omega arith)

  pub gathered_all : (i : ℕ) → i < tasks job → gathered_to job plan (tasks job) i ≡ (rows job plan i).faults
  gathered_all i p = gathered_rules (tasks job) i p

  module _ (sound : Sound job) where
    -- so paths of weak links, once a task is gathered
    pub gathered_paths : (j i q : ℕ) → i < j → i < tasks job
        → (gathered_to job plan j i q ≡ true) ↔ InFaultSet job (rows job plan) i q
    gathered_paths j i q p b =
        let e : state j i q ≡ (t i).faults q = ap (λ f. f q) (gathered_rules j i p) in
        let w = fault_set_is job plan sound i q b in
        (λ h. w.0 (sym e ∙ h), λ x. e ∙ w.1 x)

    -- what the rules join is what the links carry from the sets gathered so far: their senders are among them
    rules_join : (j : ℕ) → j < tasks job
        → (t j).faults ≡ (λ q. state j j q or any (links job) (carries job (with_sets t (state j)) j (t j).primary q))
    unfolding fault_set carries strong with_sets own_group ◌and◌
    rules_join j low =
        rows_faults job sound plan j low
        ∙ fun_ext λ q.
        ap (λ b. eqb (domain job (t j).primary.node) q or b) (any_same (links job) _ _ λ k pk.
        split (eqb (link job k).to j) (λ e. rw (e, gathered_rules j (link job k).from (from_below job sound j k pk e))) (λ e. rw e))
        ∙ ap (λ b. b or any (links job) (carries job (with_sets t (state j)) j (t j).primary q))
        (sym (ap (λ f. f q) (gathered_later j j (omega arith))))

    -- one step: all links that arrive at task j are gathered, and nothing else
    pub gather_step : (j : ℕ) → j < tasks job → gathered_to job plan (suc j) ≡ gather_task job (rows job plan) (gathered_to job plan j) j
    unfolding gather_task
    gather_step j low = fun_ext λ i.
        elim (dec_lt i j) [
          | yes p ↦ gathered_stays j (suc j) i p (omega arith) ∙ sym (put_other (state j) j _ i (λ e. omega arith))
          | no p ↦
              elim (dec_lt j i) [
                | yes q ↦
                    gathered_later (suc j) i (omega arith) ∙ sym (gathered_later j i (omega arith))
                    ∙ sym (put_other (state j) j _ i (λ e. omega arith))
                | no q ↦
                    let e : i ≡ j = omega arith in
                    subst (λ m. state (suc j) m ≡ gather_task job t (state j) j m) (sym e)
                    (gathered_rules (suc j) j (omega arith) ∙ rules_join j low ∙ sym (put_same (state j) j _))
              ]
        ]

    -- as the code counts: what that is at task j, and at any other
    pub gather_here : (j : ℕ) → j < tasks job → gathered_to job plan (j + 1) j ≡ (λ q. gathered_to job plan j j q
        or any (links job) (carries job (with_sets (rows job plan) (gathered_to job plan j)) j (rows job plan j).primary q))
    unfolding gather_task
    gather_here j low = rw add-one (ap (λ f. f j) (gather_step j low) ∙ put_same (state j) j _)

    pub gather_else : (j i : ℕ) → j < tasks job → (i ≡ j → ⊥) → gathered_to job plan (j + 1) i ≡ gathered_to job plan j i
    unfolding gather_task
    gather_else j i low h = rw add-one (ap (λ f. f i) (gather_step j low) ∙ put_other (state j) j _ i h)

    -- whatever begins with the own groups and takes these steps is in these states
    pub gathered_by_steps : (s : ℕ → ℕ → ℕ → Bool) → s 0 ≡ own_group job (rows job plan)
        → ((j : ℕ) → j < tasks job → s (suc j) ≡ gather_task job (rows job plan) (s j) j)
        → (j : ℕ) → j ≤ tasks job → s j ≡ gathered_to job plan j
    gathered_by_steps s start step zero p = start ∙ sym gathered_none
    gathered_by_steps s start step (suc j) p =
        step j (omega arith) ∙ ap (λ x. gather_task job t x j) (gathered_by_steps s start step j (omega arith)) ∙ sym (gather_step j (omega arith))
