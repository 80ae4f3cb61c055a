-- What the definitions say: a time is the largest ticks of the newest records of its task and node, and these move one by one.
use Prim.Native.Nat.{ℕ, zero, suc, ◌+◌, ◌-◌, ◌≤◌, ◌<◌}
use mathlib.Core.Bool.{Bool, cond}
use mathlib.Core.List.{List}
use mathlib.Core.Logic.{◌↔◌}
use mathlib.Core.Option.{none}
use mathlib.Core.Path.{◌≡◌, sym, ap, ◌∙◌}
use lib.Dec.{eqb}
use borrow.Author.Tests.{eqb-true, eq-eqb}
use native.Mathlib.Omega.{arith}
use native.Mathlib.Decide.{dec_lt}
use Rattle.reader.specs.declared.job.Job.{Job}
use Rattle.reader.specs.Tests.{◌and◌}
use Rattle.reader.specs.Entries.{run}
use Rattle.reader.proofs.TestLaws.{split, and_l, and_r, and_i}
use Rattle.history.specs.declared.window.Timing.{Timing}
use Rattle.history.specs.Times.{most, ticks_on, or_else_run, afresh, window_size, kept, newest, log_time}
use Rattle.history.specs.Log.{records, record_at, log_fault}
use Rattle.history.specs.Newest.{Largest, Grows, Moves}
use Rattle.history.proofs.MostLaws.{most_none, most_bound}
use Rattle.history.proofs.TableLaws.{time_none, time_seen}
use Rattle.history.proofs.GoodLogs.{good_timing}

-- one of the numbers is the largest
pub record Reached (m : ℕ) (f : ℕ → ℕ) : Type 0 where
  pub at : ℕ
  pub below : at < m
  pub is : f at ≡ most m f

pub most_reached : (m : ℕ) (f : ℕ → ℕ) → 0 < most m f → Reached m f
unfolding most
most_reached zero f h = absurd (let z : ⊥ = omega (arith, h) in z)
most_reached (suc m) f h =
    elim (dec_lt (f m) (most m f)) [
      | yes p ↦
          let r = most_reached m f (omega arith) in
          record { at = r.at; below = omega (arith, r.below); is = r.is ∙ omega arith }
      | no p ↦ record { at = m; below = omega arith; is = omega arith }
    ]

module _ (j n : ℕ) (x : Timing) where
  on_cell : Bool
  on_cell = eqb x.task j and eqb x.node n

  ticks_there : x.task ≡ j → x.node ≡ n → ticks_on j n x ≡ x.ticks
  unfolding ticks_on
  ticks_there a b = ap (λ c. cond c x.ticks 0) (and_i _ _ (eq-eqb x.task j a) (eq-eqb x.node n b))

  ticks_none : ((x.task ≡ j) → (x.node ≡ n) → ⊥) → ticks_on j n x ≡ 0
  unfolding ticks_on
  ticks_none h =
      split (eqb x.task j and eqb x.node n)
      (λ e. absurd (h (eqb-true x.task j (and_l _ _ e)) (eqb-true x.node n (and_r (eqb x.task j) _ e))))
      (λ e. ap (λ c. cond c x.ticks 0) e)

  -- a record that counts is of the task and the node
  pub record On : Type 0 where
    pub task : x.task ≡ j
    pub node : x.node ≡ n
    pub ticks : ticks_on j n x ≡ x.ticks

  ticks_on_lem : 0 < ticks_on j n x → On
  unfolding ticks_on
  ticks_on_lem h =
      split (eqb x.task j and eqb x.node n)
      (λ e.
      let a = eqb-true x.task j (and_l _ _ e) in
      let b = eqb-true x.node n (and_r (eqb x.task j) _ e) in
      record { task = a; node = b; ticks = ticks_there a b })
      (λ e.
      let z : ticks_on j n x ≡ 0 = ap (λ c. cond c x.ticks 0) e in
      absurd (let y : ⊥ = omega (arith, z, h) in y))

module _ (job : Job) (m : ℕ) (x : ℕ → Timing) (j n : ℕ) where
  -- 'the largest ticks seen'
  pub afresh_largest : (i : ℕ) → i < m → (x i).task ≡ j → (x i).node ≡ n → 0 < (x i).ticks → Largest m x j n (afresh job m x j n)
  unfolding afresh
  afresh_largest i p a b h =
      let f : ℕ → ℕ = λ k. ticks_on j n (x k) in
      let bound : (k : ℕ) → k < m → (x k).task ≡ j → (x k).node ≡ n → (x k).ticks ≤ most m f =
      λ k q c d. omega (arith, most_bound m f k q, ticks_there j n (x k) c d) in
      let some : 0 < most m f = omega (arith, bound i p a b) in
      let r = most_reached m f some in
      let on = ticks_on_lem j n (x r.at) (omega (arith, r.is, some)) in
      let is : or_else_run (most m f) (run job j n) ≡ most m f =
      sym (time_seen (most m f) (run job j n) (λ e. let z : ⊥ = omega (arith, e, some) in z)) in
      record {
        at = r.at;
        below = r.below;
        task = on.task;
        node = on.node;
        is = sym on.ticks ∙ r.is ∙ sym is;
        bound = λ k q c d. omega (arith, bound k q c d, is);
      }

  -- 'or the job's run time where there is none'
  pub afresh_none : ((i : ℕ) → i < m → (x i).task ≡ j → (x i).node ≡ n → ⊥) → afresh job m x j n ≡ run job j n
  unfolding afresh
  afresh_none h = sym (time_none (most m (λ k. ticks_on j n (x k))) (run job j n) (most_none m _ (λ i p. ticks_none j n (x i) (h i p))))

-- 'The window moves as records come in': what the newest are with one record more
module _ (all : ℕ → Timing) (c : ℕ) where
  pub window_grows : c < window_size → Grows all c
  window_grows h = record {
    more = omega arith;
    same = λ i. ap all (let e : c + 1 - window_size + i ≡ c - window_size + i = omega arith in e);
    last = ap all (let e : c + 1 - window_size + kept c ≡ c = omega arith in e);
  }

  pub window_moves : window_size ≤ c → Moves all c
  window_moves h = record {
    full = omega arith;
    up = λ i. ap all (let e : c + 1 - window_size + i ≡ c - window_size + (i + 1) = omega arith in e);
    last = ap all (let e : c + 1 - window_size + (window_size - 1) ≡ c = omega arith in e);
  }

-- a node that cannot run a task cannot after a log that is read either, and one that can still can
or_none : (t run : ℕ) → or_else_run t run ≡ 0 → run ≡ 0
unfolding or_else_run
or_none zero run h = h
or_none (suc t) run h = absurd (let z : ⊥ = omega (arith, h) in z)

pub able_stays : (log : List ℕ) (job : Job) → log_fault log job ≡ none → (j n : ℕ) → (log_time job log j n ≡ 0) ↔ (run job j n ≡ 0)
unfolding afresh
able_stays log job fine j n = (
  or_none _ _,
  λ e. afresh_none job (kept (records log)) (newest (record_at log) (records log)) j n
      (λ i p a b.
      let able = (good_timing log job fine (records log - window_size + i) (omega arith)).able in
      let same : run job (newest (record_at log) (records log) i).task (newest (record_at log) (records log) i).node ≡ 0 = rw (a, b) e in
      let z : ⊥ = omega (arith, able, same) in z)
      ∙ e,
)
