-- The window law: what a window has of each task and node is worked out afresh from the newest records.
use Prim.Native.Nat.{ℕ, zero, suc, ◌+◌, ◌-◌, ◌*◌, ◌/◌, ◌%◌, ◌≤◌, ◌<◌}
use mathlib.Core.Bool.{Bool, true, false, cond}
use mathlib.Core.Path.{◌≡◌, refl, sym, ap, ap₂, ◌∙◌}
use lib.Dec.{eqb}
use lib.ListN.{get_or, length-replicate}
use borrow.Author.Tests.{eqb-true, eq-eqb}
use native.Mathlib.Numerals.{add-one}
use native.Mathlib.Omega.{arith}
use native.Mathlib.Decide.{dec_lt}
use Rattle.reader.specs.Tests.{◌and◌}
use Rattle.reader.specs.Limits.{max_nodes}
use Rattle.reader.specs.Entries.{run}
use Rattle.reader.proofs.TestLaws.{and_l, and_r, and_i, same_test}
use Rattle.copies.proofs.ListMore.{replicated}
use Rattle.history.specs.declared.window.Timing.{Timing}
use Rattle.history.specs.declared.window.Window.{Window}
use Rattle.history.specs.Times.{most, ticks_on, or_else_run, window_size, kept, newest, afresh}
use Rattle.history.specs.Window.{cell_of, empty_window, seen_in, counts, TableAfter}
use Rattle.history.specs.Ring.{Formed, Holding, Takes}
use Rattle.history.proofs.MostLaws.{most_bound, most_within}

-- before the first record
pub empty_formed : Formed empty_window
empty_formed = record {
  at_most = omega arith;
  cell_size = length-replicate {A = ℕ} window_size 0;
  ticks_size = length-replicate {A = ℕ} window_size 0;
  cells = λ i. omega (arith, replicated {A = ℕ} 0 window_size i);
}

pub empty_holds : (all : ℕ → Timing) → Holding all 0 empty_window
empty_holds all = record {
  at_is = omega arith;
  slot = λ k h b. absurd (let z : ⊥ = omega arith in z);
  blank = λ i h. replicated {A = ℕ} 0 window_size i;
}

-- two tasks and nodes have one cell exactly if they are the same
same_cell : (j n i m : ℕ) → n < max_nodes → m < max_nodes → eqb (cell_of i m) (cell_of j n) ≡ (eqb i j and eqb m n)
same_cell j n i m p q =
    same_test (eqb (cell_of i m) (cell_of j n)) (eqb i j and eqb m n)
    (λ h.
    let e : 16 * i + m ≡ 16 * j + n = eqb-true (cell_of i m) (cell_of j n) h in
    and_i _ _ (eq-eqb i j (omega arith)) (eq-eqb m n (omega arith)))
    (λ h.
    let a : i ≡ j = eqb-true i j (and_l _ _ h) in
    let b : m ≡ n = eqb-true m n (and_r _ _ h) in
    eq-eqb (cell_of i m) (cell_of j n) (omega arith))

-- a slot of no ticks counts for no cell
cond_none : (b : Bool) → ◌≡◌ {A = ℕ} (cond b 0 0) 0
cond_none true = refl
cond_none false = refl

module _ (all : ℕ → Timing) (c : ℕ) (w : Window) (holds : Holding all c w) (nodes_most : (k : ℕ) → k < c → (all k).node < max_nodes) where
  module _ (j n : ℕ) (low : n < max_nodes) where
    abbrev ticks_of : ℕ → ℕ
    ticks_of i = ticks_on j n (newest all c i)

    -- a record counts in its slot what it counts
    counted : (k : ℕ) → k < c → c ≤ k + window_size → counts w (cell_of j n) (k % window_size) ≡ ticks_on j n (all k)
    unfolding ticks_on
    counted k p q =
        let s = holds.slot k p q in
        ap₂ (λ a b. cond (eqb a (cell_of j n)) b 0) s.cell s.ticks
        ∙ ap (λ b. cond b (all k).ticks 0) (same_cell j n (all k).task (all k).node low (nodes_most k p))

    -- no slot counts more than the newest records
    slots_within : (i : ℕ) → i < window_size → counts w (cell_of j n) i ≤ most (kept c) ticks_of
    slots_within i h =
        elim (dec_lt i c) [
          | yes s ↦
              let k = i + window_size * ((c - 1 - i) / window_size) in
              let here : k % window_size ≡ i = omega arith in
              let below : k < c = omega arith in
              let late : c ≤ k + window_size = omega arith in
              let is : c - window_size + (k - (c - window_size)) ≡ k = omega arith in
              let inside : k - (c - window_size) < kept c = omega arith in
              let same : counts w (cell_of j n) i ≡ ticks_of (k - (c - window_size)) =
              ap (counts w (cell_of j n)) (sym here) ∙ counted k below late ∙ ap (λ x. ticks_on j n (all x)) (sym is) in
              omega (arith, same, most_bound (kept c) ticks_of (k - (c - window_size)) inside)
          | no s ↦
              let b = eqb (get_or w.cell i 0) (cell_of j n) in
              let none : cond b (get_or w.ticks i 0) 0 ≡ 0 = ap (λ v. cond b v 0) (holds.blank i (omega arith)) ∙ cond_none b in
              omega (arith, none)
        ]

    -- and none of these more than the slots
    newest_within : (i : ℕ) → i < kept c → ticks_of i ≤ most window_size (counts w (cell_of j n))
    newest_within i h =
        let k = c - window_size + i in
        let same = counted k (omega arith) (omega arith) in
        omega (arith, same, most_bound window_size (counts w (cell_of j n)) (k % window_size) (omega arith))

    seen_newest : seen_in w (cell_of j n) ≡ most (kept c) ticks_of
    unfolding seen_in
    seen_newest =
        let most_slots = most_within window_size (counts w (cell_of j n)) (most (kept c) ticks_of) slots_within in
        let most_newest = most_within (kept c) ticks_of (most window_size (counts w (cell_of j n))) newest_within in
        omega (arith, most_slots, most_newest)

  -- 'after every record the table equals one worked out afresh from those records'
  pub table_afresh : TableAfter all c w
  unfolding afresh
  table_afresh job j n h = ap (λ t. or_else_run t (run job j n)) (seen_newest j n h)

-- for every sequence of m records, and the windows that come of the empty one as these are taken in one after another
module _ (all : ℕ → Timing) (m : ℕ) (w : ℕ → Window) (begins : w 0 ≡ empty_window)
    (takes : (k : ℕ) → k < m → Takes (w k) (all k) (w (k + 1))) where
  along : (P : ℕ → Type 0) → P 0 → ((k : ℕ) → k < m → P k → P (k + 1)) → (c : ℕ) → c ≤ m → P c
  along P first next zero h = first
  along P first next (suc c) h = rw add-one at (next c h (along P first next c (omega arith)))

  sequence_holds : (c : ℕ) → c ≤ m → Holding all c (w c)
  sequence_holds = along (λ c. Holding all c (w c)) (rw begins (empty_holds all)) (λ k p h. (takes k p).holds all k refl h)

  -- after each of them the table is the one worked out afresh
  pub every_sequence : ((k : ℕ) → k < m → (all k).node < max_nodes) → (c : ℕ) → c ≤ m → TableAfter all c (w c)
  every_sequence nodes_most c h =
      table_afresh all c (w c) (sequence_holds c h) (λ k p. nodes_most k (omega arith))
