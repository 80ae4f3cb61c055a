-- Laws of a record that comes in while the oldest leaves.
use Prim.Native.Nat.{ℕ, ◌+◌, ◌%◌, ◌<◌}
use mathlib.Core.List.{List}
use mathlib.Core.Path.{◌≡◌, sym, ap, ◌∙◌, subst}
use lib.Dec.{eqb}
use lib.ListN.{get_or, set, length, length-set}
use lib.Seq.{get_or-set_same, get_or-set_other}
use borrow.Author.Tests.{eqb-true, eqb-false}
use native.Mathlib.Omega.{arith}
use native.Mathlib.Decide.{dec_lt}
use Rattle.reader.proofs.TestLaws.{split}
use Rattle.history.specs.declared.window.Timing.{Timing}
use Rattle.history.specs.declared.window.Window.{Window}
use Rattle.history.specs.Times.{window_size}
use Rattle.history.specs.Window.{cell_count, cell_of, window}
use Rattle.history.specs.Ring.{Formed, InSlot, Holding, Takes}
use Rattle.history.proofs.WindowLaws.{table_afresh}

-- a number stored among numbers that are below a bound
below_set : (l : List ℕ) (k v m : ℕ) → k < length l → v < m → ((i : ℕ) → get_or l i 0 < m) → (i : ℕ) → get_or (set l k v) i 0 < m
below_set l k v m h b all i =
    split (eqb k i)
    (λ e.
    let same : k ≡ i = eqb-true k i e in
    subst (λ x. get_or (set l k v) x 0 < m) same (omega (arith, get_or-set_same l k v 0 h)))
    (λ e. omega (arith, get_or-set_other l k i v 0 (λ x. eqb-false k i e (sym x)), all i))

-- record x, of cell p, comes in at slot `at`, and the next at slot `next`
module _ (cell ticks : List ℕ) (at : ℕ) (formed : Formed (window cell ticks at)) (x : Timing) (p : ℕ) (is_p : p ≡ cell_of x.task x.node)
    (p_below : p < cell_count) (next : ℕ) (is_next : next ≡ (at + 1) % window_size) where
  abbrev after : Window
  after = window (set cell at p) (set ticks at x.ticks) next

  push_formed : Formed after
  push_formed = record {
    at_most = omega (arith, is_next);
    cell_size = length-set cell at p ∙ formed.cell_size;
    ticks_size = length-set ticks at x.ticks ∙ formed.ticks_size;
    cells = below_set cell at p cell_count (omega (arith, formed.at_most, formed.cell_size)) p_below formed.cells;
  }

  -- its own slot, and each other
  slot_here : InSlot after at x
  slot_here = record {
    cell = get_or-set_same cell at p 0 (omega (arith, formed.at_most, formed.cell_size)) ∙ is_p;
    ticks = get_or-set_same ticks at x.ticks 0 (omega (arith, formed.at_most, formed.ticks_size));
  }

  slot_other : (i : ℕ) (y : Timing) → (i ≡ at → ⊥) → InSlot (window cell ticks at) i y → InSlot after i y
  slot_other i y apart was = record {
    cell = get_or-set_other cell at i p 0 apart ∙ was.cell;
    ticks = get_or-set_other ticks at i x.ticks 0 apart ∙ was.ticks;
  }

  push_holds : (all : ℕ → Timing) (c : ℕ) → all c ≡ x → Holding all c (window cell ticks at) → Holding all (c + 1) after
  push_holds all c is_x holds = record {
    at_is = omega (arith, is_next, holds.at_is);
    slot = λ k h b.
        elim (dec_lt k c) [
          | yes s ↦ slot_other (k % window_size) (all k) (omega (arith, holds.at_is)) (holds.slot k s (omega arith))
          | no s ↦
              let last : c ≡ k = omega arith in
              let here : at ≡ k % window_size = omega (arith, holds.at_is) in
              subst (λ y. InSlot after (k % window_size) y) (sym is_x ∙ ap all last) (subst (λ i. InSlot after i x) here slot_here)
        ];
    blank = λ i h. get_or-set_other ticks at i x.ticks 0 (omega (arith, holds.at_is)) ∙ holds.blank i (omega arith);
  }

  -- `push`
  pub push_takes : Takes (window cell ticks at) x after
  push_takes = record {
    formed = push_formed;
    holds = push_holds;
    table = λ all c is_x holds nodes. table_afresh all (c + 1) after (push_holds all c is_x holds) nodes;
  }
