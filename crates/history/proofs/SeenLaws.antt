-- Laws of a window's table: worked out slot by slot.
use Prim.Native.Nat.{ℕ, ◌+◌, ◌≤◌, ◌<◌, max}
use mathlib.Core.List.{List}
use mathlib.Core.Path.{◌≡◌, refl, sym, ap, ◌∙◌, subst}
use lib.Dec.{eqb}
use lib.ListN.{get_or, set, length, length-set, replicate, length-replicate}
use lib.Seq.{get_or-set_same, get_or-set_other}
use borrow.Author.Tests.{eqb-true, eqb-false, eq-eqb}
use native.Mathlib.Numerals.{add-one}
use native.Mathlib.Omega.{arith}
use Rattle.reader.proofs.TestLaws.{split}
use Rattle.copies.proofs.ListMore.{replicated}
use Rattle.history.specs.declared.window.Window.{Window}
use Rattle.history.specs.Times.{most, window_size}
use Rattle.history.specs.Window.{cell_count, counts, seen_in, Seen}
use Rattle.history.specs.Ring.{Formed}
use Rattle.history.proofs.MostLaws.{most_more}

module _ (w : Window) where
  abbrev key : ℕ → ℕ
  key i = get_or w.cell i 0

  abbrev val : ℕ → ℕ
  val i = get_or w.ticks i 0

  -- the first i slots are in the table
  pub record SeenTo (i : ℕ) (seen : List ℕ) : Type 0 where
    pub within : i ≤ window_size
    pub size : length seen ≡ cell_count
    pub is : (p : ℕ) → get_or seen p 0 ≡ most i (counts w p)

  pub seen_start : SeenTo 0 (replicate cell_count 0)
  unfolding most
  seen_start = record {
    within = omega arith;
    size = length-replicate {A = ℕ} cell_count 0;
    is = λ p. replicated {A = ℕ} 0 cell_count p;
  }

  module _ (i : ℕ) (seen : List ℕ) (v : ℕ) (is_v : v ≡ max (get_or seen (key i) 0) (val i)) where
    -- the cell of slot i is raised by its ticks
    raised : (p : ℕ) → key i < length seen → get_or (set seen (key i) v) p 0 ≡ max (get_or seen p 0) (counts w p i)
    raised p h =
        split (eqb (key i) p)
        (λ b.
        let same : key i ≡ p = eqb-true (key i) p b in
        subst (λ x. get_or (set seen (key i) v) x 0 ≡ max (get_or seen x 0) (counts w x i)) same
        (get_or-set_same seen (key i) v 0 h ∙ is_v ∙ rw (eq-eqb (key i) (key i) refl)))
        (λ b.
        get_or-set_other seen (key i) p v 0 (λ x. eqb-false (key i) p b (sym x)) ∙ rw b (omega arith))

    pub seen_more : Formed w → i < window_size → SeenTo i seen → SeenTo (i + 1) (set seen (key i) v)
    seen_more formed h inv = record {
      within = omega arith;
      size = length-set seen (key i) v ∙ inv.size;
      is = λ p.
          let r = raised p (omega (arith, formed.cells i, inv.size)) in
          let m = most_more (i + 1) i (counts w p) (add-one i) in
          omega (arith, r, m, inv.is p);
    }

  pub seen_done : (i : ℕ) (seen : List ℕ) → window_size ≤ i → SeenTo i seen → Seen w seen
  unfolding seen_in
  seen_done i seen h inv =
      let e : i ≡ window_size = omega (arith, inv.within) in
      record { is = λ p. inv.is p ∙ ap (λ m. most m (counts w p)) e }
