-- Laws of printing: one text behind another, byte by byte, and row by row.
use Prim.Native.Nat.{ℕ, ◌+◌, ◌/◌, ◌%◌, ◌≤◌, ◌<◌}
use mathlib.Core.Path.{◌≡◌, refl, sym, ap, ◌∙◌, subst}
use mathlib.Core.List.{List, [], ◌∷◌, ◌++◌}
use lib.ListN.{get_or, length, set, take, length-append, length-set}
use lib.Seq.{set_split, take-suc, take-length}
use native.Mathlib.Numerals.{add-one}
use native.Mathlib.Omega.{arith}
use Rattle.writer.specs.Write.{splice, flat}
use Rattle.writer.proofs.PutLaws.{splice_none, splice_behind}
use Rattle.decimal.specs.Decimal.{digit_zero, decimal}
use Rattle.decimal.specs.declared.print.Page.{Page}
use Rattle.decimal.specs.Prints.{Prints, Grows}
use Rattle.decimal.proofs.DecimalLaws.{decimal_one, decimal_more, length_one, length_more}

pub prints_none : (d : List ℕ) (at : ℕ) → Prints d at [] d at
prints_none d at = record { buffer = sym (splice_none d at); size = refl; behind = omega arith }

pub prints_byte : (d : List ℕ) (at b : ℕ) → at < length d → Prints d at (b ∷ []) (set d at b) (at + 1)
unfolding splice
prints_byte d at b h = record { buffer = rw add-one (set_split d at b h); size = length-set d at b; behind = refl }

pub prints_then : {d a e b g : List ℕ} {at k m : ℕ} → Prints d at a e k → Prints e k b g m → Prints d at (a ++ b) g m
prints_then {d} {a} {e} {b} {g} {at} {k} {m} p q = record {
  buffer = q.buffer ∙ rw p.buffer (splice_behind d a b at k p.behind);
  size = q.size ∙ p.size;
  behind = omega (arith, length-append a b);
}

-- the same text by another name
pub prints_same : {d a b e : List ℕ} {at k : ℕ} → a ≡ b → Prints d at a e k → Prints d at b e k
prints_same {d} {a} {b} {e} {at} {k} h = subst (λ l. Prints d at l e k) h

pub prints_at : {d a e : List ℕ} {at k m : ℕ} → k ≡ m → Prints d at a e k → Prints d at a e m
prints_at {d} {a} {e} {at} h = subst (Prints d at a e) h

-- a loop that prints a text: one turn, and the end
module _ (d s : List ℕ) (at i : ℕ) {e : List ℕ} (h : Prints d at (take i s) e (at + i)) where
  pub text_more : i < length s → at + i < length e → Prints d at (take (i + 1) s) (set e (at + i) (get_or s i 0)) (at + (i + 1))
  text_more p q = rw (add-one, take-suc s i 0) (prints_at (omega arith) (prints_then h (prints_byte e (at + i) (get_or s i 0) q)))

  pub text_whole : i ≡ length s → Prints d at s e (at + i)
  text_whole p = prints_same (ap (λ n. take n s) p ∙ take-length s) h

-- a number: one digit, or its last digit behind the others
pub digit_printed : (d : List ℕ) (at v b : ℕ) → v < 10 → b ≡ digit_zero + v → at + length (decimal v) ≤ length d
    → Prints d at (decimal v) (set d at b) (at + 1)
digit_printed d at v b h e p =
    let room : at < length d = omega (arith, length_one v h) in
    prints_same (ap (λ x. x ∷ []) e ∙ sym (decimal_one v h)) (prints_byte d at b room)

pub last_printed : {d e : List ℕ} {at k : ℕ} (v b : ℕ) → 10 ≤ v → Prints d at (decimal (v / 10)) e k → b ≡ digit_zero + v % 10 → k < length e
    → Prints d at (decimal v) (set e k b) (k + 1)
last_printed {d} {e} {at} {k} v b h p q l =
    prints_same (ap (λ x. decimal (v / 10) ++ (x ∷ [])) q ∙ sym (decimal_more v h)) (prints_then p (prints_byte e k b l))

-- what the search needs of a number printed by its last digit
pub ruleset digits_put = (length_one, length_more, last_printed)

-- the same on a page
pub grows_then : {p q r : Page} {a b : List ℕ} → Grows p q a → Grows q r b → Grows p r (a ++ b)
grows_then g h = record { prints = prints_then g.prints h.prints; same = h.same ∙ g.same }

pub grows_same : {p q : Page} {a b : List ℕ} → a ≡ b → Grows p q a → Grows p q b
grows_same {p} {q} e = subst (Grows p q) e

-- a loop that prints rows
pub grows_none : (p : Page) → Grows p p []
grows_none p = record { prints = prints_none p.buffer.now p.end; same = refl }

pub grows_more : (row : ℕ → List ℕ) (i : ℕ) {p q r : Page} → Grows p q (flat i row) → Grows q r (row i) → Grows p r (flat (i + 1) row)
unfolding flat
grows_more row i g h = rw add-one (grows_then g h)
