-- Laws of the sweep's code: the number of a pair, when it is noted, and the loops over spots and nodes.
use Prim.Native.Nat.{ℕ, ◌+◌, ◌-◌, ◌*◌, ◌/◌, ◌≤◌, ◌<◌, min}
use mathlib.Core.Bool.{Bool, true, false, not, cond, ◌&&◌}
use mathlib.Core.List.{List, ◌∷◌}
use mathlib.Core.Path.{◌≡◌, refl, sym, ◌∙◌, ap, ap₂, subst}
use lib.Dec.{ltb, eqb}
use lib.ListN.{get_or}
use borrow.Author.Tests.{le-leb, lt-leb}
use native.Mathlib.Numerals.{add-one}
use native.Mathlib.Omega.{arith}
use Rattle.reader.specs.Limits.{max_tasks}
use Rattle.reader.specs.Tests.{◌and◌}
use Rattle.reader.proofs.TestLaws.{clash}
use Rattle.copies.specs.declared.table.Copies.{Copies}
use Rattle.copies.specs.Sets.{meets}
use Rattle.copies.specs.Table.{entry, set_at}
use Rattle.copies.specs.Layout.{base_of, spots_from}
use Rattle.copies.proofs.SpotLaws.{Swept, swept_done, swept_stop, swept_more}
use Rattle.judge.specs.Overlaps.{pair_of, no_pair, meeting, pair_behind, pair_within, pair_on}

pub pair_falls : (a b : ℕ) → b / 2 ≤ a / 2 → max_tasks * (b / 2) + a / 2 ≡ pair_of a b
unfolding pair_of
pair_falls a b p = omega arith

-- a test without a jump
pub both_is : (s t : Bool) → (s && t) ≡ (s and t)
unfolding ◌and◌
both_is true t = refl
both_is false t = refl

-- a clash s of two tasks, d, with this pair
pub note_new : (s d : Bool) (noted pair p r : ℕ) → (s && d) ≡ true → r ≡ min noted pair → pair ≡ p → r ≡ cond (s and d) (min noted p) noted
unfolding ◌and◌
note_new true true noted pair p r h er ep = cc
note_new true false noted pair p r h er ep = clash false h refl
note_new false d noted pair p r h er ep = clash false h refl

pub note_old : (s d : Bool) (noted x : ℕ) → (s && d) ≡ false → noted ≡ cond (s and d) x noted
unfolding ◌and◌
note_old true true noted x h = clash true refl h
note_old true false noted x h = refl
note_old false d noted x h = refl

module _ (cs : Copies) where
  -- an entry with the next behind it
  module _ (a b : ℕ) (rest : List ℕ) (noted : ℕ) where
    behind_cut : (entry cs a).finish ≤ (entry cs b).start → pair_behind cs a (b ∷ rest) noted ≡ noted
    unfolding pair_behind
    behind_cut p = rw (le-leb (entry cs a).finish (entry cs b).start p)

    behind_on : (entry cs b).start < (entry cs a).finish
        → pair_behind cs a (b ∷ rest) noted ≡ pair_behind cs a rest (cond (meeting cs a b) (min noted (pair_of a b)) noted)
    unfolding pair_behind
    behind_on p = rw (lt-leb (entry cs a).finish (entry cs b).start p)

  module _ (order : List ℕ) where
    abbrev behind : ℕ → ℕ → ℕ → ℕ → ℕ
    behind k p to least = pair_behind cs k (spots_from order (p + 1) (to - (p + 1))) least

    -- the loop over those behind k, which stands in spot p
    module _ (p to least k : ℕ) (is : k ≡ get_or order p 0) (q noted : ℕ) (so_far : Swept (pair_behind cs k) order (p + 1) to least q noted) where
      pub behind_done : to ≤ q → noted ≡ behind (get_or order p 0) p to least
      unfolding pair_behind
      behind_done h = subst (λ k. noted ≡ behind k p to least) is (swept_done _ _ _ _ _ q noted so_far (λ x. refl) h)

      module _ (more : q < to) (e : ℕ) (at : e ≡ get_or order q 0) where
        pub behind_stop : (entry cs k).finish ≤ (entry cs e).start → noted ≡ behind (get_or order p 0) p to least
        behind_stop h =
            subst (λ k. noted ≡ behind k p to least) is
            (swept_stop _ _ _ _ _ q noted so_far more noted (behind_cut k _ _ noted (subst (λ e. (entry cs k).finish ≤ (entry cs e).start) at h)))

        pub behind_more : (entry cs e).start < (entry cs k).finish
            → (b : Bool) → b ≡ (meets (set_at cs e) (set_at cs k) and ltb (entry cs k).start (entry cs e).finish)
            → (next : ℕ) → next ≡ cond (b and not (eqb (k / 2) (e / 2))) (min noted (pair_of k e)) noted
            → Swept (pair_behind cs k) order (p + 1) to least (q + 1) next
        unfolding meeting
        behind_more h b eb next en =
            swept_more _ _ _ _ _ q noted so_far more next (behind_on k _ _ noted (subst (λ e. (entry cs e).start < (entry cs k).finish) at h)
            ∙ ap (pair_behind cs k _) (subst (λ e. cond (meeting cs k e) (min noted (pair_of k e)) noted ≡ next) at
            (sym (en ∙ ap (λ b. cond (b and not (eqb (k / 2) (e / 2))) (min noted (pair_of k e)) noted) eb))))

    -- over all of a node
    module _ (from to least p noted : ℕ) (so_far : Swept (pair_within cs) order from to least p noted) where
      pub within_done : to ≤ p → noted ≡ pair_within cs (spots_from order from (to - from)) least
      unfolding pair_within
      within_done h = swept_done _ _ _ _ _ p noted so_far (λ x. refl) h

      pub within_more : p < to → (next : ℕ) → next ≡ behind (get_or order p 0) p to noted → Swept (pair_within cs) order from to least (p + 1) next
      unfolding pair_within
      within_more more next e = swept_more _ _ _ _ _ p noted so_far more next (ap (pair_within cs (spots_from order (p + 1) (to - (p + 1)))) (sym e))

    -- and over all nodes
    module _ (count : List ℕ) where
      pub nodes_start : no_pair ≡ pair_on cs order count 0
      unfolding pair_on
      nodes_start = refl

      module _ (m noted : ℕ) (is : noted ≡ pair_on cs order count m) where
        pub nodes_more : (next : ℕ) → next ≡ pair_within cs (spots_from order (base_of m) (base_of m + get_or count m 0 - base_of m)) noted
            → next ≡ pair_on cs order count (m + 1)
        unfolding pair_on
        nodes_more next e =
            e ∙ ap₂ (λ c n. pair_within cs (spots_from order (base_of m) c) n)
            (let f : base_of m + get_or count m 0 - base_of m ≡ get_or count m 0 = omega arith in f)
            is ∙ ap (pair_on cs order count) (sym (add-one m))
