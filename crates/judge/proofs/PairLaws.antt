-- What the least pair means: it tells the first pair of tasks that breaks G.
use Prim.Native.Nat.{ℕ, zero, suc, ◌+◌, ◌*◌, ◌/◌, ◌%◌, ◌≤◌, ◌<◌, min}
use mathlib.Core.Bool.{Bool, true, false, not, cond}
use mathlib.Core.List.{List, [], ◌∷◌}
use mathlib.Core.Option.{none}
use mathlib.Core.Path.{◌≡◌, refl, sym, ◌∙◌, ap, ap₂}
use lib.Bits.{and_comm}
use lib.Dec.{leb, ltb, eqb}
use borrow.Author.Tests.{eqb-true, eqb-false, eq-eqb, ne_eqb, ltb-true, lt-ltb, le-ltb, leb-true, leb-false, le-leb, lt-leb}
use native.Mathlib.Omega.{arith}
use Rattle.reader.specs.declared.refusal.Refusal.TheVariants.{Overlap}
use Rattle.std.specs.Prelude.{Ok, Err}
use Rattle.reader.specs.Limits.{max_tasks, max_nodes}
use Rattle.reader.specs.Tests.{◌and◌, ◌implies◌}
use Rattle.reader.specs.First.{first, unless, every}
use Rattle.reader.specs.Refusals.{answered}
use Rattle.reader.proofs.TestLaws.{split, clash, and_i, and_l, and_r, and_if, and_yes, and_join}
use Rattle.reader.proofs.TestLaws.{imp_e, imp_i, imp_x, imp_fails, not_e, not_i, not_true, same_test}
use Rattle.reader.proofs.FirstLaws.{first_none, some_first, none_unless, some_unless, every_start, every_e, every_x}
use Rattle.copies.specs.declared.table.Copies.{Copies}
use Rattle.copies.specs.Sets.{meets}
use Rattle.copies.specs.Table.{node_at, start_at, entry, set_at}
use Rattle.copies.specs.Layout.{sooner, all_of, all_pairs, Laid}
use Rattle.copies.specs.Laying.{Layable}
use Rattle.copies.specs.Clash.{clashes, hits}
use Rattle.copies.proofs.TableLaws.{halves}
use Rattle.copies.proofs.TimelineLaws.{every_suc, all_map, sooner_starts, pairs_timeline}
use Rattle.copies.proofs.LayoutLaws.{laid_filled, laid_ordered}
use Rattle.judge.specs.Faults.{Low}
use Rattle.judge.specs.Overlaps.{apart, pair_apart, pair_breach, pair_of, no_pair, pair_told, meeting, pair_behind, pair_within, pair_on, AllFilled}
use Rattle.judge.proofs.SweepLaws.{pair_falls}

-- which pairs there are, by the numbers x that the least is no less than
module _ (cs : Copies) where
  -- b hits a
  abbrev hits_at : ℕ → ℕ → Bool
  hits_at a b = hits (set_at cs a) (entry cs a) (entry cs b).start (entry cs b).finish (set_at cs b)

  -- a hit of two tasks has no number below x
  unfoldable keeps : ℕ → ℕ → ℕ → Bool
  keeps x a b = (hits_at a b and not (eqb (a / 2) (b / 2))) implies leb x (pair_of a b)

  keeps_turn : (x a b : ℕ) → keeps x a b ≡ true → keeps x b a ≡ true
  unfolding keeps hits meets pair_of
  keeps_turn x a b h =
      imp_i _ _ λ g.
      let hit = and_l _ _ g in
      let ne = eqb-false (b / 2) (a / 2) (not_e _ (and_r _ _ g)) in
      let same : pair_of b a ≡ pair_of a b = omega arith in
      ap (leb x) same ∙ imp_e _ _ h (and_i _ _
      (and_i _ _ (ap (λ m. not (eqb m 0)) (and_comm (set_at cs b) (set_at cs a)) ∙ and_l _ _ hit)
      (and_i _ _ (and_r _ _ (and_r _ _ hit)) (and_l _ _ (and_r _ _ hit))))
      (not_i _ (ne_eqb (a / 2) (b / 2) λ e. ne (sym e))))

  -- one with each behind it
  module _ (x a : ℕ) where
    beyond : (b : ℕ) → (entry cs a).finish ≤ (entry cs b).start → keeps x a b ≡ true
    unfolding keeps hits
    beyond b p = imp_i _ _ λ g. clash _ (and_l _ _ (and_r _ _ (and_l _ _ g))) (le-ltb (entry cs b).start (entry cs a).finish p)

    lesser : (u v : ℕ) → leb x (min u v) ≡ (leb x u and leb x v)
    lesser u v =
        same_test _ _
        (λ h. let m = leb-true x (min u v) h in and_i _ _ (le-leb x u (omega arith)) (le-leb x v (omega arith)))
        (λ h. let p = leb-true x u (and_l _ _ h) in let q = leb-true x v (and_r _ _ h) in le-leb x (min u v) (omega arith))

    noted_is : (b noted : ℕ) → (entry cs b).start < (entry cs a).finish
        → leb x (cond (meeting cs a b) (min noted (pair_of a b)) noted) ≡ (leb x noted and keeps x a b)
    unfolding keeps hits meeting ◌and◌ ◌implies◌
    noted_is b noted p =
        rw (lt-ltb (entry cs b).start (entry cs a).finish p)
        (split (meeting cs a b) (λ e. rw e (lesser noted (pair_of a b))) (λ e. rw e (sym (and_yes _))))

    behind_is : (l : List ℕ) (noted : ℕ) → all_pairs (sooner (start_at cs.start)) l ≡ true
        → leb x (pair_behind cs a l noted) ≡ (leb x noted and all_of (keeps x a) l)
    unfolding pair_behind all_of all_pairs
    behind_is [] noted h = sym (and_yes _)
    behind_is (b ∷ rest) noted h =
        split (leb (entry cs a).finish (entry cs b).start)
        (λ e. let p = leb-true (entry cs a).finish (entry cs b).start e in
        let after : (i : ℕ) → sooner (start_at cs.start) b i ≡ true → keeps x a i ≡ true =
        λ i s. beyond i (omega (arith, sooner_starts _ b i s)) in
        rw e (sym (ap (λ t. leb x noted and t) (and_i _ _ (beyond b p) (all_map _ _ after rest (and_l _ _ h))) ∙ and_yes _)))
        (λ e. rw e (behind_is rest _ (and_r _ _ h)
        ∙ ap (λ t. t and all_of (keeps x a) rest) (noted_is b noted (leb-false (entry cs a).finish (entry cs b).start e)) ∙ and_join _ _ _))

  within_is : (x : ℕ) (l : List ℕ) (noted : ℕ) → all_pairs (sooner (start_at cs.start)) l ≡ true
      → leb x (pair_within cs l noted) ≡ (leb x noted and all_pairs (keeps x) l)
  unfolding pair_within all_pairs
  within_is x [] noted h = sym (and_yes _)
  within_is x (a ∷ rest) noted h =
      within_is x rest _ (and_r _ _ h) ∙ ap (λ t. t and all_pairs (keeps x) rest) (behind_is x a rest noted (and_r _ _ h)) ∙ and_join _ _ _

  -- all of the first k entries, laid out
  module _ (order count : List ℕ) (k : ℕ) (laid : Laid cs.node cs.start k order count) (x : ℕ) where
    abbrev kept : ℕ → Bool
    kept n = every k λ b. eqb (node_at cs.node b) n implies every b λ a. eqb (node_at cs.node a) n implies keeps x b a

    least_is : (m : ℕ) → m ≤ max_nodes → leb x (pair_on cs order count m) ≡ (leb x no_pair and every m kept)
    unfolding pair_on
    least_is zero p = sym (ap (λ t. leb x no_pair and t) (every_start kept) ∙ and_yes _)
    least_is (suc m) p =
        within_is x _ _ (laid_ordered cs.node cs.start order count k laid m (omega arith))
        ∙ ap₂ ◌and◌ (least_is m (omega arith)) (ap (all_pairs (keeps x)) (laid.is m (omega arith))
        ∙ pairs_timeline (start_at cs.start) (node_at cs.node) m (keeps x) (λ a b. same_test _ _ (keeps_turn x a b) (keeps_turn x b a)) k)
        ∙ and_join _ _ _ ∙ ap (λ t. leb x no_pair and t) (sym (every_suc m kept))

-- n tasks can be laid out, and then the spots hold entries
module _ (node start : List ℕ) (n : ℕ) (low : Low node n) where
  pub all_layable : (order count : List ℕ) → Laid node start 0 order count → Layable node start (2 * n) order count
  all_layable order count blank = record { few = omega (arith, low.few); rack = low.on; empty = blank }

  pub all_filled : (order count : List ℕ) → Laid node start (2 * n) order count → AllFilled order count
  all_filled order count laid m p = laid_filled node start order count (2 * n) laid m p (omega (arith, low.few))

-- the least of their pairs
module _ (cs : Copies) (order count : List ℕ) (n : ℕ) (low : Low cs.node n) (laid : Laid cs.node cs.start (2 * n) order count) where
  abbrev least : ℕ
  least = pair_on cs order count max_nodes

  abbrev strikes : ℕ → ℕ → Bool
  strikes b a = clashes (set_at cs b) (entry cs b) (entry cs a) (set_at cs a)

  means : (x : ℕ) → leb x least ≡ (leb x no_pair and every max_nodes (kept cs order count (2 * n) laid x))
  means x = least_is cs order count (2 * n) laid x max_nodes (omega arith)

  all_kept : (leb least no_pair and every max_nodes (kept cs order count (2 * n) laid least)) ≡ true
  all_kept = sym (means least) ∙ le-leb least least (omega arith)

  -- entries of two tasks that clash have no lesser number
  strikes_least : (a b : ℕ) → a / 2 < b / 2 → b < 2 * n → strikes b a ≡ true → least ≤ max_tasks * (a / 2) + b / 2
  unfolding clashes keeps hits
  strikes_least a b p q h =
      let here = every_e (2 * n) _ (every_e max_nodes _ (and_r _ _ all_kept) (node_at cs.node b) (low.on b q)) b q in
      let there = every_e b _ (imp_e _ _ here (eq-eqb (node_at cs.node b) (node_at cs.node b) refl)) a (omega arith) in
      let least_of = imp_e _ _ (imp_e _ _ there (and_l _ _ h)) (and_i _ _ (and_r _ _ h) (not_i _ (ne_eqb (b / 2) (a / 2) λ e. omega arith))) in
      omega (arith, leb-true least (pair_of b a) least_of, pair_falls b a (omega arith))

  -- and where the least is the number of a pair some have that
  least_struck {ℓ} : {C : Type ℓ} → least < no_pair
      → ((a b : ℕ) → a / 2 < b / 2 → b < 2 * n → strikes b a ≡ true → least ≡ max_tasks * (a / 2) + b / 2 → C) → C
  unfolding clashes keeps hits
  least_struck p go =
      every_x max_nodes _ (sym (and_if _ _ (le-leb (least + 1) no_pair (omega arith))) ∙ sym (means (least + 1)) ∙ lt-leb (least + 1) least (omega arith))
      λ m _ e.
      every_x (2 * n) _ e λ b q e. imp_x _ _ e λ on e. every_x b _ e λ a r e. imp_x _ _ e λ by e. imp_x _ _ e λ both over.
      let ne = eqb-false (b / 2) (a / 2) (not_e _ (and_r _ _ both)) in
      let same = eqb-true (node_at cs.node a) m by ∙ sym (eqb-true (node_at cs.node b) m on) in
      let s = and_i _ _ (eq-eqb (node_at cs.node a) (node_at cs.node b) same) (and_l _ _ both) in
      let u = leb-false (least + 1) (pair_of b a) over in
      go a b (omega arith) q s (omega (arith, strikes_least a b (omega arith) q s, pair_falls b a (omega arith)))

  -- so a pair of a lesser number does not clash
  passes : (i j : ℕ) → j < n → max_tasks * i + j < least → unless (ltb i j implies pair_apart cs i j) (Overlap i j) ≡ none
  unfolding pair_apart apart
  passes i j below p =
      none_unless _ _ (imp_i _ _ λ e.
      let rises = ltb-true i j e in
      let off : (a b : ℕ) → a / 2 ≡ i → b / 2 ≡ j → not (strikes b a) ≡ true = λ a b ea eb. not_i _ (not_true _ λ (t : strikes b a ≡ true).
      let z : ⊥ = omega (arith, strikes_least a b (omega arith) (omega arith) t) in z) in
      and_i _ _
      (and_i _ _ (off (2 * i) (2 * j) (omega arith) (omega arith)) (off (2 * i + 1) (2 * j) (omega arith) (omega arith)))
      (and_i _ _ (off (2 * i) (2 * j + 1) (omega arith) (omega arith)) (off (2 * i + 1) (2 * j + 1) (omega arith) (omega arith))))

  -- and one that clashes breaks G
  breaks : (a b : ℕ) → strikes b a ≡ true → pair_apart cs (a / 2) (b / 2) ≡ false
  unfolding pair_apart apart
  breaks a b h =
      not_true _ λ t. clash _ h (not_e _ (halves (λ a. not (strikes b a) ≡ true) (a / 2)
      (halves (λ b. not (strikes b (2 * (a / 2))) ≡ true) (b / 2) (and_l _ _ (and_l _ _ t)) (and_l _ _ (and_r _ _ t)) b refl)
      (halves (λ b. not (strikes b (2 * (a / 2) + 1)) ≡ true) (b / 2) (and_r _ _ (and_l _ _ t)) (and_r _ _ (and_r _ _ t)) b refl) a refl))

  first_told : first n (pair_breach cs n) ≡ pair_told least
  unfolding pair_breach pair_told
  first_told =
      split (eqb least no_pair)
      (λ e. let is = eqb-true least no_pair e in
      first_none n _ (λ i p. first_none n _ λ j q. passes i j q (omega (arith, low.few))) ∙ sym (none_unless _ _ e))
      (λ e. let ne = eqb-false least no_pair e in
      let most = leb-true least no_pair (and_l _ _ all_kept) in
      least_struck (omega arith) (λ a b p q h is. some_first n _ _ (record {
        at = a / 2;
        below = omega arith;
        is = some_first n _ _ (record {
          at = b / 2;
          below = omega arith;
          is = some_unless _ _ _ (imp_fails _ _ (lt-ltb (a / 2) (b / 2) p) (breaks a b h)) (ap₂ Overlap
              (let f : a / 2 ≡ least / max_tasks = omega (arith, low.few) in f) (let f : b / 2 ≡ least % max_tasks = omega (arith, low.few) in f));
          least = λ j x. passes (a / 2) j (omega arith) (omega arith);
        });
        least = λ i x. first_none n _ λ j y. passes i j y (omega (arith, low.few));
      })) ∙ sym (some_unless _ _ _ e refl))

  -- as the answer tells it
  module _ (pair : ℕ) (is : pair ≡ least) where
    pub tells_none : pair ≡ no_pair → (Ok tt) ≡ answered (first n (pair_breach cs n))
    unfolding pair_told
    tells_none h = sym (ap answered (first_told ∙ ap pair_told (sym is) ∙ none_unless _ _ (eq-eqb pair no_pair h)))

    pub tells_first : (pair ≡ no_pair → ⊥) → Err (Overlap (pair / max_tasks) (pair % max_tasks)) ≡ answered (first n (pair_breach cs n))
    unfolding pair_told
    tells_first h = sym (ap answered (first_told ∙ ap pair_told (sym is) ∙ some_unless _ _ _ (ne_eqb pair no_pair h) refl))
