-- The search on one node: a sweep over its entries in order of time leaps over the starts that clash.
use Prim.Native.Nat.{ℕ, ◌+◌, ◌-◌, ◌≤◌, ◌<◌, max}
use mathlib.Core.Bool.{Bool, true, false, not, cond}
use mathlib.Core.List.{List, [], ◌∷◌}
use mathlib.Core.Option.{none, some}
use mathlib.Core.Path.{◌≡◌, refl, sym, ◌∙◌, ap, subst, fun_ext}
use lib.Bits.{bit_and}
use lib.Dec.{leb, ltb, eqb}
use lib.ListN.{get_or}
use borrow.Author.Tests.{lt-ltb, le-ltb, leb-true, leb-false, le-leb, lt-leb}
use native.Mathlib.Decide.{dec_lt}
use native.Mathlib.Omega.{arith}
use Rattle.reader.specs.Tests.{◌and◌}
use Rattle.reader.specs.First.{first}
use Rattle.reader.proofs.TestLaws.{split, clash, and_i, and_l, and_r, and_no, not_true}
use Rattle.reader.proofs.FirstLaws.{first_none, some_first, none_when, some_when}
use Rattle.rules.specs.declared.Copy.{Copy}
use Rattle.copies.specs.declared.table.Copies.{Copies}
use Rattle.copies.specs.Sets.{has, meets}
use Rattle.copies.specs.Table.{start_at, set_at}
use Rattle.copies.specs.Layout.{all_of, all_pairs, spots_from}
use Rattle.copies.specs.Clash.{hits, free_of}
use Rattle.copies.proofs.TimelineLaws.{all_map}
use Rattle.copies.proofs.SpotLaws.{Swept, swept_start, swept_done, swept_stop, swept_more}
use Rattle.planner.specs.Senders.{latest_input}
use Rattle.planner.specs.Search.{spot, try_at, started_at, on_node, free_from, node_ok, sweep, Rising, EndsSoon}

-- a copy from r on: of an entry that starts behind its finish, that ends by its start where the sets meet, or that it meets
module _ (m n r run start finish z : ℕ) where
  starts_behind : r + run ≤ start → not (hits m (spot n r run) start finish z) ≡ true
  unfolding hits ◌and◌
  starts_behind p = rw (le-ltb start (r + run) p) (ap not (and_no (meets z m)))

  ends_before : (meets z m ≡ true → finish ≤ r) → not (hits m (spot n r run) start finish z) ≡ true
  unfolding hits ◌and◌
  ends_before p = split (meets z m) (λ e. rw (e, le-ltb r finish (p e)) (ap not (and_no (ltb start (r + run))))) (λ e. rw e)

  is_hit : meets z m ≡ true → start < r + run → r < finish → not (hits m (spot n r run) start finish z) ≡ false
  unfolding hits ◌and◌
  is_hit e p q = rw (e, lt-ltb start (r + run) p, lt-ltb r finish q)

module _ (cs : Copies) (m n run : ℕ) where
  -- where an entry lets a copy start
  abbrev past : ℕ → ℕ → ℕ
  past i s = max s (cond (meets (set_at cs i) m) (get_or cs.finish i 0) 0)

  past_end : (i s : ℕ) → meets (set_at cs i) m ≡ true → past i s ≡ max s (get_or cs.finish i 0)
  past_end i s e = rw e

  pub sweep_past : (l : List ℕ) (s : ℕ) → s ≤ sweep cs m run l s
  unfolding sweep
  sweep_past [] s = omega arith
  sweep_past (i ∷ rest) s =
      split (leb (s + run) (get_or cs.start i 0)) (λ e. rw e (omega arith)) (λ e. rw e (omega (arith, sweep_past rest (past i s))))

  past_most : (bound : ℕ) → ((k : ℕ) → get_or cs.finish k 0 ≤ bound) → (i s : ℕ) → s ≤ bound → past i s ≤ bound
  past_most bound ends i s p =
      split (meets (set_at cs i) m) (λ e. rw e (omega (arith, ends i))) (λ e. rw e (omega arith))

  -- where a sweep stops, and where it goes on
  sweep_stops : (i s : ℕ) (rest : List ℕ) → leb (s + run) (get_or cs.start i 0) ≡ true → sweep cs m run (i ∷ rest) s ≡ s
  unfolding sweep
  sweep_stops i s rest e = rw e refl

  sweep_goes : (i s : ℕ) (rest : List ℕ) → leb (s + run) (get_or cs.start i 0) ≡ false
      → sweep cs m run (i ∷ rest) s ≡ sweep cs m run rest (past i s)
  unfolding sweep
  sweep_goes i s rest e = rw e refl

  -- the start that it ends at is free
  sweep_free : (l : List ℕ) (s : ℕ) → Rising cs l → free_of cs m (spot n (sweep cs m run l s) run) l ≡ true
  unfolding free_of all_of all_pairs
  sweep_free [] s h = refl
  sweep_free (i ∷ rest) s h =
      split (leb (s + run) (get_or cs.start i 0))
      (λ e. let behind = leb-true (s + run) (get_or cs.start i 0) e in
      subst (λ x. free_of cs m (spot n x run) (i ∷ rest) ≡ true) (sym (sweep_stops i s rest e))
      (and_i _ _ (starts_behind m n s run (get_or cs.start i 0) _ _ behind)
      (all_map (λ b. leb (start_at cs.start i) (start_at cs.start b)) _
      (λ b q. starts_behind m n s run (get_or cs.start b 0) _ _ (let x = leb-true (start_at cs.start i) (start_at cs.start b) q in omega arith))
      rest (and_l _ _ h))))
      (λ e. subst (λ x. free_of cs m (spot n x run) (i ∷ rest) ≡ true) (sym (sweep_goes i s rest e)) (and_i _ _
      (ends_before m n (sweep cs m run rest (past i s)) run _ (get_or cs.finish i 0) _
      (λ f. omega (arith, past_end i s f, sweep_past rest (past i s))))
      (sweep_free rest (past i s) (and_r _ _ h))))

  -- and those before it are not
  sweep_busy : (l : List ℕ) (s u : ℕ) → s ≤ u → u < sweep cs m run l s → free_of cs m (spot n u run) l ≡ false
  unfolding sweep free_of all_of ◌and◌
  sweep_busy [] s u p q = absurd (let z : ⊥ = omega arith in z)
  sweep_busy (i ∷ rest) s u p q =
      split (leb (s + run) (get_or cs.start i 0))
      (λ e. absurd (let x : u < s = rw e at q in let z : ⊥ = omega arith in z))
      (λ e. let starts = leb-false (s + run) (get_or cs.start i 0) e in
      elim (dec_lt u (past i s)) [
        | yes x ↦ split (meets (set_at cs i) m)
            (λ f. rw (is_hit m n u run (get_or cs.start i 0) (get_or cs.finish i 0) (set_at cs i) f (omega arith) (omega (arith, past_end i s f))))
            (λ f. absurd (let y : u < max s 0 = rw f at x in let z : ⊥ = omega arith in z))
        | no x ↦
            rw (sweep_busy rest (past i s) u (omega arith) (rw e at q))
            (and_no (not (hits m (spot n u run) (get_or cs.start i 0) (get_or cs.finish i 0) (set_at cs i))))
      ])

-- the sweep over the spots of a node, from `base` up to `to`: a start that stays soon
module _ (cs : Copies) (m run : ℕ) (order : List ℕ) (base to from : ℕ) where
  pub record Sweeping (p s : ℕ) : Type 0 where
    pub soon : s ≤ latest_input
    pub swept : Swept (sweep cs m run) order base to from p s

  pub sweep_start : from ≤ latest_input → Sweeping base from
  sweep_start q = record { soon = q; swept = swept_start _ _ _ _ _ }

  module _ (p s k : ℕ) (so_far : Sweeping p s) (more : p < to) (here : k ≡ get_or order p 0) where
    pub sweep_stop : s + run ≤ get_or cs.start k 0 → s ≡ sweep cs m run (spots_from order base (to - base)) from
    unfolding sweep
    sweep_stop q =
        swept_stop _ _ _ _ _ p s so_far.swept more s
        (rw (le-leb (s + run) (get_or cs.start (get_or order p 0) 0) (subst (λ k. s + run ≤ get_or cs.start k 0) here q)))

    pub sweep_more : get_or cs.start k 0 < s + run → EndsSoon cs.finish → (e r : ℕ)
        → e ≡ cond (not (eqb (bit_and (set_at cs k) m) 0)) (get_or cs.finish k 0) 0 → r ≡ max s e → Sweeping (p + 1) r
    unfolding sweep meets
    sweep_more q ends e r is_e is_r =
        let at : r ≡ past cs m 0 run k s = is_r ∙ ap (max s) is_e in
        record {
          soon = omega (arith, at, past_most cs m 0 run latest_input (λ k. omega (arith, ends k)) k s so_far.soon);
          swept = swept_more _ _ _ _ _ p s so_far.swept more r
              (rw (lt-leb (s + run) (get_or cs.start (get_or order p 0) 0) (subst (λ k. get_or cs.start k 0 < s + run) here q))
              (ap (sweep cs m run (spots_from order (p + 1) (to - (p + 1)))) (sym (at ∙ ap (λ k. past cs m 0 run k s) here))));
        }

  pub sweep_done : (p s : ℕ) → Sweeping p s → to ≤ p → s ≡ sweep cs m run (spots_from order base (to - base)) from
  unfolding sweep
  sweep_done p s h q = swept_done _ _ _ _ _ p s h.swept (λ x. refl) q

pub swept_all : (cs : Copies) (m run : ℕ) (order : List ℕ) (base count from s : ℕ)
    → s ≡ sweep cs m run (spots_from order base (base + count - base)) from
    → s ≡ sweep cs m run (spots_from order base count) from
swept_all cs m run order base count from s h =
    let e : base + count - base ≡ count = omega arith in subst (λ c. s ≡ sweep cs m run (spots_from order base c) from) e h

-- a test of starts: the first that passes, and none
module _ (n run d : ℕ) (ok : Copy → Bool) where
  miss : (t : ℕ) → (run ≤ t → ok (spot n (t - run) run) ≡ false) → try_at n run ok t ≡ none
  unfolding try_at
  miss t h =
      none_when _ _ (not_true _ (λ test.
      clash (ok (spot n (t - run) run)) (and_r _ _ (and_r _ _ test)) (h (leb-true run t (and_l _ _ (and_r _ _ test))))))

  on_node_hit : (s : ℕ) → 0 < run → s + run < d → ok (spot n s run) ≡ true → ((u : ℕ) → u < s → ok (spot n u run) ≡ false)
      → some (spot n s run) ≡ on_node n run d ok
  unfolding on_node try_at
  on_node_hit s able fit good before =
      sym (some_first _ _ _ (record {
        at = s + run;
        below = omega arith;
        is = hit;
        least = λ t q. miss t (λ r. before (t - run) (omega arith));
      }))
    where
      back : (s + run) - run ≡ s
      back = omega arith

      hit : try_at n run ok (s + run) ≡ some (spot n s run)
      hit = rw back (some_when _ _ (and_i _ _ (lt-ltb 0 run able) (and_i _ _ (le-leb run (s + run) (omega arith)) good)))

  on_node_none : ((u : ℕ) → u + run < d → ok (spot n u run) ≡ false) → none ≡ on_node n run d ok
  unfolding on_node
  on_node_none h = sym (first_none _ _ (λ t q. miss t (λ r. h (t - run) (omega arith))))

pub on_node_unable : (n d : ℕ) (ok : Copy → Bool) (run : ℕ) → run ≡ 0 → none ≡ on_node n run d ok
unfolding on_node try_at ◌and◌
on_node_unable n d ok run e = rw e (sym (first_none _ _ (λ t q. none_when _ _ refl)))

-- the sweep's end is the earliest start that is free
module _ (cs : Copies) (m n run below from : ℕ) (l : List ℕ) where
  pub swept : Rising cs l → 0 < run → (s : ℕ) → s ≡ sweep cs m run l from
      → started_at n run below s ≡ on_node n run below (free_from cs m l from)
  unfolding started_at free_from ◌and◌
  swept rising able s is =
      elim (dec_lt (s + run) below) [
        | yes fit ↦
            some_when _ _ (lt-ltb (s + run) below fit)
            ∙ on_node_hit n run below (free_from cs m l from) s able fit
            (and_i _ _ (le-leb from s (omega (arith, is, sweep_past cs m n run l from)))
            (subst (λ s. free_of cs m (spot n s run) l ≡ true) (sym is) (sweep_free cs m n run l from rising)))
            (λ u q. early u (omega arith))
        | no late ↦
            none_when _ _ (le-ltb (s + run) below (omega arith)) ∙ on_node_none n run below (free_from cs m l from) (λ u q. early u (omega arith))
      ]
    where
      early : (u : ℕ) → u < sweep cs m run l from → (leb from u and free_of cs m (spot n u run) l) ≡ false
      early u q =
          elim (dec_lt u from) [
            | yes p ↦ rw (lt-leb from u p)
            | no p ↦ rw (sweep_busy cs m n run l from u (omega arith) q) (and_no (leb from u))
          ]

try_same : (n run : ℕ) (ok good : Copy → Bool) (t : ℕ) → ok (spot n (t - run) run) ≡ good (spot n (t - run) run)
    → try_at n run ok t ≡ try_at n run good t
unfolding try_at
try_same n run ok good t h = rw h

-- tests that agree
pub on_node_same : (n run d : ℕ) (ok good : Copy → Bool) → ((s : ℕ) → ok (spot n s run) ≡ good (spot n s run))
    → on_node n run d ok ≡ on_node n run d good
unfolding on_node
on_node_same n run d ok good h = ap (first d) (fun_ext each)
  where
    each : (t : ℕ) → try_at n run ok t ≡ try_at n run good t
    each t = try_same n run ok good t (h (t - run))

-- a node that is barred, or is not
module _ (cs : Copies) (m : ℕ) (l : List ℕ) (from barred n run d : ℕ) where
  pub barred_nothing : has barred n ≡ true → none ≡ on_node n run d (node_ok cs m l from barred)
  unfolding node_ok ◌and◌
  barred_nothing h = on_node_none n run d _ (λ u q. rw h)

  pub unbarred : has barred n ≡ false → on_node n run d (free_from cs m l from) ≡ on_node n run d (node_ok cs m l from barred)
  unfolding node_ok ◌and◌
  unbarred h = on_node_same n run d _ _ (λ s. rw h)
