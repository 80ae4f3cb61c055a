-- The best over all nodes: each node's place beats those before it, or there is none.
use Prim.Native.Nat.{ℕ, suc, ◌+◌, ◌≤◌, ◌<◌, max}
use mathlib.Core.Bool.{Bool, true, false, not}
use mathlib.Core.List.{List}
use mathlib.Core.Option.{Option, none, some}
use mathlib.Core.Path.{◌≡◌, refl, sym, ◌∙◌, ap, ap₂, subst}
use lib.Dec.{leb, ltb}
use lib.ListN.{get_or}
use borrow.Author.Tests.{leb-true, le-leb, lt-leb, leb-false, ltb-true, ltb-false, lt-ltb, le-ltb}
use native.Mathlib.Numerals.{add-one}
use native.Mathlib.Omega.{arith}
use Rattle.std.specs.Bool.{then_some}
use Rattle.reader.specs.Tests.{◌and◌}
use Rattle.reader.specs.First.{◌or_else◌, first, when}
use Rattle.reader.specs.Limits.{max_nodes}
use Rattle.reader.proofs.TestLaws.{split, and_l, and_r, not_e, not_x}
use Rattle.reader.proofs.FirstLaws.{first_some, some_first, first_none, none_first, first_same, when_some, when_is, some_when, none_when}
use Rattle.rules.specs.declared.Copy.{Copy}
use Rattle.copies.specs.declared.table.Copies.{Copies}
use Rattle.planner.specs.declared.board.Board.{Board}
use Rattle.copies.specs.Sets.{has}
use Rattle.copies.specs.Layout.{spots_of}
use Rattle.planner.specs.declared.inputs.Ready.{Ready}
use Rattle.planner.specs.declared.search.Search.{Search}
use Rattle.planner.specs.Inputs.{ready_on}
use Rattle.planner.specs.Search.{found_copy, spot, try_at, started_at, on_node, best_of, finish_below, no_place, place_by, sooner_of}
use Rattle.planner.specs.Search.{node_ok, fits, sweep, Searched}
use Rattle.planner.proofs.LeapLaws.{sweep_past, swept, on_node_same, on_node_unable, barred_nothing, unbarred}

-- what is found at t finishes at t
abbrev Timed : (ℕ → Option Copy) → Type 0
Timed f = (t : ℕ) (c : Copy) → f t ≡ some c → c.finish ≡ t

-- the first of two answers at each tick: the second's where it is sooner than the first's, else the first's
module _ (f g : ℕ → Option Copy) (timed : Timed f) (d : ℕ) where
  sooner : (o x : Option Copy) → first (suc d) f ≡ o → first (finish_below o d) g ≡ x → (x or_else o) ≡ first (suc d) (λ t. f t or_else g t)
  unfolding ◌or_else◌
  sooner none x e h =
      let q : first (suc d) g ≡ x = subst (λ n. first n g ≡ x) (add-one d) h in
      or_none x ∙ sym q ∙ sym (first_same (suc d) _ g (λ t p. ap (λ y. y or_else g t) (none_first (suc d) f e t p)))
    where
      or_none : (y : Option Copy) → (y or_else none) ≡ y
      or_none none = refl
      or_none (some y) = refl
  sooner (some c) none e h =
      let k = first_some (suc d) f c e in
      let at = timed k.at c k.is in
      sym (some_first _ _ c (record {
        at = k.at;
        below = k.below;
        is = ap (λ y. y or_else g k.at) k.is;
        least = λ t p. ap₂ (λ y z. y or_else z) (k.least t p) (none_first c.finish g h t (omega arith));
      }))
  sooner (some c) (some b) e h =
      let k = first_some (suc d) f c e in
      let at = timed k.at c k.is in
      let m = first_some c.finish g b h in
      sym (some_first _ _ b (record {
        at = m.at;
        below = omega (arith, m.below, k.below);
        is = ap (λ y. y or_else g m.at) (k.least m.at (omega (arith, m.below))) ∙ m.is;
        least = λ t p. ap₂ (λ y z. y or_else z) (k.least t (omega (arith, m.below))) (m.least t p);
      }))

-- the best of the first k nodes
module _ (runs : List ℕ) (d : ℕ) (ok : Copy → Bool) where
  abbrev on : ℕ → ℕ → Option Copy
  on t n = try_at n (get_or runs n 0) ok t

  timed : (t n : ℕ) (c : Copy) → on t n ≡ some c → c.finish ≡ t
  unfolding try_at
  timed t n c e =
      let fit = leb-true (get_or runs n 0) t (and_l _ _ (and_r _ _ (when_some _ _ c e))) in
      subst (λ d. d.finish ≡ t) (when_is _ _ c e) (omega arith)

  many : (k : ℕ) → Timed (λ t. first k (on t))
  many k t c e = let h = first_some k (on t) c e in timed t h.at c h.is

  pub best_start : none ≡ best_of runs (suc d) ok 0
  unfolding best_of first
  best_start = sym (first_none (suc d) _ (λ t q. refl))

  pub best_more : (k : ℕ) (a b r : Option Copy) (below : ℕ) → a ≡ best_of runs (suc d) ok k → below ≡ finish_below a d
      → b ≡ on_node k (get_or runs k 0) below ok → r ≡ (b or_else a) → r ≡ best_of runs (suc d) ok (k + 1)
  unfolding best_of on_node first ◌or_else◌
  best_more k a b r below ea eb e er =
      er ∙ sooner (λ t. first k (on t)) (λ t. on t k) (many k) d a b (sym ea) (sym (e ∙ ap (λ n. first n (λ t. on t k)) eb)) ∙ last
    where
      last : first (suc d) (λ t. first k (on t) or_else on t k) ≡ first (suc d) (λ t. first (k + 1) (on t))
      last = simp add-one refl

-- the best so far as a copy, which counts where it finishes by the deadline
module _ (d : ℕ) where
  pub nowhere_none : place_by (no_place d) d ≡ none
  unfolding place_by
  nowhere_none = none_when _ _ (lt-leb (d + 1) d (omega arith))

  module _ (best : Copy) (most : best.finish ≤ d + 1) where
    place_below : best.finish ≡ finish_below (place_by best d) d
    unfolding place_by
    place_below =
        split (leb best.finish d)
        (λ e. ap (λ o. finish_below o d) (sym (some_when _ best e)))
        (λ e. let late = leb-false best.finish d e in let is : best.finish ≡ d + 1 = omega arith in
        is ∙ ap (λ o. finish_below o d) (sym (none_when _ best e)))

    module _ (n s run : ℕ) where
      sooner_most : (sooner_of best n s run).finish ≤ d + 1
      unfolding sooner_of
      sooner_most = split (ltb (s + run) best.finish) (λ e. let p = ltb-true (s + run) best.finish e in rw e (omega arith)) (λ e. rw e most)

      sooner_is : place_by (sooner_of best n s run) d ≡ (started_at n run best.finish s or_else place_by best d)
      unfolding place_by sooner_of started_at when ◌or_else◌
      sooner_is =
          split (ltb (s + run) best.finish)
          (λ e. let p = ltb-true (s + run) best.finish e in rw (e, le-leb (s + run) d (omega arith)))
          (λ e. rw e)

-- a search over the first k nodes
module _ (board : Board) (search : Search) where
  pub record Best (k : ℕ) (best : Copy) : Type 0 where
    pub within : k ≤ search.nodes
    pub most : best.finish ≤ search.task.deadline + 1
    pub is : place_by best search.task.deadline ≡ best_of search.task.run (suc search.task.deadline) (fits board search) k

  pub first_best : (best : Copy) → best ≡ no_place search.task.deadline → Best 0 best
  first_best best e =
      record {
        within = omega arith;
        most = omega (arith, ap (λ c. c.finish) e);
        is = ap (λ c. place_by c search.task.deadline) e ∙ nowhere_none search.task.deadline ∙ best_start _ _ _;
      }

  module _ (pre : Searched board search) (n : ℕ) (best : Copy) (so_far : Best n best) (below : n < search.nodes) where
    abbrev run : ℕ
    run = get_or search.task.run n 0

    abbrev the_spots : List ℕ
    the_spots = spots_of board.layout.order board.layout.count n

    few : n < max_nodes
    few = omega (arith, pre.nodes_most)

    next : (r : Copy) (b : Option Copy) → r.finish ≤ search.task.deadline + 1 → b ≡ on_node n run best.finish (fits board search)
        → place_by r search.task.deadline ≡ (b or_else place_by best search.task.deadline) → Best (n + 1) r
    next r b most e h =
        record {
          within = omega arith;
          most = most;
          is = best_more _ _ _ n _ b _ best.finish so_far.is (place_below _ best so_far.most) e h;
        }

    -- the node's part of the search
    fits_here : (from : ℕ) → from ≡ max (ready_on search.ready n) search.least
        → on_node n run best.finish (node_ok board.copies search.set the_spots from search.barred)
        ≡ on_node n run best.finish (fits board search)
    unfolding fits
    fits_here from start =
        on_node_same n run best.finish _ _ (λ s. ap (λ x. node_ok board.copies search.set the_spots x search.barred (spot n s run)) start)

    -- a node that may not have the copy
    pub best_passed : (r : Copy) → (ltb 0 run and not (has search.barred n)) ≡ false → r ≡ best → Best (n + 1) r
    unfolding ◌or_else◌ ◌and◌
    best_passed r h e = subst (Best (n + 1)) (sym e) (split (ltb 0 run)
        (λ e. next best none so_far.most
        (barred_nothing board.copies search.set the_spots _ search.barred n run best.finish (not_x _ (rw e at h)) ∙ fits_here _ refl) refl)
        (λ e. next best none so_far.most (on_node_unable n best.finish _ run (let z = ltb-false 0 run e in omega arith)) refl))

    -- one that may
    module _ (may : (ltb 0 run and not (has search.barred n)) ≡ true) (from : ℕ) (start : from ≡ max (ready_on search.ready n) search.least) where
      pub best_next : (r : Copy) → r ≡ sooner_of best n (sweep board.copies search.set run the_spots from) run → Best (n + 1) r
      best_next r h =
          let s = sweep board.copies search.set run the_spots from in
          next r (started_at n run best.finish s)
          (subst (λ c. c.finish ≤ search.task.deadline + 1) (sym h) (sooner_most _ best so_far.most n s run))
          (swept board.copies search.set n run best.finish from the_spots (pre.rising n few) (ltb-true 0 run (and_l _ _ may)) s refl
          ∙ unbarred board.copies search.set the_spots from search.barred n run best.finish (not_e _ (and_r _ _ may)) ∙ fits_here from start)
          (ap (λ c. place_by c search.task.deadline) h ∙ sooner_is _ best so_far.most n s run)

pub start_at_lem : (r : Ready) (n least ready from : ℕ) → ready ≡ ready_on r n → from ≡ max ready least → from ≡ max (ready_on r n) least
start_at_lem r n least ready from e h = h ∙ ap (λ x. max x least) e

-- the small steps by their cases
module _ (best : Copy) (n s run : ℕ) where
  pub sooner_yes : s + run < best.finish → spot n s run ≡ sooner_of best n s run
  unfolding sooner_of
  sooner_yes p = rw (lt-ltb (s + run) best.finish p)

  pub sooner_no : best.finish ≤ s + run → best ≡ sooner_of best n s run
  unfolding sooner_of
  sooner_no p = rw (le-ltb (s + run) best.finish p)

-- a node on which nothing can be sooner
pub better_none : (cs : Copies) (m n run from : ℕ) (l : List ℕ) (best : Copy) → best.finish ≤ from + run
    → best ≡ sooner_of best n (sweep cs m run l from) run
better_none cs m n run from l best p = sooner_no best n _ run (omega (arith, sweep_past cs m n run l from))

pub found_if : (best : Copy) (deadline : ℕ) → found_copy (then_some (leb best.finish deadline) best) ≡ place_by best deadline
unfolding place_by when
found_if best deadline = split (leb best.finish deadline) (λ e. rw e) (λ e. rw e)
