-- Ready times and latest arrivals, link by link along the chain of a task's links.
use Prim.Native.Nat.{ℕ, ◌≤◌, ◌<◌, max}
use mathlib.Core.Bool.{Bool, true, false, not, cond}
use mathlib.Core.Path.{◌≡◌, refl, sym, ◌∙◌, ap, ap₂, subst}
use lib.Bits.{bit_and}
use lib.Dec.{leb, ltb, eqb}
use borrow.Author.Tests.{leb-true, le-leb, eqb-true, eqb-false, ltb-true, ltb-false, lt-ltb, le-ltb, eq-eqb, ne_eqb}
use native.Mathlib.Omega.{arith}
use Rattle.reader.specs.Tests.{◌and◌, ◌implies◌}
use Rattle.reader.proofs.TestLaws.{split, and_i, and_l, and_r, and_if, and_yes, and_join, same_test}
use Rattle.reader.proofs.FirstLaws.{every_start}
use Rattle.rules.specs.declared.Copy.{Copy}
use Rattle.copies.specs.declared.arrival.Outgoing.{Outgoing}
use Rattle.copies.specs.Sets.{meets}
use Rattle.copies.specs.Arrival.{arrival_of, comes}
use Rattle.copies.specs.Chain.{Chain}
use Rattle.copies.proofs.ArrivalLaws.{leb_max}
use Rattle.planner.specs.declared.board.Board.{Board}
use Rattle.planner.specs.declared.senders.Incoming.{Incoming}
use Rattle.planner.specs.declared.senders.Sender.{Sender}
use Rattle.planner.specs.declared.inputs.Reach.{Reach}
use Rattle.planner.specs.declared.inputs.Ready.{Ready}
use Rattle.planner.specs.Senders.{latest_input, InBy, Sending}
use Rattle.planner.specs.Inputs.{ready_on, farther_of, fed_by, Farthest, OwnTime, ReadyTime, all_fed, Reached, Owned, Given}
use Rattle.planner.proofs.SenderLaws.{Walk, walk_start, Next}

-- on the node that the latest arrival leaves, and on another
module _ (r : Ready) (n : ℕ) where
  pub ready_own : n ≡ r.node → r.own ≡ ready_on r n
  unfolding ready_on
  ready_own e = rw (eq-eqb n r.node e)

  pub ready_all : (n ≡ r.node → ⊥) → r.all ≡ ready_on r n
  unfolding ready_on
  ready_all e = rw (ne_eqb n r.node e)

-- the farther of two
module _ (r : Reach) (from at : ℕ) where
  pub farther_new : r.at < at → record { at = at; from = from } ≡ farther_of r from at
  unfolding farther_of
  farther_new p = rw (lt-ltb r.at at p)

  pub farther_old : at ≤ r.at → r ≡ farther_of r from at
  unfolding farther_of
  farther_old p = rw (le-ltb r.at at p)

  farther_most : r.at ≤ latest_input → at ≤ latest_input → (farther_of r from at).at ≤ latest_input
  unfolding farther_of
  farther_most p q = split (ltb r.at at) (λ e. rw e q) (λ e. rw e p)

-- one result more, from r to s: a start at s or later has it in time, and one that has it in time elsewhere than at s's node is no earlier
record Step (test : Copy → Bool) (r s : Reach) : Type 0 where
  covers : (d : Copy) → s.at ≤ d.start → (r.at ≤ d.start) × (test d ≡ true)
  reached : (d : Copy) → (d.node ≡ s.from → ⊥) → test d ≡ true → ((d.node ≡ r.from → ⊥) → r.at ≤ d.start) → s.at ≤ d.start

-- a result that is elsewhere no sooner than here, and not too late
module _ (c : Outgoing) (soon : InBy c) where
  -- it is on every node by then, and on another not before
  arrival_most : (n : ℕ) → arrival_of c n ≤ c.away
  unfolding arrival_of
  arrival_most n = split (eqb c.node n) (λ e. rw e soon.0) (λ e. rw e (omega arith))

  comes_most : (d : Copy) → c.away ≤ d.start → comes c d ≡ true
  comes_most d p = le-leb (arrival_of c d.node) d.start (omega (arith, arrival_most d.node))

  comes_other : (d : Copy) → (d.node ≡ c.node → ⊥) → comes c d ≡ true → c.away ≤ d.start
  unfolding arrival_of
  comes_other d ne h = leb-true c.away d.start (rw (ne_eqb c.node d.node (λ e. ne (sym e))) at h)

  farther_step : (r : Reach) → Step (comes c) r (farther_of r c.node c.away)
  unfolding farther_of
  farther_step r =
      split (ltb r.at c.away)
      (λ e. let p = ltb-true r.at c.away e in rw e (record {
        covers = λ d h. (omega arith, comes_most d h);
        reached = λ d ne t h. comes_other d ne t;
      }))
      (λ e. let p = ltb-false r.at c.away e in rw e (record {
        covers = λ d h. (h, comes_most d (omega arith));
        reached = λ d ne t h. h ne;
      }))

-- two results more
step_both : (a b : Copy → Bool) (r s t : Reach) → Step a r s → Step b s t → Step (λ d. a d and b d) r t
step_both a b r s t f g =
    record {
      covers = λ d h. let x = g.covers d h in let y = f.covers d x.0 in (y.0, and_i _ _ y.1 x.1);
      reached = λ d ne h p. g.reached d ne (and_r _ _ h) (λ m. f.reached d m (and_l _ _ h) p);
    }

-- an arrival that counts only where the sets meet, and is 0 where they do not
only_most : (shared : Bool) (at new : ℕ) → new ≡ cond shared at 0 → at ≤ latest_input → new ≤ latest_input
only_most true at new e p = omega (arith, e)
only_most false at new e p = omega (arith, e)

step_if : (z m : ℕ) (test : Copy → Bool) (r : Reach) (node at new : ℕ) → Step test r (farther_of r node at)
    → new ≡ cond (not (eqb (bit_and z m) 0)) at 0 → Step (λ d. meets z m implies test d) r (farther_of r node new)
unfolding meets ◌implies◌
step_if z m test r node at new f e =
    split (eqb (bit_and z m) 0)
    (λ y. let none : new ≡ 0 = rw y at e in
    rw (y, none, sym (farther_old r node 0 (omega arith))) (record { covers = λ d h. (h, refl); reached = λ d ne g h. h ne }))
    (λ y. let some : new ≡ at = rw y at e in rw (y, some) f)

own_if : (z m at new s : ℕ) (test : Bool) → leb at s ≡ test → new ≡ cond (not (eqb (bit_and z m) 0)) at 0 → leb new s ≡ (meets z m implies test)
unfolding meets ◌implies◌
own_if z m at new s test f e =
    split (eqb (bit_and z m) 0)
    (λ y. let none : new ≡ 0 = rw y at e in rw (y, none) (le-leb 0 s (omega arith)))
    (λ y. let some : new ≡ at = rw y at e in rw (y, some) f)

and_swap : (a b : Bool) → (a and b) ≡ (b and a)
and_swap a b = same_test _ _ (λ h. and_i _ _ (and_r _ _ h) (and_l _ _ h)) (λ h. and_i _ _ (and_r _ _ h) (and_l _ _ h))

-- for a copy of a set, along the chains that begin at `last`
module _ (net : Incoming) (board : Board) (last set : ℕ) where
  abbrev fed : (ℕ → ℕ) → ℕ → ℕ → Copy → Bool
  fed = all_fed net board last set

  -- what `farthest` keeps: r is the latest arrival by the links passed, down to `left`
  pub record Reaching (left : ℕ) (r : Reach) : Type 0 where
    pub walk : Walk net board last left
    pub most : r.at ≤ latest_input
    pub covers : (key : ℕ → ℕ) (j : ℕ) → Chain key net.next j last
        → (d : Copy) → r.at ≤ d.start → fed key j left d ≡ true → fed key j last d ≡ true
    pub reached : (key : ℕ → ℕ) (j : ℕ) → Chain key net.next j last
        → (d : Copy) → (d.node ≡ r.from → ⊥) → fed key j last d ≡ true → r.at ≤ d.start

  pub reaching_start : Sending net board last → (r : Reach) → r.at ≡ 0 → Reaching last r
  reaching_start pre r z =
      record {
        walk = walk_start net board last pre;
        most = omega (arith, z);
        covers = λ key j c d p h. h;
        reached = λ key j c d ne h. omega (arith, z);
      }

  pub reaching_done : (left : ℕ) (r : Reach) → left ≡ 0 → Reaching left r → Reached net board last set r
  reaching_done left r e h =
      record {
        most = h.most;
        far = λ key j c. record {
          covers = λ d p. h.covers key j c d p (ap (λ n. fed key j n d) e ∙ every_start _);
          reached = h.reached key j c;
        };
      }

  -- what `own_time` keeps: own is the time on node q by the links passed
  pub record Owning (q left own : ℕ) : Type 0 where
    pub walk : Walk net board last left
    pub most : own ≤ latest_input
    pub is : (key : ℕ → ℕ) (j : ℕ) → Chain key net.next j last
        → (d : Copy) → d.node ≡ q → (leb own d.start and fed key j left d) ≡ fed key j last d

  pub owning_start : Sending net board last → (q : ℕ) → Owning q last 0
  owning_start pre q =
      record {
        walk = walk_start net board last pre;
        most = omega arith;
        is = λ key j c d n. and_if _ _ (le-leb 0 d.start (omega arith));
      }

  pub owning_done : (q left own : ℕ) → left ≡ 0 → Owning q left own → Owned net board last set q own
  owning_done q left own e h =
      record {
        most = h.most;
        own = λ key j c d n.
            sym (ap (λ b. leb own d.start and b) (ap (λ m. fed key j m d) e ∙ every_start _) ∙ and_yes _) ∙ h.is key j c d n;
      }

  -- one link more, by which x comes
  module _ (left : ℕ) (x : Sender) (n : Next net board last left x) where
    abbrev p : Outgoing
    p = x.primary

    abbrev b : Outgoing
    b = x.backup

    -- whether it counts
    abbrev shared : Bool
    shared = not (eqb (bit_and x.set set) 0)

    pub reaching_more : (r : Reach) → Reaching left r → (half s : Reach) (late : ℕ) → half ≡ farther_of r p.node p.away
        → late ≡ cond shared b.away 0 → s ≡ farther_of half b.node late → Reaching x.next s
    reaching_more r h half s late f l g =
        let one = subst (Step (comes p) r) (sym f) (farther_step p n.soon.0 r) in
        let two = subst (Step (λ d. meets x.set set implies comes b d) half) (sym g)
        (step_if x.set set _ half b.node _ late (farther_step b n.soon.1 half) l) in
        let step = step_both _ _ r half s one two in
        let m = subst (λ s. s.at ≤ latest_input) (sym f) (farther_most r p.node _ h.most n.soon.0.1) in
        record {
          walk = n.walk;
          most = subst (λ s. s.at ≤ latest_input) (sym g) (farther_most half b.node late m (only_most shared _ late l n.soon.1.1));
          covers = λ key j c d q t.
              let y = step.covers d q in
              h.covers key j c d y.0 (n.all key j c (fed_by set d) ∙ and_i _ _ t y.1);
          reached = λ key j c d ne t. step.reached d ne (n.one key j c (fed_by set d) t) (λ m. h.reached key j c d m t);
        }

    pub owning_more : (q own : ℕ) → Owning q left own → (on half at late new : ℕ) → on ≡ arrival_of p q → half ≡ max own on
        → at ≡ arrival_of b q → late ≡ cond shared at 0 → new ≡ max half late → Owning q x.next new
    owning_more q own h on half at late new o f a l g =
        let k : at ≤ latest_input = omega (arith, a, arrival_most b n.soon.1 q, n.soon.1.1) in
        record {
          walk = n.walk;
          most = omega (arith, g, f, o, h.most, arrival_most p n.soon.0 q, n.soon.0.1, only_most shared at late l k);
          is = λ key j c d e.
              let one = ap (λ v. leb v d.start) (f ∙ ap (max own) (o ∙ ap (arrival_of p) (sym e))) ∙ leb_max own _ d.start in
              let two = own_if x.set set at late d.start _ (ap (λ v. leb v d.start) (a ∙ ap (arrival_of b) (sym e))) l in
              let step = ap (λ v. leb v d.start) g ∙ leb_max half late d.start ∙ ap₂ (λ u v. u and v) one two ∙ and_join _ _ _ in
              ap (λ v. v and fed key j x.next d) step ∙ and_join _ _ _
              ∙ ap (λ v. leb own d.start and v) (and_swap _ _ ∙ sym (n.all key j c (fed_by set d)))
              ∙ h.is key j c d e;
        }

-- the time on the node that the latest arrival leaves, and on each other
module _ (far : Reach) (own : ℕ) where
  abbrev joined : Ready
  joined = record { node = far.from; own = own; all = far.at }

  ready_time : (ok : Copy → Bool) → Farthest ok far → OwnTime ok far.from own → ReadyTime ok joined
  unfolding ready_on
  ready_time ok f o d =
      split (eqb d.node far.from)
      (λ e. rw e (o d (eqb-true d.node far.from e)))
      (λ e. rw e (same_test _ _
      (λ h. f.covers d (leb-true far.at d.start h))
      (λ h. le-leb far.at d.start (f.reached d (eqb-false d.node far.from e) h))))

  ready_most : far.at ≤ latest_input → own ≤ latest_input → (q : ℕ) → ready_on joined q ≤ latest_input
  unfolding ready_on
  ready_most a b q = split (eqb q far.from) (λ e. rw e b) (λ e. rw e a)

  -- what `gather` gives
  pub given : (net : Incoming) (board : Board) (last set : ℕ) → Reached net board last set far
      → Owned net board last set far.from own → Given net board last set joined
  given net board last set f o =
      record { most = ready_most f.most o.most; ready = λ key j c. ready_time _ (f.far key j c) (o.own key j c) }
