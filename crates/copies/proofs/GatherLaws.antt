-- Laws of gathering: one sender more, members for links, and from the state of one task to that of the next.
use Prim.Native.Nat.{ℕ, ◌+◌, ◌-◌, ◌*◌, ◌^◌, ◌≤◌, ◌<◌}
use mathlib.Core.Bool.{Bool, true, false, not}
use mathlib.Core.List.{List}
use mathlib.Core.Path.{◌≡◌, refl, sym, ◌∙◌, ap, ap₂, subst}
use native.Mathlib.Omega.{arith}
use lib.Bits.{bit_or}
use lib.Count.{count_trailing_zeros}
use lib.Pow.{pow_pos}
use lib.Dec.{eqb}
use lib.ListN.{get_or, set, length-set}
use lib.Seq.{get_or-set_same, get_or-set_other}
use borrow.Author.Tests.{eqb-true, eqb-false, eq-eqb}
use Rattle.reader.specs.declared.job.Job.{Job}
use Rattle.reader.specs.declared.plan.Plan.{Plan}
use Rattle.reader.specs.Tests.{◌and◌, ◌or◌}
use Rattle.reader.specs.First.{any}
use Rattle.reader.specs.Limits.{max_tasks}
use Rattle.reader.specs.Entries.{tasks, links, link}
use Rattle.reader.specs.Sound.{Sound}
use Rattle.reader.proofs.TestLaws.{split, clash, and_i, and_l, and_r, or_l, or_r, or_e, or_none, or_join, not_i, not_true, same_test}
use Rattle.reader.proofs.FirstLaws.{any_i, any_e, any_same}
use Rattle.rules.specs.Rules.{Row, strong, carries, rows}
use Rattle.rules.specs.Gathering.{gathered_to, with_sets}
use Rattle.rules.proofs.FaultSetLaws.{from_low}
use Rattle.rules.proofs.GatheringLaws.{gathered_all, gather_here, gather_else}
use Rattle.copies.specs.Sets.{has}
use Rattle.copies.specs.Gathered.{joined, weak_link, ArrivesFrom, SetsTo, Gathers}
use Rattle.copies.proofs.SetLaws.{has_union, has_none}
use Rattle.copies.proofs.MemberLaws.{has_less, has_part, least_below, least_has}

-- q comes from a member of w
abbrev sent : List ℕ → ℕ → ℕ → ℕ → Bool
sent sets w q i = has w i and has (get_or sets (2 * i + 1) 0) q

-- what is gathered, and what is left to gather, make the whole
pub record Gathering (x weak : ℕ) (sets : List ℕ) (r left : ℕ) : Type 0 where
  pub within : left ≤ weak
  pub is : (q : ℕ) → joined r left sets q ≡ joined x weak sets q

pub gather_start : (x weak : ℕ) (sets : List ℕ) → Gathering x weak sets x weak
gather_start x weak sets = record { within = omega arith; is = λ q. refl }

module _ (left : ℕ) (some : 0 < left) (fits : left < 2 ^ 64) where
  pub sender_low : count_trailing_zeros 64 left < 64
  sender_low = least_below 64 left some fits

  pub sender_part : (bit : ℕ) → bit ≡ 2 ^ count_trailing_zeros 64 left → (bit ≤ left) × (0 < bit)
  sender_part bit e = (omega (arith, has_part left _ (least_has 64 left some fits)), omega (arith, pow_pos (count_trailing_zeros 64 left)))

-- one member less
module _ (sets : List ℕ) (left i q : ℕ) (low : i < max_tasks) (here : has left i ≡ true) where
  one_less : (has (get_or sets (2 * i + 1) 0) q or any max_tasks (sent sets (left - 2 ^ i) q)) ≡ any max_tasks (sent sets left q)
  one_less =
      same_test _ _
      (λ h. or_e _ _ h
      (λ e. any_i max_tasks _ i low (and_i _ _ here e))
      (λ e. any_e max_tasks _ e λ m p t. any_i max_tasks _ m p (and_i _ _ (and_l _ _ (sym (has_less i left m here) ∙ and_l _ _ t)) (and_r _ _ t))))
      (λ h. any_e max_tasks _ h λ m p t.
      split (eqb i m)
      (λ e. or_l _ _ (subst (λ n. has (get_or sets (2 * n + 1) 0) q ≡ true) (sym (eqb-true i m e)) (and_r _ _ t)))
      (λ e. or_r _ _ (any_i max_tasks _ m p (and_i _ _ (has_less i left m here ∙ and_i _ _ (and_l _ _ t) (not_i _ e)) (and_r _ _ t)))))

pub gather_more : (x weak : ℕ) (sets : List ℕ) (r left bit : ℕ) → Gathering x weak sets r left
    → 0 < left → left < 2 ^ 64 → bit ≡ 2 ^ count_trailing_zeros 64 left
    → Gathering x weak sets (bit_or r (get_or sets (2 * count_trailing_zeros 64 left + 1) 0)) (left - bit)
unfolding joined
gather_more x weak sets r left bit h some fits e =
    let i = count_trailing_zeros 64 left in
    record {
      within = omega (arith, h.within);
      is = λ q.
          rw (e, has_union r (get_or sets (2 * i + 1) 0) q, or_join, one_less sets left i q (sender_low left some fits) (least_has 64 left some fits))
          (h.is q);
    }

pub gather_done : (x weak : ℕ) (sets : List ℕ) (r left : ℕ) → Gathering x weak sets r left → left ≡ 0
    → (q : ℕ) → has r q ≡ joined x weak sets q
unfolding joined
gather_done x weak sets r left h e q =
    let nothing : any max_tasks (sent sets left q) ≡ false =
    not_true _ λ t. any_e max_tasks _ t λ i p s. clash _ (and_l _ _ s) (ap (λ w. has w i) e ∙ has_none i) in
    sym (or_none (has r q)) ∙ ap (λ b. has r q or b) (sym nothing) ∙ h.is q

-- members for links: of n links, from f m each, those that are here and weak make the members
pub through_members : (n weak : ℕ) (f : ℕ → ℕ) (here weakly : ℕ → Bool)
    → ((i : ℕ) → has weak i ≡ any n (λ m. here m and eqb (f m) i and weakly m)) → ((m : ℕ) → m < n → f m < max_tasks)
    → (s : ℕ → Bool) → any max_tasks (λ i. has weak i and s i) ≡ any n (λ m. here m and weakly m and s (f m))
through_members n weak f here weakly is low s =
    same_test _ _
    (λ h. any_e max_tasks _ h λ i p t. any_e n _ (sym (is i) ∙ and_l _ _ t) λ m q w.
    any_i n _ m q (and_i _ _ (and_l _ _ w) (and_i _ _ (and_r _ _ (and_r (here m) _ w))
    (subst (λ x. s x ≡ true) (sym (eqb-true (f m) i (and_l _ _ (and_r (here m) _ w)))) (and_r _ _ t)))))
    (λ h. any_e n _ h λ m q w.
    any_i max_tasks _ (f m) (low m q)
    (and_i _ _ (is (f m) ∙ any_i n _ m q (and_i _ _ (and_l _ _ w) (and_i _ _ (eq-eqb (f m) (f m) refl) (and_l _ _ (and_r (here m) _ w)))))
    (and_r _ _ (and_r (here m) _ w))))

-- one task more, of a job that reads well
module _ (job : Job) (plan : Plan) (j : ℕ) (sound : Sound job) (low : j < tasks job) (weak : ℕ) (arrives : ArrivesFrom job plan j weak)
    (sets : List ℕ) (h : SetsTo job plan j sets) where
  abbrev t : ℕ → Row
  t = rows job plan

  -- what comes from the members is what the links carry
  sent_carried : (q : ℕ) → any max_tasks (sent sets weak q) ≡ any (links job) (carries job (with_sets t (gathered_to job plan j)) j (t j).primary q)
  unfolding weak_link carries strong with_sets ◌and◌
  sent_carried q =
      through_members (links job) weak (λ k. (link job k).from) (λ k. eqb (link job k).to j)
      (λ k. not (strong job (link job k) (t (link job k).from) (t (link job k).to).primary)) arrives
      (λ k p. omega (arith, from_low job sound k p, sound.tasks_most)) (λ i. has (get_or sets (2 * i + 1) 0) q)
      ∙ any_same (links job) _ _ λ k p.
      split (eqb (link job k).to j)
      (λ e. rw (h.faults (link job k).from q (from_low job sound k p), eqb-true (link job k).to j e))
      (λ e. rw e)

  task_more : (r : ℕ) → ((q : ℕ) → has r q ≡ joined (get_or sets (2 * j + 1) 0) weak sets q) → SetsTo job plan (j + 1) (set sets (2 * j + 1) r)
  unfolding joined
  task_more r is =
      record {
        size = length-set sets (2 * j + 1) r ∙ h.size;
        primary = λ i p. get_or-set_other sets (2 * j + 1) (2 * i) r 0 (λ e. omega arith) ∙ h.primary i p;
        faults = λ i q p.
            split (eqb i j)
            (λ e. subst (λ m. has (get_or (set sets (2 * j + 1) r) (2 * m + 1) 0) q ≡ gathered_to job plan (j + 1) m q) (sym (eqb-true i j e)) (here q))
            (λ e. other i q p (eqb-false i j e));
      }
    where
      here : (q : ℕ) → has (get_or (set sets (2 * j + 1) r) (2 * j + 1) 0) q ≡ gathered_to job plan (j + 1) j q
      here q =
          ap (λ s. has s q) (get_or-set_same sets (2 * j + 1) r 0 (omega (arith, h.size, sound.tasks_most))) ∙ is q
          ∙ ap₂ ◌or◌ (h.faults j q low) (sent_carried q) ∙ sym (ap (λ f. f q) (gather_here job plan sound j low))

      other : (i q : ℕ) → i < tasks job → (i ≡ j → ⊥) → has (get_or (set sets (2 * j + 1) r) (2 * i + 1) 0) q ≡ gathered_to job plan (j + 1) i q
      other i q p n =
          ap (λ s. has s q) (get_or-set_other sets (2 * j + 1) (2 * i + 1) r 0 (λ e. n (omega arith))) ∙ h.faults i q p
          ∙ sym (ap (λ f. f q) (gather_else job plan sound j i low n))

-- so of every job and plan
pub gathers : (sets : List ℕ) (x weak r : ℕ) → ((q : ℕ) → has r q ≡ joined x weak sets q) → Gathers sets x weak r
gathers sets x weak r is job plan j sound low arrives e h =
    task_more job plan j sound low weak arrives sets h r (subst (λ y. (q : ℕ) → has r q ≡ joined y weak sets q) e is)

-- after the last task the table has the sets of the rules
pub all_gathered : (job : Job) (plan : Plan) (sets : List ℕ) → SetsTo job plan (tasks job) sets
    → (j q : ℕ) → j < tasks job → has (get_or sets (2 * j + 1) 0) q ≡ (rows job plan j).faults q
all_gathered job plan sets filled j q p = filled.faults j q p ∙ ap (λ f. f q) (gathered_all job plan j p)
