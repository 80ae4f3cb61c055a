-- Laws of the pass over the links: one weak link more, D at each, and which are sure.
use Prim.Native.Nat.{ℕ, ◌+◌, ◌*◌, ◌^◌, ◌≤◌, ◌<◌}
use mathlib.Core.Bool.{Bool, true, false, not, cond}
use mathlib.Core.List.{List}
use mathlib.Core.Path.{◌≡◌, refl, sym, ◌∙◌, ap, ap₂, subst}
use native.Mathlib.Decide.{dec_lt}
use native.Mathlib.Nat.{not-suc-le-zero}
use native.Mathlib.Omega.{arith}
use lib.Bits.{bit_or}
use lib.Dec.{eqb}
use lib.ListN.{get_or, set, length, replicate, length-replicate, length-set}
use lib.Seq.{get_or-set_same, get_or-set_other}
use borrow.Author.Tests.{eqb-true, eqb-false, eq-eqb}
use Rattle.std.specs.Prelude.{Option as Maybe, Some, None}
use Rattle.reader.specs.declared.job.Job.{Job}
use Rattle.reader.specs.declared.refusal.Refusal.{Refusal}
use Rattle.reader.specs.declared.refusal.Refusal.TheVariants.{PrimaryUnfed}
use Rattle.reader.specs.Tests.{◌and◌, ◌or◌}
use Rattle.reader.specs.First.{any}
use Rattle.reader.specs.Limits.{max_tasks, max_links}
use Rattle.reader.specs.Entries.{links, link}
use Rattle.reader.specs.Refusals.{Answer, answered}
use Rattle.reader.proofs.TestLaws.{split, or_none}
use Rattle.reader.proofs.FirstLaws.{any_start, any_more}
use Rattle.rules.specs.declared.Copy.{Copy}
use Rattle.rules.specs.Copies.{in_time}
use Rattle.rules.specs.Rules.{Row, strong, rule_d}
use Rattle.rules.specs.Waits.{waits_for_both}
use Rattle.rules.specs.Judge.{first_link}
use Rattle.copies.specs.declared.arrival.Outgoing.{Outgoing}
use Rattle.copies.specs.declared.table.Copies.{Copies}
use Rattle.copies.specs.Sets.{has}
use Rattle.copies.specs.Arrival.{comes, result_of, result_at, SumFits}
use Rattle.copies.specs.Table.{copy_count, entry, row_of}
use Rattle.copies.specs.Gathered.{weak_link}
use Rattle.copies.proofs.ArrivalLaws.{comes_is}
use Rattle.copies.proofs.ListMore.{replicated}
use Rattle.copies.proofs.SetLaws.{has_union, has_none}
use Rattle.copies.proofs.MemberLaws.{late_has}
use Rattle.judge.specs.Notes.{first_broken, noted_of, seen}
use Rattle.judge.specs.Parts.{by_links}
use Rattle.judge.specs.Links.{Timed, WeakTo, sure, SureBut, LinksJudged}
use Rattle.judge.proofs.NoteLaws.{note_start, note_more, note_below, note_seen}
use Rattle.judge.proofs.SetMore.{joins_unless, stays}

-- link k by its cases
module _ (job : Job) (t : ℕ → Row) (k : ℕ) where
  abbrev pub is_strong : Bool
  is_strong = strong job (link job k) (t (link job k).from) (t (link job k).to).primary

  weak_other : (i j : ℕ) → eqb (link job k).to j ≡ false → weak_link job t i j k ≡ false
  unfolding weak_link ◌and◌
  weak_other i j e = rw e

  -- the bit that it adds
  weak_bit : (i j : ℕ) (s : Bool) (bit : ℕ) → eqb (link job k).to j ≡ true → s ≡ is_strong → bit ≡ cond s 0 (2 ^ (link job k).from)
      → has bit i ≡ weak_link job t i j k
  unfolding weak_link ◌and◌
  weak_bit i j s bit at es eb =
      rw at (late_has s (link job k).from bit i eb ∙ ap (λ b. eqb (link job k).from i and not b) es)

  pub weak_more : (into : List ℕ) → WeakTo job t k into → (s : Bool) (bit : ℕ) → s ≡ is_strong → bit ≡ cond s 0 (2 ^ (link job k).from)
      → (link job k).to < length into → WeakTo job t (k + 1) (set into (link job k).to (bit_or (get_or into (link job k).to 0) bit))
  weak_more into h s bit es eb room j i low =
      rw (any_more k (weak_link job t i j))
      (split (eqb (link job k).to j)
      (λ at.
      let e = eqb-true to j at in
      subst (λ m. has (get_or (set into to new) m 0) i ≡ (any k (weak_link job t i m) or weak_link job t i m k)) e (here e))
      (λ at.
      rw (weak_other i j at, or_none, get_or-set_other into to j new 0 (λ e. eqb-false to j at (sym e)))
      (h j i low)))
    where
      to : ℕ
      to = (link job k).to

      new : ℕ
      new = bit_or (get_or into to 0) bit

      here : to ≡ j → has (get_or (set into to new) to 0) i ≡ (any k (weak_link job t i to) or weak_link job t i to k)
      here e =
          ap (λ x. has x i) (get_or-set_same into to new 0 room) ∙ has_union (get_or into to 0) bit i
          ∙ ap₂ ◌or◌ (h to i (omega (arith, low, e))) (weak_bit i to s bit (eq-eqb to to refl) es eb)

-- D on the table's entries
abbrev keeps_d : Job → Copies → ℕ → Bool
keeps_d job cs k = rule_d job (link job k) (row_of cs (link job k).from) (row_of cs (link job k).to).primary

-- after the first k links
pub record Walking (job : Job) (cs : Copies) (k : ℕ) (into : List ℕ) (primary : Maybe ℕ) (unsure : ℕ) : Type 0 where
  pub within : k ≤ links job
  pub size : length into ≡ max_tasks
  pub weak : WeakTo job (row_of cs) k into
  pub d : primary ≡ first_broken k (keeps_d job cs)
  pub e : SureBut job (row_of cs) k unsure

pub walk_start : (job : Job) (cs : Copies) (into : List ℕ) → into ≡ replicate max_tasks 0 → Walking job cs 0 into None 0
walk_start job cs into zeros =
    record {
      within = omega arith;
      size = rw zeros (length-replicate {A = ℕ} max_tasks 0);
      weak = λ j i low. rw (zeros, replicated {A = ℕ} 0 max_tasks j, has_none i, any_start);
      d = note_start _;
      e = λ m p. absurd (not-suc-le-zero p);
    }

-- the sender's results at link k, which leads from task i
module _ (job : Job) (cs : Copies) (leave : List ℕ) (timed : Timed job cs leave) (k : ℕ) (low : k < links job)
    (i : ℕ) (ei : i ≡ (link job k).from) where
  pub primary_fits : (2 * i < copy_count) × SumFits (get_or leave (2 * i) 0) (link job k).delay
  primary_fits = (omega (arith, timed.from k low), rw ei (timed.primary_fits k low))

  pub backup_fits : (2 * i + 1 < copy_count) × SumFits (get_or leave (2 * i + 1) 0) (link job k).delay
  backup_fits = (omega (arith, timed.from k low), rw ei (timed.backup_fits k low))

-- link k, between tasks i and j
module _ (job : Job) (cs : Copies) (leave : List ℕ) (timed : Timed job cs leave) (k : ℕ) (low : k < links job)
    (i j : ℕ) (ei : i ≡ (link job k).from) (ej : j ≡ (link job k).to) where
  abbrev result : ℕ → Outgoing
  result = result_at cs.node cs.finish leave (link job k).delay

  -- the result of entry m i at entry n j
  arrival : (m n : ℕ → ℕ) → result (m (link job k).from) ≡ result_of job (link job k) (entry cs (m (link job k).from))
      → (c : Outgoing) (d : Copy) (r : Bool) → c ≡ result (m i) → d ≡ entry cs (n j) → r ≡ comes c d
      → r ≡ in_time job (link job k) (entry cs (m (link job k).from)) (entry cs (n (link job k).to))
  arrival m n is c d r ec ed er =
      er ∙ ap₂ comes (ec ∙ ap (λ x. result (m x)) ei ∙ is) (ed ∙ ap (λ x. entry cs (n x)) ej)
      ∙ comes_is job (link job k) _ _

  pub walk_more : (into : List ℕ) (primary : Maybe ℕ) (unsure : ℕ) → Walking job cs k into primary unsure
      → (p b : Outgoing) (q c : Copy) → p ≡ result (2 * i) → b ≡ result (2 * i + 1) → q ≡ entry cs (2 * j) → c ≡ entry cs (2 * j + 1)
      → (x y z s : Bool) → x ≡ comes p q → y ≡ comes p c → z ≡ comes b c → s ≡ comes b q
      → (u : Maybe ℕ) (v w bit : ℕ) → u ≡ noted_of primary k x → v ≡ cond y 0 (2 ^ i) → w ≡ cond z 0 (2 ^ i) → bit ≡ cond s 0 (2 ^ i)
      → Walking job cs (k + 1) (set into j (bit_or (get_or into j 0) bit)) u (bit_or unsure (bit_or v w))
  unfolding row_of rule_d waits_for_both strong
  walk_more into primary unsure h p b q c ep eb eq ec x y z s ex ey ez es u v w bit eu ev ew ebit =
      record {
        within = omega arith;
        size = length-set into _ _ ∙ h.size;
        weak =
            subst (λ m. WeakTo job (row_of cs) (k + 1) (set into m (bit_or (get_or into m 0) bit))) (sym ej)
            (weak_more job (row_of cs) k into h.weak s bit (arrival (λ m. 2 * m + 1) (λ m. 2 * m) (timed.backup k low) b q s eb eq es)
            (ebit ∙ ap (λ m. cond s 0 (2 ^ m)) ei) (omega (arith, timed.to k low, h.size)));
        d = note_more (keeps_d job cs) k primary u x h.d (arrival (λ m. 2 * m) (λ m. 2 * m) (timed.primary k low) p q x ep eq ex) eu;
        e = λ m p f. elim (dec_lt m k) [
          | yes below ↦ stays y z unsure v w i ev ew _ (h.e m below f)
          | no above ↦
              let here : m ≡ k = omega arith in
              rw here (subst (λ n. has (bit_or unsure (bit_or v w)) n ≡ true) ei
              (joins_unless y z unsure v w i ev ew (both ∙ subst (λ n. sure job (row_of cs) n ≡ false) here f)))
        ];
      }
    where
      both : (y and z) ≡ sure job (row_of cs) k
      both =
          ap₂ ◌and◌ (arrival (λ m. 2 * m) (λ m. 2 * m + 1) (timed.primary k low) p c y ep ec ey)
          (arrival (λ m. 2 * m + 1) (λ m. 2 * m + 1) (timed.backup k low) b c z eb ec ez)

-- after all links
abbrev pub link_refusal : Job → (ℕ → ℕ → Refusal) → ℕ → Refusal
link_refusal job refusal k = refusal (link job k).from (link job k).to

module _ (job : Job) (cs : Copies) (leave : List ℕ) (timed : Timed job cs leave) (k : ℕ) (into : List ℕ) (primary : Maybe ℕ) (unsure : ℕ)
    (h : Walking job cs k into primary unsure) (end : links job ≤ k) where
  all : Walking job cs (links job) into primary unsure
  all = let d : k ≡ links job = omega (arith, h.within) in subst (λ n. Walking job cs n into primary unsure) d h

  pub primary_index : (i : ℕ) → primary ≡ Some i → i < max_links
  primary_index i h = omega (arith, timed.few, note_below (keeps_d job cs) (links job) primary all.d i h)

  pub walk_done : (r : Answer) → r ≡ answered (seen (link_refusal job PrimaryUnfed) primary) → LinksJudged job cs into (unsure, r)
  unfolding by_links first_link
  walk_done r e =
      record {
        size = all.size;
        weak = all.weak;
        answer = e ∙ ap answered (note_seen (keeps_d job cs) (links job) primary all.d (link_refusal job PrimaryUnfed));
        unsure = all.e;
      }
