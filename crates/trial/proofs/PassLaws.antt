-- Laws of the loops of a pass: a test that holds so far, and the losses noted so far.
use Prim.Native.Nat.{ℕ, ◌+◌, ◌-◌, ◌*◌, ◌≤◌, ◌<◌}
use mathlib.Core.Bool.{Bool, true, false}
use mathlib.Core.List.{List}
use mathlib.Core.Path.{◌≡◌, sym, ◌∙◌, ap}
use lib.Dec.{leb, eqb}
use lib.ListN.{get_or, set, length, length-set, replicate, length-replicate, get_or-replicate}
use lib.Seq.{get_or-set_same, get_or-set_other}
use borrow.Author.Tests.{eqb-true, eq-eqb, ne_eqb, lt-ltb, le-ltb}
use Rattle.std.proofs.Common.{◌^◌, lit<}
use Rattle.std.specs.Int.Bits.{bit_and, bit_xor, and_zero_l, xor_add_and}
use Rattle.std.proofs.lemmas.Nat.{and-not}
use native.Mathlib.Decide.{dec_lt}
use native.Mathlib.Omega.{arith}
use Rattle.reader.specs.declared.job.Node.{Node}
use Rattle.reader.specs.declared.job.Task.{Task}
use Rattle.reader.specs.First.{every}
use Rattle.reader.proofs.TestLaws.{clash, not_true, and_i, below_suc, same_test}
use Rattle.reader.proofs.FirstLaws.{every_more, every_e}
use Rattle.reader.specs.Entries.{no_task}
use Rattle.copies.specs.Sets.{every_group}
use Rattle.trial.specs.declared.words.Losses.{Losses}
use Rattle.trial.specs.Words.{run_count, without_of, either_of}
use Rattle.trial.specs.Runs.{no_group, loss_at}
use Rattle.trial.specs.Passes.{is_full, done_in, ends_in, group_at, loss_in, LossesFrom, Losable}

-- a test of all stops where one fails
pub stops : (n : ℕ) (test : ℕ → Bool) (j : ℕ) → j < n → test j ≡ false → false ≡ every n test
stops n test j p e = sym (not_true _ λ h. clash _ (every_e n test h j p) e)

pub goes : (test : ℕ → Bool) (j : ℕ) → every j test ≡ true → test j ≡ true → every (j + 1) test ≡ true
goes test j h e = every_more j test ∙ and_i _ _ h e

-- a word, as the code tests it
full_is : (w : ℕ) → w < 2 ^ 32 → eqb w every_group ≡ is_full w
full_is w p =
    let sum : bit_and every_group w + bit_and 0 w ≡ w = and-not 32 0 w (lit< tt) p in
    let kept : bit_and every_group w ≡ w = omega (arith, sum, and_zero_l w) in
    let rest : without_of every_group w ≡ every_group - w =
    ap (bit_xor every_group) kept ∙ (omega (arith, kept, xor_add_and every_group w)) in
    same_test _ _
    (λ h. eq-eqb _ 0 (omega (arith, rest, eqb-true w every_group h)))
    (λ h. eq-eqb w every_group (omega (arith, rest, eqb-true (without_of every_group w) 0 h)))

module _ (list : List Task) (finish ended : List ℕ) (j u : ℕ) (fits : u < 2 ^ 32) where
  abbrev by : ℕ
  by = (get_or list j no_task).deadline

  pub done_is : (b : Bool)
      → u ≡ either_of (leb (get_or finish (2 * j) 0) by) (get_or ended (2 * j) 0) (leb (get_or finish (2 * j + 1) 0) by) (get_or ended (2 * j + 1) 0)
      → eqb u every_group ≡ b → done_in list finish ended j ≡ b
  unfolding done_in
  done_is b e g = ap is_full (sym e) ∙ sym (full_is u fits) ∙ g

pub ends_is : (ended : List ℕ) (j : ℕ) → get_or ended (2 * j) 0 < 2 ^ 32 → (b : Bool) → eqb (get_or ended (2 * j) 0) every_group ≡ b
    → ends_in ended j ≡ b
unfolding ends_in
ends_is ended j fits b g = sym (full_is _ fits) ∙ g

-- the losses of the first r runs
module _ (nodes : List Node) (node finish : List ℕ) (first n : ℕ) where
  pub record Noting (r : ℕ) (x : Losses) : Type 0 where
    pub lost_size : length x.lost ≡ run_count
    pub moment_size : length x.moment ≡ run_count
    pub below : (i : ℕ) → i < r → first + i < n
    pub group : (i : ℕ) → i < r → get_or x.lost i 0 ≡ group_at nodes node (first + i)
    pub at : (i : ℕ) → i < r → get_or x.moment i 0 ≡ get_or finish (2 * (first + i)) 0 - 1
    pub rest : (i : ℕ) → r ≤ i → i < run_count → get_or x.lost i 0 ≡ no_group

  pub noting_start : Noting 0 (record { lost = replicate run_count no_group; moment = replicate run_count 0 })
  noting_start =
      record {
        lost_size = length-replicate {A = ℕ} run_count no_group;
        moment_size = length-replicate {A = ℕ} run_count 0;
        below = λ i p. absurd (let z : ⊥ = omega arith in z);
        group = λ i p. absurd (let z : ⊥ = omega arith in z);
        at = λ i p. absurd (let z : ⊥ = omega arith in z);
        rest = λ i p q. get_or-replicate run_count i no_group 0 q;
      }

  module _ (r : ℕ) (lost moment : List ℕ) (so_far : Noting r (record { lost = lost; moment = moment })) where
    pub noting_more : r < run_count → first + r < n → (g m : ℕ) → g ≡ group_at nodes node (first + r) → m ≡ get_or finish (2 * (first + r)) 0 - 1
        → Noting (r + 1) (record { lost = set lost r g; moment = set moment r m })
    noting_more p q g m eg em =
        record {
          lost_size = length-set lost r g ∙ so_far.lost_size;
          moment_size = length-set moment r m ∙ so_far.moment_size;
          below = λ i s. below_suc i r (omega arith) (λ b. so_far.below i b) (λ e. rw e q);
          group = λ i s. below_suc i r (omega arith)
              (λ b. get_or-set_other lost r i g 0 (λ e. omega arith) ∙ so_far.group i b)
              (λ e. rw e (get_or-set_same lost r g 0 (omega (arith, so_far.lost_size)) ∙ eg));
          at = λ i s. below_suc i r (omega arith)
              (λ b. get_or-set_other moment r i m 0 (λ e. omega arith) ∙ so_far.at i b)
              (λ e. rw e (get_or-set_same moment r m 0 (omega (arith, so_far.moment_size)) ∙ em));
          rest = λ i s b. get_or-set_other lost r i g 0 (λ e. omega arith) ∙ so_far.rest i (omega arith) b;
        }

    -- where no primary is left, or no run
    pub noting_done : Losable nodes node finish n → (r < run_count → n ≤ first + r)
        → LossesFrom nodes node finish first n (record { lost = lost; moment = moment })
    unfolding loss_at loss_in
    noting_done able left i p =
        elim (dec_lt i r) [
          | yes b ↦
              let q = so_far.below i b in
              let other = ne_eqb (group_at nodes node (first + i)) no_group (λ e. omega (arith, able.low _ q)) in
              rw (so_far.group i b, so_far.at i b, lt-ltb (first + i) n q, other)
          | no b ↦ rw (so_far.rest i (omega arith) p, le-ltb (first + i) n (omega (arith, left (omega arith))))
        ]
