-- Ready times: from when a copy has the inputs that the links looked at so far bring.
use Prim.Native.Nat.{ℕ, ◌+◌, ◌<◌, max}
use mathlib.Core.Bool.{Bool, true}
use mathlib.Core.List.{List}
use mathlib.Core.Path.{◌≡◌, sym, ◌∙◌, subst}
use native.Mathlib.Omega.{arith}
use lib.Dec.{leb, eqb, leb-zero}
use lib.ListN.{length, get_or, set, length-set, get_or-replicate, length-replicate}
use lib.Seq.{get_or-set_same, get_or-set_other}
use borrow.Author.Tests.{eqb-true, eqb-false}
use Rattle.reader.specs.First.{every}
use Rattle.reader.specs.Limits.{max_tasks}
use Rattle.reader.proofs.TestLaws.{split}
use Rattle.reader.proofs.FirstLaws.{every_start, every_more}
use Rattle.copies.proofs.ArrivalLaws.{leb_max}
use Rattle.replay.specs.Progress.{zeros}
use Rattle.reader.proofs.FirstLaws.{every_pass}

-- they say of each task t whether its first k tests hold: where its time is at most its start
pub record Tested (start : ℕ → ℕ) (test : ℕ → ℕ → Bool) (k : ℕ) (ready : List ℕ) : Type 0 where
  pub size : length ready ≡ max_tasks
  pub is : (t : ℕ) → t < max_tasks → leb (get_or ready t 0) (start t) ≡ every k (test t)

module _ (start : ℕ → ℕ) (test : ℕ → ℕ → Bool) where
  pub tested_start : Tested start test 0 zeros
  tested_start =
      record {
        size = length-replicate {A = ℕ} max_tasks 0;
        is = λ t p. rw (get_or-replicate {A = ℕ} max_tasks t 0 0 p) (leb-zero (start t) ∙ sym (every_start (test t)));
      }

  -- test k is one of task i only, and holds if a is at most the start
  pub tested_more : (k i : ℕ) (ready : List ℕ) (v a : ℕ) → i < max_tasks → Tested start test k ready → v ≡ max (get_or ready i 0) a
      → leb a (start i) ≡ test i k → ((t : ℕ) → (i ≡ t → ⊥) → test t k ≡ true) → Tested start test (k + 1) (set ready i v)
  tested_more k i ready v a p h e here other =
      record {
        size = length-set ready i v ∙ h.size;
        is = λ t q.
            split (eqb i t)
            (λ s.
            subst (λ n. leb (get_or (set ready i v) n 0) (start n) ≡ every (k + 1) (test n)) (eqb-true i t s)
            (rw (get_or-set_same ready i v 0 (omega (arith, h.size)), e, leb_max, h.is i p, here) (sym (every_more k (test i)))))
            (λ s.
            let away = eqb-false i t s in
            rw (get_or-set_other ready i t v 0 (λ r. away (sym r)), every_pass (test t) k (other t away)) (h.is t q));
      }
