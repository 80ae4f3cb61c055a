-- Laws of copies: what overlap says, and how long a delay can be.
use Prim.Native.Nat.{ℕ, ◌+◌, ◌≤◌, ◌<◌, max, min}
use mathlib.Core.Bool.{true, cond}
use mathlib.Core.Path.{◌≡◌, sym, ap}
use mathlib.Core.Logic.{◌↔◌}
use borrow.Author.Tests.{lt-ltb, ltb-true, eqb-true, eq-eqb}
use native.Mathlib.Omega.{arith}
use lib.Dec.{eqb}
use Rattle.reader.specs.declared.job.Job.{Job}
use Rattle.reader.specs.Limits.{send_since, max_time, max_start}
use Rattle.reader.specs.Entries.{nodes, links, link}
use Rattle.reader.specs.Sound.{Sound}
use Rattle.reader.proofs.TestLaws.{split, and_l, and_r, and_i, same_test}
use Rattle.rules.specs.declared.Copy.{Copy}
use Rattle.rules.specs.Copies.{HeldBy, overlap, delay}

pub overlap_i : (c d : Copy) (tick : ℕ) → c.node ≡ d.node → HeldBy c tick → HeldBy d tick → overlap c d ≡ true
unfolding overlap
overlap_i c d tick e h g = and_i _ _ (eq-eqb _ _ e) (lt-ltb (max c.start d.start) (min c.finish d.finish) (omega arith))

-- 'Two copies overlap if some tick is held by both', on one node
pub overlap_is : (c d : Copy) → (overlap c d ≡ true) ↔ ((c.node ≡ d.node) × ((tick : ℕ) × HeldBy c tick × HeldBy d tick))
unfolding overlap
overlap_is c d = (
  λ h.
      let b = ltb-true (max c.start d.start) (min c.finish d.finish) (and_r _ _ h) in
      (eqb-true _ _ (and_l _ _ h), (max c.start d.start, (omega arith, omega arith), (omega arith, omega arith))),
  λ w. overlap_i c d w.1.0 w.0 w.1.1 w.1.2,
)

pub overlap_sym : (c d : Copy) → overlap c d ≡ overlap d c
overlap_sym c d = same_test _ _ (turn c d) (turn d c)
  where
    turn : (c d : Copy) → overlap c d ≡ true → overlap d c ≡ true
    turn c d h = let w = (overlap_is c d).0 h in overlap_i d c w.1.0 (sym w.0) w.1.2 w.1.1

-- on nodes of a job, by its link k
module _ (job : Job) (sound : Sound job) (k : ℕ) (p : k < links job) (c d : Copy) (on : c.node < nodes job) where
  -- 'arrivals reach 3,000,000 (3,001,000 with send times)'
  pub arrival_most : c.finish ≤ max_start + max_time → c.finish + delay job (link job k) c d ≤ 3_001_000
  unfolding delay
  arrival_most ends =
      split (eqb c.node d.node)
      (λ e. rw e (omega (arith, ends)))
      (λ e. rw e (omega (arith, ends, sound.delay_most k p, sound.send_most c.node on)))

  -- (iv) 'Versions 1 and 2 read as send 0': there the delay is document 01's
  pub lacks_send : job.version < send_since → delay job (link job k) c d ≡ cond (eqb c.node d.node) 0 (link job k).delay
  unfolding delay
  lacks_send h = ap (cond (eqb c.node d.node) 0) (omega (arith, sound.send_lacks c.node on h))
