-- Laws of a loss: whom it strikes, and what it leaves of a copy.
use Prim.Native.Nat.{ℕ, ◌≤◌, ◌<◌}
use mathlib.Core.Bool.{Bool, true, false}
use mathlib.Core.Path.{◌≡◌, refl, subst}
use lib.Dec.{ltb, leb, eqb}
use borrow.Author.Tests.{lt-ltb, le-leb, leb-false, eqb-true}
use native.Mathlib.Omega.{arith}
use Rattle.reader.specs.declared.job.Job.{Job}
use Rattle.reader.specs.Sound.{Sound}
use Rattle.reader.proofs.TestLaws.{split, clash, not_true, and_l, and_r, and_i, not_e}
use Rattle.reader.proofs.FirstLaws.{any_i}
use Rattle.rules.specs.declared.Copy.{Copy}
use Rattle.rules.specs.declared.Loss.{Loss}
use Rattle.rules.specs.declared.Loss.TheVariants.{NoLoss, Lost}
use Rattle.rules.specs.Copies.{HeldBy, overlap, domain, domains}
use Rattle.rules.specs.Rules.{Row, share_fault, rule_g_primary, rule_g_backup}
use Rattle.rules.specs.Replay.{is_finished, started, attempt}
use Rattle.rules.specs.Survival.{LossOf, LossFrom, Role, primary, backup, copy_of, Holds}
use Rattle.rules.specs.Firm.{struck, Called}
use Rattle.rules.proofs.DomainLaws.{has_node_below}

pub struck_more : (loss : Loss) (s u : ℕ → Bool) → ((q : ℕ) → s q ≡ true → u q ≡ true) → struck loss s ≡ true → struck loss u ≡ true
unfolding struck
struck_more NoLoss s u h p = p
struck_more (Lost q f) s u h p = h q p

pub struck_apart : (loss : Loss) (s : ℕ → Bool) (n : ℕ) → s n ≡ false → struck loss s ≡ true → struck loss (eqb n) ≡ false
unfolding struck
struck_apart NoLoss s n h p = refl
struck_apart (Lost q f) s n h p = not_true _ (λ e. clash (s q) p (subst (λ i. s i ≡ false) (eqb-true n q e) h))

-- a loss in both fault sets is common to them
pub struck_both : (job : Job) → Sound job → (loss : Loss) (r s : Row) → LossOf job loss
    → struck loss r.faults ≡ true → struck loss s.faults ≡ true → share_fault job r s ≡ true
unfolding struck share_fault
struck_both job sound NoLoss r s p h k = clash false h refl
struck_both job sound (Lost q f) r s p h k = any_i (domains job) _ q (has_node_below job sound q p) (and_i _ _ h k)

-- a copy away from the lost domain finishes once started
pub started_away : (job : Job) (loss : Loss) (c : Copy) → struck loss (eqb (domain job c.node)) ≡ false → is_finished (started job loss c) ≡ true
unfolding struck started
started_away job NoLoss c h = refl
started_away job (Lost q f) c h = rw h

-- (vi) 'One loss now takes every node of one group at the same moment': copies of the same times on nodes of one group fare alike
pub lost_together : (job : Job) (loss : Loss) (c d : Copy) → domain job c.node ≡ domain job d.node → c.start ≡ d.start
    → c.finish ≡ d.finish → started job loss c ≡ started job loss d
unfolding started
lost_together job NoLoss c d on starts ends = refl
lost_together job (Lost q f) c d on starts ends = rw (on, starts, ends)

-- a copy that finishes by moment t is not touched by a loss from then on
pub started_by : (job : Job) (loss : Loss) (t : ℕ) (c : Copy) → LossFrom t loss → c.start < c.finish → c.finish ≤ t
    → is_finished (started job loss c) ≡ true
unfolding started
started_by job NoLoss t c from runs by = refl
started_by job (Lost q f) t c from runs by =
    rw (lt-ltb c.start f (omega arith), le-leb c.finish f (omega arith))
    (split (eqb (domain job c.node) q) (λ e. rw e) (λ e. rw e))

-- a loss at any moment is a loss at 0 or later
pub from_start : (loss : Loss) → LossFrom 0 loss
from_start NoLoss = tt
from_start (Lost q f) = omega arith

-- by G copies that one loss calls on do not overlap
pub called_apart : (job : Job) → Sound job → (r s : Row) (a b : Role) (loss : Loss) → LossOf job loss
    → rule_g_primary r s.primary ≡ true → rule_g_backup job r s ≡ true
    → Called a loss r.faults → Called b loss s.faults → overlap (copy_of a r) (copy_of b s) ≡ false
unfolding rule_g_primary rule_g_backup
called_apart job sound r s primary primary loss of_job rp rb h g = not_e _ (and_l _ _ rp)
called_apart job sound r s backup primary loss of_job rp rb h g = not_e _ (and_r _ _ rp)
called_apart job sound r s primary backup loss of_job rp rb h g = not_e _ (and_l _ _ rb)
called_apart job sound r s backup backup loss of_job rp rb h g =
    not_true _ (λ over. clash _ (and_i _ _ over (struck_both job sound loss r s of_job h g)) (not_e _ (and_r _ _ rb)))

-- a started copy holds ticks of its own only
pub held : (job : Job) (loss : Loss) (c : Copy) (b : Bool) (tick : ℕ) → Holds loss c (attempt job loss b c) tick → HeldBy c tick
unfolding started attempt
held job loss c false tick h = absurd (let z : ⊥ = omega arith in z)
held job NoLoss c true tick h = h
held job (Lost q f) c true tick h =
    split (eqb (domain job c.node) q)
    (λ on. split (ltb c.start f)
    (λ early. split (leb c.finish f)
    (λ whole. rw (on, early, whole) at h)
    (λ cuts. let g = rw (on, early, cuts) at h in let l = leb-false c.finish f cuts in omega arith))
    (λ late. let g = rw (on, late) at h in omega arith))
    (λ off. rw off at h)
