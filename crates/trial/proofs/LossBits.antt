-- What a loss leaves of a copy, as the bits of its runs tell it.
use Prim.Native.Nat.{ℕ, ◌+◌, ◌<◌}
use mathlib.Core.Bool.{Bool, true, false, not}
use mathlib.Core.Path.{◌≡◌, refl, sym, ◌∙◌, ap}
use lib.Dec.{leb, ltb, eqb}
use lib.ListN.{get_or}
use borrow.Author.Tests.{eqb-true, eqb-false, eq-eqb, ne_eqb}
use native.Mathlib.Numerals.{add-one}
use native.Mathlib.Omega.{arith}
use Rattle.reader.specs.declared.job.Job.{Job}
use Rattle.reader.specs.Tests.{◌and◌, ◌or◌, ◌implies◌}
use Rattle.reader.proofs.TestLaws.{split}
use Rattle.rules.specs.declared.Copy.{Copy}
use Rattle.rules.specs.declared.Loss.{Loss}
use Rattle.rules.specs.declared.Loss.TheVariants.{Lost}
use Rattle.rules.specs.Copies.{domain}
use Rattle.rules.specs.Replay.{is_finished, started, attempt}
use Rattle.rules.specs.Trial.{is_started}
use Rattle.rules.proofs.MomentLaws.{lost_finished}
use Rattle.trial.specs.declared.words.Losses.{Losses}
use Rattle.trial.specs.Words.{stays_to}
use Rattle.trial.specs.Runs.{no_group, loss_at}

-- of tests
pub implied : (a b : Bool) → a ≡ true → (a implies b) ≡ b
unfolding ◌implies◌
implied a b e = rw e

pub free : (a b : Bool) → a ≡ false → (a implies b) ≡ true
unfolding ◌implies◌
free a b e = rw e

pub turned : (a b : Bool) → (a and b) ≡ (b and a)
unfolding ◌and◌
turned true true = refl
turned true false = refl
turned false true = refl
turned false false = refl

pub turned_call : (a b c : Bool) → ((a and b) and not c) ≡ (not c and b and a)
unfolding ◌and◌
turned_call true true true = refl
turned_call true true false = refl
turned_call true false true = refl
turned_call true false false = refl
turned_call false true true = refl
turned_call false true false = refl
turned_call false false true = refl
turned_call false false false = refl

eqb_turned : (a b : ℕ) → eqb a b ≡ eqb b a
eqb_turned a b = split (eqb a b) (λ e. e ∙ sym (eq-eqb b a (sym (eqb-true a b e)))) (λ e. e ∙ sym (ne_eqb b a λ f. eqb-false a b e (sym f)))

-- what a loss leaves of a copy that may start
module _ (job : Job) (loss : Loss) (c : Copy) where
  pub ends_may : (b : Bool) → is_finished (attempt job loss b c) ≡ (b and is_finished (started job loss c))
  unfolding attempt ◌and◌
  ends_may true = refl
  ends_may false = refl

  pub starts_may : (b : Bool) → is_started (attempt job loss b c) ≡ (b and is_started (started job loss c))
  unfolding attempt ◌and◌
  starts_may true = refl
  starts_may false = refl

-- by the loss of run r, on a node of a group
module _ (job : Job) (losses : Losses) (r : ℕ) (c : Copy) (g : ℕ) (in_group : domain job c.node ≡ g) (low : g < no_group) where
  none_lost : eqb (get_or losses.lost r 0) no_group ≡ true → (by : ℕ) → stays_to losses g by r ≡ true
  unfolding ◌or◌
  none_lost e by = rw (ne_eqb (get_or losses.lost r 0) g λ f. omega (arith, eqb-true (get_or losses.lost r 0) no_group e))

  pub stays_ends : c.start < c.finish → stays_to losses g c.finish r ≡ is_finished (started job (loss_at losses r) c)
  unfolding loss_at started
  stays_ends runs =
      split (eqb (get_or losses.lost r 0) no_group)
      (λ e. none_lost e c.finish ∙ rw e)
      (λ e. rw e (ap (λ b. not b or leb c.finish (get_or losses.moment r 0)) (eqb_turned _ g ∙ ap (λ n. eqb n (get_or losses.lost r 0)) (sym in_group))
      ∙ sym (lost_finished job (get_or losses.lost r 0) (get_or losses.moment r 0) c runs)))

  pub stays_starts : stays_to losses g (c.start + 1) r ≡ is_started (started job (loss_at losses r) c)
  unfolding loss_at started ◌or◌
  stays_starts =
      split (eqb (get_or losses.lost r 0) no_group)
      (λ e. none_lost e (c.start + 1) ∙ rw e)
      (λ e. rw (e, add-one c.start, eqb_turned (get_or losses.lost r 0) g, ← in_group) (by_loss (get_or losses.lost r 0) (get_or losses.moment r 0)))
    where
      by_loss : (q f : ℕ) → (not (eqb (domain job c.node) q) or ltb c.start f) ≡ is_started (started job (Lost q f) c)
      by_loss q f =
          split (eqb (domain job c.node) q)
          (λ on. split (ltb c.start f)
          (λ early. split (leb c.finish f) (λ w. rw (on, early, w)) (λ w. rw (on, early, w)))
          (λ late. rw (on, late)))
          (λ off. rw off)
