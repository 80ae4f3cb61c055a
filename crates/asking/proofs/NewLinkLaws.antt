-- Laws of reading one link of a description: from and delay, each where the one before it passed, then its order.
use Prim.Native.Nat.{ℕ, ◌+◌, ◌-◌, ◌*◌}
use mathlib.Core.Path.{◌≡◌, sym, ap, ◌∙◌, subst}
use mathlib.Core.Bool.{Bool, true, false}
use mathlib.Core.List.{List}
use mathlib.Core.Option.{Option, none, some}
use native.Mathlib.Numerals.{add-one}
use Rattle.reader.specs.declared.job.Link.{Link}
use Rattle.reader.specs.declared.refusal.Refusal.{Refusal}
use Rattle.reader.specs.declared.refusal.Refusal.TheVariants.{LinkOrder}
use Rattle.reader.specs.First.{unless}
use Rattle.reader.specs.Limits.{max_time}
use Rattle.reader.specs.Number.{number_at, value_fault}
use Rattle.reader.specs.Sound.{below}
use Rattle.asking.specs.DescriptionFile.{new_link_at, new_link_fault, new_link_before}
use Rattle.reader.proofs.Chain.{pass, stop}

-- x and z are from and delay
module _ (s : List ℕ) (at n : ℕ) (before : Link) where
  pub bad_from : {r : Refusal} → value_fault s at 0 (n - 1) ≡ some r → new_link_fault s at n before ≡ some r
  unfolding new_link_fault
  bad_from q = stop _ q

  module _ (x : ℕ) (ff : value_fault s at 0 (n - 1) ≡ none) (ex : x ≡ number_at s at) where
    pub bad_delay : {r : Refusal} → value_fault s (at + 4) 0 max_time ≡ some r → new_link_fault s at n before ≡ some r
    unfolding new_link_fault
    bad_delay q = pass _ ff ∙ stop _ q

    module _ (z : ℕ) (fd : value_fault s (at + 4) 0 max_time ≡ none) (ez : z ≡ number_at s (at + 4)) (b : Bool)
        (eb : b ≡ below before (record { from = x; to = n; delay = z })) where
      pub link_is : ◌≡◌ {A = Link} (record { from = x; to = n; delay = z }) (new_link_at s at n)
      unfolding new_link_at
      link_is = cc

      order : new_link_fault s at n before ≡ unless b (LinkOrder at)
      unfolding new_link_fault
      order = pass _ ff ∙ pass _ fd ∙ ap (λ v. unless v (LinkOrder at)) (sym (eb ∙ ap (below before) link_is))

      pub bad_order : b ≡ false → new_link_fault s at n before ≡ some (LinkOrder at)
      unfolding unless
      bad_order h = order ∙ ap (λ v. unless v (LinkOrder at)) h

      pub whole_link : b ≡ true → new_link_fault s at n before ≡ none
      unfolding unless
      whole_link h = order ∙ ap (λ v. unless v (LinkOrder at)) h

-- the link that was read is the one before the next
pub new_before_more : (s : List ℕ) (at n k : ℕ) (l : Link) → l ≡ new_link_at s (at + 8 * k) n → l ≡ new_link_before s at n (k + 1)
unfolding new_link_before
new_before_more s at n k l e = rw add-one e

-- the same fault, behind an equal link
pub new_behind_same : (s : List ℕ) (at n : ℕ) {a b : Link} {o : Option Refusal} → a ≡ b → new_link_fault s at n a ≡ o
    → new_link_fault s at n b ≡ o
new_behind_same s at n {a} {b} {o} e = subst (λ x. new_link_fault s at n x ≡ o) e
