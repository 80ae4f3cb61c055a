-- Laws of reading one link: from, to and delay, each where the one before it passed, then its order.
use Prim.Native.Nat.{ℕ, ◌+◌, ◌-◌, ◌*◌}
use mathlib.Core.Path.{◌≡◌, sym, ap, ◌∙◌, subst}
use mathlib.Core.Bool.{Bool, true, false}
use mathlib.Core.List.{List}
use mathlib.Core.Option.{Option, none, some}
use native.Mathlib.Numerals.{add-one}
use Rattle.std.specs.Prelude.{Result}
use Rattle.reader.specs.declared.job.Link.{Link}
use Rattle.reader.specs.declared.refusal.Refusal.{Refusal}
use Rattle.reader.specs.declared.refusal.Refusal.TheVariants.{LinkOrder}
use Rattle.reader.specs.First.{unless}
use Rattle.reader.specs.Limits.{max_time}
use Rattle.reader.specs.Number.{number_at, value_fault}
use Rattle.reader.specs.Sound.{below}
use Rattle.reader.specs.Reads.{Reads}
use Rattle.reader.specs.JobFile.{link_at, link_fault, link_before}
use Rattle.reader.proofs.Chain.{pass, stop}

-- x, y and z are from, to and delay
module _ (s : List ℕ) (at n : ℕ) (before : Link) where
  pub bad_from : {r : Refusal} → value_fault s at 0 (n - 1) ≡ some r → link_fault s at n before ≡ some r
  unfolding link_fault
  bad_from q = stop _ q

  module _ (x : ℕ) (ff : value_fault s at 0 (n - 1) ≡ none) (ex : x ≡ number_at s at) where
    to_same : {o : Option Refusal} → value_fault s (at + 4) (x + 1) (n - 1) ≡ o → value_fault s (at + 4) (number_at s at + 1) (n - 1) ≡ o
    to_same {o} = subst (λ v. value_fault s (at + 4) (v + 1) (n - 1) ≡ o) ex

    pub bad_to : {r : Refusal} → value_fault s (at + 4) (x + 1) (n - 1) ≡ some r → link_fault s at n before ≡ some r
    unfolding link_fault
    bad_to q = pass _ ff ∙ stop _ (to_same q)

    module _ (y : ℕ) (ft : value_fault s (at + 4) (x + 1) (n - 1) ≡ none) (ey : y ≡ number_at s (at + 4)) where
      pub bad_delay : {r : Refusal} → value_fault s (at + 8) 0 max_time ≡ some r → link_fault s at n before ≡ some r
      unfolding link_fault
      bad_delay q = pass _ ff ∙ pass _ (to_same ft) ∙ stop _ q

      module _ (z : ℕ) (fd : value_fault s (at + 8) 0 max_time ≡ none) (ez : z ≡ number_at s (at + 8)) (b : Bool)
          (eb : b ≡ below before (record { from = x; to = y; delay = z })) where
        pub link_is : ◌≡◌ {A = Link} (record { from = x; to = y; delay = z }) (link_at s at)
        unfolding link_at
        link_is = cc

        order : link_fault s at n before ≡ unless b (LinkOrder at)
        unfolding link_fault
        order = pass _ ff ∙ pass _ (to_same ft) ∙ pass _ fd ∙ ap (λ v. unless v (LinkOrder at)) (sym (eb ∙ ap (below before) link_is))

        pub bad_order : b ≡ false → link_fault s at n before ≡ some (LinkOrder at)
        unfolding unless
        bad_order h = order ∙ ap (λ v. unless v (LinkOrder at)) h

        pub whole_link : b ≡ true → link_fault s at n before ≡ none
        unfolding unless
        whole_link h = order ∙ ap (λ v. unless v (LinkOrder at)) h

-- the link that was read is the one before the next
pub before_more : (s : List ℕ) (at k : ℕ) (l : Link) → l ≡ link_at s (at + 12 * k) → l ≡ link_before s at (k + 1)
unfolding link_before
before_more s at k l e = rw add-one e

-- the same link, behind an equal one
pub behind_same : (s : List ℕ) (at n : ℕ) {a b : Link} {w : Result Link Refusal} {good : Link → Type 0} → a ≡ b
    → Reads (link_fault s at n a) w good → Reads (link_fault s at n b) w good
behind_same s at n {w} {good} e = subst (λ x. Reads (link_fault s at n x) w good) e

-- the same fault
pub fault_behind_same : (s : List ℕ) (at n : ℕ) {a b : Link} {o : Option Refusal} → a ≡ b → link_fault s at n a ≡ o → link_fault s at n b ≡ o
fault_behind_same s at n {a} {b} {o} e = subst (λ x. link_fault s at n x ≡ o) e
