-- Laws of failure domains: those of a job have numbers, and in older versions each node is its own.
use Prim.Native.Nat.{ℕ, ◌<◌}
use mathlib.Core.Bool.{true}
use mathlib.Core.Path.{◌≡◌, subst}
use lib.Dec.{ltb}
use borrow.Author.Tests.{eqb-true, eq-eqb, lt-ltb, ltb-true}
use native.Mathlib.Omega.{arith}
use Rattle.reader.specs.declared.job.Job.{Job}
use Rattle.reader.specs.Limits.{group_since}
use Rattle.reader.specs.Entries.{nodes}
use Rattle.reader.specs.Sound.{Sound}
use Rattle.reader.proofs.TestLaws.{same_test}
use Rattle.reader.proofs.FirstLaws.{any_i, any_e}
use Rattle.rules.specs.Copies.{domain, domains, has_node}

module _ (job : Job) (sound : Sound job) where
  -- each node is in a domain that has a number
  pub domain_below : (n : ℕ) → n < nodes job → domain job n < domains job
  unfolding domain
  domain_below n p = omega (arith, sound.group_most n p)

  -- and so has each domain with a node
  pub has_node_below : (q : ℕ) → has_node job q ≡ true → q < domains job
  unfolding has_node
  has_node_below q h = any_e (nodes job) _ h λ n p e. subst (λ i. i < domains job) (eqb-true _ _ e) (domain_below n p)

  -- (vi) 'in older versions each node is its own group', so a loss is one of the job exactly if it names a node
  module _ (older : job.version < group_since) where
    pub lacks_group : (n : ℕ) → n < nodes job → domain job n ≡ n
    unfolding domain
    lacks_group n p = sound.group_lacks n p older

    pub lacks_lost : (q : ℕ) → has_node job q ≡ ltb q (nodes job)
    unfolding has_node
    lacks_lost q =
        same_test _ _
        (λ h. any_e (nodes job) _ h λ n p e. lt-ltb q (nodes job) (omega (arith, lacks_group n p, eqb-true (domain job n) q e)))
        (λ h. let p = ltb-true q (nodes job) h in any_i (nodes job) _ q p (eq-eqb _ _ (lacks_group q p)))
