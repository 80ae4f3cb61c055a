-- What the rules read of a job beside its tasks and links is its nodes: jobs of the same nodes have the same delays, domains and rules.
use Prim.Native.Nat.{ℕ, ◌+◌}
use mathlib.Core.Bool.{not}
use mathlib.Core.Path.{◌≡◌, refl, ap, ap₂}
use lib.Dec.{leb, eqb}
use lib.ListN.{get_or}
use Rattle.reader.specs.declared.job.Job.{Job}
use Rattle.reader.specs.declared.job.Link.{Link}
use Rattle.reader.specs.Tests.{◌and◌, ◌implies◌}
use Rattle.reader.specs.First.{any}
use Rattle.reader.specs.Entries.{nodes, detect, no_node}
use Rattle.rules.specs.declared.Copy.{Copy}
use Rattle.rules.specs.Copies.{overlap, delay, in_time, domain, domains}
use Rattle.rules.specs.Rules.{Row, strong, share_fault, rule_a, rule_b, rule_d, rule_e, rule_f, rule_g_primary, rule_g_backup, rule_g}

pub record SameNodes (a b : Job) : Type 0 where
  pub version : a.version ≡ b.version
  pub count : nodes a ≡ nodes b
  pub list : a.nodes ≡ b.nodes

module _ (a b : Job) (same : SameNodes a b) where
  -- these four are all that a job's nodes are read by
  pub detect_same : (n : ℕ) → detect a n ≡ detect b n
  detect_same n = ap (λ l. (get_or l n no_node).detect) same.list

  pub domain_same : (n : ℕ) → domain a n ≡ domain b n
  unfolding domain
  domain_same n = rw same.list

  pub domains_same : domains a ≡ domains b
  domains_same = refl

  pub delay_same : (l : Link) (c d : Copy) → delay a l c d ≡ delay b l c d
  unfolding delay
  delay_same l c d = rw same.list

  pub in_time_same : (l : Link) (c d : Copy) → in_time a l c d ≡ in_time b l c d
  unfolding in_time
  in_time_same l c d = ap (λ x. leb (c.finish + x) d.start) (delay_same l c d)

  pub strong_same : (l : Link) (r : Row) (p : Copy) → strong a l r p ≡ strong b l r p
  unfolding strong
  strong_same l r p = in_time_same l r.backup p

  pub share_fault_same : (r s : Row) → share_fault a r s ≡ share_fault b r s
  unfolding share_fault
  share_fault_same r s = ap (λ n. any n (λ q. r.faults q and s.faults q)) domains_same

  pub rule_a_same : (r : Row) → rule_a a r ≡ rule_a b r
  unfolding rule_a
  rule_a_same r = ap₂ (λ m n. not (eqb m n)) (domain_same _) (domain_same _)

  pub rule_b_same : (r : Row) → rule_b a r ≡ rule_b b r
  unfolding rule_b
  rule_b_same r = ap (λ x. leb (r.primary.finish + x) r.backup.start) (detect_same _)

  pub rule_d_same : (l : Link) (r : Row) (p : Copy) → rule_d a l r p ≡ rule_d b l r p
  unfolding rule_d
  rule_d_same l r p = in_time_same l r.primary p

  pub rule_e_same : (l : Link) (r s : Row) → rule_e a l r s ≡ rule_e b l r s
  unfolding rule_e
  rule_e_same l r s =
      ap₂ ◌and◌ (in_time_same l r.primary s.backup) (ap₂ ◌implies◌ (share_fault_same r s) (in_time_same l r.backup s.backup))

  pub rule_f_same : (r : Row) → rule_f a r ≡ rule_f b r
  unfolding rule_f
  rule_f_same r = ap (λ q. not (r.faults q)) (domain_same _)

  pub rule_g_backup_same : (r s : Row) → rule_g_backup a r s ≡ rule_g_backup b r s
  unfolding rule_g_backup
  rule_g_backup_same r s =
      ap (λ x. not (overlap r.primary s.backup) and not (overlap r.backup s.backup and x)) (share_fault_same r s)

  pub rule_g_same : (r s : Row) → rule_g a r s ≡ rule_g b r s
  unfolding rule_g
  rule_g_same r s = ap (λ x. rule_g_primary r s.primary and x) (rule_g_backup_same r s)
