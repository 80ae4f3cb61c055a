-- What the planner's tests say: a primary keeps its ready time, D and G, a row A, B, E, F and G, against the rows before them.
use Prim.Native.Nat.{ℕ, ◌<◌}
use mathlib.Core.Bool.{true}
use mathlib.Core.Path.{◌≡◌, subst}
use mathlib.Core.Logic.{◌↔◌}
use native.Mathlib.Omega.{arith}
use Rattle.reader.specs.declared.job.Job.{Job}
use Rattle.reader.specs.Entries.{links, link}
use Rattle.reader.specs.Sound.{Sound}
use Rattle.reader.proofs.TestLaws.{and_l, and_r, and_i}
use Rattle.reader.proofs.FirstLaws.{every_i, every_e}
use Rattle.rules.specs.declared.Copy.{Copy}
use Rattle.rules.specs.Rules.{Row, rule_a, rule_ready, rule_b, rule_d, rule_e, rule_f, rule_g_primary, rule_g_backup}
use Rattle.rules.specs.Planner.{primary_keeps, backup_keeps}
use Rattle.rules.proofs.LinkLaws.{every_into}

-- the ready time, and 'D and G against copies already placed'
pub record PrimaryKept (job : Job) (m : ℕ) (before : ℕ → Row) (j : ℕ) (p : Copy) : Type 0 where
  pub ready : rule_ready job j p ≡ true
  pub d : (k : ℕ) → k < links job → (link job k).to ≡ j → rule_d job (link job k) (before (link job k).from) p ≡ true
  pub g : (i : ℕ) → i < m → rule_g_primary (before i) p ≡ true

-- 'likewise under A to G', C aside
pub record BackupKept (job : Job) (m : ℕ) (before : ℕ → Row) (j : ℕ) (s : Row) : Type 0 where
  pub a : rule_a job s ≡ true
  pub b : rule_b job s ≡ true
  pub e : (k : ℕ) → k < links job → (link job k).to ≡ j → rule_e job (link job k) (before (link job k).from) s ≡ true
  pub f : rule_f job s ≡ true
  pub g : (i : ℕ) → i < m → rule_g_backup job (before i) s ≡ true

pub primary_keeps_lem : (job : Job) (m : ℕ) (before : ℕ → Row) (j : ℕ) (p : Copy)
    → (primary_keeps job m before j p ≡ true) ↔ PrimaryKept job m before j p
unfolding primary_keeps
primary_keeps_lem job m before j p = (
  λ h0.
      let h1 = and_r _ _ h0 in
      record { ready = and_l _ _ h0; d = (every_into job j _).0 (and_l _ _ h1); g = every_e m _ (and_r _ _ h1) },
  λ k. and_i _ _ k.ready (and_i _ _ ((every_into job j _).1 k.d) (every_i m _ k.g)),
)

pub backup_keeps_lem : (job : Job) (m : ℕ) (before : ℕ → Row) (j : ℕ) (s : Row)
    → (backup_keeps job m before j s ≡ true) ↔ BackupKept job m before j s
unfolding backup_keeps
backup_keeps_lem job m before j s = (
  λ h0.
      let h1 = and_r _ _ h0 in
      let h2 = and_r _ _ h1 in
      let h3 = and_r _ _ h2 in
      record {
        a = and_l _ _ h0;
        b = and_l _ _ h1;
        e = (every_into job j _).0 (and_l _ _ h2);
        f = and_l _ _ h3;
        g = every_e m _ (and_r _ _ h3);
      },
  λ k. and_i _ _ k.a (and_i _ _ k.b (and_i _ _ ((every_into job j _).1 k.e) (and_i _ _ k.f (every_i m _ k.g)))),
)

-- beside all tables that agree before task j
module _ (job : Job) (sound : Sound job) (f g : ℕ → Row) (j : ℕ) (agree : (i : ℕ) → i < j → f i ≡ g i) where
  from_agrees : (k : ℕ) → k < links job → (link job k).to ≡ j → f (link job k).from ≡ g (link job k).from
  from_agrees k p e = agree _ (omega (arith, sound.rise k p))

  pub primary_kept_on : (p : Copy) → PrimaryKept job j f j p → PrimaryKept job j g j p
  primary_kept_on p k =
      record {
        ready = k.ready;
        d = λ m pm e. subst (λ s. rule_d job (link job m) s p ≡ true) (from_agrees m pm e) (k.d m pm e);
        g = λ i pi. subst (λ s. rule_g_primary s p ≡ true) (agree i pi) (k.g i pi);
      }

  pub backup_kept_on : (r : Row) → BackupKept job j f j r → BackupKept job j g j r
  backup_kept_on r k =
      record {
        a = k.a;
        b = k.b;
        e = λ m pm e. subst (λ s. rule_e job (link job m) s r ≡ true) (from_agrees m pm e) (k.e m pm e);
        f = k.f;
        g = λ i pi. subst (λ s. rule_g_backup job s r ≡ true) (agree i pi) (k.g i pi);
      }
