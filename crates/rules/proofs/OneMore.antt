-- One row more: a table that keeps the rules keeps them with a new row exactly if that row keeps them beside the others.
use Prim.Native.Nat.{ℕ, suc, ◌<◌}
use native.Mathlib.Omega.{arith}
use mathlib.Core.Bool.{true}
use mathlib.Core.Path.{◌≡◌, sym, ap, ◌∙◌, subst}
use mathlib.Core.Logic.{◌↔◌}
use Rattle.reader.specs.declared.job.Link.{Link}
use Rattle.reader.specs.declared.job.Job.{Job}
use Rattle.reader.specs.Entries.{tasks, links, link}
use Rattle.reader.specs.Sound.{Sound}
use Rattle.reader.proofs.TestLaws.{and_l, and_r, and_i, below_suc}
use Rattle.rules.specs.Tables.{put}
use Rattle.rules.specs.Rules.{Row, rule_a, rule_ready, rule_b, rule_c, rule_d, rule_e, rule_f, rule_g}
use Rattle.rules.specs.Breach.{Kept}
use Rattle.rules.specs.Asking.{keeps_rules}
use Rattle.rules.proofs.TableLaws.{put_same, put_other}
use Rattle.rules.proofs.KeepsLaws.{PrimaryKept, BackupKept, primary_keeps_lem, backup_keeps_lem}
use Rattle.rules.proofs.NodeLaws.{rule_a_same, rule_b_same, rule_d_same, rule_e_same, rule_f_same, rule_g_same}
use Rattle.rules.proofs.LinkSets.{link_of_lem}
use Rattle.rules.proofs.ExtendLaws.{Extends, rule_ready_same, rule_c_same}

-- row r of task j keeps A to G beside the rows before it
pub record RowKept (job : Job) (before : ℕ → Row) (j : ℕ) (r : Row) : Type 0 where
  pub primary : PrimaryKept job j before j r.primary
  pub backup : BackupKept job j before j r
  pub ends_in_time : rule_c job j r ≡ true

pub keeps_rules_lem : (job : Job) (before : ℕ → Row) (j : ℕ) (r : Row) → (keeps_rules job before j r ≡ true) ↔ RowKept job before j r
unfolding keeps_rules
keeps_rules_lem job before j r = (
  λ h.
      record {
        primary = (primary_keeps_lem job j before j _).0 (and_l _ _ h);
        backup = (backup_keeps_lem job j before j r).0 (and_l _ _ (and_r _ _ h));
        ends_in_time = and_r _ _ (and_r _ _ h);
      },
  λ k. and_i _ _ ((primary_keeps_lem job j before j _).1 k.primary) (and_i _ _ ((backup_keeps_lem job j before j r).1 k.backup) k.ends_in_time),
)

module _ (job big : Job) (ext : Extends job big) (sound : Sound big) (t : ℕ → Row) (r : Row) where
  abbrev n : ℕ
  n = tasks job

  abbrev more : ℕ → Row
  more = put t n r

  old : (j : ℕ) → j < n → more j ≡ t j
  old j p = put_other t n r j (omega arith)

  own : (j : ℕ) → j ≡ n → more j ≡ r
  own j e = ap more e ∙ put_same t n r

  count : (j : ℕ) → j < tasks big → j < suc n
  count j p = subst (λ m. j < m) ext.count p

  is_last : n < tasks big
  is_last = omega (arith, ext.count)

  each_task : (P : ℕ → Row → Type 0) → ((j : ℕ) → j < n → P j (t j)) → P n r → (j : ℕ) → j < tasks big → P j (more j)
  each_task P f g j p =
      below_suc j n (count j p)
      (λ q. subst (P j) (sym (old j q)) (f j q))
      (λ q. subst (P j) (sym (own j q)) (subst (λ i. P i r) (sym q) g))

  each_link : (P : Link → Row → Row → Type 0)
      → ((k : ℕ) → k < links job → P (link job k) (t (link job k).from) (t (link job k).to))
      → ((k : ℕ) → k < links big → (link big k).to ≡ n → P (link big k) (t (link big k).from) r)
      → (k : ℕ) → k < links big → P (link big k) (more (link big k).from) (more (link big k).to)
  each_link P f g k p =
      let l = link big k in
      below_suc l.to n (count l.to (sound.into k p))
      (λ q.
      let o = ext.only l (link_of_lem big k p) q in
      let was : P l (t l.from) (t l.to) = subst (λ m. P m (t m.from) (t m.to)) o.is (f o.at o.below) in
      subst (λ s. P l s (more l.to)) (sym (old l.from (omega (arith, sound.rise k p))))
      (subst (λ s. P l (t l.from) s) (sym (old l.to q)) was))
      (λ q.
      subst (λ s. P l s (more l.to)) (sym (old l.from (omega (arith, sound.rise k p))))
      (subst (λ s. P l (t l.from) s) (sym (own l.to q)) (g k p q)))

  pub one_more : Kept job t → RowKept big t n r → Kept big more
  unfolding rule_g
  one_more k new =
      let same = ext.same_nodes in
      record {
        a = each_task (λ j s. rule_a big s ≡ true) (λ j p. rule_a_same big job same (t j) ∙ k.a j p) new.backup.a;
        ready = each_task (λ j s. rule_ready big j s.primary ≡ true) (λ j p. rule_ready_same job big ext j p (t j).primary ∙ k.ready j p)
            new.primary.ready;
        b = each_task (λ j s. rule_b big s ≡ true) (λ j p. rule_b_same big job same (t j) ∙ k.b j p) new.backup.b;
        c = each_task (λ j s. rule_c big j s ≡ true) (λ j p. rule_c_same job big ext j p (t j) ∙ k.c j p) new.ends_in_time;
        d = each_link (λ l s u. rule_d big l s u.primary ≡ true)
            (λ m p. rule_d_same big job same (link job m) (t (link job m).from) (t (link job m).to).primary ∙ k.d m p)
            new.primary.d;
        e = each_link (λ l s u. rule_e big l s u ≡ true)
            (λ m p. rule_e_same big job same (link job m) (t (link job m).from) (t (link job m).to) ∙ k.e m p)
            new.backup.e;
        f = each_task (λ j s. rule_f big s ≡ true) (λ j p. rule_f_same big job same (t j) ∙ k.f j p) new.backup.f;
        g = λ i j p q.
            each_task (λ j s. i < j → rule_g big (more i) s ≡ true)
            (λ j l p. subst (λ s. rule_g big s (t j) ≡ true) (sym (old i (omega arith))) (rule_g_same big job same (t i) (t j) ∙ k.g i j p l))
            (λ p. subst (λ s. rule_g big s r ≡ true) (sym (old i p)) (and_i _ _ (new.primary.g i p) (new.backup.g i p)))
            j q p;
      }

  pub last_kept : Kept big more → RowKept big t n r
  unfolding rule_g
  last_kept k =
      let at_last : (P : Row → Type 0) → P (more n) → P r = λ P h. subst P (own n (omega arith)) h in
      let from_old : (m : ℕ) → m < links big → (link big m).to ≡ n → more (link big m).from ≡ t (link big m).from =
      λ m p e. old _ (omega (arith, sound.rise m p)) in
      let pair : (i : ℕ) → i < n → rule_g big (t i) r ≡ true = λ i p.
      subst (λ s. rule_g big s r ≡ true) (old i p) (at_last (λ s. rule_g big (more i) s ≡ true) (k.g i n p is_last)) in
      record {
        primary =
            record {
              ready = at_last (λ s. rule_ready big n s.primary ≡ true) (k.ready n is_last);
              d = λ m p e.
                  subst (λ s. rule_d big (link big m) s r.primary ≡ true) (from_old m p e)
                  (subst (λ s. rule_d big (link big m) (more (link big m).from) s.primary ≡ true) (own _ e) (k.d m p));
              g = λ i p. and_l _ _ (pair i p);
            };
        backup =
            record {
              a = at_last (λ s. rule_a big s ≡ true) (k.a n is_last);
              b = at_last (λ s. rule_b big s ≡ true) (k.b n is_last);
              e = λ m p e.
                  subst (λ s. rule_e big (link big m) s r ≡ true) (from_old m p e)
                  (subst (λ s. rule_e big (link big m) (more (link big m).from) s ≡ true) (own _ e) (k.e m p));
              f = at_last (λ s. rule_f big s ≡ true) (k.f n is_last);
              g = λ i p. and_r _ _ (pair i p);
            };
        ends_in_time = at_last (λ s. rule_c big n s ≡ true) (k.c n is_last);
      }
