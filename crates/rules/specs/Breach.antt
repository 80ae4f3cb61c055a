-- What the judge's answers mean: every rule kept everywhere, or the first breach in document 01's order.
use Rattle.std.specs.Prelude.{ℕ, ◌<◌, Bool, true, ◌≡◌, [], ◌∷◌, get_or}
use Rattle.std.proofs.Math.Option.{Option}
use Rattle.reader.specs.declared.job.Job.{Job}
use Rattle.reader.specs.declared.job.Link.{Link}
use Rattle.reader.specs.declared.refusal.Refusal.{Refusal}
use Rattle.reader.specs.declared.refusal.Refusal.TheVariants.{SameNode, TooSoon, Early, Late, PrimaryUnfed, BackupUnfed, CommonLoss, Overlap}
use Rattle.reader.specs.Entries.{tasks, links, link}
use Rattle.reader.specs.Refusals.{tell}
use Rattle.reader.specs.First.{FirstFail, FirstPairFail}
use Rattle.rules.specs.Rules.{Row, rule_a, rule_ready, rule_b, rule_c, rule_d, rule_e, rule_f, rule_g}
use Rattle.rules.specs.Judge.{first_task, first_link, first_pair}

-- a rule, what it is tried on, and the refusal of what breaks it
pub data Check : Type 0 where
  on_tasks : (ℕ → Refusal) → (ℕ → Bool) → Check
  on_links : (ℕ → ℕ → Refusal) → (Link → Bool) → Check
  on_pairs : (ℕ → ℕ → Refusal) → (ℕ → ℕ → Bool) → Check

-- the refusal that a check finds
abbrev pub found : Job → Check → Option Refusal
found job (on_tasks refusal rule) = first_task job refusal rule
found job (on_links refusal rule) = first_link job refusal rule
found job (on_pairs refusal rule) = first_pair job refusal rule

-- its rule holds at every task, link or pair
abbrev pub Everywhere : Job → Check → Type 0
Everywhere job (on_tasks refusal rule) = (j : ℕ) → j < tasks job → rule j ≡ true
Everywhere job (on_links refusal rule) = (k : ℕ) → k < links job → rule (link job k) ≡ true
Everywhere job (on_pairs refusal rule) = (i j : ℕ) → i < j → j < tasks job → rule i j ≡ true

-- r names the first task, link or pair that breaks its rule
abbrev pub Broken : Job → Check → Refusal → Type 0
Broken job (on_tasks refusal rule) r = (j : ℕ) × FirstFail (tasks job) rule j × (refusal j ≡ r)
Broken job (on_links refusal rule) r =
    (k : ℕ) × FirstFail (links job) (λ k. rule (link job k)) k × (refusal (link job k).from (link job k).to ≡ r)
Broken job (on_pairs refusal rule) r = (i : ℕ) × (j : ℕ) × FirstPairFail (tasks job) rule i j × (refusal i j ≡ r)

-- rule n of the eight in the judge's order, A being 0
abbrev pub check : Job → (ℕ → Row) → ℕ → Check
check job t n =
    get_or
    (on_tasks SameNode (λ j. rule_a job (t j))
    ∷ on_tasks TooSoon (λ j. rule_ready job j (t j).primary)
    ∷ on_tasks Early (λ j. rule_b job (t j))
    ∷ on_tasks Late (λ j. rule_c job j (t j))
    ∷ on_links PrimaryUnfed (λ l. rule_d job l (t l.from) (t l.to).primary)
    ∷ on_links BackupUnfed (λ l. rule_e job l (t l.from) (t l.to))
    ∷ on_tasks CommonLoss (λ j. rule_f job (t j))
    ∷ on_pairs Overlap (λ i j. rule_g job (t i) (t j))
    ∷ [])
    n (on_tasks SameNode (λ j. true))

-- and the number of its refusal
abbrev pub rule_number : ℕ → ℕ
rule_number n = get_or (8 ∷ 19 ∷ 9 ∷ 10 ∷ 11 ∷ 12 ∷ 13 ∷ 14 ∷ []) n 0

-- every rule of tasks and links everywhere, and at every pair of tasks what `pair` says
pub record KeptWith (job : Job) (pair : Row → Row → Bool) (t : ℕ → Row) : Type 0 where
  pub a : (j : ℕ) → j < tasks job → rule_a job (t j) ≡ true
  pub ready : (j : ℕ) → j < tasks job → rule_ready job j (t j).primary ≡ true
  pub b : (j : ℕ) → j < tasks job → rule_b job (t j) ≡ true
  pub c : (j : ℕ) → j < tasks job → rule_c job j (t j) ≡ true
  pub d : (k : ℕ) → k < links job → rule_d job (link job k) (t (link job k).from) (t (link job k).to).primary ≡ true
  pub e : (k : ℕ) → k < links job → rule_e job (link job k) (t (link job k).from) (t (link job k).to) ≡ true
  pub f : (j : ℕ) → j < tasks job → rule_f job (t j) ≡ true
  pub g : (i j : ℕ) → i < j → j < tasks job → pair (t i) (t j) ≡ true

-- every rule at every task, link and pair
abbrev pub Kept : Job → (ℕ → Row) → Type 0
Kept job t = KeptWith job (rule_g job) t

-- r's rule is broken first there, and the rules before it hold everywhere
pub record FirstBreach (job : Job) (t : ℕ → Row) (r : Refusal) : Type 0 where
  pub rule : ℕ
  pub known : rule < 8
  pub number : (tell r).number ≡ rule_number rule
  pub broken : Broken job (check job t rule) r
  pub before : (n : ℕ) → n < rule → Everywhere job (check job t n)
