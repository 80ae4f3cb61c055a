-- Laws of the fixed phrases: what one computed test over all rows says of each.
use Prim.Native.Nat.{ℕ, zero, suc, ◌+◌, ◌-◌, ◌≤◌, ◌<◌}
use mathlib.Core.Bool.{Bool, true}
use mathlib.Core.Path.{◌≡◌, refl, sym, ◌∙◌}
use mathlib.Core.List.{List, [], ◌∷◌, ◌++◌}
use lib.Dec.{leb}
use lib.ListN.{length, get_or}
use native.Mathlib.Omega.{arith}
use borrow.Author.Tests.{leb-true, le-leb}
use Rattle.std.specs.Prelude.{◌&&◌, map}
use Rattle.std.proofs.lemmas.List.{get_or-map}
use Rattle.reader.specs.declared.refusal.Refusal.{Refusal}
use Rattle.reader.specs.Tests.{◌and◌}
use Rattle.reader.specs.Refusals.{tell}
use Rattle.reader.proofs.TestLaws.{split, and_l, and_r, and_i}
use Rattle.reader.proofs.PackingLaws.{tell_number}
use Rattle.decimal.specs.Numbers.{is_digit}
use Rattle.decimal.proofs.FoundLaws.{digitless, walled}
use Rattle.sentence.specs.declared.phrase.Phrase.{Phrase}
use Rattle.sentence.specs.Phrases.{spelled, Row, rows, last_number, tabled, row_of, mark}
use Rattle.sentence.specs.Sentence.{front}
use Rattle.sentence.specs.Promise.{stopless}

-- what stands between the places where the second one is told
abbrev pub between : Row → List ℕ
between r = spelled r.effect ++ spelled (mark r.second)

-- what every row keeps: room in a sentence; no digit and no full stop; something before the second place
unfoldable sound : Row → Bool
sound r =
    leb (length (front r) + length (between r)) 69
    and digitless (front r)
    and walled (front r)
    and stopless (front r)
    and digitless (spelled r.effect)
    and digitless (between r)
    and walled (between r)
    and stopless (spelled r.effect)
    and stopless (between r)

unfoldable all : List Row → Bool
all [] = true
all (r ∷ rs) = sound r and all rs

all_at : (rs : List Row) (k : ℕ) (d : Row) → all rs ≡ true → k < length rs → sound (get_or rs k d) ≡ true
unfolding all
all_at [] k d h p = absurd (let z : ⊥ = omega arith in z)
all_at (r ∷ rs) zero d h p = and_l (sound r) (all rs) h
all_at (r ∷ rs) (suc k) d h p = all_at rs k d (and_r (sound r) (all rs) h) (omega arith)

rows_sound : all rows ≡ true
unfolding all sound rows front mark spelled digitless stopless walled is_digit ◌and◌
rows_sound = refl

pub rows_many : length rows ≡ last_number
unfolding rows
rows_many = refl

-- a number of the tables
pub tabled_least : (n : ℕ) → tabled n ≡ true → 1 ≤ n
unfolding tabled
tabled_least n h = leb-true 1 n (and_l (leb 1 n) (leb n last_number) h)

pub tabled_most : (n : ℕ) → tabled n ≡ true → n ≤ last_number
unfolding tabled
tabled_most n h = leb-true n last_number (and_r (leb 1 n) (leb n last_number) h)

pub record Kept (r : Row) : Type 0 where
  pub room : length (front r) + length (between r) ≤ 69
  pub front_digitless : digitless (front r) ≡ true
  pub front_walled : walled (front r) ≡ true
  pub front_stopless : stopless (front r) ≡ true
  pub effect_digitless : digitless (spelled r.effect) ≡ true
  pub between_digitless : digitless (between r) ≡ true
  pub between_walled : walled (between r) ≡ true
  pub effect_stopless : stopless (spelled r.effect) ≡ true
  pub between_stopless : stopless (between r) ≡ true

kept : (r : Row) → sound r ≡ true → Kept r
unfolding sound
kept r h =
    let h2 = and_r _ _ h in
    let h3 = and_r _ _ h2 in
    let h4 = and_r _ _ h3 in
    let h5 = and_r _ _ h4 in
    let h6 = and_r _ _ h5 in
    let h7 = and_r _ _ h6 in
    let h8 = and_r _ _ h7 in
    record {
      room = leb-true (length (front r) + length (between r)) 69 (and_l _ _ h);
      front_digitless = and_l _ _ h2;
      front_walled = and_l _ _ h3;
      front_stopless = and_l _ _ h4;
      effect_digitless = and_l _ _ h5;
      between_digitless = and_l _ _ h6;
      between_walled = and_l _ _ h7;
      effect_stopless = and_l _ _ h8;
      between_stopless = and_r _ _ h8;
    }

pub row_kept : (n : ℕ) → tabled n ≡ true → Kept (row_of n)
unfolding row_of
row_kept n h =
    let least = tabled_least n h in
    let most = tabled_most n h in
    kept (row_of n) (all_at rows (n - 1) _ rows_sound (omega (arith, rows_many)))

-- a part of a number's row, and of its phrase in a table as long as the tables: both stand in the list of all such parts
pub row_part : {A : Type 0} (part : Row → A) (z : A) (n : ℕ) → tabled n ≡ true → part (row_of n) ≡ get_or (map part rows) (n - 1) z
unfolding row_of
row_part part z n h =
    let least = tabled_least n h in
    let most = tabled_most n h in
    sym (get_or-map part rows (n - 1) _ z (omega (arith, rows_many)))

pub phrase_part : {A : Type 0} (part : Phrase → A) (z : A) (n : ℕ) → tabled n ≡ true → (table : List Phrase) (d : Phrase)
    → length table ≡ last_number → part (get_or table (n - 1) d) ≡ get_or (map part table) (n - 1) z
phrase_part part z n h table d many =
    let least = tabled_least n h in
    let most = tabled_most n h in
    sym (get_or-map part table (n - 1) d z (omega arith))

-- the tables, tested
pub table_range : (n : ℕ) → (leb 1 n && leb n last_number) ≡ tabled n
unfolding tabled ◌and◌
table_range n = split (leb 1 n) (λ e. rw e) (λ e. rw e)

-- a test that a function told, where `if !` of it was left
pub told_true : {b t : Bool} → b ≡ t → b ≡ true → t ≡ true
told_true e h = sym e ∙ h

pub in_tables : (n : ℕ) → 1 ≤ n → n ≤ last_number → tabled n ≡ true
unfolding tabled
in_tables n p q = and_i (leb 1 n) (leb n last_number) (le-leb 1 n p) (le-leb n last_number q)

-- every refusal of the code has its row
pub refusal_tabled : (r : Refusal) → tabled (tell r).number ≡ true
refusal_tabled r = let n = tell_number r in in_tables (tell r).number n.least n.most
