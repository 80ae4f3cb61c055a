-- What the console may count on: a sentence holds its word and ends at its only full stop; a refusal of the code has the second place of its row.
use Prim.Native.Nat.{ℕ, suc, ◌+◌, ◌≤◌, ◌<◌}
use mathlib.Core.Bool.{true, not, cond}
use mathlib.Core.Path.{◌≡◌, refl, subst}
use mathlib.Core.List.{List, [], ◌∷◌, ◌++◌, append_assoc}
use lib.Dec.{eqb}
use lib.ListN.{length, get_or}
use native.Mathlib.Omega.{arith}
use borrow.Author.Tests.{eq-eqb, ne_eqb}
use Rattle.reader.specs.declared.refusal.Refusal.{Refusal}
use Rattle.reader.specs.declared.refusal.Refusal.TheVariants.{Short, Version, Count, Value, LinkOrder, Tail, Unable, SameNode, Early, Late}
use Rattle.reader.specs.declared.refusal.Refusal.TheVariants.{PrimaryUnfed, BackupUnfed, CommonLoss, Overlap}
use Rattle.reader.specs.declared.refusal.Refusal.TheVariants.{NoPrimary, NoBackup, ShortBuffer, NoSuchNode, TooSoon, Full, Stale, NotASentence}
use Rattle.reader.specs.declared.refusal.Told.{Told}
use Rattle.reader.specs.Tests.{◌and◌}
use Rattle.reader.specs.Refusals.{tell}
use Rattle.reader.proofs.TestLaws.{split, and_i, and_l, and_r, not_i}
use Rattle.decimal.specs.Decimal.{digit_zero, decimal}
use Rattle.decimal.proofs.Spelling.{decimal_spells}
use Rattle.sentence.specs.Phrases.{spelled, Row, rows, row_of, word_of, unsaid, mark}
use Rattle.sentence.specs.Sentence.{Tabled, around, placed, front, phrases, body, sentence}
use Rattle.sentence.specs.Promise.{Holds, full_stop, stopless, EndsAtStop, fitting, as_tabled}
use Rattle.sentence.proofs.PhraseLaws.{between, row_kept}
use Rattle.sentence.proofs.PrintedLaws.{around_quiet, around_told}

-- 'Each sentence holds its refusal's word from the tables.'
pub holds_word : (t : Told) → Holds (sentence t) (word_of t.number)
unfolding sentence body phrases placed around front
holds_word t =
    let r = row_of t.number in
    record {
      front = spelled "Refused " ++ (decimal t.number ++ spelled ", ");
      back = spelled ": " ++ (spelled r.cause ++ (decimal t.first ++ (behind r ++ spelled ".")));
      whole = simp append_assoc;
    }
  where
    behind : Row → List ℕ
    behind r = spelled r.effect ++ cond (unsaid r.second t.first t.second) [] (spelled (mark r.second) ++ decimal t.second)

-- texts without a full stop
stopless_append : (a b : List ℕ) → stopless a ≡ true → stopless b ≡ true → stopless (a ++ b) ≡ true
unfolding stopless
stopless_append [] b h k = k
stopless_append (x ∷ a) b h k =
    and_i (not (eqb x full_stop)) (stopless (a ++ b)) (and_l (not (eqb x full_stop)) (stopless a) h)
    (stopless_append a b (and_r (not (eqb x full_stop)) (stopless a) h) k)

stopless_digits : (s : List ℕ) → ((i : ℕ) → i < length s → (digit_zero ≤ get_or s i 0) × (get_or s i 0 < digit_zero + 10)) → stopless s ≡ true
unfolding stopless
stopless_digits [] h = refl
stopless_digits (b ∷ s) h =
    let first = h 0 (omega arith) in
    and_i (not (eqb b full_stop)) (stopless s) (not_i (eqb b full_stop) (ne_eqb b full_stop (λ e. omega arith)))
    (stopless_digits s (λ i p. h (suc i) (omega arith)))

stopless_number : (n : ℕ) → stopless (decimal n) ≡ true
stopless_number n = stopless_digits (decimal n) (decimal_spells n).digit

opening_stopless : stopless (spelled "Refused ") ≡ true
unfolding stopless spelled ◌and◌
opening_stopless = refl

phrases_stopless : (t : Told) → Tabled t → stopless (phrases (row_of t.number) t) ≡ true
unfolding phrases placed
phrases_stopless t h =
    let r = row_of t.number in
    let kept = row_kept t.number h.number in
    let first = stopless_number t.first in
    let told : stopless (spelled r.effect ++ (spelled (mark r.second) ++ decimal t.second)) ≡ true =
    subst (λ l. stopless l ≡ true) (append_assoc (spelled r.effect) (spelled (mark r.second)) (decimal t.second))
    (stopless_append (between r) (decimal t.second) kept.between_stopless (stopless_number t.second)) in
    split (unsaid r.second t.first t.second)
    (λ q. rw (around_quiet (front r) (spelled r.effect) (spelled (mark r.second)) t _ q)
    (stopless_append (front r) _ kept.front_stopless (stopless_append (decimal t.first) _ first kept.effect_stopless)))
    (λ q. rw (around_told (front r) (spelled r.effect) (spelled (mark r.second)) t _ q)
    (stopless_append (front r) _ kept.front_stopless (stopless_append (decimal t.first) _ first told)))

-- the text ends at its full stop: before it there is none
pub one_stop : (t : Told) → Tabled t → EndsAtStop (sentence t) (body t)
unfolding sentence body spelled
one_stop t h = record {
  whole = refl;
  only = stopless_append (spelled "Refused ") _ opening_stopless (stopless_append (decimal t.number) _ (stopless_number t.number) (phrases_stopless t h));
}

-- every refusal of the code has the second place that its row takes for granted, or tells
again : (j : ℕ) → eqb j j ≡ true
again j = eq-eqb j j refl

pub tell_as_tabled : (r : Refusal) → as_tabled (tell r) ≡ true
unfolding rows row_of fitting
tell_as_tabled (Short at) = refl
tell_as_tabled (Version at) = refl
tell_as_tabled (Count at) = refl
tell_as_tabled (Value at) = refl
tell_as_tabled (LinkOrder at) = refl
tell_as_tabled (Tail at) = refl
tell_as_tabled (Unable at) = refl
tell_as_tabled (SameNode j) = again j
tell_as_tabled (Early j) = again j
tell_as_tabled (Late j) = again j
tell_as_tabled (PrimaryUnfed i j) = refl
tell_as_tabled (BackupUnfed i j) = refl
tell_as_tabled (CommonLoss j) = again j
tell_as_tabled (Overlap i j) = refl
tell_as_tabled (NoPrimary j) = again j
tell_as_tabled (NoBackup j) = again j
tell_as_tabled (ShortBuffer n) = refl
tell_as_tabled (NoSuchNode q) = refl
tell_as_tabled (TooSoon j) = again j
tell_as_tabled (Full j) = refl
tell_as_tabled (Stale j) = again j
tell_as_tabled (NotASentence n) = refl
