-- The table of document 01, and what document 02 adds to it: the number and both places of each refusal, and the 8-byte result that holds them.
use Rattle.std.specs.Prelude.{ℕ, ◌+◌, ◌*◌, ◌%◌, ◌^◌, ◌<◌, ◌≡◌, Result, Ok, Err, ⊤}
use Rattle.std.proofs.Math.Option.{Option, none, some}
use Rattle.reader.specs.declared.refusal.Refusal.{Refusal}
use Rattle.reader.specs.declared.refusal.Refusal.TheVariants.{Short, Version, Count, Value, LinkOrder, Tail, Unable, SameNode, Early, Late}
use Rattle.reader.specs.declared.refusal.Refusal.TheVariants.{PrimaryUnfed, BackupUnfed, CommonLoss, Overlap}
use Rattle.reader.specs.declared.refusal.Refusal.TheVariants.{NoPrimary, NoBackup, ShortBuffer, NoSuchNode, TooSoon, Full, Stale, NotASentence}
pub use Rattle.reader.specs.declared.refusal.Told.{Told}

-- a row of the table
abbrev pub told : ℕ → ℕ → ℕ → Told
told n a b = record { number = n; first = a; second = b }

abbrev pub tell : Refusal → Told
tell (Short at) = told 1 at 0
tell (Version at) = told 2 at 0
tell (Count at) = told 3 at 0
tell (Value at) = told 4 at 0
tell (LinkOrder at) = told 5 at 0
tell (Tail at) = told 6 at 0
tell (Unable at) = told 7 at 0
tell (SameNode j) = told 8 j j
tell (Early j) = told 9 j j
tell (Late j) = told 10 j j
tell (PrimaryUnfed i j) = told 11 i j
tell (BackupUnfed i j) = told 12 i j
tell (CommonLoss j) = told 13 j j
tell (Overlap i j) = told 14 i j
tell (NoPrimary j) = told 15 j j
tell (NoBackup j) = told 16 j j
tell (ShortBuffer n) = told 17 n 0
tell (NoSuchNode q) = told 18 q 0
tell (TooSoon j) = told 19 j j
tell (Full j) = told 20 j 0
tell (Stale j) = told 21 j j
tell (NotASentence n) = told 22 n 0

-- a value, or the first refusal
abbrev pub resulted : {A : Type 0} → Option Refusal → A → Result A Refusal
resulted none a = Ok a
resulted (some r) a = Err r

-- the answer of a step: done, or the first refusal
abbrev pub Answer : Type 0
Answer = Result ⊤ Refusal

abbrev pub answered : Option Refusal → Answer
answered o = resulted o tt

-- what a result says apart from its value
abbrev pub answer_of : {A : Type 0} → Result A Refusal → Answer
answer_of (Ok a) = Ok tt
answer_of (Err r) = Err r

-- 'the number in the lowest 8 bits, the first place in the next 32, the second in the top 24. Success is 0.'
unfoldable pub packed : Told → ℕ
packed t = t.number % 2 ^ 8 + 2 ^ 8 * (t.first % 2 ^ 32) + 2 ^ 40 * (t.second % 2 ^ 24)

abbrev pub result_number : Answer → ℕ
result_number (Ok a) = 0
result_number (Err r) = packed (tell r)

-- a refusal whose number and places fit their bits
pub record Fits (t : Told) : Type 0 where
  pub number : t.number < 2 ^ 8
  pub first : t.first < 2 ^ 32
  pub second : t.second < 2 ^ 24

-- a refusal, if there is one, fits
abbrev pub FaultFits : Option Refusal → Type 0
FaultFits o = (r : Refusal) → o ≡ some r → Fits (tell r)
