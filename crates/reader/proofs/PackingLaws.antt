-- The 8-byte result loses nothing of a refusal that fits, and is 0 for success alone.
use Prim.Native.Nat.{ℕ, ◌+◌, ◌*◌, ◌/◌, ◌%◌, ◌^◌, ◌≤◌, ◌<◌}
use native.Mathlib.Nat.{mod-eq_of_lt}
use native.Mathlib.Omega.{arith}
use mathlib.Core.Path.{◌≡◌, refl, sym, ap, ◌∙◌}
use Rattle.reader.specs.declared.refusal.Refusal.{Refusal}
use Rattle.reader.specs.declared.refusal.Refusal.TheVariants.{Short, Version, Count, Value, LinkOrder, Tail, Unable, SameNode, Early, Late}
use Rattle.reader.specs.declared.refusal.Refusal.TheVariants.{PrimaryUnfed, BackupUnfed, CommonLoss, Overlap}
use Rattle.reader.specs.declared.refusal.Refusal.TheVariants.{NoPrimary, NoBackup, ShortBuffer, NoSuchNode, TooSoon, Full, Stale, NotASentence}
use Rattle.std.specs.Prelude.{Ok, Err}
use Rattle.reader.specs.Refusals.{Answer, Told, told, tell, packed, result_number, Fits}

-- packing without the remainders
packed_sum : (t : Told) → Fits t → packed t ≡ t.number + 2 ^ 8 * t.first + 2 ^ 40 * t.second
unfolding packed
packed_sum t f = omega arith

sums : (n a b : ℕ) → n < 2 ^ 8 → a < 2 ^ 32 →
    ((n + 2 ^ 8 * a + 2 ^ 40 * b) % 2 ^ 8 ≡ n) × ((n + 2 ^ 8 * a + 2 ^ 40 * b) / 2 ^ 8 % 2 ^ 32 ≡ a) × ((n + 2 ^ 8 * a + 2 ^ 40 * b) / 2 ^ 40 ≡ b)
sums n a b hn ha = omega arith

module _ (t : Told) (f : Fits t) where
  pub packed_number : packed t % 2 ^ 8 ≡ t.number
  packed_number = ap (λ x. x % 2 ^ 8) (packed_sum t f) ∙ (sums t.number t.first t.second f.number f.first).0

  pub packed_first : packed t / 2 ^ 8 % 2 ^ 32 ≡ t.first
  packed_first = ap (λ x. x / 2 ^ 8 % 2 ^ 32) (packed_sum t f) ∙ (sums t.number t.first t.second f.number f.first).1

  pub packed_second : packed t / 2 ^ 40 ≡ t.second
  packed_second = ap (λ x. x / 2 ^ 40) (packed_sum t f) ∙ (sums t.number t.first t.second f.number f.first).2

  unpacked : told (packed t % 2 ^ 8) (packed t / 2 ^ 8 % 2 ^ 32) (packed t / 2 ^ 40) ≡ t
  unpacked = rw (packed_number, packed_first, packed_second)

-- refusals that fit, of one packed number, have one number and the same places
pub packed_same : (t u : Told) → Fits t → Fits u → packed t ≡ packed u → t ≡ u
packed_same t u f g e =
    sym (unpacked t f) ∙ ap (λ x. told (x % 2 ^ 8) (x / 2 ^ 8 % 2 ^ 32) (x / 2 ^ 40)) e ∙ unpacked u g

-- numbers of the table: 1 to 22
pub record Numbered (n : ℕ) : Type 0 where
  pub least : 1 ≤ n
  pub most : n ≤ 22

pub tell_number : (r : Refusal) → Numbered (tell r).number
tell_number (Short at) = omega arith
tell_number (Version at) = omega arith
tell_number (Count at) = omega arith
tell_number (Value at) = omega arith
tell_number (LinkOrder at) = omega arith
tell_number (Tail at) = omega arith
tell_number (Unable at) = omega arith
tell_number (SameNode j) = omega arith
tell_number (Early j) = omega arith
tell_number (Late j) = omega arith
tell_number (PrimaryUnfed i j) = omega arith
tell_number (BackupUnfed i j) = omega arith
tell_number (CommonLoss j) = omega arith
tell_number (Overlap i j) = omega arith
tell_number (NoPrimary j) = omega arith
tell_number (NoBackup j) = omega arith
tell_number (ShortBuffer n) = omega arith
tell_number (NoSuchNode q) = omega arith
tell_number (TooSoon j) = omega arith
tell_number (Full j) = omega arith
tell_number (Stale j) = omega arith
tell_number (NotASentence n) = omega arith

positive : (t : Told) → Numbered t.number → 0 < packed t
unfolding packed
positive t h = let e : t.number % 2 ^ 8 ≡ t.number = mod-eq_of_lt (omega arith) in omega arith

pub packed_some : (r : Refusal) → 0 < packed (tell r)
packed_some r = positive (tell r) (tell_number r)

pub result_done : (a : Answer) → result_number a ≡ 0 → a ≡ Ok tt
result_done (Ok tt) e = refl
result_done (Err r) e = absurd (omega (arith, packed_some r))
