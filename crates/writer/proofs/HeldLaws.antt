-- The numbers of an entry's fields, those that its version has: how many, where they stand, and what they say.
use Prim.Native.Nat.{ℕ, zero, suc, ◌+◌, ◌*◌, ◌^◌, ◌≤◌, ◌<◌}
use native.Mathlib.Nat.{add-zero, add_assoc}
use native.Mathlib.Omega.{arith}
use mathlib.Core.Path.{◌≡◌, refl, sym, ap₂, ◌∙◌}
use mathlib.Core.Bool.{Bool, true, false}
use mathlib.Core.List.{List, [], ◌∷◌}
use lib.ListN.{length}
use Rattle.reader.specs.Number.{number_at, Words}
use Rattle.reader.specs.Fields.{Field, width_if, value_if, held_if, has, width, fields_at, held}
use Rattle.reader.proofs.TestLaws.{clash}
use Rattle.reader.proofs.VersionLaws.{Within, AllWithin, GoodFields}
use Rattle.writer.proofs.Segments.{Stands, stands_le}

-- one field, which the version has or lacks, and the numbers behind it
pub if_width : (b : Bool) (x : ℕ) (xs : List ℕ) → 4 * length (held_if b x xs) ≡ width_if b + 4 * length xs
unfolding held_if width_if
if_width true x xs = omega arith
if_width false x xs = omega arith

if_stands : (b : Bool) (s : List ℕ) (at lacking : ℕ) (xs : List ℕ) (end : ℕ) → Stands s (at + width_if b) xs end
    → Stands s at (held_if b (value_if b (number_at s at) lacking) xs) end
unfolding Stands held_if value_if width_if
if_stands true s at lacking xs end h = (refl, h)
if_stands false s at lacking xs end h = rw add-zero at h

stands_if : (b : Bool) (s : List ℕ) (at x : ℕ) (xs : List ℕ) (end : ℕ) → Stands s at (held_if b x xs) end
    → (b ≡ true → (x ≡ number_at s at) × (at + 4 ≤ end)) × Stands s (at + width_if b) xs end
unfolding Stands held_if width_if
stands_if true s at x xs end h = (λ q. (h.0, stands_le s xs (at + 4) end h.1), h.1)
stands_if false s at x xs end h = (λ q. clash false q refl, rw add-zero h)

pub if_same : (b : Bool) (x y : ℕ) (xs ys : List ℕ) → held_if b x xs ≡ held_if b y ys → (b ≡ true → x ≡ y) × (xs ≡ ys)
unfolding held_if
if_same true x y xs ys e = (λ q. cc, cc)
if_same false x y xs ys e = (λ q. clash false q refl, e)

if_words : (b : Bool) (x : ℕ) (xs : List ℕ) → x < 2 ^ 32 → Words xs → Words (held_if b x xs)
unfolding held_if Words
if_words true x xs h w zero = h
if_words true x xs h w (suc k) = w k
if_words false x xs h w k = w k

within_same : (v : ℕ) (f : Field) (x y : ℕ) → Within v f x → Within v f y → (has v f ≡ true → x ≡ y) → x ≡ y
within_same v f x y w u e = go (has v f) refl
  where
    go : (b : Bool) → has v f ≡ b → x ≡ y
    go true h = e h
    go false h = w.lacks h ∙ sym (u.lacks h)

-- all of them
module _ (v : ℕ) where
  pub held_width : (fs : List Field) (xs : List ℕ) → length xs ≡ length fs → 4 * length (held v fs xs) ≡ width v fs
  unfolding held width
  held_width [] xs e = refl
  held_width (f ∷ fs) [] e = absurd (let z : ⊥ = omega arith in z)
  held_width (f ∷ fs) (x ∷ xs) e = omega (arith, if_width (has v f) x (held v fs xs), held_width fs xs (omega arith))

  pub fields_stand : (fs : List Field) (s : List ℕ) (at : ℕ) → Stands s at (held v fs (fields_at v s at fs)) (at + width v fs)
  unfolding Stands held fields_at width
  fields_stand [] s at = omega arith
  fields_stand (f ∷ fs) s at =
      if_stands (has v f) s at f.lacking _ _ (rw add_assoc at (fields_stand fs s (at + width_if (has v f))))

  pub held_words : (fs : List Field) (xs : List ℕ) → Words xs → Words (held v fs xs)
  unfolding held Words
  held_words [] xs w = λ k. omega arith
  held_words (f ∷ fs) [] w = λ k. omega arith
  held_words (f ∷ fs) (x ∷ xs) w = if_words (has v f) x (held v fs xs) (w 0) (held_words fs xs (λ k. w (suc k)))

  -- values within their limits, where they stand in a file
  pub held_good : (fs : List Field) (xs s : List ℕ) (at end : ℕ) → AllWithin v fs xs → Stands s at (held v fs xs) end → end ≤ length s
      → GoodFields v s at fs
  unfolding AllWithin GoodFields held
  held_good [] xs s at end w h r = tt
  held_good (f ∷ fs) [] s at end w h r = absurd w
  held_good (f ∷ fs) (x ∷ xs) s at end w h r =
      let k = stands_if (has v f) s at x (held v fs xs) end h in (
        λ q. omega (arith, w.0.least q, w.0.most q, (k.0 q).0, (k.0 q).1),
        held_good fs xs s _ end w.1 k.1 r,
      )

  -- with those that the version lacks they are the same where those that it has are
  pub held_same : (fs : List Field) (xs ys : List ℕ) → AllWithin v fs xs → AllWithin v fs ys → held v fs xs ≡ held v fs ys → xs ≡ ys
  unfolding AllWithin held
  held_same [] xs ys w u e = w ∙ sym u
  held_same (f ∷ fs) [] ys w u e = absurd w
  held_same (f ∷ fs) (x ∷ xs) [] w u e = absurd u
  held_same (f ∷ fs) (x ∷ xs) (y ∷ ys) w u e =
      let k = if_same (has v f) x y _ _ e in
      ap₂ (λ x xs. x ∷ xs) (within_same v f x y w.0 u.0 k.0) (held_same fs xs ys w.1 u.1 k.1)
