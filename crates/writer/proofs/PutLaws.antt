-- Laws of bytes and numbers put into a buffer: one behind the other, and a loop that puts rows.
use Prim.Native.Nat.{ℕ, zero, suc, ◌+◌, ◌*◌, ◌≤◌, ◌<◌, min}
use mathlib.Core.Path.{◌≡◌, refl, sym, ap, ◌∙◌, subst}
use mathlib.Core.Bool.{Bool, true, false}
use mathlib.Core.List.{List, [], ◌∷◌, ◌++◌, append_assoc, append-nil}
use lib.ListN.{length, get_or, take, drop, length-append, length-take, length-drop, take-append-drop, drop_of_length-le}
use lib.Seq.{take-append_seam, take_all, length-take-le, drop-append-add, drop-drop}
use borrow.Rule.Slice.PartMut.{put_mid}
use Rattle.std.proofs.lemmas.List.{get_or-take, get_or_read}
use native.Mathlib.Numerals.{add-one}
use native.Mathlib.Nat.{add-zero, zero-add, suc-add, mul-le-mul_right}
use native.Mathlib.Omega.{arith}
use Rattle.reader.specs.Number.{bytes}
use Rattle.reader.specs.Fields.{held_if}
use Rattle.reader.specs.Limits.{max_nodes, max_tasks, max_links, max_job_length}
use Rattle.reader.specs.JobFile.{job_length}
use Rattle.reader.proofs.LengthLaws.{job_length_most}
use Rattle.writer.specs.Write.{splice, pack, flat}
use Rattle.writer.specs.Puts.{Puts, Rows}

pub splice_none : (d : List ℕ) (at : ℕ) → splice d at [] ≡ d
unfolding splice
splice_none d at = rw (add-zero, take-append-drop)

pub length_splice : (d s : List ℕ) (at : ℕ) → at + length s ≤ length d → length (splice d at s) ≡ length d
unfolding splice
length_splice d s at h = simp (length-append, length-take, length-drop) (omega arith)

-- bytes behind bytes
pub splice_more : (d : List ℕ) (at : ℕ) (a b : List ℕ) → splice (splice d at a) (at + length a) b ≡ splice d at (a ++ b)
unfolding splice
splice_more d zero a b = simp (zero-add, take-append_seam, drop-append-add, drop-drop, length-append, append_assoc)
splice_more [] (suc at) a b =
    simp (suc-add, append-nil)
    (rw (take_all (suc (at + length a)) a (omega arith), drop_of_length-le a {i = suc (at + length a + length b)} (omega arith), append-nil))
splice_more (x ∷ d) (suc at) a b = simp suc-add (ap (λ l. x ∷ l) (splice_more d at a b))

-- the same at an offset that is known to be theirs
pub splice_behind : (d s t : List ℕ) (at n : ℕ) → n ≡ at + length s → splice (splice d at s) n t ≡ splice d at (s ++ t)
splice_behind d s t at n e = ap (λ k. splice (splice d at s) k t) e ∙ splice_more d at s t

-- from the beginning
pub splice_front : (d s : List ℕ) (n : ℕ) → length s ≡ n → splice d 0 s ≡ s ++ drop n d
unfolding splice
splice_front d s n e = ap (λ k. s ++ drop k d) (zero-add (length s) ∙ e)

-- the front of a buffer that a whole file was put into
pub take_splice : (d s : List ℕ) → take (length s) (splice d 0 s) ≡ s
unfolding splice
take_splice d s = take-append_seam s (drop (0 + length s) d)

-- bytes copied over a part of the buffer
pub put_part : (d s t : List ℕ) (at k : ℕ) → t ≡ s → k ≡ length s → put_mid at k d t ≡ splice d at s
unfolding splice
put_part d s t at k e h = rw (e, h, drop-drop)

pub pack_append : (a b : List ℕ) → pack (a ++ b) ≡ pack a ++ pack b
unfolding pack
pack_append [] b = refl
pack_append (v ∷ a) b = ap (λ l. bytes v ++ l) (pack_append a b)

pub length_pack : (vs : List ℕ) → length (pack vs) ≡ 4 * length vs
unfolding pack
length_pack [] = refl
length_pack (v ∷ vs) = omega (arith, length_pack vs)

-- a number was put
pub puts_one : (d e : List ℕ) (at v : ℕ) → at + 4 ≤ length d → e ≡ splice d at (bytes v) → Puts d at (v ∷ []) e (at + 4)
unfolding pack
puts_one d e at v h b = record { buffer = b; size = ap length b ∙ length_splice d (bytes v) at h; behind = refl }

-- a field that the version has was put, and nothing where it lacks it
pub puts_has : {d e : List ℕ} {at v k : ℕ} (b : Bool) → b ≡ true → Puts d at (v ∷ []) e k → Puts d at (held_if b v []) e k
unfolding held_if
puts_has b h p = rw h p

pub puts_lacks : (d : List ℕ) (at v : ℕ) (b : Bool) → b ≡ false → Puts d at (held_if b v []) d at
unfolding held_if pack
puts_lacks d at v b h = rw h (record { buffer = sym (splice_none d at); size = refl; behind = omega arith })

-- numbers behind numbers
pub puts_then : {d a e b g : List ℕ} {at k m : ℕ} → Puts d at a e k → Puts e k b g m → Puts d at (a ++ b) g m
puts_then {d} {a} {e} {b} {g} {at} {k} {m} p q = record {
  buffer =
      let l : k ≡ at + length (pack a) = omega (arith, length_pack a) in
      q.buffer ∙ rw (p.buffer, l, splice_more, pack_append);
  size = q.size ∙ p.size;
  behind = omega (arith, length-append a b);
}

-- numbers behind such a field
if_then : (b : Bool) (x : ℕ) (xs : List ℕ) → held_if b x [] ++ xs ≡ held_if b x xs
unfolding held_if
if_then true x xs = refl
if_then false x xs = refl

pub puts_if : (b : Bool) (x : ℕ) {d e g xs : List ℕ} {at k m : ℕ} → Puts d at (held_if b x []) e k → Puts e k xs g m
    → Puts d at (held_if b x xs) g m
puts_if b x {d} {e} {g} {xs} {at} {k} {m} p q = subst (λ vs. Puts d at vs g m) (if_then b x xs) (puts_then p q)

-- the part of the buffer that a file was put into
pub put_size : {d vs b : List ℕ} {n : ℕ} → Puts d 0 vs b n → n ≤ length d → n ≡ length (take n b)
put_size {d} {vs} {b} {n} p h = sym (length-take-le n b (omega arith))

-- how far numbers of a known width reach
pub puts_end : {d vs e : List ℕ} {at k w : ℕ} → 4 * length vs ≡ w → Puts d at vs e k → k ≡ at + w
puts_end h p = omega (arith, p.behind)

-- a loop that puts rows: before it, and one turn
pub rows_none : {row : ℕ → List ℕ} {w : ℕ} (d : List ℕ) (at : ℕ) → Rows row w d at 0 d at
unfolding flat pack
rows_none d at = record {
  puts = record { buffer = sym (splice_none d at); size = refl; behind = omega arith };
  most = omega arith;
}

pub rows_more : {row : ℕ → List ℕ} {w i : ℕ} {d e g : List ℕ} {at k m : ℕ} →
    Rows row w d at i e k → Puts e k (row i) g m → m ≤ k + w → Rows row w d at (i + 1) g m
unfolding flat
rows_more {row} {w} {i} p q h = record {
  puts = rw add-one (puts_then p.puts q);
  most = omega arith;
}

-- such a turn, of rows of a list
pub rows_next : {T : Type 0} (f : T → List ℕ) (rows : List T) (none x : T) {w i : ℕ} {d e g : List ℕ} {at k m : ℕ} →
    Rows (λ i. f (get_or rows i none)) w d at i e k → x ≡ get_or rows i none → Puts e k (f x) g m → m ≤ k + w →
    Rows (λ i. f (get_or rows i none)) w d at (i + 1) g m
rows_next f rows none x {w} {i} {d} {e} {g} {at} {k} {m} p is q h = rows_more p (subst (λ y. Puts e k (f y) g m) is q) h

-- there is room for the next of n rows where there is room for all
pub row_room : {row : ℕ → List ℕ} {w i : ℕ} {d e : List ℕ} {at k : ℕ} (n : ℕ) →
    Rows row w d at i e k → i < n → at + n * w ≤ length d → k + w ≤ length e
row_room {row} {w} {i} n p h room = omega (arith, p.most, p.puts.size, mul-le-mul_right w h)

-- an item of the first n rows, by its number
pub item_is : {T : Type 0} (n i : ℕ) (rows : List T) (x : T) → i < length (take n rows) → x ≡ get_or (take n rows) i x → i < n
    → (none : T) → x ≡ get_or rows i none
item_is n i rows x h e b none = get_or_read (take n rows) i x h e none ∙ get_or-take n rows i none b

-- counts clipped to their arrays leave room for the longest job
pub job_room : (v a b c : ℕ) {p n m : ℕ} → p ≡ min a max_nodes → n ≡ min b max_tasks → m ≡ min c max_links
    → job_length v p n m ≤ max_job_length
job_room v a b c {p} {n} {m} hp hn hm = job_length_most v p (omega arith) n (omega arith) m (omega arith)
