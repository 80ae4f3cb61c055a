-- The law of every loop that reads a section: its count, then its entries, which are not at fault and stand in the list.
use Prim.Native.Nat.{ℕ, ◌+◌, ◌*◌, ◌≤◌, ◌<◌}
use mathlib.Core.Path.{◌≡◌, refl, sym, ap, ap₂, ◌∙◌}
use mathlib.Core.List.{List}
use mathlib.Core.Option.{Option, none, some}
use lib.ListN.{set}
use native.Mathlib.Omega.{arith}
use Rattle.reader.specs.declared.refusal.Refusal.{Refusal}
use Rattle.reader.specs.First.{◌or_else◌, first, fill}
use Rattle.reader.proofs.FirstLaws.{first_start, first_more, first_found}
use Rattle.reader.proofs.FillLaws.{fill_none, fill_more}
use Rattle.reader.proofs.Chain.{pass}

-- the count's fault, the count, each entry's fault and value, and the list that the loop starts with
module _ {A : Type 0} (counted : Option Refusal) (n : ℕ) (fault : ℕ → Option Refusal) (value : ℕ → A) (empty : List A) where
  -- the first i of k entries are read
  pub record ReadTo (k i : ℕ) (list : List A) : Type 0 where
    pub count_fine : counted ≡ none
    pub count_is : k ≡ n
    pub most : i ≤ k
    pub clear : first i fault ≡ none
    pub stored : list ≡ fill i value empty

  pub read_begin : (k : ℕ) (list : List A) → counted ≡ none → k ≡ n → list ≡ empty → ReadTo k 0 list
  read_begin k list fine is e = record {
    count_fine = fine;
    count_is = is;
    most = omega arith;
    clear = first_start fault;
    stored = e ∙ fill_none value empty;
  }

  pub read_start : (k : ℕ) → counted ≡ none → k ≡ n → ReadTo k 0 empty
  read_start k fine is = read_begin k empty fine is refl

  module _ (k i : ℕ) (list : List A) (inv : ReadTo k i list) where
    pub read_more : (v : A) → i < k → fault i ≡ none → v ≡ value i → ReadTo k (i + 1) (set list i v)
    read_more v below fine is = record {
      count_fine = inv.count_fine;
      count_is = inv.count_is;
      most = omega arith;
      clear = first_more fault i inv.clear fine;
      stored = ap₂ (λ l x. set l i x) inv.stored is ∙ fill_more value empty i;
    }

    pub read_stop : {r : Refusal} → i < k → fault i ≡ some r → (counted or_else first n fault) ≡ some r
    read_stop {r} below bad =
        let e : i < n = omega (arith, inv.count_is) in
        pass _ inv.count_fine ∙ first_found fault n i r e inv.clear bad

    pub read_fine : k ≤ i → (counted or_else first n fault) ≡ none
    read_fine all =
        let e : i ≡ n = omega (arith, inv.most, inv.count_is) in
        pass _ inv.count_fine ∙ ap (λ m. first m fault) (sym e) ∙ inv.clear

    pub read_end : k ≤ i → (k ≡ n) × (list ≡ fill k value empty)
    read_end all =
        let e : i ≡ k = omega (arith, inv.most) in
        (inv.count_is, inv.stored ∙ ap (λ m. fill m value empty) e)

-- rows of width w from an offset on, of which each tells the offset behind it: each has its fault and its value by its number and its offset
module _ {A : Type 0} (counted : Option Refusal) (n : ℕ) (fault : ℕ → ℕ → Option Refusal) (value : ℕ → ℕ → A) (empty : List A)
    (from w : ℕ) where
  abbrev row_fault : ℕ → Option Refusal
  row_fault i = fault i (from + i * w)

  abbrev row_value : ℕ → A
  row_value i = value i (from + i * w)

  -- the first i of k rows are read, up to an offset
  pub record RowsTo (k i at : ℕ) (list : List A) : Type 0 where
    pub read : ReadTo counted n row_fault row_value empty k i list
    pub here : at ≡ from + i * w

  pub rows_begin : (k : ℕ) (list : List A) → counted ≡ none → k ≡ n → list ≡ empty → RowsTo k 0 from list
  rows_begin k list fine is e = record { read = read_begin _ _ _ _ _ k list fine is e; here = omega arith }

  module _ (k i at : ℕ) (list : List A) (inv : RowsTo k i at list) where
    pub rows_fine : k ≤ i → (counted or_else first n row_fault) ≡ none
    rows_fine = read_fine _ _ _ _ _ k i list inv.read

    pub rows_end : k ≤ i → (k ≡ n) × (list ≡ fill k row_value empty) × (at ≡ from + k * w)
    rows_end all =
        let e : i ≡ k = omega (arith, inv.read.most) in
        let v = read_end _ _ _ _ _ k i list inv.read all in
        (v.0, v.1, inv.here ∙ ap (λ x. from + x * w) e)

    -- the next row
    pub rows_more : {x : A} {end : ℕ} → fault i at ≡ none → x ≡ value i at → end ≡ at + w → i < k → RowsTo k (i + 1) end (set list i x)
    rows_more {x} {end} fine is ends below = record {
      read = read_more _ _ _ _ _ k i list inv.read x below (sym (ap (fault i) inv.here) ∙ fine) (is ∙ ap (value i) inv.here);
      here = omega (arith, inv.here, ends);
    }

    pub rows_stop : {r : Refusal} → fault i at ≡ some r → i < k → (counted or_else first n row_fault) ≡ some r
    rows_stop bad below = read_stop _ _ _ _ _ k i list inv.read below (sym (ap (fault i) inv.here) ∙ bad)
