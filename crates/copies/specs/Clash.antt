-- When entries of the table clash with a copy.
use Rattle.std.specs.Prelude.{ℕ, Bool, not, List, ltb, eqb, get_or}
use Rattle.reader.specs.Tests.{◌and◌}
use Rattle.reader.specs.First.{every}
use Rattle.rules.specs.declared.Copy.{Copy}
use Rattle.copies.specs.declared.table.Copies.{Copies}
use Rattle.copies.specs.Sets.{meets}
use Rattle.copies.specs.Table.{entry, set_at}
use Rattle.copies.specs.Layout.{all_of}

-- an entry e of set z clashes with a copy c of set m
unfoldable pub clashes : ℕ → Copy → Copy → ℕ → Bool
clashes m c e z = eqb e.node c.node and meets z m and ltb e.start c.finish and ltb c.start e.finish

-- none of the first n entries clashes with c
unfoldable pub free : Copies → ℕ → Copy → ℕ → Bool
free cs m c n = every n λ k. not (clashes m c (entry cs k) (set_at cs k))

-- an entry on the copy's node with this start, finish and set does
unfoldable pub hits : ℕ → Copy → ℕ → ℕ → ℕ → Bool
hits m c start finish z = meets z m and ltb start c.finish and ltb c.start finish

-- and none of these entries, all on its node
unfoldable pub free_of : Copies → ℕ → Copy → List ℕ → Bool
free_of cs m c l = all_of (λ k. not (hits m c (get_or cs.start k 0) (get_or cs.finish k 0) (set_at cs k))) l
